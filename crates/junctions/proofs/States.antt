-- The state of a node by the range of its numbers.
use Rattle.std.proofs.Common.{◌≡◌, ◌<◌, ℤ, pos, unsigned_abs, Bool, true, false, cond, arith, ap, sym, subst}
use Rattle.std.proofs.lemmas.Bool.Decides.{nat_tests}
use Rattle.case_model.specs.declared.states.NodeState.{NodeState}
use Rattle.case_model.specs.declared.states.NodeState.TheVariants.{Good, Bad}
use Rattle.case_model.specs.Range.{state_of}

-- a head out of range is that of no state
pub far_state : (h v g : ℤ) → 100000000000 < unsigned_abs h → state_of h v g ≡ Bad
unfolding state_of
far_state h v g far = grind (arith, nat_tests)

head_of : NodeState → ℤ
head_of (Good h v g) = h
head_of Bad = pos 0

abbrev IsGood : NodeState → Type 0
IsGood (Good h v g) = Unit {0}
IsGood Bad = ⊥

head_if : (b : Bool) (h v g x y z : ℤ) → cond b (Good h v g) Bad ≡ Good x y z → x ≡ h
unfolding head_of
head_if true h v g x y z e = sym (ap head_of e)
head_if false h v g x y z e = absurd (subst IsGood (sym e) tt)

-- a state has the head that it was made with
pub state_head : (h v g x y z : ℤ) → state_of h v g ≡ Good x y z → x ≡ h
unfolding state_of
state_head h v g x y z e = head_if _ h v g x y z e
