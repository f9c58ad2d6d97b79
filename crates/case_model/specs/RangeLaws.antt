use Rattle.std.specs.Prelude.{◌≡◌, ℤ, pos, Bool, true, false, ◌&&◌, cond, nat_le, int_le}
use Rattle.std.specs.Prelude.{unsigned_abs, refl}
use Rattle.std.proofs.Common.{ap}
use Rattle.std.proofs.lemmas.Bool.{and_from, false_from_ne_true, le-leb, leb-true}
use Rattle.case_model.specs.declared.points.Point.TheVariants.{Good, Bad}
use Rattle.case_model.specs.declared.states.NodeState.TheVariants.{Good as GoodState}
use Rattle.case_model.specs.declared.states.NodeState.TheVariants.{Bad as BadState}
use Rattle.case_model.specs.Range.{InRange, IsPoint, point_of, InStateRange, IsState, state_of}
use Rattle.fixed_num.proofs.Orders.{at_most_of, at_most_at}

both : (a b : Bool) → (a && b) ≡ true → (a ≡ true) × (b ≡ true)
both true b e = (refl, e)
both false b e = cc

-- ---- points

abbrev point_test : ℤ → ℤ → ℤ → ℤ → Bool
point_test h qu qd v =
    nat_le (unsigned_abs h) 100_000_000_000 && nat_le (unsigned_abs qu) 1_000_000_000_000
    && nat_le (unsigned_abs qd) 1_000_000_000_000 && int_le (pos 0) v
    && nat_le (unsigned_abs v) 1_000_000_000_000_000

point_test-yes : (h qu qd v : ℤ) → InRange h qu qd v → point_test h qu qd v ≡ true
point_test-yes h qu qd v r =
    and_from _ _ (and_from _ _
    (and_from _ _ (and_from _ _ (le-leb _ _ r.head) (le-leb _ _ r.up)) (le-leb _ _ r.down))
    (at_most_at (pos 0) v r.low)) (le-leb _ _ r.volume)

yes-point_test : (h qu qd v : ℤ) → point_test h qu qd v ≡ true → InRange h qu qd v
yes-point_test h qu qd v e =
    let a = both _ _ e in
    let b = both _ _ a.0 in
    let c = both _ _ b.0 in
    let d = both _ _ c.0 in
    record {
      head = leb-true _ _ d.0;
      up = leb-true _ _ d.1;
      down = leb-true _ _ c.1;
      low = at_most_of (pos 0) v b.1;
      volume = leb-true _ _ a.1;
    }

-- the point is Good exactly where its numbers are in range
pub point_of-good : (h qu qd v : ℤ) → InRange h qu qd v → point_of h qu qd v ≡ Good h qu qd v
unfolding point_of
point_of-good h qu qd v r = ap (λ b. cond b (Good h qu qd v) Bad) (point_test-yes h qu qd v r)

pub point_of-bad : (h qu qd v : ℤ) → (InRange h qu qd v → ⊥) → point_of h qu qd v ≡ Bad
unfolding point_of
point_of-bad h qu qd v out =
    ap (λ b. cond b (Good h qu qd v) Bad)
    (false_from_ne_true (point_test h qu qd v) (λ e. out (yes-point_test h qu qd v e)))

choice_in : (b : Bool) (h qu qd v : ℤ) → (b ≡ true → InRange h qu qd v)
    → IsPoint (cond b (Good h qu qd v) Bad)
choice_in true h qu qd v r = r refl
choice_in false h qu qd v r = tt

pub point_of-in_range : (h qu qd v : ℤ) → IsPoint (point_of h qu qd v)
unfolding point_of
point_of-in_range h qu qd v = choice_in (point_test h qu qd v) h qu qd v (yes-point_test h qu qd v)

choice_is : (b : Bool) (h qu qd v x y z w : ℤ) → cond b (Good h qu qd v) Bad ≡ Good x y z w
    → (h ≡ x) × (qu ≡ y) × (qd ≡ z) × (v ≡ w)
choice_is true h qu qd v x y z w e = (cc, cc, cc, cc)
choice_is false h qu qd v x y z w e = cc

-- where it is Good, it has the numbers that were given
pub point_of-is : (h qu qd v x y z w : ℤ) → point_of h qu qd v ≡ Good x y z w
    → (h ≡ x) × (qu ≡ y) × (qd ≡ z) × (v ≡ w)
unfolding point_of
point_of-is h qu qd v = choice_is (point_test h qu qd v) h qu qd v

-- ---- states of nodes

abbrev state_test : ℤ → ℤ → ℤ → Bool
state_test h v g =
    nat_le (unsigned_abs h) 100_000_000_000 && int_le (pos 0) v
    && nat_le (unsigned_abs v) 1_000_000_000_000_000
    && nat_le (unsigned_abs g) 10_000_000_000_000_000

state_test-yes : (h v g : ℤ) → InStateRange h v g → state_test h v g ≡ true
state_test-yes h v g r =
    and_from _ _ (and_from _ _ (and_from _ _ (le-leb _ _ r.head) (at_most_at (pos 0) v r.low))
    (le-leb _ _ r.volume)) (le-leb _ _ r.growth)

yes-state_test : (h v g : ℤ) → state_test h v g ≡ true → InStateRange h v g
yes-state_test h v g e =
    let a = both _ _ e in
    let b = both _ _ a.0 in
    let c = both _ _ b.0 in
    record {
      head = leb-true _ _ c.0;
      low = at_most_of (pos 0) v c.1;
      volume = leb-true _ _ b.1;
      growth = leb-true _ _ a.1;
    }

-- the state is Good exactly where its numbers are in range
pub state_of-good : (h v g : ℤ) → InStateRange h v g → state_of h v g ≡ GoodState h v g
unfolding state_of
state_of-good h v g r = ap (λ b. cond b (GoodState h v g) BadState) (state_test-yes h v g r)

pub state_of-bad : (h v g : ℤ) → (InStateRange h v g → ⊥) → state_of h v g ≡ BadState
unfolding state_of
state_of-bad h v g out =
    ap (λ b. cond b (GoodState h v g) BadState)
    (false_from_ne_true (state_test h v g) (λ e. out (yes-state_test h v g e)))

state_choice_in : (b : Bool) (h v g : ℤ) → (b ≡ true → InStateRange h v g)
    → IsState (cond b (GoodState h v g) BadState)
state_choice_in true h v g r = r refl
state_choice_in false h v g r = tt

pub state_of-in_range : (h v g : ℤ) → IsState (state_of h v g)
unfolding state_of
state_of-in_range h v g = state_choice_in (state_test h v g) h v g (yes-state_test h v g)
