-- What lists of lawful events leave.
use Rattle.std.proofs.Common.{◌≡◌, ◌≢◌, ◌∙◌, ℕ, ◌+◌, ◌<◌, ◌≤◌, inl, inr, Bool, true, false, List, [], ◌∷◌, ◌++◌, length, refl, sym, ap, subst, arith}
use Rattle.std.specs.List.{range_with_len}
use Rattle.std.proofs.lemmas.Bool.{ne_eqb, cases_eq}
use Rattle.std.proofs.Common.{eq-eqb}
use Rattle.schedule.specs.declared.events.Event.{Event}
use Rattle.schedule.specs.declared.events.Event.TheVariants.{Enter, Leave}
use Rattle.schedule.specs.Nets.{Net, IsNet, needed_of, written}
use Rattle.schedule.specs.States.{State, start, raise, after, run, IsLawful, AreLawful}
use Rattle.schedule.specs.Rules.{IsSound, IsWithinSlots, entries, leavings, KeepsSlots, KeepsOrder, KeepsCounts, IsAlwaysReady}
use Rattle.schedule.proofs.Sound.{enter_sound, leave_sound, least_ready, raise-same, raise-other}

start_sound : (net : Net) → IsNet net → IsSound net start
start_sound net n = record {
  order_low = λ x w. omega arith;
  order_high = λ x w. omega arith;
  most = λ x w. omega arith;
  published = λ x w. omega arith;
  passed = λ x j w l. none-needed (net.is_section x);
  read = λ x j w l. let q = none-needed (net.is_section x) in omega arith;
  room = λ x j w l. omega arith;
} where
  none-needed : (s : Bool) → 0 ≡ needed_of s 0
  none-needed true = omega arith
  none-needed false = refl

pub after_sound : (net : Net) (state : State) (e : Event) → IsNet net → IsSound net state → IsLawful net state e → IsSound net (after net state e)
after_sound net state (Enter x m) n s p = enter_sound net state x m n s p
after_sound net state (Leave x m) n s p = leave_sound net state x m n s p

run_sound : (net : Net) (state : State) (events : List Event) → IsNet net → IsSound net state → AreLawful net state events → IsSound net (run net state events)
run_sound net state [] n s p = s
run_sound net state (e ∷ events) n s p = run_sound net (after net state e) events n (after_sound net state e n s p.0) p.1

pub keeps_counts : KeepsCounts
keeps_counts net events n p = run_sound net start events n (start_sound net n) p

needed_more : (s : Bool) (a b : ℕ) → a ≤ b → needed_of s a ≤ needed_of s b
needed_more true a b h = omega arith
needed_more false a b h = omega arith

low-bound : (net : Net) (state : State) (x j : ℕ) → IsSound net state → x < net.strands → j < net.sides x → state.passed x j ≤ state.published (net.side x j)
low-bound net state x j s w l =
    let a = s.passed x j w l in
    let b = needed_more (net.is_section x) (state.left x) (state.entered x) (s.order_low x w) in
    let c = s.read x j w l in
    omega arith

-- what x has passed of y is what y's slots were freed of
freed : (net : Net) (state : State) (y i x j : ℕ) → net.side y i ≡ x → net.back y i ≡ j → (k : ℕ) → k ≤ state.passed (net.side y i) (net.back y i) + net.slots → k ≤ state.passed x j + net.slots
freed net state y i x j e f k h = subst (λ z. k ≤ state.passed x z + net.slots) f (subst (λ z. k ≤ state.passed z (net.back y i) + net.slots) e h)

high-bound : (net : Net) (state : State) (x j : ℕ) → IsNet net → IsSound net state → x < net.strands → j < net.sides x → state.published (net.side x j) ≤ state.passed x j + net.slots
high-bound net state x j n s w l =
    let i = n.strand x j w l in
    let a = s.published (net.side x j) i in
    let b = s.order_low (net.side x j) i in
    let c = s.room (net.side x j) (net.back x j) i (n.index x j w l) in
    let d = freed net state (net.side x j) (net.back x j) x j (n.again x j w l) (n.twice x j w l) (written net (state.entered (net.side x j))) c in
    omega arith

within_slots : (net : Net) (state : State) (x j : ℕ) → IsNet net → IsSound net state → x < net.strands → j < net.sides x → IsWithinSlots net state x j
within_slots net state x j n s w l =
    let high = high-bound net state x j n s w l in
    record {
      low = low-bound net state x j s w l;
      high = high;
      free = λ m e f h. let r = s.room x j w l in omega arith;
      kept = λ b h k. omega arith;
    }

pub keeps_slots : KeepsSlots
keeps_slots net events n p x j w l = within_slots net (run net start events) x j n (keeps_counts net events n p) w l

pub always_ready : IsAlwaysReady
always_ready net events n p x m l = least_ready net (run net start events) x m n (keeps_counts net events n p) l

-- numbers in order from one on
abbrev IsCountedFrom : ℕ → List ℕ → ℕ → Type 0
IsCountedFrom from xs end = (xs ≡ range_with_len from (length xs)) × (end ≡ from + length xs)

counted-cons : (from to m end : ℕ) (xs ys : List ℕ) → from ≡ m → to ≡ m + 1 → ys ≡ m ∷ xs → IsCountedFrom to xs end → IsCountedFrom from ys end
counted-cons from to m end xs ys e f g h =
    let q : xs ≡ range_with_len (m + 1) (length xs) = subst (λ z. xs ≡ range_with_len z (length xs)) f h.0 in
    let k : end ≡ to + length xs = h.1 in
    let r : m ∷ xs ≡ range_with_len m (length (m ∷ xs)) = ap (λ z. m ∷ z) q in
    subst (λ z. IsCountedFrom from z end) (sym g) (subst (λ z. m ∷ xs ≡ range_with_len z (length (m ∷ xs))) (sym e) r, omega arith)

counted-same : (from to end : ℕ) (xs ys : List ℕ) → from ≡ to → ys ≡ xs → IsCountedFrom to xs end → IsCountedFrom from ys end
counted-same from to end xs ys e f h = subst (λ z. IsCountedFrom z ys end) (sym e) (subst (λ z. IsCountedFrom to z end) (sym f) h)

entries-here : (x y m : ℕ) (events : List Event) → y ≡ x → entries x (Enter y m ∷ events) ≡ m ∷ entries x events
entries-here x y m events e = rw (eq-eqb y x e) refl

entries-there : (x y m : ℕ) (events : List Event) → y ≢ x → entries x (Enter y m ∷ events) ≡ entries x events
entries-there x y m events h = rw (ne_eqb y x h) refl

leavings-here : (x y m : ℕ) (events : List Event) → y ≡ x → leavings x (Leave y m ∷ events) ≡ m ∷ leavings x events
leavings-here x y m events e = rw (eq-eqb y x e) refl

leavings-there : (x y m : ℕ) (events : List Event) → y ≢ x → leavings x (Leave y m ∷ events) ≡ leavings x events
leavings-there x y m events h = rw (ne_eqb y x h) refl

entries_counted : (net : Net) (state : State) (x : ℕ) (events : List Event) → AreLawful net state events → IsCountedFrom (state.entered x) (entries x events) ((run net state events).entered x)
entries_counted net state x [] p = (refl, omega arith)
entries_counted net state x (Leave y m ∷ events) p = entries_counted net (after net state (Leave y m)) x events p.1
entries_counted net state x (Enter y m ∷ events) p =
    let rest = entries_counted net (after net state (Enter y m)) x events p.1 in
    elim (cases_eq x y) [
      | inl e ↦
          let at : state.entered x ≡ m = ap state.entered e ∙ p.0.entered in
          let up : raise state.entered y 1 x ≡ m + 1 = ap (raise state.entered y 1) e ∙ raise-same state.entered y 1 ∙ ap (λ z. z + 1) p.0.entered in
          counted-cons (state.entered x) (raise state.entered y 1 x) m _ (entries x events) (entries x (Enter y m ∷ events)) at up (entries-here x y m events (sym e)) rest
      | inr h ↦ counted-same (state.entered x) (raise state.entered y 1 x) _ (entries x events) (entries x (Enter y m ∷ events)) (sym (raise-other state.entered y 1 x h)) (entries-there x y m events (λ e. h (sym e))) rest
    ]

leavings_counted : (net : Net) (state : State) (x : ℕ) (events : List Event) → AreLawful net state events → IsCountedFrom (state.left x) (leavings x events) ((run net state events).left x)
leavings_counted net state x [] p = (refl, omega arith)
leavings_counted net state x (Enter y m ∷ events) p = leavings_counted net (after net state (Enter y m)) x events p.1
leavings_counted net state x (Leave y m ∷ events) p =
    let rest = leavings_counted net (after net state (Leave y m)) x events p.1 in
    elim (cases_eq x y) [
      | inl e ↦
          let at : state.left x ≡ m = ap state.left e ∙ p.0.left in
          let up : raise state.left y 1 x ≡ m + 1 = ap (raise state.left y 1) e ∙ raise-same state.left y 1 ∙ ap (λ z. z + 1) p.0.left in
          counted-cons (state.left x) (raise state.left y 1 x) m _ (leavings x events) (leavings x (Leave y m ∷ events)) at up (leavings-here x y m events (sym e)) rest
      | inr h ↦ counted-same (state.left x) (raise state.left y 1 x) _ (leavings x events) (leavings x (Leave y m ∷ events)) (sym (raise-other state.left y 1 x h)) (leavings-there x y m events (λ e. h (sym e))) rest
    ]

from-none : (xs : List ℕ) (end : ℕ) → IsCountedFrom 0 xs end → xs ≡ range_with_len 0 end
from-none xs end h = let e : length xs ≡ end = let q : end ≡ 0 + length xs = h.1 in omega arith in h.0 ∙ ap (range_with_len 0) e

pub keeps_order : KeepsOrder
keeps_order net events p x = record {
  enters = from-none (entries x events) ((run net start events).entered x) (entries_counted net start x events p);
  leaves = from-none (leavings x events) ((run net start events).left x) (leavings_counted net start x events p);
}

-- lists one after the other
pub run-append : (net : Net) (state : State) (a b : List Event) → run net state (a ++ b) ≡ run net (run net state a) b
run-append net state [] b = refl
run-append net state (e ∷ a) b = run-append net (after net state e) a b

pub lawful-append : (net : Net) (state : State) (a b : List Event) → AreLawful net state a → AreLawful net (run net state a) b → AreLawful net state (a ++ b)
lawful-append net state [] b p q = q
lawful-append net state (e ∷ a) b p q = (p.0, lawful-append net (after net state e) a b p.1 q)

pub lawful-front : (net : Net) (state : State) (a b : List Event) → AreLawful net state (a ++ b) → AreLawful net state a
lawful-front net state [] b p = tt
lawful-front net state (e ∷ a) b p = (p.0, lawful-front net (after net state e) a b p.1)

pub lawful-back : (net : Net) (state : State) (a b : List Event) → AreLawful net state (a ++ b) → AreLawful net (run net state a) b
lawful-back net state [] b p = p
lawful-back net state (e ∷ a) b p = lawful-back net (after net state e) a b p.1
