-- Each place of a section, at each step, is in exactly one region: the section's or a station's.
use Rattle.std.proofs.Common.{◌≡◌, ℕ, zero, suc, ◌+◌, ◌-◌, ◌*◌, ◌/◌, ◌<◌, ◌≤◌, inl, inr, ◌==◌, true, false, refl, ap, subst, sym, ◌∙◌, add-one, arith, eq-eqb}
use Rattle.std.specs.Prelude.{nat_le, IsTrue, ◌↔◌}
use Rattle.std.proofs.lemmas.Bool.{cases_lt, eqb-true}
use Rattle.std.proofs.lemmas.Bool.Decides.{nat_tests}
use Rattle.std.proofs.lemmas.Nat.{le-div, div_below}
use Rattle.regions.specs.declared.parts.Part.TheVariants.{Own, Left, Right}
use Rattle.regions.specs.Regions.{height, InStation, InBand, InSection, part_from, part_of}

le_true : (a b : ℕ) → a ≤ b → nat_le a b ≡ true
le_true a b h = grind (arith, nat_tests)

le_false : (a b : ℕ) → b < a → nat_le a b ≡ false
le_false a b h = grind (arith, nat_tests)

pub window_is : (w m u : ℕ) → 0 < w → m * w < u → u ≤ (m + 1) * w → (u - 1) / w ≡ m
window_is w m u p low high = omega (arith, le-div m (u - 1) w p (omega arith), div_below (u - 1) w (m + 1) p (omega arith))

-- the window of a step
pub record InWindow (w m u : ℕ) : Type 0 where
  pub low : m * w < u
  pub high : u ≤ (m + 1) * w

pub window_of_step : (w u : ℕ) → 0 < w → 1 ≤ u → InWindow w ((u - 1) / w) u
window_of_step w u p h = record { low = omega arith; high = omega arith }

from_left : (w n i t m : ℕ) → t + height n i ≤ (m + 1) * w → i ≤ n - i → part_from w n i t m ≡ Left m
unfolding part_from
from_left w n i t m h k = rw (le_true (t + height n i) ((m + 1) * w) h, le_true i (n - i) k) refl

from_right : (w n i t m : ℕ) → t + height n i ≤ (m + 1) * w → n - i < i → part_from w n i t m ≡ Right m
unfolding part_from
from_right w n i t m h k = rw (le_true (t + height n i) ((m + 1) * w) h, le_false i (n - i) k) refl

from_own : (w n i t m : ℕ) → (m + 1) * w < t + height n i → part_from w n i t m ≡ Own (m + 1)
unfolding part_from
from_own w n i t m h = rw (le_false (t + height n i) ((m + 1) * w) h) refl

early : (w n i t : ℕ) → t ≤ height n i → part_of w n i t ≡ Own 0
unfolding part_of
early w n i t h = rw (le_true t (height n i) h) refl

later : (w n i t m : ℕ) → 0 < w → m * w + height n i < t → t ≤ (m + 1) * w + height n i → part_of w n i t ≡ part_from w n i t m
unfolding part_of
later w n i t m p low high =
    let e : (t - height n i - 1) / w ≡ m = window_is w m (t - height n i) p (omega arith) (omega arith) in
    rw (le_false t (height n i) (omega arith)) (ap (part_from w n i t) e)

-- ---- a region's point has the region as its part

pub left_part : (w n m i t : ℕ) → 0 < w → w ≤ n → i ≤ n → InStation w m i t → part_of w n i t ≡ Left m
left_part w n m i t p wn h s =
    let a = s.after in
    let b = s.before in
    later w n i t m p (omega arith) (omega arith) ∙ from_left w n i t m (omega arith) (omega arith)

pub right_part : (w n m i t : ℕ) → 0 < w → w ≤ n → i ≤ n → InStation w m (n - i) t → part_of w n i t ≡ Right m
right_part w n m i t p wn h s =
    let a = s.after in
    let b = s.before in
    later w n i t m p (omega arith) (omega arith) ∙ from_right w n i t m (omega arith) (omega arith)

pub section_part : (w n r i t : ℕ) → 0 < w → i ≤ n → InSection w n r i t → part_of w n i t ≡ Own r
section_part w n zero i t p h s = early w n i t s.1
section_part w n (suc m) i t p h s =
    let a = s.after in
    let b = s.before in
    later w n i t m p (omega arith) (omega arith) ∙ elim (cases_lt ((m + 1) * w) (t + height n i)) [
      | inl l ↦ from_own w n i t m l ∙ ap Own (add-one m)
      | inr l ↦ elim (cases_lt (n - i) i) [
        | inl k ↦ absurd (s.right m (record { after = omega arith; before = omega arith }))
        | inr k ↦ absurd (s.left m (record { after = omega arith; before = omega arith }))
      ]
    ]

-- ---- and each point is in some region

pub data Somewhere (w n i t : ℕ) : Type 0 where
  InOwn : (r : ℕ) → InSection w n r i t → 0 < i → i < n → part_of w n i t ≡ Own r → Somewhere w n i t
  InLeft : (m : ℕ) → InStation w m i t → part_of w n i t ≡ Left m → Somewhere w n i t
  InRight : (m : ℕ) → InStation w m (n - i) t → part_of w n i t ≡ Right m → Somewhere w n i t

band : (w n m i t : ℕ) → 0 < w → w ≤ n → i ≤ n → m * w + height n i < t → t ≤ (m + 1) * w + height n i → (m + 1) * w < t + height n i → InBand w n m i t
band w n m i t p wn h a b l =
    let e = later w n i t m p a b ∙ from_own w n i t m l in
    record {
      after = a;
      before = b;
      left = λ k s. let f = left_part w n k i t p wn h s in cc;
      right = λ k s. let f = right_part w n k i t p wn h s in cc;
    }

somewhere_in : (w n m i t : ℕ) → 0 < w → w ≤ n → i ≤ n → m * w + height n i < t → t ≤ (m + 1) * w + height n i → Somewhere w n i t
somewhere_in w n m i t p wn h a b = elim (cases_lt ((m + 1) * w) (t + height n i)) [
  | inl l ↦ InOwn (suc m) (band w n m i t p wn h a b l) (omega arith) (omega arith) (later w n i t m p a b ∙ from_own w n i t m l ∙ ap Own (add-one m))
  | inr l ↦ elim (cases_lt (n - i) i) [
    | inl k ↦ let s : InStation w m (n - i) t = record { after = omega arith; before = omega arith } in InRight m s (right_part w n m i t p wn h s)
    | inr k ↦ let s : InStation w m i t = record { after = omega arith; before = omega arith } in InLeft m s (left_part w n m i t p wn h s)
  ]
]

pub somewhere : (w n i t : ℕ) → 0 < w → w ≤ n → i ≤ n → 1 ≤ t → Somewhere w n i t
somewhere w n i t p wn h some = elim (cases_lt (height n i) t) [
  | inl l ↦
      let s = window_of_step w (t - height n i) p (omega arith) in
      let a = s.low in
      let b = s.high in
      somewhere_in w n ((t - height n i - 1) / w) i t p wn h (omega arith) (omega arith)
  | inr l ↦ InOwn 0 (some, l) (omega arith) (omega arith) (early w n i t l)
]

-- the converses
pub part_section : (w n r i t : ℕ) → 0 < w → w ≤ n → i ≤ n → 1 ≤ t → part_of w n i t ≡ Own r → InSection w n r i t
part_section w n r i t p wn h some e = elim (somewhere w n i t p wn h some) [
  | InOwn q s a b f ↦ let same : q ≡ r = cc in rw (← same) s
  | InLeft m s f ↦ cc
  | InRight m s f ↦ cc
]

pub answer_own : (w n own r i t : ℕ) → 0 < w → w ≤ n → i ≤ n → 1 ≤ t → Own own ≡ part_of w n i t → IsTrue (own == r) ↔ InSection w n r i t
answer_own w n own r i t p wn h some e = (
  (λ b. let same : own ≡ r = eqb-true own r b in subst (λ (q : ℕ). InSection w n q i t) same (part_section w n own i t p wn h some (sym e))),
  (λ s. let f = section_part w n r i t p h s in let same : own ≡ r = cc in eq-eqb own r same),
)

pub answer_left : (w n m r i t : ℕ) → 0 < w → i ≤ n → Left m ≡ part_of w n i t → IsTrue false ↔ InSection w n r i t
answer_left w n m r i t p h e = ((λ b. absurd (grind arith)), (λ s. let f = section_part w n r i t p h s in cc))

pub answer_right : (w n m r i t : ℕ) → 0 < w → i ≤ n → Right m ≡ part_of w n i t → IsTrue false ↔ InSection w n r i t
answer_right w n m r i t p h e = ((λ b. absurd (grind arith)), (λ s. let f = section_part w n r i t p h s in cc))
