-- An item has one holder, and what is finished has none.
use Rattle.std.proofs.Common.{◌≡◌, ◌≢◌, ℕ, ◌+◌, Bool, List, get_or, sym, refl, ap, ◌∙◌, arith, Option, Some, None}
use Rattle.claimboard.specs.declared.views.View.{View}
use Rattle.claimboard.specs.Board.{SeatStands}
use Rattle.claimboard.specs.Laws.{OneHolder, NumbersDiffer, FinishedIsHeldByNone}

module _ {T G : Type 0} (number : T → ℕ) (finished : T → Bool) (good : G → T → Type 0) where
  -- a seat that names an item has a number, which the item's word holds
  holds : (tag : G) (dealt dealer : ℕ) (of : ℕ → ℕ) (words : List ℕ) (j : ℕ) (v : View G) (i : ℕ) (num : Option ℕ) → v.number ≡ num → SeatStands tag dealt dealer of words j v → v.item ≡ Some i
      → (n : ℕ) × (get_or words i 0 ≡ n + 2) × (j ≡ of n)
  holds tag dealt dealer of words j v i None e ok it = absurd (none_some i (sym (ok.bare e) ∙ it))
    where
      none_some : (i : ℕ) → let p : Option ℕ = None in let q : Option ℕ = Some i in p ≢ q
      none_some i h = cc
  holds tag dealt dealer of words j v i (Some n) e ok it = (n, (ok.names i n it e).1, (ok.numbered n e).1)

  pub one_holder : OneHolder number finished good
  one_holder tag s i j k v w r at_j at_k it_v it_w =
      let a = holds tag r.dealt r.dealer r.seat_of s.words j v i v.number refl (r.each_seat j v at_j) it_v in
      let b = holds tag r.dealt r.dealer r.seat_of s.words k w i w.number refl (r.each_seat k w at_k) it_w in
      let same : a.0 ≡ b.0 = omega (arith, a.1, b.1) in
      a.2 ∙ ap r.seat_of same ∙ sym b.2

  pub numbers_differ : NumbersDiffer number finished good
  numbers_differ tag s n j k v w r at_j at_k num_v num_w = ((r.each_seat j v at_j).numbered n num_v).1 ∙ sym ((r.each_seat k w at_k).numbered n num_w).1

  pub finished_is_held_by_none : FinishedIsHeldByNone number finished good
  finished_is_held_by_none tag s i j k v w r at_j at_k done it =
      let a = holds tag r.dealt r.dealer r.seat_of s.words k w i w.number refl (r.each_seat k w at_k) it in
      let b = ((r.each_seat j v at_j).finished_items i done).1 in
      omega (arith, a.1, b)
