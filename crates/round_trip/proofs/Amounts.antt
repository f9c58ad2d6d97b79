-- The amount that a written number gives is the number, and a written number is no reference.
use Rattle.std.proofs.Common.{ℕ, ◌^◌, ◌<◌, ◌≤◌, ◌≡◌, true, false, List, [], ◌∷◌, length, ℤ, pos, neg_ℤ, unsigned_abs, Ok, ap, arith}
use Rattle.std.proofs.lemmas.Bool.Decides.{nat_tests}
use Rattle.std.proofs.lemmas.Int.{ints}
use Rattle.std.specs.List.{list_all}
use Rattle.fixed_num.specs.Written.{written}
use Rattle.fixed_num.proofs.Back.{back}
use Rattle.case_model.specs.Limits.{IsWithin}
use Rattle.case_lines.specs.declared.quantities.Quantity.{Quantity}
use Rattle.case_lines.specs.Quantities.{limits, quantity_in, number_or_zero, amount}
use Rattle.case_lines.specs.Fields.{is_marked}
use Rattle.round_trip.specs.Plain.{is_number_byte}
use Rattle.round_trip.proofs.Numbers.{some_written, all_written}

-- a number that reads back
abbrev pub IsSmall : ℤ → Type 0
IsSmall x = unsigned_abs x ≤ 10 ^ 18

pub quantity_back : (q : Quantity) (x : ℤ) → IsSmall x → quantity_in q (written (limits q).places x) ≡ Ok x
unfolding quantity_in
quantity_back q x h = back (limits q).places x h

pub amount_back : (q : Quantity) (x : ℤ) → IsSmall x → amount q (written (limits q).places x) ≡ x
unfolding amount
amount_back q x h = ap number_or_zero (quantity_back q x h)

pub small_between : (a b m : ℕ) (x : ℤ) → IsWithin (neg_ℤ (pos a)) (pos b) x → a ≤ m → b ≤ m → unsigned_abs x ≤ m
small_between a b m x h k l = omega (arith, ints)

pub small_above : (a b m : ℕ) (x : ℤ) → IsWithin (pos a) (pos b) x → b ≤ m → unsigned_abs x ≤ m
small_above a b m x h l = omega (arith, ints)

first_byte : (text : List ℕ) → 0 < length text → list_all is_number_byte text ≡ true → is_marked text ≡ false
first_byte [] s h = absurd (omega arith)
first_byte (b ∷ more) s h = grind (arith, nat_tests)

pub unmarked : (places : ℕ) (x : ℤ) → is_marked (written places x) ≡ false
unmarked places x = first_byte (written places x) (some_written places x) (all_written places x)
