-- The pairs of the tables, and their order.
use Rattle.std.specs.Prelude.{ℕ, ◌+◌, ◌-◌, ◌*◌, ◌/◌, ◌&&◌, not, Bool, true, false, ℤ, pos, ◌+ℤ◌}
use Rattle.std.specs.Prelude.{int_le, int_lt, List, map, length}
use Rattle.std.specs.List.{list_all, range_with_len}
use Rattle.std.specs.Ordering.{int_eq}
use Rattle.case_model.specs.declared.cases.TableKind.{TableKind}
use Rattle.case_model.specs.declared.cases.TableKind.TheVariants.{Curve, Gas}
use Rattle.case_lines.specs.declared.words.Directive.{Directive}
use Rattle.case_lines.specs.declared.words.Directive.TheVariants.{OfTable}
use Rattle.case_lines.specs.Quantities.{amount}
use Rattle.case_lines.specs.Fields.{field, first_quantity, second_quantity}

-- how many pairs a line of so many fields has
abbrev pub pair_count : ℕ → ℕ
pair_count n = (n - 2) / 2

-- pair j of a table, counted from 0
unfoldable pub pair_at : TableKind → List (List ℕ) → ℕ → ℤ × ℤ
pair_at kind fields j = (
  amount (first_quantity kind) (field fields (2 * j + 2)),
  amount (second_quantity kind)
      (field fields (2 * j + 3)),
)

-- the pairs of a table, in file order
unfoldable pub pairs_of : TableKind → List (List ℕ) → List (ℤ × ℤ)
pairs_of kind fields = map (pair_at kind fields) (range_with_len 0 (pair_count (length fields)))

-- times, volumes and flows rise from pair to pair, flows of a curve by 1e-6 m3/s at least
abbrev pub rises : TableKind → ℤ → ℤ → Bool
rises Curve x y = int_le (x +ℤ pos 1_000) y
rises _ x y = int_le (x +ℤ pos 1) y

-- the rises of a curve and the heads of a gas table fall from pair to pair
abbrev pub falls : TableKind → ℤ → ℤ → Bool
falls Curve x y = int_lt y x
falls Gas x y = int_lt y x
falls _ x y = true

-- whether a pair may stand behind another
unfoldable pub may_follow : TableKind → ℤ × ℤ → ℤ × ℤ → Bool
may_follow kind before next = rises kind before.0 next.0 && falls kind before.1 next.1

-- a curve begins at the flow 0
abbrev pub may_begin : TableKind → ℤ × ℤ → Bool
may_begin Curve first = int_eq first.0 (pos 0)
may_begin _ first = true

-- whether the first n pairs of a table follow one another
unfoldable pub follow : TableKind → List (List ℕ) → ℕ → Bool
follow kind fields n =
    list_all (λ j. may_follow kind (pair_at kind fields j) (pair_at kind fields (j + 1)))
    (range_with_len 0 (n - 1))

-- whether the pairs of a table are in order
unfoldable pub is_ordered : TableKind → List (List ℕ) → Bool
is_ordered kind fields =
    may_begin kind (pair_at kind fields 0) && follow kind fields (pair_count (length fields))

-- whether a line is a table that is not in order
unfoldable pub is_disordered : Directive → List (List ℕ) → Bool
is_disordered (OfTable kind) fields = not (is_ordered kind fields)
is_disordered _ fields = false
