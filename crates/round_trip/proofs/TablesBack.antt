-- The tables that the lines of the written text say.
use Rattle.std.proofs.Common.{ℕ, zero, suc, ◌+◌, ◌*◌, ◌<◌, ◌^◌, ◌≡◌, ℤ, pos, Some, List, [], ◌∷◌, length, get_or, sym, ap, refl, arith}
use Rattle.std.proofs.lemmas.List.FromFn.{fill_by_all}
use Rattle.std.proofs.lemmas.List.Elements.{All-weaker, recursion_from_All}
use Rattle.std.specs.List.{flat_map, All, AllByRecursion, cons_option}
use Rattle.fixed_num.specs.Written.{written}
use Rattle.case_model.specs.declared.cases.Table.{Table}
use Rattle.case_model.specs.declared.cases.TableKind.{TableKind}
use Rattle.case_model.specs.declared.cases.TableKind.TheVariants.{Heads, Flows, Openings, Speeds, Curve, Gas}
use Rattle.case_model.specs.Limits.{IsTable, IsEntry}
use Rattle.case_lines.specs.declared.quantities.Quantity.TheVariants.{Time, Head, Flow, Opening, SpeedRatio, CurveFlow, CurveRise, Volume}
use Rattle.case_lines.specs.Quantities.{amount}
use Rattle.case_lines.specs.Fields.{first_quantity, second_quantity}
use Rattle.case_lines.specs.Tables.{pair_count, pair_at, pairs_of}
use Rattle.case_writing.specs.CaseText.{first_places, second_places, entry_fields}
use Rattle.netfile.specs.Built.{table_said, tables_from, parts_from}
use Rattle.round_trip.specs.Lines.{table_line}
use Rattle.round_trip.specs.Renumbered.{tables_on}
use Rattle.round_trip.proofs.Amounts.{IsSmall, amount_back, small_above}
use Rattle.round_trip.proofs.Directives.{of_table}
use Rattle.round_trip.proofs.InOrder.{numbered}

-- the numbers of a pair read back
pub first_small : (kind : TableKind) (e : ℤ × ℤ) → IsEntry kind e → IsSmall e.0
first_small Heads e h = small_above 0 1_000_000_000_000 (10 ^ 18) e.0 h.0 (omega arith)
first_small Flows e h = small_above 0 1_000_000_000_000 (10 ^ 18) e.0 h.0 (omega arith)
first_small Openings e h = small_above 0 1_000_000_000_000 (10 ^ 18) e.0 h.0 (omega arith)
first_small Speeds e h = small_above 0 1_000_000_000_000 (10 ^ 18) e.0 h.0 (omega arith)
first_small Curve e h = small_above 0 1_000_000_000_000 (10 ^ 18) e.0 h.0 (omega arith)
first_small Gas e h = small_above 0 1_000_000_000_000_000 (10 ^ 18) e.0 h.0 (omega arith)

pub second_small : (kind : TableKind) (e : ℤ × ℤ) → IsEntry kind e → IsSmall e.1
second_small Heads e h = omega (arith, h.1)
second_small Flows e h = omega (arith, h.1)
second_small Openings e h = small_above 0 1_000_000 (10 ^ 18) e.1 h.1 (omega arith)
second_small Speeds e h = small_above 0 2_000_000 (10 ^ 18) e.1 h.1 (omega arith)
second_small Curve e h = small_above 0 100_000_000_000 (10 ^ 18) e.1 h.1 (omega arith)
second_small Gas e h = omega (arith, h.1)

first_back : (kind : TableKind) (x : ℤ) → IsSmall x → amount (first_quantity kind) (written (first_places kind) x) ≡ x
first_back Heads x h = amount_back Time x h
first_back Flows x h = amount_back Time x h
first_back Openings x h = amount_back Time x h
first_back Speeds x h = amount_back Time x h
first_back Curve x h = amount_back CurveFlow x h
first_back Gas x h = amount_back Volume x h

second_back : (kind : TableKind) (x : ℤ) → IsSmall x → amount (second_quantity kind) (written (second_places kind) x) ≡ x
second_back Heads x h = amount_back Head x h
second_back Flows x h = amount_back Flow x h
second_back Openings x h = amount_back Opening x h
second_back Speeds x h = amount_back SpeedRatio x h
second_back Curve x h = amount_back CurveRise x h
second_back Gas x h = amount_back Head x h

-- the fields of pair j
pub first_field : (kind : TableKind) (points : List (ℤ × ℤ)) (j : ℕ) (d : ℤ × ℤ) → j < length points → get_or (flat_map (entry_fields kind) points) (2 * j) [] ≡ written (first_places kind) (get_or points j d).0
first_field kind [] j d h = absurd (omega arith)
first_field kind (e ∷ points) zero d h = refl
first_field kind (e ∷ points) (suc j) d h = let s : 2 * suc j ≡ suc (suc (2 * j)) = omega arith in rw s (first_field kind points j d (omega arith))

pub second_field : (kind : TableKind) (points : List (ℤ × ℤ)) (j : ℕ) (d : ℤ × ℤ) → j < length points → get_or (flat_map (entry_fields kind) points) (suc (2 * j)) [] ≡ written (second_places kind) (get_or points j d).1
second_field kind [] j d h = absurd (omega arith)
second_field kind (e ∷ points) zero d h = refl
second_field kind (e ∷ points) (suc j) d h = let s : 2 * suc j ≡ suc (suc (2 * j)) = omega arith in rw s (second_field kind points j d (omega arith))

pub length_pairs : (kind : TableKind) (points : List (ℤ × ℤ)) → length (flat_map (entry_fields kind) points) ≡ 2 * length points
length_pairs kind [] = refl
length_pairs kind (e ∷ points) = omega (arith, length_pairs kind points)

-- a pair of a table reads back
pub pair_back : (kind : TableKind) (word name : List ℕ) (points : List (ℤ × ℤ)) (j : ℕ) (d : ℤ × ℤ) → j < length points → IsEntry kind (get_or points j d) → pair_at kind (word ∷ name ∷ flat_map (entry_fields kind) points) j ≡ get_or points j d
unfolding pair_at
pair_back kind word name points j d h k =
    let a : 2 * j + 2 ≡ suc (suc (2 * j)) = omega arith in
    let b : 2 * j + 3 ≡ suc (suc (suc (2 * j))) = omega arith in
    rw (a, b, first_field kind points j d h, second_field kind points j d h, first_back kind (get_or points j d).0 (first_small kind (get_or points j d) k), second_back kind (get_or points j d).1 (second_small kind (get_or points j d) k)) refl

pub pairs_counted : (kind : TableKind) (word name : List ℕ) (points : List (ℤ × ℤ)) → pair_count (length (word ∷ name ∷ flat_map (entry_fields kind) points)) ≡ length points
pairs_counted kind word name points = let l = length_pairs kind points in omega arith

pairs_back : (kind : TableKind) (word name : List ℕ) (points : List (ℤ × ℤ)) → All (IsEntry kind) points → pairs_of kind (word ∷ name ∷ flat_map (entry_fields kind) points) ≡ points
unfolding pairs_of
pairs_back kind word name points h =
    let d : ℤ × ℤ = (pos 0, pos 0) in
    rw (pairs_counted kind word name points)
    (sym (fill_by_all (pair_at kind (word ∷ name ∷ flat_map (entry_fields kind) points)) points (length points) d refl (λ k l. sym (pair_back kind word name points k d l (h k d l)))))

-- a table on its line
abbrev pub table_on : ℕ → Table → Table
table_on line t = record t { line = line }

pub table_back : (t : Table) → IsTable t → (line : ℕ) → table_said line (table_line t) ≡ Some (table_on line t)
unfolding table_said table_line
table_back t h line = rw (of_table t) (ap (λ (points : List (ℤ × ℤ)). Some (record { name = t.name; line = line; kind = t.kind; points = points })) (pairs_back t.kind _ t.name t.points h.entries))

pub tables_in_order : (line : ℕ) (lines : List (List (List ℕ))) → tables_from line lines ≡ parts_from table_said line lines
tables_in_order line [] = refl
tables_in_order line (fields ∷ lines) = ap (λ (ts : List Table). cons_option (table_said line fields) ts) (tables_in_order (line + 1) lines)

pub tables_numbered : (line : ℕ) (ts : List Table) → numbered table_on line ts ≡ tables_on line ts
tables_numbered line [] = refl
tables_numbered line (t ∷ ts) = ap (λ (us : List Table). table_on line t ∷ us) (tables_numbered (line + 1) ts)

pub each_table : (ts : List Table) → All IsTable ts → AllByRecursion (λ t. (line : ℕ) → table_said line (table_line t) ≡ Some (table_on line t)) ts
each_table ts h = recursion_from_All (λ t. (line : ℕ) → table_said line (table_line t) ≡ Some (table_on line t)) ts (All-weaker IsTable (λ t. (line : ℕ) → table_said line (table_line t) ≡ Some (table_on line t)) table_back ts h)
