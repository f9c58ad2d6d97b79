-- Tables of numbers over time: their limits, and their value past their last time.
use Rattle.std.proofs.Common.{◌≡◌, ℕ, ◌*◌, ◌<◌, ◌≤◌, ◌⊎◌, inl, inr, min, List, [], ◌∷◌, length, get_or, ℤ, pos, negsuc, neg_ℤ, ◌*ℤ◌, ◌≤ℤ◌, unsigned_abs, refl, ap, subst, ◌∙◌, arith}
use Rattle.std.specs.Prelude.{slice_index_or}
use Rattle.std.specs.List.{All, AllByRecursion}
use Rattle.std.proofs.lemmas.Int.{ints}
use Rattle.std.proofs.lemmas.Nat.{mul-le}
use Rattle.std.proofs.lemmas.Bool.{cases_lt}
use Rattle.std.proofs.lemmas.List.Elements.{recursion_from_All}
use Rattle.std.proofs.lemmas.List.{get_or_default}
use Rattle.fixed_num.specs.Tables.{interp, IsBetween}
use Rattle.case_model.specs.declared.cases.Case.{Case}
use Rattle.case_model.specs.declared.cases.Table.{Table}
use Rattle.case_model.specs.declared.cases.TableKind.{TableKind}
use Rattle.case_model.specs.declared.cases.TableKind.TheVariants.{Heads, Flows, Openings, Speeds, Gas}
use Rattle.case_model.specs.declared.cases.Value.{Value}
use Rattle.case_model.specs.declared.cases.Value.TheVariants.{Fixed, ByTable}
use Rattle.case_model.specs.Limits.{IsHead, IsFlow, IsTime, IsWithin, IsEntry, IsInOrder, IsTable, IsTableOf, IsValue, IsOpening, IsRead, least_entries}
use Rattle.case_model.specs.Parts.{table_at, no_table}
use Rattle.scheme.specs.Values.{IsTimeTable, IsTimed, Keeps}
use Rattle.fixed_num.proofs.Orders.{not_less_at}

-- what the table of a kind has
pub record HasKind (kind : TableKind) (points : List (ℤ × ℤ)) : Type 0 where
  pub some : least_entries kind ≤ length points
  pub entries : All (IsEntry kind) points
  pub sorted : IsInOrder kind points

of_kind : (t : Table) (kind : TableKind) → t.kind ≡ kind → IsTable t → HasKind kind t.points
of_kind t kind e h = subst (λ (k : TableKind). HasKind k t.points) e (record { some = h.some; entries = h.entries; sorted = h.sorted })

pub found : (case : Case) (kind : TableKind) (t : ℕ) → IsRead case → IsTableOf kind case.tables t → HasKind kind (table_at case t).points
found case kind t read h = of_kind (table_at case t) kind (h.wanted no_table) (read.tables t no_table h.there)

within_size : (low most : ℕ) (x : ℤ) → low ≤ most → IsWithin (neg_ℤ (pos low)) (pos most) x → unsigned_abs x ≤ most
within_size low most x k h = let l = h.low in let m = h.high in omega (arith, ints)

positive_size : (most : ℕ) (x : ℤ) → IsWithin (pos 0) (pos most) x → unsigned_abs x ≤ most
positive_size most x h = let l = h.low in let m = h.high in omega (arith, ints)

early : (x : ℤ) → IsTime x → unsigned_abs x ≤ 1_000_000_000_000
early x h = positive_size 1_000_000_000_000 x h

small : (x : ℤ) (n : ℕ) → unsigned_abs x ≤ n → n ≤ 1_000_000_000_000_000 → unsigned_abs x ≤ 1_000_000_000_000_000
small x n h k = omega arith

heads_timed : (points : List (ℤ × ℤ)) → HasKind Heads points → IsTimeTable points
heads_timed points h = record {
  some = omega (arith, h.some);
  rises = h.sorted;
  times = λ k d l. early (slice_index_or points k d).0 (h.entries k d l).0;
  sizes = λ k d l. small (slice_index_or points k d).1 100_000_000_000 (h.entries k d l).1 (omega arith);
}

flows_timed : (points : List (ℤ × ℤ)) → HasKind Flows points → IsTimeTable points
flows_timed points h = record {
  some = omega (arith, h.some);
  rises = h.sorted;
  times = λ k d l. early (slice_index_or points k d).0 (h.entries k d l).0;
  sizes = λ k d l. small (slice_index_or points k d).1 1_000_000_000_000 (h.entries k d l).1 (omega arith);
}

openings_timed : (points : List (ℤ × ℤ)) → HasKind Openings points → IsTimeTable points
openings_timed points h = record {
  some = omega (arith, h.some);
  rises = h.sorted;
  times = λ k d l. early (slice_index_or points k d).0 (h.entries k d l).0;
  sizes = λ k d l. small (slice_index_or points k d).1 1_000_000 (positive_size 1_000_000 (slice_index_or points k d).1 (h.entries k d l).1) (omega arith);
}

speeds_timed : (points : List (ℤ × ℤ)) → HasKind Speeds points → IsTimeTable points
speeds_timed points h = record {
  some = omega (arith, h.some);
  rises = h.sorted;
  times = λ k d l. early (slice_index_or points k d).0 (h.entries k d l).0;
  sizes = λ k d l. small (slice_index_or points k d).1 2_000_000 (positive_size 2_000_000 (slice_index_or points k d).1 (h.entries k d l).1) (omega arith);
}

-- ---- numbers over time by their kind

pub head_timed : (case : Case) (v : Value) → IsRead case → IsValue IsHead Heads case.tables v → IsTimed case v
head_timed case (Fixed x) read h = tt
head_timed case (ByTable t) read h = (h.there, heads_timed _ (found case Heads t read h))

pub flow_timed : (case : Case) (v : Value) → IsRead case → IsValue IsFlow Flows case.tables v → IsTimed case v
flow_timed case (Fixed x) read h = tt
flow_timed case (ByTable t) read h = (h.there, flows_timed _ (found case Flows t read h))

pub opening_timed : (case : Case) (v : Value) → IsRead case → IsOpening case.tables v → IsTimed case v
opening_timed case (Fixed x) read h = tt
opening_timed case (ByTable t) read h = (h.there, openings_timed _ (found case Openings t read h))

pub speed_timed : (case : Case) (v : Value) → IsRead case → IsValue (IsWithin (pos 0) (pos 2_000_000)) Speeds case.tables v → IsTimed case v
speed_timed case (Fixed x) read h = tt
speed_timed case (ByTable t) read h = (h.there, speeds_timed _ (found case Speeds t read h))

between_sizes : (most : ℕ) (x : ℤ) → unsigned_abs x ≤ most → IsBetween (neg_ℤ (pos most)) (pos most) x
between_sizes most x h = record { low = omega (arith, ints); high = omega (arith, ints) }

between_limits : (most : ℕ) (x : ℤ) → IsWithin (pos 0) (pos most) x → IsBetween (pos 0) (pos most) x
between_limits most x h = record { low = h.low; high = h.high }

head_kept : (case : Case) (v : Value) → IsRead case → IsValue IsHead Heads case.tables v → Keeps (neg_ℤ (pos 100_000_000_000)) (pos 100_000_000_000) case v
head_kept case (Fixed x) read h = between_sizes 100_000_000_000 x h
head_kept case (ByTable t) read h = λ k d l. between_sizes 100_000_000_000 _ ((found case Heads t read h).entries k d l).1

flow_kept : (case : Case) (v : Value) → IsRead case → IsValue IsFlow Flows case.tables v → Keeps (neg_ℤ (pos 1_000_000_000_000)) (pos 1_000_000_000_000) case v
flow_kept case (Fixed x) read h = between_sizes 1_000_000_000_000 x h
flow_kept case (ByTable t) read h = λ k d l. between_sizes 1_000_000_000_000 _ ((found case Flows t read h).entries k d l).1

opening_kept : (case : Case) (v : Value) → IsRead case → IsOpening case.tables v → Keeps (pos 0) (pos 1_000_000) case v
opening_kept case (Fixed x) read h = between_limits 1_000_000 x h
opening_kept case (ByTable t) read h = λ k d l. between_limits 1_000_000 _ ((found case Openings t read h).entries k d l).1

speed_kept : (case : Case) (v : Value) → IsRead case → IsValue (IsWithin (pos 0) (pos 2_000_000)) Speeds case.tables v → Keeps (pos 0) (pos 2_000_000) case v
speed_kept case (Fixed x) read h = between_limits 2_000_000 x h
speed_kept case (ByTable t) read h = λ k d l. between_limits 2_000_000 _ ((found case Speeds t read h).entries k d l).1

size_of : (most : ℕ) (x : ℤ) → IsBetween (neg_ℤ (pos most)) (pos most) x → unsigned_abs x ≤ most
size_of most x h = let l = h.low in let m = h.high in omega (arith, ints)

limits_of : (most : ℕ) (x : ℤ) → IsBetween (pos 0) (pos most) x → IsWithin (pos 0) (pos most) x
limits_of most x h = record { low = h.low; high = h.high }

-- what never leaves its limits has them
abbrev pub Within : Case → Value → ℤ → Type 0
Within case v x = (low high : ℤ) → Keeps low high case v → IsBetween low high x

pub head_in : (case : Case) (v : Value) (x : ℤ) → IsRead case → IsValue IsHead Heads case.tables v → Within case v x → IsHead x
head_in case v x read h w = size_of 100_000_000_000 x (w (neg_ℤ (pos 100_000_000_000)) (pos 100_000_000_000) (head_kept case v read h))

pub flow_in : (case : Case) (v : Value) (x : ℤ) → IsRead case → IsValue IsFlow Flows case.tables v → Within case v x → IsFlow x
flow_in case v x read h w = size_of 1_000_000_000_000 x (w (neg_ℤ (pos 1_000_000_000_000)) (pos 1_000_000_000_000) (flow_kept case v read h))

pub opening_in : (case : Case) (v : Value) (x : ℤ) → IsRead case → IsOpening case.tables v → Within case v x → IsWithin (pos 0) (pos 1_000_000) x
opening_in case v x read h w = limits_of 1_000_000 x (w (pos 0) (pos 1_000_000) (opening_kept case v read h))

pub speed_in : (case : Case) (v : Value) (x : ℤ) → IsRead case → IsValue (IsWithin (pos 0) (pos 2_000_000)) Speeds case.tables v → Within case v x → IsWithin (pos 0) (pos 2_000_000) x
speed_in case v x read h w = limits_of 2_000_000 x (w (pos 0) (pos 2_000_000) (speed_kept case v read h))

-- ---- gas tables

pub gas_in : (points : List (ℤ × ℤ)) (x : ℤ) → HasKind Gas points → ((low high : ℤ) → All (λ e. IsBetween low high e.1) points → IsBetween low high x) → IsHead x
gas_in points x h w = size_of 100_000_000_000 x (w (neg_ℤ (pos 100_000_000_000)) (pos 100_000_000_000) (λ k d l. between_sizes 100_000_000_000 _ (h.entries k d l).1))

-- ---- past the last time of a table

late : (points : List (ℤ × ℤ)) (t u : ℤ) → AllByRecursion (λ e. e.0 ≤ℤ t) points → AllByRecursion (λ e. e.0 ≤ℤ u) points → interp points t ≡ interp points u
unfolding interp
late [] t u h k = refl
late (last ∷ []) t u h k = refl
late (from ∷ to ∷ points) t u h k = rw (not_less_at t to.0 h.1.0, not_less_at u to.0 k.1.0) (late (to ∷ points) t u h.1 k.1)

from_size : (x : ℤ) (n : ℕ) (t : ℤ) → unsigned_abs x ≤ n → pos n ≤ℤ t → x ≤ℤ t
from_size x n t h k = omega (arith, ints)

late_by : (points : List (ℤ × ℤ)) (n : ℕ) (t u : ℤ) → All (λ e. unsigned_abs e.0 ≤ n) points → pos n ≤ℤ t → pos n ≤ℤ u → interp points t ≡ interp points u
late_by points n t u h k l =
    late points t u (recursion_from_All (λ e. e.0 ≤ℤ t) points (λ i d m. from_size _ n t (h i d m) k)) (recursion_from_All (λ e. e.0 ≤ℤ u) points (λ i d m. from_size _ n u (h i d m) l))

steps : (step : ℕ) (dt : ℤ) → pos 1 ≤ℤ dt → pos (step * unsigned_abs dt) ≡ pos step *ℤ dt
steps step (pos d) h = omega (arith, ints)
steps step (negsuc d) h = absurd (omega (arith, ints))

cut_time : (points : List (ℤ × ℤ)) (n k : ℕ) → All (λ e. unsigned_abs e.0 ≤ n) points → (k < n) ⊎ (n ≤ k) → interp points (pos (min k n)) ≡ interp points (pos k)
cut_time points n k h (inl l) = ap (λ (i : ℕ). interp points (pos i)) (let e : min k n ≡ k = omega arith in e)
cut_time points n k h (inr l) = late_by points n (pos (min k n)) (pos k) h (omega (arith, ints)) (omega (arith, ints))

-- the value at a step, at the time cut to the greatest of a table
pub value_cut : (points : List (ℤ × ℤ)) (step : ℕ) (dt : ℤ) → pos 1 ≤ℤ dt → IsTimeTable points → interp points (pos (min (step * unsigned_abs dt) 1_000_000_000_000)) ≡ interp points (pos step *ℤ dt)
value_cut points step dt h t =
    cut_time points 1_000_000_000_000 (step * unsigned_abs dt) t.times (cases_lt (step * unsigned_abs dt) 1_000_000_000_000) ∙ ap (λ (x : ℤ). interp points x) (steps step dt h)

pub late_step : (step most : ℕ) (dt : ℤ) → most < step → pos 1 ≤ℤ dt → min (step * unsigned_abs dt) most ≡ most
late_step step most dt h k =
    let m : step * 1 ≤ step * unsigned_abs dt = mul-le step 1 step (unsigned_abs dt) (omega arith) (omega (arith, ints)) in
    omega arith

-- a table read from the list of tables is that of the case
pub same_table : (case : Case) (t : ℕ) (d : Table) → t < length case.tables → (get_or case.tables t d).points ≡ (table_at case t).points
same_table case t d h = ap (λ (x : Table). x.points) (get_or_default case.tables t d no_table h)
