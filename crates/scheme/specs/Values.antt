-- Numbers that are fixed or follow a time table, and what a cavity is computed with.
use Rattle.std.specs.Prelude.{◌<◌, ◌≤◌, ℕ, ℤ, pos, ◌*ℤ◌, unsigned_abs, List, length, All}
use Rattle.fixed_num.specs.Tables.{Rises, IsBetween, interp}
use Rattle.case_model.specs.declared.cases.Case.{Case}
use Rattle.case_model.specs.declared.cases.Value.{Value}
use Rattle.case_model.specs.declared.cases.Value.TheVariants.{Fixed, ByTable}
use Rattle.case_model.specs.declared.meshes.CavityRule.{CavityRule}
use Rattle.case_model.specs.Parts.{table_at}

-- the time of a step, in 1e-6 s
abbrev pub time_of : Case → ℕ → ℤ
time_of case step = pos step *ℤ case.dt

-- the number at a step: itself where it is fixed, else that of its table at the time of the step
unfoldable pub value_at : Case → Value → ℕ → ℤ
value_at case (Fixed x) step = x
value_at case (ByTable t) step = interp (table_at case t).points (time_of case step)

-- what the cavity of a place with this vapour head is computed with
abbrev pub rule_at : Case → ℤ → CavityRule
rule_at case hv = record { dt = case.dt; psi = case.weight; hv = hv }

-- a table of numbers by time, within its limits
pub record IsTimeTable (points : List (ℤ × ℤ)) : Type 0 where
  pub some : 0 < length points
  pub rises : Rises points
  pub times : All (λ e. unsigned_abs e.0 ≤ 1_000_000_000_000) points
  pub sizes : All (λ e. unsigned_abs e.1 ≤ 1_000_000_000_000_000) points

-- a number that is fixed, or has such a table
abbrev pub IsTimed : Case → Value → Type 0
IsTimed case (Fixed x) = Unit {0}
IsTimed case (ByTable t) = (t < length case.tables) × IsTimeTable (table_at case t).points

-- a number that never leaves these limits
abbrev pub Keeps : ℤ → ℤ → Case → Value → Type 0
Keeps low high case (Fixed x) = IsBetween low high x
Keeps low high case (ByTable t) = All (λ e. IsBetween low high e.1) (table_at case t).points
