-- What division decides of a pipe: its reaches and coefficients, or the rule that it breaks.
use Rattle.std.specs.Prelude.{◌≡◌, ℕ, ◌<◌, ◌≤◌, ℤ, pos, true, List, length, slice_index_or}
use Rattle.std.specs.Prelude.{Result, Ok, Err, Some}
use Rattle.case_model.specs.declared.cases.Case.{Case}
use Rattle.case_model.specs.declared.cases.Pipe.{Pipe}
use Rattle.case_model.specs.Formulas.{reach_count, b_of, r_of}
use Rattle.case_model.specs.Limits.{IsWithin}
use Rattle.case_model.specs.Parts.{pipe_at}
use Rattle.case_model.specs.Sets.{FindsLeast}
use Rattle.case_model.specs.Division.{is_divided, divides, has_coefficients, reaches_at}
use Rattle.case_model.specs.Refusals.{breaks_pipe}
use Rattle.reaches.specs.declared.pipes.Division.{Division}

-- a pipe in n reaches, whose coefficients are accepted
pub record IsInReaches (dt : ℤ) (n : ℕ) (p : Pipe) (d : Division) : Type 0 where
  pub accepted : has_coefficients dt n p ≡ true
  pub reaches : d.reaches ≡ n
  pub b : d.b ≡ b_of dt n p
  pub r : d.r ≡ r_of n p
  pub few : d.reaches ≤ 65_536
  pub b_in : IsWithin (pos 0) (pos 10_000_000_000_000) d.b

-- the division of a pipe that can be divided, or the least rule that it breaks
abbrev pub IsJudged : ℤ → ℤ → Pipe → Result Division ℕ → Type 0
IsJudged dt tolerance p (Ok d) =
    (is_divided dt tolerance p ≡ true) × IsInReaches dt (reach_count dt p) p d
IsJudged dt tolerance p (Err number) = FindsLeast (breaks_pipe dt tolerance p) (Some number)

-- the same of pipe number p of a case
abbrev pub IsDecided : Case → ℕ → Result Division ℕ → Type 0
IsDecided case p decided = IsJudged case.dt case.tolerance (pipe_at case p) decided

-- pipe number p of a case can be divided, and this is its division
abbrev pub IsDivision : Case → ℕ → Division → Type 0
IsDivision case p d =
    (divides case p ≡ true) × IsInReaches case.dt (reaches_at case p) (pipe_at case p) d

-- what is decided of the first n pipes of a case
pub record AreDecidedTo (case : Case) (n : ℕ) (decided : List (Result Division ℕ)) : Type 0 where
  pub each : length decided ≡ n
  pub found : (p : ℕ) → p < n → IsDecided case p (slice_index_or decided p (Err 0))

-- what is decided of each pipe of a case
abbrev pub AreDecided : Case → List (Result Division ℕ) → Type 0
AreDecided case decided = AreDecidedTo case (length case.pipes) decided
