use Rattle.std.proofs.Common.{◌+◌, ◌*◌, ℕ, ℤ, List}
use Rattle.case_model.specs.declared.spots.Spot.{Spot}
use Rattle.case_model.specs.Meaning.{Meaning}
use Rattle.case_model.specs.Runs.{IsCalmRun, calm_at}
use Rattle.charline.specs.Runs.{IsPlus}
use Rattle.scheme.specs.Laws.{meaning_of}
use Rattle.scheme.proofs.runs.explicit_run.Given as goal

-- the places so far, and the values of C+ that are carried on
pub record IsSo (law : Meaning) (p first : ℕ) (before : List Spot) (k : ℕ) (old now : List Spot) (b r : ℕ) (behind here : ℤ) : Type 0 where
  pub run : IsCalmRun law p first before k old now
  pub left : IsPlus b r (calm_at before k) behind
  pub own : IsPlus b r (calm_at before (k + 1)) here

abbrev pub invariant-loop-pair : goal.invariant-loop-pair
invariant-loop-pair l =
    IsSo (meaning_of l.case l.mesh) l.fn.at.pipe l.fn.at.place l.before (2 * l.pair) l.fn.now l.now l.prepared.b l.prepared.r l.behind l.here
