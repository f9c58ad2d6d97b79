use Rattle.std.proofs.Common.{◌≡◌}
use Rattle.std.specs.List.{flat_map, fold, range_with_len}
use Rattle.case_model.specs.declared.cases.ProbeAt.TheVariants.{OnPipe}
use Rattle.report.specs.Bounds.{better}
use Rattle.report.specs.Places.{IsOnPipe, places_of_pipe}
use Rattle.report.specs.Reportable.{extremes_of}
use Rattle.report.proofs.peaks.peak_place.Given as goal

abbrev pub invariant-loop-p : goal.invariant-loop-p
invariant-loop-p l = record {
  place : l.best ≡ fold (better l.bound (extremes_of l.mesh l.fold)) (OnPipe 0 0) (flat_map (places_of_pipe l.mesh) (range_with_len 0 l.p));
  there : IsOnPipe l.mesh l.best;
}
