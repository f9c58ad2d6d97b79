use Rattle.std.proofs.Common.{◌≡◌, map}
use Rattle.std.specs.List.{fold, range_with_len}
use Rattle.case_model.specs.declared.cases.ProbeAt.TheVariants.{OnPipe}
use Rattle.report.specs.Bounds.{better}
use Rattle.report.specs.Places.{IsOnPipe}
use Rattle.report.specs.Reportable.{extremes_of}
use Rattle.report.proofs.peaks.best_with_pipe.Given as goal

abbrev pub invariant-loop-i : goal.invariant-loop-i
invariant-loop-i l = record {
  place : l.best ≡ fold (better l.bound (extremes_of l.mesh l.fold)) l.fn.best (map (OnPipe l.pipe) (range_with_len 0 l.i));
  there : IsOnPipe l.mesh l.best;
}
