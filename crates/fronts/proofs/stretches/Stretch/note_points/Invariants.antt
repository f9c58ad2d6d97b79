use Rattle.envelope.specs.Folds.{IsSameFold, Stands}
use Rattle.envelope.specs.Notings.{Agree, Noted, union}
use Rattle.fronts.specs.Noted.{run_noted}
use Rattle.fronts.proofs.stretches.Stretch.note_points.Given as goal

abbrev pub invariant-loop-place : goal.invariant-loop-place
invariant-loop-place l = record {
  same : IsSameFold l.fn.fold l.fold;
  stands : (map : Noted) → Stands l.fn.fold map → Agree map (run_noted l.self l.step l.low l.high)
      → Stands l.fold (union map (run_noted l.self l.step l.low l.place));
}
