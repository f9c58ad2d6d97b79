use Rattle.envelope.specs.Folds.{IsSameFold}
use Rattle.envelope.specs.Layout.{IsHeld}
use Rattle.envelope.specs.Notings.{Noted, line_noted, union, Agree}
use Rattle.envelope.proofs.Lined.{part}
use Rattle.envelope.proofs.folds.Fold.note_within.Given as goal

abbrev pub invariant-loop-i : goal.invariant-loop-i
invariant-loop-i l = record {
  cells : IsSameFold l.fn.self l.self;
  stands : (map : Noted) → IsHeld l.fn.self map → Agree map (line_noted l.step l.first l.points) → IsHeld l.self (union map (part l.step l.first l.i l.points));
}
