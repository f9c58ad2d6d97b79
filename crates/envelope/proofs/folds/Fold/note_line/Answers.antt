use Rattle.std.proofs.Common.{◌≡◌, length, rules}
use Rattle.envelope.proofs.Lined.{held-past, held-empty}
use Rattle.envelope.proofs.Told.{held, tells}
use Rattle.envelope.proofs.folds.Fold.note_line.Goals as goal
use Rattle.envelope.proofs.folds.Fold.note_line.Goals.{else-step-self-via-then-step-self+else-not-is_empty, else-step-self-via-else-step-self}

pub returns-else-step-self-clause-stands : goal.returns-else-step-self-clause-stands
returns-else-step-self-clause-stands c = λ map p g. elim c.else-step-self.branch [
  | else-step-self-via-then-step-self+else-not-is_empty w ↦
      let e : length c.args.points.now ≡ 0 = search rules in
      tells (held-empty c.args.self.now map c.args.step c.args.first c.args.points.now e (held p))
  | else-step-self-via-else-step-self w ↦ tells (held-past c.args.self.now map c.args.step c.args.first c.args.points.now w.if-step-self.false (held p))
]

pub returns-then-not-is_empty-clause-stands : goal.returns-then-not-is_empty-clause-stands
returns-then-not-is_empty-clause-stands c = λ map p g. tells (c.note_within.ensures.stands map (held p) g)
