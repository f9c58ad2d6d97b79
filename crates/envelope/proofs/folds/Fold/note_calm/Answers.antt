use Rattle.std.proofs.Common.{◌≡◌, ◌∙◌, length, map, rules}
use Rattle.std.proofs.lemmas.List.{length-map}
use Rattle.case_model.specs.Runs.{calm_point}
use Rattle.envelope.proofs.Lined.{held-past, held-empty}
use Rattle.envelope.proofs.Told.{held, tells}
use Rattle.envelope.proofs.folds.Fold.note_calm.Goals as goal
use Rattle.envelope.proofs.folds.Fold.note_calm.Goals.{else-step-self-via-then-step-self+else-not-is_empty, else-step-self-via-else-step-self}

pub returns-else-step-self-clause-stands : goal.returns-else-step-self-clause-stands
returns-else-step-self-clause-stands c = λ noted p g. elim c.else-step-self.branch [
  | else-step-self-via-then-step-self+else-not-is_empty w ↦
      let e : length c.args.spots.now ≡ 0 = search rules in
      tells (held-empty c.args.self.now noted c.args.step c.args.first (map calm_point c.args.spots.now) (length-map c.args.spots.now calm_point ∙ e) (held p))
  | else-step-self-via-else-step-self w ↦ tells (held-past c.args.self.now noted c.args.step c.args.first (map calm_point c.args.spots.now) w.if-step-self.false (held p))
]

pub returns-then-not-is_empty-clause-stands : goal.returns-then-not-is_empty-clause-stands
returns-then-not-is_empty-clause-stands c = λ noted p g. tells (c.note_spots.ensures.stands noted (held p) g)
