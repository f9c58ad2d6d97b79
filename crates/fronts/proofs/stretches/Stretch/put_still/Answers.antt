use Rattle.std.proofs.Common.{subst}
use Rattle.case_model.specs.Runs.{calm_point}
use Rattle.fronts.specs.Stretches.{IsSet}
use Rattle.fronts.proofs.Keeping.{put-set}
use Rattle.fronts.proofs.stretches.Stretch.put_still.Goals as goal

pub returns-then-self : goal.returns-then-self
returns-then-self c =
    put-set c.args.even c.args.place (calm_point c.args.spot) c.args.self.now c.set_calm.new.self c.requires
    (subst (λ s. IsSet s (calm_point c.args.spot) c.args.self.now c.set_calm.new.self) c.slot-slot.ensures.value c.set_calm.ensures.set)
