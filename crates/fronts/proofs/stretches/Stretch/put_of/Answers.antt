use Rattle.std.proofs.Common.{subst}
use Rattle.case_model.specs.Runs.{calm_point}
use Rattle.fronts.specs.Stretches.{IsSet}
use Rattle.fronts.proofs.Keeping.{put-set, set-of}
use Rattle.fronts.proofs.stretches.Stretch.put_of.Goals as goal

pub returns-in-Some : goal.returns-in-Some
returns-in-Some c =
    put-set c.args.even c.args.place c.args.point c.args.self.now c.set_spot.new.self c.requires.inside
    (subst (λ s. IsSet s c.args.point c.args.self.now c.set_spot.new.self) c.slot-slot.ensures.value
    (set-of c.slot-slot.result (calm_point c.in-Some.spot) c.args.point c.args.self.now c.set_spot.new.self c.in-Some.ensures c.set_spot.ensures))

pub returns-in-None : goal.returns-in-None
returns-in-None c =
    put-set c.args.even c.args.place c.args.point c.args.self.now c.set_other.new.self c.requires.inside
    (subst (λ s. IsSet s c.args.point c.args.self.now c.set_other.new.self) c.slot-slot.ensures.value c.set_other.ensures)
