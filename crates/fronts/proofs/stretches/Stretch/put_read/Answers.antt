use Rattle.std.proofs.Common.{subst}
use Rattle.case_model.specs.declared.points.Point.{Point}
use Rattle.fronts.specs.Stretches.{IsPutIn}
use Rattle.fronts.proofs.stretches.Stretch.put_read.Goals as goal

pub returns-in-Some : goal.returns-in-Some
returns-in-Some c =
    subst (λ (p : Point). IsPutIn c.args.even c.args.place p c.args.self.now c.put_still.new.self) c.in-Some.ensures c.put_still.ensures
