use Rattle.std.proofs.Common.{◌∙◌, ap}
use Rattle.case_model.specs.Runs.{calm_point}
use Rattle.fronts.specs.Cavities.{with_cavity}
use Rattle.fronts.proofs.Keeping.{set-of, with-none}
use Rattle.fronts.proofs.stretches.Stretch.set_spot.Goals as goal

pub returns-else-self : goal.returns-else-self
returns-else-self c =
    set-of c.args.slot _ (calm_point c.args.spot) c.args.self.now c.set_parts.new.self
    (ap (with_cavity (calm_point c.args.spot)) c.none.ensures ∙ with-none (calm_point c.args.spot)) c.set_parts.ensures
