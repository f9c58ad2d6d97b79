use Rattle.regionrun.proofs.Sizing.{few-sides}
use Rattle.regionrun.proofs.sizes.sizes.Goals as goal

pub returns-clause-lawful : goal.returns-clause-lawful
returns-clause-lawful c = c.layouts_are_lawful.ensures c.args.layout.now c.args.mesh.now c.requires

pub returns-clause-whole : goal.returns-clause-whole
returns-clause-whole c = (c.layouts_are_lawful.ensures c.args.layout.now c.args.mesh.now c.requires).whole

pub returns-clause-few : goal.returns-clause-few
returns-clause-few c = λ x there. few-sides c.args.layout.now c.args.mesh.now x
    (c.layouts_are_lawful.ensures c.args.layout.now c.args.mesh.now c.requires) there
