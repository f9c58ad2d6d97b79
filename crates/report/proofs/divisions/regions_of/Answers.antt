use Rattle.std.proofs.Common.{arith}
use Rattle.std.proofs.lemmas.Grind.{common_steps}
use Rattle.regions.specs.Sides.{is_section_shape}
use Rattle.report.proofs.Sections.{both-parts}
use Rattle.report.proofs.divisions.regions_of.Goals as goal

pub returns : goal.returns
returns c = grind (arith, common_steps, both-parts is_section_shape c.args.layout.now.shapes)
