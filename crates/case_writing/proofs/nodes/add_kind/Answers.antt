use Rattle.std.proofs.Common.{arith, to_z-of_z}
use Rattle.std.proofs.lemmas.Grind.{common_steps}
use Rattle.case_writing.proofs.nodes.add_kind.Goals as goal

pub returns-in-Discharge-clause-text : goal.returns-in-Discharge-clause-text
returns-in-Discharge-clause-text c = rw c.in-Discharge.is (grind (arith, common_steps, to_z-of_z))

pub returns-in-Inline-clause-text : goal.returns-in-Inline-clause-text
returns-in-Inline-clause-text c = rw c.in-Inline.is (grind (arith, common_steps, to_z-of_z))
