use Rattle.std.proofs.Common.{arith, to_z-of_z}
use Rattle.std.proofs.lemmas.Int.{ints}
use Rattle.case_model.specs.Refusals.{is_over}
use Rattle.valves.proofs.orifices.is_over.Goals as goal

pub returns : goal.returns
unfolding is_over
returns c = grind (arith, to_z-of_z, ints)
