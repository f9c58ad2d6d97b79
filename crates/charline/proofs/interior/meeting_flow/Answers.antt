use Rattle.std.proofs.Common.{arith, to_z-of_z}
use Rattle.charline.specs.Interior.{meeting_flow}
use Rattle.charline.proofs.interior.meeting_flow.Goals as goal

pub returns : goal.returns
unfolding meeting_flow
returns c = grind (arith, to_z-of_z)
