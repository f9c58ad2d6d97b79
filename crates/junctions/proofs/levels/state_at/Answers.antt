use Rattle.std.proofs.Common.{arith, to_z-of_z}
use Rattle.junctions.specs.Levels.{state_at}
use Rattle.junctions.proofs.States.{far_state}
use Rattle.junctions.proofs.levels.state_at.Goals as goal

pub returns-then-unsigned_abs-gt100000000000-clause-state :
    goal.returns-then-unsigned_abs-gt100000000000-clause-state
unfolding state_at
returns-then-unsigned_abs-gt100000000000-clause-state c =
    grind (arith, to_z-of_z, far_state c.args.head c.args.volume c.args.growth)
