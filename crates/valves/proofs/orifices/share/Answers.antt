use Rattle.std.proofs.Common.{arith, to_z-of_z}
use Rattle.valves.proofs.Quotients.{share_below}
use Rattle.valves.proofs.orifices.share.Goals as goal

pub returns-clause-size : goal.returns-clause-size
returns-clause-size c =
    grind (arith, to_z-of_z, share_below c.args.n c.args.h0 c.rnd.result c.requires.n_in c.requires.loss)
