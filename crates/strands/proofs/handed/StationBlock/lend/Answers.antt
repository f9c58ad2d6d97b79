use Rattle.strands.proofs.Handing.{flag-is}
use Rattle.strands.proofs.Taking.{inner-lent}
use Rattle.strands.proofs.handed.StationBlock.lend.Goals as goal

pub returns-clause-points : goal.returns-clause-points
returns-clause-points c = λ law since front is h.
    inner-lent law _ c.args.right since front (flag-is c.args.right) c.requires.inside is h
