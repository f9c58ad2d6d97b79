use Rattle.strands.proofs.Handing.{flag-is, section-lent}
use Rattle.strands.proofs.handed.SectionBlock.lend.Goals as goal

pub returns-clause-points : goal.returns-clause-points
returns-clause-points c = λ law h.
    section-lent law _ c.args.left (flag-is c.args.left) c.requires.long h
