use Rattle.histories.proofs.Wording.{blocks-count, blocks-each, blocks-wide}
use Rattle.histories.proofs.laws.strands_have_blocks.Goals as goal

pub returns-clause-count : goal.returns-clause-count
returns-clause-count c = blocks-count

pub returns-clause-each : goal.returns-clause-each
returns-clause-each c = blocks-each

pub returns-clause-wide : goal.returns-clause-wide
returns-clause-wide c = blocks-wide
