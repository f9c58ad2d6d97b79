use Rattle.histories.proofs.Wording.{block-is, block-only}
use Rattle.histories.proofs.laws.blocks_are_their_words.Goals as goal

pub returns-clause-are : goal.returns-clause-are
returns-clause-are c = block-is

pub returns-clause-only : goal.returns-clause-only
returns-clause-only c = block-only
