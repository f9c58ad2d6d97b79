use Rattle.round_trip.proofs.SameText.{text_same, renumbered_again}
use Rattle.round_trip.proofs.law.written_text_is_steady.Goals as goal

pub returns-clause-text : goal.returns-clause-text
returns-clause-text c = text_same

pub returns-clause-case : goal.returns-clause-case
returns-clause-case c = renumbered_again
