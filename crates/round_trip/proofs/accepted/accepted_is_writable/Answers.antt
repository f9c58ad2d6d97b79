use Rattle.round_trip.proofs.AcceptedCase.{accepted_writable, lines_writable}
use Rattle.round_trip.proofs.accepted.accepted_is_writable.Goals as goal

pub returns-clause-text : goal.returns-clause-text
returns-clause-text c = accepted_writable

pub returns-clause-lines : goal.returns-clause-lines
returns-clause-lines c = lines_writable
