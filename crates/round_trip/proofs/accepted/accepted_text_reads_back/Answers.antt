use Rattle.round_trip.proofs.AcceptedCase.{accepted_reads_back}
use Rattle.round_trip.proofs.accepted.accepted_text_reads_back.Goals as goal

pub returns : goal.returns
returns c = record { back = accepted_reads_back }
