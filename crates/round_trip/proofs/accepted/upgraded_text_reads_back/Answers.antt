use Rattle.round_trip.proofs.Upgraded.{upgraded_writable, upgraded_reads_back}
use Rattle.round_trip.proofs.accepted.upgraded_text_reads_back.Goals as goal

pub returns-clause-writable : goal.returns-clause-writable
returns-clause-writable c = λ case w. upgraded_writable case w

pub returns-clause-back : goal.returns-clause-back
returns-clause-back c = λ bytes case mesh h l. upgraded_reads_back bytes case mesh h l
