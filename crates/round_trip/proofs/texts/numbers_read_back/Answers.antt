use Rattle.fixed_num.proofs.Back.{back}
use Rattle.round_trip.proofs.Numbers.{all_written, written_plain}
use Rattle.round_trip.proofs.texts.numbers_read_back.Goals as goal

pub returns-clause-back : goal.returns-clause-back
returns-clause-back c = back

pub returns-clause-bytes : goal.returns-clause-bytes
returns-clause-bytes c = all_written

pub returns-clause-plain : goal.returns-clause-plain
returns-clause-plain c = written_plain
