use Rattle.envelope.proofs.Told.{stands-same}
use Rattle.envelope.proofs.rows.stands_for_equal_maps.Goals as goal

pub returns : goal.returns
returns c = stands-same
