use Rattle.scheme.proofs.Following.{ends}
use Rattle.scheme.proofs.causes.bad_ends_have_causes.Goals as goal

pub returns : goal.returns
returns c = ends
