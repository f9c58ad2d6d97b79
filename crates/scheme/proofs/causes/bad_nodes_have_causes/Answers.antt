use Rattle.scheme.proofs.NodeCaused.{nodes}
use Rattle.scheme.proofs.causes.bad_nodes_have_causes.Goals as goal

pub returns : goal.returns
returns c = nodes
