use Rattle.scheme.proofs.Divided.{computable}
use Rattle.scheme.proofs.prepared.prepare.Goals as goal

pub prepare_all-requires : goal.prepare_all-requires
prepare_all-requires c = record { fit = computable c.args.case.now c.args.mesh.now c.requires.accepted }
