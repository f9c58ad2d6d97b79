use Rattle.std.proofs.Common.{◌≡◌, length}
use Rattle.scheme.specs.Runs.{ArePrepared}
use Rattle.scheme.proofs.prepared.prepare_all.Given as goal

abbrev pub invariant-loop-pipe : goal.invariant-loop-pipe
invariant-loop-pipe l = (length l.table.items ≡ l.pipe) × ArePrepared l.case l.mesh l.table.items

abbrev pub invariant-loop-node : goal.invariant-loop-node
invariant-loop-node l = (length l.table.items ≡ length l.mesh.pipes) × ArePrepared l.case l.mesh l.table.items
