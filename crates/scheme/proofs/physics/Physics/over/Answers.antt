use Rattle.std.proofs.Common.{arith}
use Rattle.scheme.proofs.physics.Physics.over.Goals as goal

pub with_table-requires-clause-prepared : goal.with_table-requires-clause-prepared
with_table-requires-clause-prepared c = λ p h. absurd (omega (arith, h))
