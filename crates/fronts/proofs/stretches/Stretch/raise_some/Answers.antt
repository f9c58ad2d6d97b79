use Rattle.std.proofs.Common.{arith}
use Rattle.fronts.proofs.Stepping.{stepped-nothing}
use Rattle.fronts.proofs.stretches.Stretch.raise_some.Goals as goal

pub returns-else-self-clause-stepped : goal.returns-else-self-clause-stepped
returns-else-self-clause-stepped g c = stepped-nothing (g.L.Law.meaning c.args.law.now) c.args.step c.args.low _ c.args.self.now (omega arith)
