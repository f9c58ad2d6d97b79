use Rattle.fronts.proofs.Raising.{raised-on}
use Rattle.fronts.proofs.Stepping.{stepped-after}
use Rattle.fronts.proofs.stretches.Stretch.step_run.Goals as goal

pub returns-clause-stepped : goal.returns-clause-stepped
returns-clause-stepped g c =
    stepped-after (g.L.Law.meaning c.args.law.now) c.args.step c.args.low c.args.high c.args.self.now c.settle.new.self c.raise_run.new.self c.settle.ensures c.raise_run.ensures

pub returns-clause-holds : goal.returns-clause-holds
returns-clause-holds g c since front later r h =
    let law = g.L.Law.meaning c.args.law.now in
    raised-on law c.args.step (λ x. x) c.args.low c.args.high c.args.self.now c.raise_run.new.self since front later c.requires.on_mesh
    (stepped-after law c.args.step c.args.low c.args.high c.args.self.now c.settle.new.self c.raise_run.new.self c.settle.ensures c.raise_run.ensures) r h
