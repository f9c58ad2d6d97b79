use Rattle.std.proofs.Common.{arith}
use Rattle.scheme.proofs.Gathered.{arrivals-none, arrivals-all}
use Rattle.scheme.proofs.arrivals.gather.Goals as goal

pub returns-then-not-put_arrival-clause-arrived : goal.returns-then-not-put_arrival-clause-arrived
returns-then-not-put_arrival-clause-arrived c =
    arrivals-none c.args.case.now.friction c.args.mesh.now c.args.ends.now c.args.near.now c.loop-i.i c.loop-i-test.true c.requires.near_each (c.put_arrival.ensures.none c.if-not-put_arrival.true)

pub returns-clause-arrived : goal.returns-clause-arrived
returns-clause-arrived c =
    arrivals-all c.args.case.now.friction c.args.mesh.now c.args.ends.now c.args.near.now c.loop-i.arrivals c.requires.near_each (omega arith) (λ k h. c.loop-i.invariant.arrived k (omega arith))
