use Rattle.std.proofs.Common.{arith, to_z-of_z}
use Rattle.std.proofs.lemmas.Int.{ints}
use Rattle.std.proofs.lemmas.Grind.{common_steps}
use Rattle.junctions.specs.Sums.{weight, weighted_head}
use Rattle.scheme.proofs.CalmJunctions.{sum_put}
use Rattle.scheme.proofs.Gathered.{arrivals-all}
use Rattle.scheme.proofs.calm_nodes.gather_few.Goals as goal

pub loop-i-preserved : goal.loop-i-preserved
loop-i-preserved c =
    let value = c.in-Some.ensures.value c.args.case.now c.args.mesh.now c.requires.prepared in
    let impedance = c.in-Some.ensures.impedance c.args.case.now c.args.mesh.now c.requires.prepared in
    let low = c.loop-i.invariant.low in
    let high = c.loop-i.invariant.high in
    let least = c.in-Some.ensures.low in
    let most = c.in-Some.ensures.high in
    let same = c.in-Some.ensures.weight in
    let weights = c.added-sums.ensures.weights in
    record {
      each = grind (arith, common_steps);
      arrived = grind (arith, common_steps, c.loop-i.invariant.arrived);
      good = grind (arith, common_steps, c.loop-i.invariant.good);
      impeded = grind (arith, common_steps, c.loop-i.invariant.impeded);
      heads = grind (arith, to_z-of_z, sum_put weighted_head c.loop-i.arrivals c.loop-i.i c.in-Some.weighed.arrival);
      weights = grind (arith, to_z-of_z, sum_put weight c.loop-i.arrivals c.loop-i.i c.in-Some.weighed.arrival);
      low = omega (arith, ints, low, weights, same, least);
      high = omega (arith, ints, high, weights, same, most);
      size = c.added-sums.ensures.size;
    }

pub returns-clause-arrived : goal.returns-clause-arrived
returns-clause-arrived c =
    arrivals-all c.args.case.now.friction c.args.mesh.now c.args.ends.now c.args.near.now c.loop-i.arrivals c.requires.near_each c.loop-i.invariant.each (λ k h. c.loop-i.invariant.arrived k (omega arith))
