use Rattle.std.proofs.Common.{arith, w64, to_z-of_z, ◌≡◌, length, get_or, pos}
use Rattle.std.proofs.lemmas.Int.{to_z-of_z as read}
use Rattle.std.proofs.lemmas.Grind.{common_steps}
use Rattle.case_model.specs.declared.states.NodeState.TheVariants.{Good}
use Rattle.charline.specs.Characteristics.{flow_in}
use Rattle.junctions.specs.Levels.{inflows}
use Rattle.scheme.specs.Ends.{end_point}
use Rattle.scheme.proofs.CalmJunctions.{all_flows, pointed_more}
use Rattle.scheme.proofs.EndPoints.{points-all}
use Rattle.scheme.proofs.Gathered.{no_arrival, no_end}
use Rattle.scheme.proofs.calm_nodes.put_level.Goals as goal

pub loop-i-preserved : goal.loop-i-preserved
loop-i-preserved c =
    let value = c.in-Some.ensures.value c.args.case.now c.args.mesh.now c.requires.prepared in
    let near = c.requires.impedances c.loop-i.i c.loop-i-test.true in
    let head = c.args.head in
    let told : c.in-Some.flow ≡ flow_in head (get_or c.args.arrivals.now c.loop-i.i no_arrival) = grind (arith, to_z-of_z, common_steps) in
    let mapped : get_or (inflows head c.args.arrivals.now) c.loop-i.i (pos 0) ≡ flow_in head (get_or c.args.arrivals.now c.loop-i.i no_arrival) = grind (arith, common_steps) in
    let point : c.level_point.result ≡ end_point (Good head (pos 0) (pos 0)) (get_or c.args.view.now.ends.now c.loop-i.i no_end) (get_or (inflows head c.args.arrivals.now) c.loop-i.i (pos 0)) = grind (arith, to_z-of_z, common_steps) in
    record {
      each = grind (arith, common_steps);
      pointed = rw (read w64 head c.ranges.head) (pointed_more (Good head (pos 0) (pos 0)) c.args.view.now.ends.now (inflows head c.args.arrivals.now) c.loop-i.points c.loop-i.i c.level_point.result (omega arith) (simp (to_z-of_z, c.ranges.head) at c.loop-i.invariant.pointed) point);
      few = grind (arith, to_z-of_z, common_steps, c.loop-i.invariant.few);
    }

pub returns-clause-flows : goal.returns-clause-flows
returns-clause-flows c =
    λ r. all_flows c.args.head c.args.arrivals.now (λ k h. simp (to_z-of_z, c.ranges.head) at (c.loop-i.invariant.few k (omega arith)))

pub returns-clause-points : goal.returns-clause-points
returns-clause-points c =
    let each : length (inflows c.args.head c.args.arrivals.now) ≡ length c.args.view.now.ends.now = grind (arith, common_steps) in
    λ r. points-all (Good c.args.head (pos 0) (pos 0)) c.args.view.now.ends.now (inflows c.args.head c.args.arrivals.now) c.loop-i.points each c.loop-i.invariant.each
    (λ k h. simp (to_z-of_z, c.ranges.head) at (c.loop-i.invariant.pointed k (omega arith)))
