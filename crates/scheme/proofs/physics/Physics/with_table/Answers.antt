use Rattle.scheme.proofs.Divided.{computable}
use Rattle.scheme.proofs.Starting.{point_starts, node_starts, mesh_of_law}
use Rattle.scheme.proofs.physics.Physics.with_table.Goals as goal

pub invariant_of-result : goal.invariant_of-result
invariant_of-result c = record {
  fit = computable c.args.case.now c.args.mesh.now c.requires.accepted;
  prepared = c.requires.prepared;
}

pub returns-clause-good_places : goal.returns-clause-good_places
returns-clause-good_places c =
    point_starts c.args.case.now c.args.mesh.now (computable c.args.case.now c.args.mesh.now c.requires.accepted)

pub returns-clause-good_nodes : goal.returns-clause-good_nodes
returns-clause-good_nodes c =
    node_starts c.args.case.now c.args.mesh.now (computable c.args.case.now c.args.mesh.now c.requires.accepted)

pub returns-clause-fits : goal.returns-clause-fits
returns-clause-fits c = mesh_of_law c.args.case.now c.args.mesh.now

pub returns-clause-ends : goal.returns-clause-ends
returns-clause-ends c = λ k h.
    let fit = computable c.args.case.now c.args.mesh.now c.requires.accepted in
    (fit.ends k h).few
