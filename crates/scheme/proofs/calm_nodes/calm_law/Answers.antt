use Rattle.std.proofs.Common.{to_z-of_z, sym, subst, ◌≡◌, FitsSigned, w64, IfSome}
use Rattle.case_model.specs.declared.cases.NodeKind.{NodeKind}
use Rattle.case_model.specs.declared.states.NodeState.{NodeState}
use Rattle.scheme.specs.Arrivals.{arrivals_from}
use Rattle.scheme.specs.NodeLaws.{law_if}
use Rattle.scheme.proofs.CalmJunctions.{state_told, points_told}
use Rattle.scheme.proofs.calm_nodes.calm_law.Goals as goal

pub returns-else-not-is_closed-clause-state : goal.returns-else-not-is_closed-clause-state
returns-else-not-is_closed-clause-state c =
    let v = c.args.view.now in
    let found = arrivals_from c.args.case.now.friction c.args.mesh.now v.ends.now c.args.near.now in
    let fd : FitsSigned w64 c.demand_at.result = record { sfits = c.demand_at.type_inv } in
    let e = simp (to_z-of_z, c.ranges.hv, fd) at c.calm_junction.ensures.junction in
    subst (λ (k : NodeKind). IfSome c.calm_junction.result (λ (s : NodeState). s ≡ (law_if c.args.case.now c.args.hv k v.step v.own.now v.ends.now found).0)) (sym c.in-Junction.is)
    (state_told c.args.case.now c.args.hv c.in-Junction.demand c.in-Junction.start c.demand_at.result v.step v.own.now v.ends.now found c.calm_junction.result c.calm_junction.new.points c.demand_at.ensures.value e)

pub returns-else-not-is_closed-clause-points : goal.returns-else-not-is_closed-clause-points
returns-else-not-is_closed-clause-points c =
    let v = c.args.view.now in
    let found = arrivals_from c.args.case.now.friction c.args.mesh.now v.ends.now c.args.near.now in
    let fd : FitsSigned w64 c.demand_at.result = record { sfits = c.demand_at.type_inv } in
    let e = simp (to_z-of_z, c.ranges.hv, fd) at c.calm_junction.ensures.junction in
    subst (λ (k : NodeKind). IfSome c.calm_junction.result (λ (s : NodeState). c.calm_junction.new.points ≡ (law_if c.args.case.now c.args.hv k v.step v.own.now v.ends.now found).1)) (sym c.in-Junction.is)
    (points_told c.args.case.now c.args.hv c.in-Junction.demand c.in-Junction.start c.demand_at.result v.step v.own.now v.ends.now found c.calm_junction.result c.calm_junction.new.points c.demand_at.ensures.value e)
