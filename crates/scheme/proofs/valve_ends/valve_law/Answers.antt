use Rattle.std.proofs.Common.{rules, to_z-of_z, sym, subst, ◌≡◌, FitsSigned, w64, IfSome}
use Rattle.case_model.specs.declared.cases.NodeKind.{NodeKind}
use Rattle.case_model.specs.declared.states.NodeState.{NodeState}
use Rattle.scheme.specs.Arrivals.{arrivals_from}
use Rattle.scheme.specs.NodeLaws.{law_if}
use Rattle.scheme.specs.NodeLaws.{valve_of}
use Rattle.scheme.specs.Values.{rule_at, value_at}
use Rattle.scheme.proofs.ValveEnds.{same_valve, state_told as valve_state, points_told as valve_points}
use Rattle.scheme.proofs.valve_ends.valve_law.Goals as goal

pub returns-in-Discharge-clause-state : goal.returns-in-Discharge-clause-state
returns-in-Discharge-clause-state c =
    let v = c.args.view.now in
    let found = arrivals_from c.args.case.now.friction c.args.mesh.now v.ends.now c.args.near.now in
    let fo : FitsSigned w64 c.opening_at.result = record { sfits = c.opening_at.type_inv } in
    let told = simp (to_z-of_z, fo) at (c.valve_end.ensures.valve c.args.case.now c.args.mesh.now c.requires.prepared) in
    let rule = simp (to_z-of_z, c.ranges.hv) at c.cavity_rule-rule.ensures.value in
    let valve : c.valve.result ≡ valve_of c.in-Discharge.q0 c.in-Discharge.h0 c.in-Discharge.outlet = search (to_z-of_z, rules) in
    let e = same_valve c.cavity_rule-rule.result (rule_at c.args.case.now c.args.hv) c.valve.result (valve_of c.in-Discharge.q0 c.in-Discharge.h0 c.in-Discharge.outlet)
    c.opening_at.result (value_at c.args.case.now c.in-Discharge.opening v.step) v.own.now v.ends.now found c.valve_end.result c.valve_end.new.points rule valve c.opening_at.ensures.value told in
    subst (λ (k : NodeKind). IfSome c.valve_end.result (λ (s : NodeState). s ≡ (law_if c.args.case.now c.args.hv k v.step v.own.now v.ends.now found).0)) (sym c.in-Discharge.is)
    (valve_state c.args.case.now c.args.hv c.in-Discharge.q0 c.in-Discharge.h0 c.in-Discharge.outlet c.in-Discharge.opening c.in-Discharge.start v.step v.own.now v.ends.now found c.valve_end.result c.valve_end.new.points e)

pub returns-in-Discharge-clause-points : goal.returns-in-Discharge-clause-points
returns-in-Discharge-clause-points c =
    let v = c.args.view.now in
    let found = arrivals_from c.args.case.now.friction c.args.mesh.now v.ends.now c.args.near.now in
    let fo : FitsSigned w64 c.opening_at.result = record { sfits = c.opening_at.type_inv } in
    let told = simp (to_z-of_z, fo) at (c.valve_end.ensures.valve c.args.case.now c.args.mesh.now c.requires.prepared) in
    let rule = simp (to_z-of_z, c.ranges.hv) at c.cavity_rule-rule.ensures.value in
    let valve : c.valve.result ≡ valve_of c.in-Discharge.q0 c.in-Discharge.h0 c.in-Discharge.outlet = search (to_z-of_z, rules) in
    let e = same_valve c.cavity_rule-rule.result (rule_at c.args.case.now c.args.hv) c.valve.result (valve_of c.in-Discharge.q0 c.in-Discharge.h0 c.in-Discharge.outlet)
    c.opening_at.result (value_at c.args.case.now c.in-Discharge.opening v.step) v.own.now v.ends.now found c.valve_end.result c.valve_end.new.points rule valve c.opening_at.ensures.value told in
    subst (λ (k : NodeKind). IfSome c.valve_end.result (λ (s : NodeState). c.valve_end.new.points ≡ (law_if c.args.case.now c.args.hv k v.step v.own.now v.ends.now found).1)) (sym c.in-Discharge.is)
    (valve_points c.args.case.now c.args.hv c.in-Discharge.q0 c.in-Discharge.h0 c.in-Discharge.outlet c.in-Discharge.opening c.in-Discharge.start v.step v.own.now v.ends.now found c.valve_end.result c.valve_end.new.points e)
