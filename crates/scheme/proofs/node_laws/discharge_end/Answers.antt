use Rattle.std.proofs.Common.{ℤ, ap, w64, ◌∙◌}
use Rattle.std.proofs.lemmas.Int.{to_z-of_z}
use Rattle.valves.specs.Discharges.{discharge_flow}
use Rattle.scheme.proofs.Suiting.{only_place}
use Rattle.scheme.proofs.node_laws.discharge_end.Goals as goal

pub returns-clause-flow : goal.returns-clause-flow
returns-clause-flow c =
    let o = to_z-of_z w64 c.args.opening c.ranges.opening in
    only_place c.args.flows.now _ _ c.requires.one
    (c.discharge.ensures.flow ∙ ap (λ (x : ℤ). discharge_flow c.args.rule.now c.args.valve.now x c.args.own.now c.args.arrival.now) o)
