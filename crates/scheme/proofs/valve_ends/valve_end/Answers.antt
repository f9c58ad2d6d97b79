use Rattle.scheme.specs.Arrivals.{arrivals_from}
use Rattle.scheme.proofs.ValveEnds.{sole_arrival, valve_told}
use Rattle.scheme.proofs.valve_ends.valve_end.Goals as goal

pub returns-in-Some-clause-valve : goal.returns-in-Some-clause-valve
returns-in-Some-clause-valve c = λ case mesh prepared.
    let ends = c.args.view.now.ends.now in
    let near = c.args.near.now in
    let opened = c.args.opened.now in
    valve_told c.args.rule.now opened.valve opened.opening c.args.view.now.own.now ends (arrivals_from case.friction mesh ends near) c.in-Some.arrival c.discharge_law.result c.discharge_law.new.points
    (sole_arrival case.friction mesh ends near c.in-Some.arrival c.requires.one c.requires.near_each (c.in-Some.ensures.value case mesh prepared))
    c.discharge_law.ensures.state c.discharge_law.ensures.points
