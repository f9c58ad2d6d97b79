use Rattle.std.proofs.Common.{FitsSigned, w64, ◌*ℤ◌, pos, arith}
use Rattle.std.proofs.lemmas.Int.{to_z-of_z}
use Rattle.charline.proofs.Sizes.{flow_by_twice_below, difference_fits}
use Rattle.charline.proofs.runs.Prepared.flow.Goals as goal

pub returns-clause-size : goal.returns-clause-size
returns-clause-size c =
    let p = c.args.self.now in
    let limits = p.limits in
    let within = c.requires in
    let low = limits.low in
    let few = limits.difference in
    let fd = c.ranges.difference in
    let f : FitsSigned w64 (c.args.difference *ℤ pos 1000000000) = difference_fits c.args.difference (omega arith) in
    let fr : FitsSigned w64 c.divided.result = record { sfits = c.divided.type_inv } in
    rw (to_z-of_z w64 c.divided.result fr) (flow_by_twice_below c.args.difference c.divided.result p.most p.twice.divisor p.b limits.divisor (omega arith) within limits.flow
    (simp to_z-of_z at c.divided.ensures.size))
