use Rattle.std.proofs.Common.{arith, ◌+◌, ◌-◌, ◌≡◌}
use Rattle.fixed_num.proofs.Shifts.{reciprocal_of}
use Rattle.fixed_num.proofs.reciprocals.Reciprocal.of.Goals as goal

pub invariant_of-result-clause-exact : goal.invariant_of-result-clause-exact
invariant_of-result-clause-exact c =
    let e : c.scale-shift.result + 1 - 1 ≡ c.scale-shift.result = omega arith in
    rw e (reciprocal_of c.args.divisor c.factor.result c.scale-shift.result c.ranges.divisor c.requires.low c.requires.even
    c.scale-shift.ensures.small c.scale-shift.ensures.within c.factor.ensures.fits c.factor.ensures.above c.factor.ensures.near)
