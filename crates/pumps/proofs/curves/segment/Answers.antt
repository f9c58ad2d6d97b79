use Rattle.std.proofs.Common.{arith, to_z-of_z, FitsSigned, w64, rules, refl, ◌≡◌, ◌-◌, take, drop, length}
use Rattle.std.proofs.lemmas.Grind.{common_steps}
use Rattle.pumps.specs.Pumps.{segment}
use Rattle.pumps.proofs.curves.segment.Goals as goal

pub returns-clause-value : goal.returns-clause-value
unfolding segment
returns-clause-value c =
    let e : FitsSigned w64 c.args.e = search rules in
    let b : FitsSigned w64 c.args.b = search rules in
    let s : FitsSigned w64 c.args.speed = search rules in
    let h = simp to_z-of_z at c.first_spent.ensures in
    let m = c.min.ensures in
    let t : take (length c.args.curve.now - 1) (drop 1 c.args.curve.now) ≡ drop 1 c.args.curve.now = grind (arith, common_steps) in
    rw (m, h, t) refl
