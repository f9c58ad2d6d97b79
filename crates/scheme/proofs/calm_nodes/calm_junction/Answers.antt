use Rattle.std.proofs.Common.{arith, to_z-of_z, refl, ◌≤◌, ◌≡◌, ◌≤ℤ◌, ℤ, FitsSigned, unsigned_abs, w64, rules}
use Rattle.std.proofs.lemmas.Int.{ints, to_z-of_z as read}
use Rattle.junctions.specs.Junctions.{junction_head}
use Rattle.scheme.specs.Values.{rule_at}
use Rattle.scheme.specs.Arrivals.{arrivals_from}
use Rattle.scheme.proofs.CalmJunctions.{junction_told}
use Rattle.scheme.proofs.calm_nodes.calm_junction.Goals as goal

pub returns-then-put_level-clause-junction : goal.returns-then-put_level-clause-junction
unfolding junction_head
returns-then-put_level-clause-junction c =
    let head : ℤ = c.level-head.result in
    let held = c.args.held in
    let arrivals = c.gather_few.new.arrivals in
    let v = c.args.view.now in
    let fh : FitsSigned w64 head = record { sfits = c.level-head.type_inv } in
    let fd : FitsSigned w64 held.demand = search rules in
    let fv : FitsSigned w64 held.hv = search rules in
    let flows = simp (to_z-of_z, fh) at (c.if-put_level.ensures.flows refl) in
    let points = simp (to_z-of_z, fh) at (c.if-put_level.ensures.points refl) in
    let heads = c.in-Some.ensures.heads in
    let weights = c.in-Some.ensures.weights in
    let e : junction_head held.demand arrivals ≡ head = grind (arith, to_z-of_z, c.level-head.ensures.value, heads, weights) in
    let above : held.hv ≤ℤ head = grind (arith, ints, to_z-of_z, c.if-head-held.false) in
    let near : unsigned_abs head ≤ 100000000000 = grind (arith, to_z-of_z, c.unsigned_abs.ensures.value, c.if-unsigned_abs-gt100000000000.false) in
    rw (read w64 head fh)
    (junction_told (rule_at c.args.case.now held.hv) held.demand v.own.now v.ends.now (arrivals_from c.args.case.now.friction c.args.mesh.now v.ends.now c.args.near.now) arrivals head c.put_level.new.points
    c.requires.closed c.in-Some.ensures.arrived e above near flows points)
