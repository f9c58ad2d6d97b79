use Rattle.std.proofs.Common.{◌≡◌, ◌≤◌, List, ap, arith, length}
use Rattle.regions.specs.declared.shapes.Shape.{Shape}
use Rattle.histories.proofs.opening.strand_count.Goals as goal

pub overflow_cast-result : goal.overflow_cast-result
overflow_cast-result c =
    let whole = (c.layouts_are_lawful.ensures c.args.layout.now c.args.mesh.now c.requires).whole in
    let few : length c.args.layout.now.shapes ≤ 1_000_000 = whole.strands in
    let same : length c.as_slice.result.now ≡ length c.args.layout.now.shapes =
    ap (λ (xs : List Shape). length xs) c.as_slice.ensures in
    omega (arith, few, same)
