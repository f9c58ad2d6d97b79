use Rattle.std.proofs.Common.{◌∙◌, sym, FitsSigned, w64, rules, to_z-of_z}
use Rattle.std.specs.Int.{w128}
use Rattle.reaches.proofs.Deciding.{in_reaches, not_in_reaches}
use Rattle.reaches.proofs.pipes.in_reaches.Goals as goal

pub returns-then-are_coefficients : goal.returns-then-are_coefficients
returns-then-are_coefficients c =
    let f : FitsSigned w64 c.coefficients-b.result.0 = search rules in
    let g : FitsSigned w128 c.coefficients-b.result.1 = search rules in
    let d : FitsSigned w64 c.args.dt = c.ranges.dt in
    let b = simp to_z-of_z at c.coefficients-b.ensures.b in
    let h = simp to_z-of_z at c.are_coefficients.ensures in
    simp to_z-of_z
    (in_reaches c.args.dt c.args.reaches c.args.pipe.now c.coefficients-b.result.0 c.coefficients-b.result.1 c.requires.few b c.coefficients-b.ensures.r (sym h ∙ c.if-are_coefficients.true))

pub returns-else-are_coefficients : goal.returns-else-are_coefficients
returns-else-are_coefficients c =
    let f : FitsSigned w64 c.coefficients-b.result.0 = search rules in
    let g : FitsSigned w128 c.coefficients-b.result.1 = search rules in
    let d : FitsSigned w64 c.args.dt = c.ranges.dt in
    let b = simp to_z-of_z at c.coefficients-b.ensures.b in
    let h = simp to_z-of_z at c.are_coefficients.ensures in
    not_in_reaches c.args.dt c.args.reaches c.args.pipe.now c.coefficients-b.result.0 c.coefficients-b.result.1 b c.coefficients-b.ensures.r (sym h ∙ c.if-are_coefficients.false)
