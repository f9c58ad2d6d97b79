use Rattle.std.proofs.Common.{◌<◌, w64, FitsSigned, arith}
use Rattle.std.proofs.lemmas.Int.{to_z-of_z}
use Rattle.charline.proofs.Losses64.{losses_told}
use Rattle.charline.proofs.runs.Prepared.quick_loss.Goals as goal

pub returns-clause-value : goal.returns-clause-value
returns-clause-value c =
    let p = c.args.self.now in
    let slow = p.limits.slow in
    let within = c.requires.few in
    let small : c.args.size < 2147483648 = omega arith in
    let fq = c.ranges.q in
    let fn : FitsSigned w64 c.near_loss.result = record { sfits = c.near_loss.type_inv } in
    losses_told c.decided.result p.r p.scaled c.args.size c.args.q c.near_loss.result c.requires.size small p.limits.scaling
    (simp to_z-of_z at c.near_loss.ensures.value) (simp to_z-of_z at c.decided.ensures.far) (simp to_z-of_z at c.decided.ensures.value)
