use Rattle.std.proofs.Common.{◌*ℤ◌, pos, w64, FitsSigned, arith}
use Rattle.std.proofs.lemmas.Int.{fits_signed_from_abs, to_z-of_z, to_z_pos}
use Rattle.charline.proofs.Sizes.{few_product}
use Rattle.charline.proofs.runs.Prepared.product.Goals as goal

pub overflow_mul-result : goal.overflow_mul-result
overflow_mul-result c =
    let p = c.args.self.now in
    let high = p.limits.high in
    let s = few_product p.b p.few c.args.q c.requires p.limits.product in
    rw (to_z_pos w64 p.b (omega arith), to_z-of_z w64 c.args.q c.ranges.q) (fits_signed_from_abs w64 (pos p.b *ℤ c.args.q) (omega arith))

pub returns-clause-value : goal.returns-clause-value
returns-clause-value c =
    let p = c.args.self.now in
    let high = p.limits.high in
    let s = few_product p.b p.few c.args.q c.requires p.limits.product in
    rw (to_z_pos w64 p.b (omega arith), to_z-of_z w64 c.args.q c.ranges.q) (to_z-of_z w64 (pos p.b *ℤ c.args.q) (fits_signed_from_abs w64 (pos p.b *ℤ c.args.q) (omega arith)))

pub returns-clause-size : goal.returns-clause-size
returns-clause-size c =
    let p = c.args.self.now in
    let high = p.limits.high in
    let s = few_product p.b p.few c.args.q c.requires p.limits.product in
    let f : FitsSigned w64 (pos p.b *ℤ c.args.q) = fits_signed_from_abs w64 (pos p.b *ℤ c.args.q) (omega arith) in
    rw (to_z_pos w64 p.b (omega arith), to_z-of_z w64 c.args.q c.ranges.q, to_z-of_z w64 (pos p.b *ℤ c.args.q) f) s
