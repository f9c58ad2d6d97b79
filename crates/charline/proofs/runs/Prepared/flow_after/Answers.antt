use Rattle.std.proofs.Common.{arith, w64, FitsSigned, ◌-ℤ◌}
use Rattle.std.proofs.lemmas.Int.{ints, fits_signed_from_abs, to_z-of_z}
use Rattle.charline.proofs.runs.Prepared.flow_after.Goals as goal

pub returns-clause-value : goal.returns-clause-value
returns-clause-value c =
    let value = c.requires.minus_in.value in
    let fh = c.ranges.hv in
    let fc : FitsSigned w64 c.args.minus.now.c = fits_signed_from_abs w64 c.args.minus.now.c (omega arith) in
    let fd : FitsSigned w64 (c.args.hv -ℤ c.args.minus.now.c) = fits_signed_from_abs w64 (c.args.hv -ℤ c.args.minus.now.c) (omega (arith, ints, c.requires.head_in)) in
    let fr : FitsSigned w64 c.flow_through.result = record { sfits = c.flow_through.type_inv } in
    rw (to_z-of_z w64 c.flow_through.result fr, c.requires.impeded) (simp to_z-of_z at c.flow_through.ensures.value)
