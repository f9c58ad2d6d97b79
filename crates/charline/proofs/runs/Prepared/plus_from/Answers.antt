use Rattle.std.proofs.Common.{arith, subst, w64, FitsSigned}
use Rattle.std.proofs.lemmas.Int.{to_z-of_z}
use Rattle.case_model.specs.Range.{InRange, IsPoint}
use Rattle.charline.proofs.Calm.{double, left_plus}
use Rattle.charline.proofs.runs.Prepared.plus_from.Goals as goal

pub returns-in-Good-clause-value : goal.returns-in-Good-clause-value
returns-in-Good-clause-value c =
    let p = c.args.self.now in
    let at = c.in-Good in
    let value = c.both.result.plus in
    let range : InRange at.h at.qu at.qd at.v = subst IsPoint at.is c.requires in
    let fh : FitsSigned w64 at.h = double at.h (omega (arith, range.head)) in
    let fq : FitsSigned w64 at.qd = double at.qd (omega (arith, range.down)) in
    let is = c.both.ensures.plus in
    let fv : FitsSigned w64 value = double value is.size in
    left_plus p.b p.r at.h at.qu at.qd at.v value c.args.from.now c.arrival.result at.is (simp to_z-of_z at is)
    (rw (to_z-of_z w64 value fv) at c.arrival.ensures.value) c.arrival.ensures.impedance c.arrival.ensures.range
