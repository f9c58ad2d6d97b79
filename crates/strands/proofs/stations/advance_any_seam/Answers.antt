use Rattle.std.proofs.Common.{◌≡◌, ◌+◌, ◌-◌, ap, refl, subst, sym, arith}
use Rattle.envelope.specs.Cells.{AreInOneSpan}
use Rattle.envelope.specs.Folds.{spans_of}
use Rattle.strands.specs.Sections.{IsAdvanced}
use Rattle.strands.specs.Stations.{half, seam_front, seam_since}
use Rattle.strands.proofs.Advancing.{advanced-none}
use Rattle.strands.proofs.Marking.{same-line}
use Rattle.strands.proofs.Fans.{seam-more, triangles-same, within-triangles}
use Rattle.strands.proofs.stations.advance_any_seam.Goals as goal

pub loop-k-init : goal.loop-k-init
loop-k-init g c =
    advanced-none (g.L.Law.meaning c.args.law.now) (seam_since c.args.window c.args.start) (seam_front c.args.window c.args.start 0)
    (seam_front c.args.window c.args.start 0) c.args.stretch.now c.args.fold.now c.requires.holds (λ x l. refl)

pub advance_run-requires-clause-line : goal.advance_run-requires-clause-line
advance_run-requires-clause-line g c κs within =
    same-line (g.L.Law.meaning c.args.law.now) c.args.stretch.now c.loop-k.stretch c.loop-k.invariant.same c.requires.line

pub advance_run-requires-clause-noted : goal.advance_run-requires-clause-noted
advance_run-requires-clause-noted g c κs within =
    let w = c.args.window in
    let most = c.min-most.result in
    let h : c.div_ceil-half.result ≡ half w = omega (arith, c.div_ceil-half.ensures) in
    subst (λ z. AreInOneSpan (spans_of c.loop-k.fold) (c.loop-k.stretch.number + (z - most)) (z + most + 1 - (z - most))) (sym h)
    (within-triangles w c.loop-k.k most c.loop-k.stretch c.loop-k.fold c.loop-k-test.true c.min-most.ensures
    (triangles-same w c.args.stretch.now c.loop-k.stretch c.args.fold.now c.loop-k.fold c.loop-k.invariant.same c.loop-k.invariant.same_fold c.requires.noted))

pub advance_run-requires-clause-before_last : goal.advance_run-requires-clause-before_last
advance_run-requires-clause-before_last g c κs within =
    omega (arith, c.div_ceil-half.ensures, c.min-most.ensures, c.requires.size, c.loop-k.invariant.same.count_is, c.loop-k-test.true)

pub loop-k-preserved : goal.loop-k-preserved
loop-k-preserved g c =
    let w = c.args.window in
    let most = c.min-most.result in
    let h : c.div_ceil-half.result ≡ half w = omega (arith, c.div_ceil-half.ensures) in
    seam-more (g.L.Law.meaning c.args.law.now) w c.args.start c.loop-k.k most (c.div_ceil-half.result - most) (c.div_ceil-half.result + most + 1)
    c.args.stretch.now c.loop-k.stretch c.advance_run.new.stretch c.args.fold.now c.loop-k.fold c.advance_run.new.fold
    c.requires.size c.loop-k-test.true c.min-most.ensures (ap (λ z. z - most) h) (ap (λ z. z + most + 1) h)
    c.loop-k.invariant c.advance_run.ensures.advanced

pub returns : goal.returns
returns g c =
    let w = c.args.window in
    let s = c.args.start in
    let e : c.loop-k.k ≡ w = omega (arith, c.loop-k-test.false, c.loop-k.auto.k-end) in
    subst (λ z. IsAdvanced (g.L.Law.meaning c.args.law.now) (seam_since w s) (seam_front w s 0) (seam_front w s z)
    c.args.stretch.now c.loop-k.stretch c.args.fold.now c.loop-k.fold) e c.loop-k.invariant
