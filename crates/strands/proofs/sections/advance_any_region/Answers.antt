use Rattle.std.proofs.Common.{◌≡◌, ◌+◌, ◌-◌, ◌/◌, max, arith, subst}
use Rattle.fronts.specs.Fronts.{ever, loaded, swept, tent}
use Rattle.fronts.specs.Stretches.{count_of}
use Rattle.strands.specs.Sections.{IsAdvanced}
use Rattle.strands.proofs.Advancing.{advanced-end, advanced-none, notes-same, region-more}
use Rattle.strands.proofs.Marking.{same-line}
use Rattle.strands.proofs.sections.advance_any_region.Goals.{then-k-window, else-k-window}
use Rattle.strands.proofs.sections.advance_any_region.Goals as goal

pub loop-k-init : goal.loop-k-init
loop-k-init g c =
    let n = count_of c.args.stretch.now - 1 in
    advanced-none (g.L.Law.meaning c.args.law.now) ever (loaded c.args.start c.args.window n) (swept c.args.start c.args.window n (c.args.window / 2 + 1 - 1))
    c.args.stretch.now c.args.fold.now c.requires.holds (λ x l. omega (arith, c.requires.long))

pub advance-requires-clause-line : goal.advance-requires-clause-line
advance-requires-clause-line g c κs within =
    same-line (g.L.Law.meaning c.args.law.now) c.args.stretch.now c.loop-k.stretch c.loop-k.invariant.same c.requires.line

pub advance-requires-clause-noted : goal.advance-requires-clause-noted
advance-requires-clause-noted g c κs within =
    notes-same c.args.stretch.now c.loop-k.stretch c.args.fold.now c.loop-k.fold c.loop-k.invariant.same c.loop-k.invariant.same_fold c.requires.noted

pub loop-k-preserved : goal.loop-k-preserved
loop-k-preserved g c =
    let law = g.L.Law.meaning c.args.law.now in
    let s = c.args.start in
    let w = c.args.window in
    let n = count_of c.args.stretch.now - 1 in
    let k = c.loop-k.k in
    let old = c.args.stretch.now in
    let new = c.advance.new.stretch in
    let low = c.if-k-window.low in
    let size : count_of old ≡ n + 1 = omega (arith, c.requires.long) in
    let e : low ≡ max (w + 1 - k) (k - w) = elim c.if-k-window.branch [
      | then-k-window x ↦ omega (arith, x.low-is, x.if-k-window.true)
      | else-k-window x ↦ omega (arith, x.low-is, x.if-k-window.false)
    ] in
    let j : k ≡ k + 1 - 1 = omega arith in
    subst (λ i. IsAdvanced law ever (loaded s w n) (swept s w n i) old new c.args.fold.now c.advance.new.fold) j
    (region-more law s w n k low old c.loop-k.stretch new c.args.fold.now c.loop-k.fold c.advance.new.fold size
    (omega (arith, c.requires.long)) (omega (arith, c.loop-k.auto.k)) e c.loop-k.invariant c.advance.ensures)

pub returns : goal.returns
returns g c =
    let w = c.args.window in
    let n = count_of c.args.stretch.now - 1 in
    let last : c.count-last.result - 1 ≡ n = omega (arith, c.count-last.ensures) in
    advanced-end (g.L.Law.meaning c.args.law.now) ever (loaded c.args.start w n) (swept c.args.start w n (c.loop-k.k - 1)) (tent (c.args.start + w) n)
    c.args.stretch.now c.loop-k.stretch c.args.fold.now c.loop-k.fold
    (λ x l. (omega arith, omega (arith, c.requires.long, c.loop-k-test.false, last))) c.loop-k.invariant
