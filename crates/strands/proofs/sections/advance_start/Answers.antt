use Rattle.std.proofs.Common.{◌≡◌, ◌+◌, ◌-◌, arith, subst, sym}
use Rattle.fronts.specs.Bands.{from_ends}
use Rattle.fronts.specs.Fronts.{Raises, ever, risen, tent}
use Rattle.fronts.specs.Stretches.{count_of}
use Rattle.strands.specs.Sections.{IsAdvanced}
use Rattle.strands.proofs.Advancing.{advanced-end, advanced-none, notes-same, start-more}
use Rattle.strands.proofs.Marking.{same-line}
use Rattle.strands.proofs.sections.advance_start.Goals as goal

pub loop-k-init : goal.loop-k-init
loop-k-init g c =
    let n = count_of c.args.stretch.now - 1 in
    advanced-none (g.L.Law.meaning c.args.law.now) ever (risen n 0) (risen n (1 - 1))
    c.args.stretch.now c.args.fold.now c.requires.holds (λ x l. omega arith)

pub advance-requires-clause-line : goal.advance-requires-clause-line
advance-requires-clause-line g c κs within =
    same-line (g.L.Law.meaning c.args.law.now) c.args.stretch.now c.loop-k.stretch c.loop-k.invariant.same c.requires.line

pub advance-requires-clause-noted : goal.advance-requires-clause-noted
advance-requires-clause-noted g c κs within =
    notes-same c.args.stretch.now c.loop-k.stretch c.args.fold.now c.loop-k.fold c.loop-k.invariant.same c.loop-k.invariant.same_fold c.requires.noted

pub loop-k-preserved : goal.loop-k-preserved
loop-k-preserved g c =
    let law = g.L.Law.meaning c.args.law.now in
    let n = count_of c.args.stretch.now - 1 in
    let k = c.loop-k.k in
    let old = c.args.stretch.now in
    let new = c.advance.new.stretch in
    let size : count_of old ≡ n + 1 = omega (arith, c.requires.line.long) in
    let j : k ≡ k + 1 - 1 = omega arith in
    let last : c.count-last.result - 1 ≡ n = omega (arith, c.count-last.ensures) in
    subst (λ i. IsAdvanced law ever (risen n 0) (risen n i) old new c.args.fold.now c.advance.new.fold) j
    (start-more law n k old c.loop-k.stretch new c.args.fold.now c.loop-k.fold c.advance.new.fold size
    (omega (arith, c.loop-k.auto.k)) (omega (arith, c.loop-k-test.true, last)) c.loop-k.invariant
    (λ front later ra h. c.advance.ensures front later
    (subst (λ z. Raises (k - 1) (from_ends (count_of c.loop-k.stretch - 1)) k z (count_of c.loop-k.stretch) ever front later) (sym last) ra) h))

pub returns : goal.returns
returns g c =
    let n = count_of c.args.stretch.now - 1 in
    let last : c.count-last.result - 1 ≡ n = omega (arith, c.count-last.ensures) in
    advanced-end (g.L.Law.meaning c.args.law.now) ever (risen n 0) (risen n (c.loop-k.k - 1)) (tent 0 n)
    c.args.stretch.now c.loop-k.stretch c.args.fold.now c.loop-k.fold
    (λ x l. (omega arith, omega (arith, c.requires.line.long, c.loop-k-test.false, last))) c.loop-k.invariant
