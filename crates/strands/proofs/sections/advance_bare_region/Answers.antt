use Rattle.std.proofs.Common.{◌≡◌, ◌+◌, ◌-◌, arith}
use Rattle.fronts.specs.Fronts.{ever, loaded, swept, tent}
use Rattle.fronts.specs.Stretches.{count_of}
use Rattle.strands.proofs.Advancing.{advanced-end, advanced-none, middle-run, middle-noted, notes-same, region-more}
use Rattle.strands.proofs.Marking.{same-line}
use Rattle.strands.proofs.sections.advance_bare_region.Goals as goal

pub advance_place-requires-clause-noted : goal.advance_place-requires-clause-noted
advance_place-requires-clause-noted g c κs within =
    middle-noted c.args.stretch.now c.args.fold.now c.requires.short c.requires.noted

pub advance_place-requires-2-clause-line : goal.advance_place-requires-2-clause-line
advance_place-requires-2-clause-line g c κs within =
    same-line (g.L.Law.meaning c.args.law.now) c.args.stretch.now c.advance_place.new.stretch
    c.advance_place.ensures.same c.requires.line

pub advance_place-requires-2-clause-noted : goal.advance_place-requires-2-clause-noted
advance_place-requires-2-clause-noted g c κs within =
    let now = c.advance_place.new in
    let same = c.advance_place.ensures.same in
    middle-noted now.stretch now.fold (omega (arith, same.count_is, c.requires.short))
    (notes-same c.args.stretch.now now.stretch c.args.fold.now now.fold same
    c.advance_place.ensures.same_fold c.requires.noted)

pub returns : goal.returns
returns g c =
    let law = g.L.Law.meaning c.args.law.now in
    let w = c.args.window in
    let s = c.args.start in
    let old = c.args.stretch.now in
    let n = count_of old - 1 in
    let mid = c.advance_place.new.stretch in
    let new = c.advance_place-2.new.stretch in
    let first = c.args.fold.now in
    let second = c.advance_place.new.fold in
    let third = c.advance_place-2.new.fold in
    let two : w ≡ 2 = c.requires.two in
    let short : count_of old ≡ 3 = c.requires.short in
    let size : count_of old ≡ n + 1 = omega arith in
    let middle : count_of mid ≡ 3 = omega (arith, c.advance_place.ensures.same.count_is) in
    let before = advanced-none law ever (loaded s w n) (swept s w n 1) old first c.requires.holds
    (λ x l. omega arith) in
    let half = region-more law s w n 2 1 old old mid first first second size (omega arith)
    (omega arith) (omega arith) before
    (λ front later r h. c.advance_place.ensures.advanced ever front later
    (middle-run (s + 1) (count_of old) 2 front later short (omega arith) r) h) in
    let whole = region-more law s w n 3 1 old mid new first second third size (omega arith)
    (omega arith) (omega arith) half
    (λ front later r h. c.advance_place-2.ensures.advanced ever front later
    (middle-run (s + 2) (count_of mid) 3 front later middle (omega arith) r) h) in
    advanced-end law ever (loaded s w n) (swept s w n 3) (tent (s + w) n) old new first third
    (λ x l. (omega arith, omega arith)) whole
