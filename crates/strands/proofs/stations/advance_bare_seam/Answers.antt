use Rattle.std.proofs.Common.{◌≡◌, ◌+◌, arith, refl, subst, sym}
use Rattle.fronts.specs.Fronts.{Raises}
use Rattle.fronts.specs.Stretches.{count_of}
use Rattle.strands.specs.Sections.{IsAdvanced}
use Rattle.strands.specs.Stations.{seam_front, seam_since}
use Rattle.strands.proofs.Advancing.{advanced-none}
use Rattle.strands.proofs.Fans.{seam-more, seam-noted, triangles-same}
use Rattle.strands.proofs.Marking.{same-line}
use Rattle.strands.proofs.stations.advance_bare_seam.Goals as goal

pub advance_place-requires-clause-noted : goal.advance_place-requires-clause-noted
advance_place-requires-clause-noted g c κs within =
    seam-noted c.args.window c.args.stretch.now c.args.fold.now c.requires.two c.requires.noted

pub advance_place-requires-2-clause-line : goal.advance_place-requires-2-clause-line
advance_place-requires-2-clause-line g c κs within =
    same-line (g.L.Law.meaning c.args.law.now) c.args.stretch.now c.advance_place.new.stretch
    c.advance_place.ensures.same c.requires.line

pub advance_place-requires-2-clause-noted : goal.advance_place-requires-2-clause-noted
advance_place-requires-2-clause-noted g c κs within =
    let now = c.advance_place.new in
    seam-noted c.args.window now.stretch now.fold c.requires.two
    (triangles-same c.args.window c.args.stretch.now now.stretch c.args.fold.now now.fold
    c.advance_place.ensures.same c.advance_place.ensures.same_fold c.requires.noted)

pub returns : goal.returns
returns g c =
    let law = g.L.Law.meaning c.args.law.now in
    let w = c.args.window in
    let s = c.args.start in
    let old = c.args.stretch.now in
    let mid = c.advance_place.new.stretch in
    let new = c.advance_place-2.new.stretch in
    let first = c.args.fold.now in
    let second = c.advance_place.new.fold in
    let third = c.advance_place-2.new.fold in
    let two : w ≡ 2 = c.requires.two in
    let now : s ≡ s + 0 = omega arith in
    let before = advanced-none law (seam_since w s) (seam_front w s 0) (seam_front w s 0) old first
    c.requires.holds (λ x l. refl) in
    let half = seam-more law w s 0 0 1 2 old old mid first first second c.requires.size
    (omega arith) (omega arith) (omega arith) (omega arith) before
    (λ since front later r h. c.advance_place.ensures.advanced since front later
    (subst (λ t. Raises t (λ x. x) 1 2 (count_of old) since front later) (sym now) r) h) in
    let whole = seam-more law w s 1 0 1 2 old mid new first second third c.requires.size
    (omega arith) (omega arith) (omega arith) (omega arith) half c.advance_place-2.ensures.advanced in
    subst (λ z. IsAdvanced law (seam_since w s) (seam_front w s 0) (seam_front w s z) old new first
    third) (sym two) whole
