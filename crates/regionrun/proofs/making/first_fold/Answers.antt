use Rattle.std.proofs.Common.{◌≡◌, subst}
use Rattle.case_model.specs.declared.meshes.Mesh.{Mesh}
use Rattle.envelope.specs.Folds.{spans_of}
use Rattle.regions.specs.Sides.{shape_at}
use Rattle.regionrun.proofs.ByKind.{body-noted, body-placed}
use Rattle.regionrun.proofs.Made.{stands-first}
use Rattle.regionrun.specs.Lawful.{IsLawful}
use Rattle.regionrun.specs.Right.{strand_spans}
use Rattle.regionrun.proofs.making.first_fold.Goals as goal

pub note_first-requires-clause-noted : goal.note_first-requires-clause-noted
note_first-requires-clause-noted g c κs within =
    let law = g.L.Law.meaning c.args.law.now in
    let layout = c.args.survey.now.layout.now in
    let shape = shape_at layout c.args.number in
    let keeps = c.requires.keeps in
    let spans : spans_of c.in_ok-fold.fold ≡ strand_spans law.mesh layout.window shape =
    subst (λ (mesh : Mesh). spans_of c.in_ok-fold.fold ≡ strand_spans mesh layout.window shape)
    c.requires.mesh c.in_ok-fold.ensures.given.spans_are in
    body-noted layout law.mesh c.args.number c.args.body.now c.in_ok-fold.fold
    (subst (IsLawful layout) c.requires.mesh c.standing.ensures.lawful) c.requires.there
    (body-placed law layout.window 0 shape c.args.body.now keeps.places keeps.points)
    spans

pub returns-clause-stands : goal.returns-clause-stands
returns-clause-stands g c =
    let law = g.L.Law.meaning c.args.law.now in
    let layout = c.args.survey.now.layout.now in
    let old = c.in_ok-fold.fold in
    let new = c.note_first.new.fold in
    stands-first law layout c.args.number c.args.body.now old new
    (subst (IsLawful layout) c.requires.mesh c.standing.ensures.lawful) c.requires.there
    c.requires.keeps.places c.requires.keeps.points (c.stands_for_equal_maps.ensures old)
    (c.stands_for_equal_maps.ensures new) c.in_ok-fold.ensures.fresh c.note_first.ensures.stands
