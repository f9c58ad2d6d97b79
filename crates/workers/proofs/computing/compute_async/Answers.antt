-- The folds of the strands are still parts of the whole one, and with all strands done it stands
-- for all rows.
use Rattle.std.proofs.Common.{◌*◌, ◌≤◌, ◌∙◌, [], ◌∷◌, ap, subst, sym}
use Rattle.case_model.specs.declared.meshes.Mesh.{Mesh}
use Rattle.regions.specs.LaidOut.{IsLaidOut}
use Rattle.regionrun.specs.Gathering.{AreDone, AreParts}
use Rattle.regionrun.proofs.Merging.{done-of, parts-later}
use Rattle.workers.proofs.computing.compute_async.Goals as goal

pub gather-requires : goal.gather-requires
gather-requires g c = record {
  fits = subst (AreParts c.args.into.now) (sym c.deref.ensures.value)
      (parts-later c.args.into.now c.in_ok-strands.strands.items c.in_ok-ran.ran.strands.items
      (c.in_ok-strands.ensures.parts c.args.into.now c.requires.given)
      c.in_ok-ran.ensures.folds);
}

pub returns-clause-told : goal.returns-clause-told
returns-clause-told g c =
    let law = g.L.Law.meaning c.args.law.now in
    let layout = c.args.survey.now.layout.now in
    let laid_out : IsLaidOut layout law.mesh =
    subst (IsLaidOut layout) c.requires.mesh
    record { case = c.args.survey.now.case.now; cut = c.requires.survey.cut } in
    c.gather.ensures.stands law layout
    (subst (AreDone law layout) (sym c.deref.ensures.value)
    (done-of g.G.Stub.EntryStub.strand_of g.G.Stub.EntryStub.entered_of law layout
    c.in_ok-ran.ran.strands.items laid_out c.in_ok-ran.ensures.done))
    (subst (λ k. k ≤ layout.windows * layout.window) (sym c.requires.given.steps_are)
    (c.layouts_are_sound.ensures.steps c.args.survey.now.case.now layout
    c.args.survey.now.mesh.now c.requires.survey.cut))
    (c.requires.given.spans_are ∙ ap (λ (m : Mesh). (0, m.places) ∷ []) c.requires.mesh)
    c.requires.fresh
