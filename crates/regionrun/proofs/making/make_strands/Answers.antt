use Rattle.std.proofs.Common.{◌≡◌, ℕ, ◌<◌, arith, length, refl, subst}
use Rattle.regionrun.specs.Made.{AreNew}
use Rattle.regionrun.proofs.Made.{new-at, new-fold, new-more}
use Rattle.regionrun.proofs.making.make_strands.Goals as goal

pub loop-number-preserved : goal.loop-number-preserved
loop-number-preserved g c =
    let survey = c.args.survey.now in
    new-more g.G.Stub.EntryStub.strand_of g.G.Stub.EntryStub.entered_of survey.case.now
    (g.L.Law.meaning c.args.law.now) survey.layout.now survey.probes.now c.loop-number.number
    c.loop-number.strands.items c.push.new.self.items c.in_ok-strand.strand
    c.loop-number.invariant c.in_ok-strand.ensures c.in_ok-push.ensures.items

pub returns-clause-made : goal.returns-clause-made
returns-clause-made g c =
    let survey = c.args.survey.now in
    let count : c.loop-number.number ≡ length survey.layout.now.shapes =
    omega (
      arith,
      c.loop-number-test.false,
      c.loop-number.auto.number-end,
      c.strand_count-count.ensures,
    ) in
    subst (λ (n : ℕ). AreNew g.G.Stub.EntryStub.strand_of g.G.Stub.EntryStub.entered_of
    survey.case.now (g.L.Law.meaning c.args.law.now) survey.layout.now survey.probes.now n
    c.loop-number.strands.items) count c.loop-number.invariant

pub returns-clause-at : goal.returns-clause-at
returns-clause-at g c =
    let survey = c.args.survey.now in
    new-at g.G.Stub.EntryStub.strand_of g.G.Stub.EntryStub.entered_of survey.case.now
    (g.L.Law.meaning c.args.law.now) survey.layout.now survey.probes.now
    (length survey.layout.now.shapes) c.loop-number.strands.items (returns-clause-made g c) refl

pub returns-clause-parts : goal.returns-clause-parts
returns-clause-parts g c = λ into whole x d here.
    let survey = c.args.survey.now in
    let layout = survey.layout.now in
    let all = returns-clause-made g c in
    let there : x < length layout.shapes = subst (λ (n : ℕ). x < n) all.each here in
    c.strand_folds_are_parts.ensures.part survey.case.now survey.mesh.now layout survey.probes.now
    x into _ c.requires.survey there whole
    (new-fold g.G.Stub.EntryStub.strand_of g.G.Stub.EntryStub.entered_of survey.case.now
    (g.L.Law.meaning c.args.law.now) layout survey.mesh.now survey.probes.now
    (length layout.shapes) x c.loop-number.strands.items d c.requires.mesh all here)
