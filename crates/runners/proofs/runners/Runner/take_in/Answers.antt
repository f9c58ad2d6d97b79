use Rattle.std.proofs.Common.{ℕ, ◌+◌, ◌∙◌, ap, length, subst, sym}
use Rattle.std.specs.Vec.{with_items}
use Rattle.std.proofs.lemmas.List.{with_items_is}
use Rattle.regions.specs.Needs.{needs_of}
use Rattle.regions.specs.Sides.{is_section}
use Rattle.runners.specs.Runners.{IsRunning, computed_in, number_in}
use Rattle.runners.proofs.Going.{more-to-do, taken-in}
use Rattle.runners.proofs.Needing.{needs-none, none-of}
use Rattle.runners.proofs.Passing.{all-on, all-to-take}
use Rattle.runners.proofs.runners.Runner.take_in.Goals as goal

pub take_all-requires-clause-readers : goal.take_all-requires-clause-readers
take_all-requires-clause-readers g c κs within =
    let old = c.args.self.now in
    let run = c.requires.running in
    all-to-take (g.L.Law.meaning c.args.tag.now.law.now) c.args.tag.now.layout.now
    c.args.tag.now.histories.now old.strand.frontier c.deref_mut.result.now old.readers.items
    c.deref_mut.ensures.value run.readers (sym c.needs_blocks.ensures ∙ c.if-needs_blocks.true)
    (more-to-do g.L.Law.meaning g.S.EntryStub.strand_of g.S.EntryStub.entered_of c.args.tag.now
    _ _ old run c.requires.unfinished)
    c.requires.seen

pub returns-then-needs_blocks-clause-running : goal.returns-then-needs_blocks-clause-running
returns-then-needs_blocks-clause-running g c =
    let old = c.args.self.now in
    let run = c.requires.running in
    let law = g.L.Law.meaning c.args.tag.now.law.now in
    let layout = c.args.tag.now.layout.now in
    let new = c.take_all.new.readers in
    taken-in g.L.Law.meaning g.S.EntryStub.strand_of g.S.EntryStub.entered_of c.args.tag.now old
    c.take_all.new.strand (with_items old.readers new) _ run c.take_all.ensures.right
    c.take_all.ensures.same c.take_all.ensures.stub
    (all-on law layout c.args.tag.now.histories.now (number_in old) (computed_in old)
    c.deref_mut.result.now old.readers.items new (with_items old.readers new).items
    c.deref_mut.ensures.value
    (with_items_is old.readers new (c.take_all.auto.readers ∙ ap length c.deref_mut.ensures.value
    ∙ sym old.readers.ok.0))
    (sym c.needs_blocks.ensures ∙ c.if-needs_blocks.true) (λ b. c.take_all.ensures.readers b)
    run.readers)

pub returns-else-needs_blocks-clause-running : goal.returns-else-needs_blocks-clause-running
returns-else-needs_blocks-clause-running g c =
    let old = c.args.self.now in
    let kind = is_section c.args.tag.now.layout.now (number_in old) in
    let m : ℕ = computed_in old in
    subst (λ (k : ℕ). IsRunning g.L.Law.meaning g.S.EntryStub.strand_of g.S.EntryStub.entered_of
    c.args.tag.now (m + 1) k old)
    (sym (needs-none kind m (none-of (needs_of kind m)
    (sym c.needs_blocks.ensures ∙ c.if-needs_blocks.false))))
    c.requires.running
