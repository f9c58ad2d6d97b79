use Rattle.std.proofs.Common.{◌∙◌, ap, length, refl, sym}
use Rattle.std.specs.Vec.{with_items}
use Rattle.std.proofs.lemmas.List.{with_items_is}
use Rattle.runners.specs.Runners.{number_in}
use Rattle.runners.proofs.Found.{looked-by}
use Rattle.runners.proofs.Going.{reading-on}
use Rattle.runners.proofs.Looking.{readers-looked}
use Rattle.runners.proofs.runners.Runner.find_late.Goals as goal

pub returns-clause-good : goal.returns-clause-good
returns-clause-good g c =
    let old = c.args.self.now in
    let run = c.requires.good.running in
    let law = g.L.Law.meaning c.args.tag.now.law.now in
    let layout = c.args.tag.now.layout.now in
    let new = c.look_beside.new.readers in
    reading-on g.L.Law.meaning g.S.EntryStub.strand_of g.S.EntryStub.entered_of c.args.tag.now
    old (with_items old.readers new) c.requires.good
    (readers-looked law layout c.args.tag.now.histories.now old.number (number_in old) _
    c.deref_mut.result.now old.readers.items new (with_items old.readers new).items
    run.number_is c.deref_mut.ensures.value
    (with_items_is old.readers new (c.look_beside.auto.readers ∙ ap length c.deref_mut.ensures.value
    ∙ sym old.readers.ok.0))
    (λ n. c.look_beside.ensures.readers n) run.readers)

pub returns-clause-answer : goal.returns-clause-answer
returns-clause-answer g c =
    let old = c.args.self.now in
    let run = c.requires.good.running in
    let law = g.L.Law.meaning c.args.tag.now.law.now in
    let layout = c.args.tag.now.layout.now in
    let new = c.look_beside.new.readers in
    looked-by law layout c.args.tag.now.histories.now old
    (record old { readers = with_items old.readers new }) c.look_beside.result old.number
    c.deref_mut.result.now new run.readers
    (sym c.needs_blocks.ensures ∙ c.if-not-needs_blocks.false) refl refl run.number_is
    c.deref_mut.ensures.value
    (with_items_is old.readers new (c.look_beside.auto.readers ∙ ap length c.deref_mut.ensures.value
    ∙ sym old.readers.ok.0))
    c.look_beside.ensures.answer
