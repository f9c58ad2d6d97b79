use Rattle.std.proofs.Common.{ℕ, ◌<◌, ◌∙◌, ap, subst, sym}
use Rattle.endhistory.specs.Seats.{reading}
use Rattle.regions.specs.Sides.{back_of, side_of}
use Rattle.runners.proofs.Taking.{reader-of, reader-passed, view-passed, wanted}
use Rattle.runners.proofs.blocks.take_block.Goals as goal

pub fetch-requires-clause-at : goal.fetch-requires-clause-at
fetch-requires-clause-at g c =
    let beside = c.neighbour_at-beside.result in
    let take = c.requires.reader in
    let frontier = c.args.strand.now.frontier in
    let law = g.L.Law.meaning c.args.tag.now.law.now in
    let layout = c.args.tag.now.layout.now in
    (reader-of law layout c.args.tag.now.histories.now frontier.number c.args.side take.block
    beside.strand beside.back beside.history.now c.args.reader.now take.at
    (c.neighbour_at-beside.ensures.strand
    ∙ ap (λ (k : ℕ). side_of layout law.mesh k c.args.side) c.number.ensures)
    (c.neighbour_at-beside.ensures.back
    ∙ ap (λ (k : ℕ). back_of layout law.mesh k c.args.side) c.number.ensures)
    c.neighbour_at-beside.ensures.history).at

pub fetch-requires-clause-ready : goal.fetch-requires-clause-ready
fetch-requires-clause-ready g c =
    let take = c.requires.reader in (
      subst (λ (k : ℕ). k < (reading c.args.reader.now.seat).seen) (sym take.at.next_is) take.seen,
      take.at.none_taken,
    )

pub load-requires-clause-wanted : goal.load-requires-clause-wanted
load-requires-clause-wanted g c κs within =
    let beside = c.neighbour_at-beside.result in
    let take = c.requires.reader in
    let frontier = c.args.strand.now.frontier in
    let law = g.L.Law.meaning c.args.tag.now.law.now in
    let layout = c.args.tag.now.layout.now in
    record {
      layout = layout;
      wanted = wanted law layout c.args.tag.now.histories.now frontier c.args.side beside.strand
          beside.back beside.history.now c.args.reader.now c.fetch.new.into
          c.part_for-words.result.now c.requires.right take
          (c.neighbour_at-beside.ensures.strand
          ∙ ap (λ (k : ℕ). side_of layout law.mesh k c.args.side) c.number.ensures)
          (c.neighbour_at-beside.ensures.back
          ∙ ap (λ (k : ℕ). back_of layout law.mesh k c.args.side) c.number.ensures)
          c.neighbour_at-beside.ensures.within c.neighbour_at-beside.ensures.history
          (c.strands_have_blocks.ensures.each law layout beside.strand take.block take.few)
          (c.blocks_are_their_words.ensures.are law layout beside.strand take.block)
          c.fetch.ensures.words c.part_for-words.ensures;
    }

pub returns-clause-right : goal.returns-clause-right
returns-clause-right g c =
    let beside = c.neighbour_at-beside.result in
    let take = c.requires.reader in
    let frontier = c.args.strand.now.frontier in
    let law = g.L.Law.meaning c.args.tag.now.law.now in
    let layout = c.args.tag.now.layout.now in
    c.load.ensures.right layout
    (wanted law layout c.args.tag.now.histories.now frontier c.args.side beside.strand
    beside.back beside.history.now c.args.reader.now c.fetch.new.into
    c.part_for-words.result.now c.requires.right take
    (c.neighbour_at-beside.ensures.strand
    ∙ ap (λ (k : ℕ). side_of layout law.mesh k c.args.side) c.number.ensures)
    (c.neighbour_at-beside.ensures.back
    ∙ ap (λ (k : ℕ). back_of layout law.mesh k c.args.side) c.number.ensures)
    c.neighbour_at-beside.ensures.within c.neighbour_at-beside.ensures.history
    (c.strands_have_blocks.ensures.each law layout beside.strand take.block take.few)
    (c.blocks_are_their_words.ensures.are law layout beside.strand take.block)
    c.fetch.ensures.words c.part_for-words.ensures)

pub returns-clause-reader : goal.returns-clause-reader
returns-clause-reader g c = λ b at.
    let beside = c.neighbour_at-beside.result in
    let frontier = c.args.strand.now.frontier in
    let law = g.L.Law.meaning c.args.tag.now.law.now in
    let layout = c.args.tag.now.layout.now in
    reader-passed law layout c.args.tag.now.histories.now frontier.number c.args.side b
    beside.strand beside.history.now.sizes.width beside.history.now c.args.reader.now
    c.fetch.new.reader c.pass.new.reader at
    (c.neighbour_at-beside.ensures.strand
    ∙ ap (λ (k : ℕ). side_of layout law.mesh k c.args.side) c.number.ensures)
    (subst (λ (k : ℕ). beside.strand < k) (sym c.requires.tag.histories.each)
    c.neighbour_at-beside.ensures.there)
    c.neighbour_at-beside.ensures.history c.pass.ensures.at c.pass.ensures.blocks
    c.fetch.ensures.blocks c.pass.ensures.number c.fetch.ensures.number c.fetch.ensures.view
    c.pass.ensures.view

pub returns-clause-passed : goal.returns-clause-passed
returns-clause-passed g c =
    view-passed c.neighbour_at-beside.result.history.now.sizes.width
    (reading c.args.reader.now.seat) (reading c.fetch.new.reader.seat)
    (reading c.pass.new.reader.seat) c.fetch.ensures.view c.pass.ensures.view
