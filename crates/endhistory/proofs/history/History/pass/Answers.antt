use Rattle.std.proofs.Common.{arith, ◌+◌, ◌<◌, ◌≡◌, ap, ◌∙◌}
use Rattle.endhistory.specs.declared.views.Sizes.{Sizes}
use Rattle.endhistory.specs.Tells.{Here}
use Rattle.endhistory.specs.Blocks.{word_count}
use Rattle.endhistory.specs.Steps.{PassNeeds}
use Rattle.endhistory.specs.Seats.{reading, number_of}
use Rattle.endhistory.proofs.StepsAllowed.{passes}
use Rattle.endhistory.proofs.history.History.pass.Goals as goal

pub store-requires : goal.store-requires
store-requires c =
    let history = c.args.self.now in
    let shared = history.table.shared in
    let reader = c.args.reader.now in
    let seat = reader.seat in
    let words : shared.table_id.words ≡ word_count history.sizes = c.requires.at.words in
    let readers : seat.me.0.sizes.readers ≡ history.sizes.readers = ap (λ (z : Sizes). z.readers) c.requires.at.sizes in
    let inside : reader.number < seat.me.0.sizes.readers = reader.inside in
    let needs : PassNeeds shared.key (number_of seat) (reading seat) (1 + reader.number) (reader.next + 1) = record {
      full = c.requires.fetched ∙ ap (λ (z : Sizes). z.width) history.keyed;
      place = ap (λ k. 1 + k) reader.counted.1;
      word_is = ap (λ k. k + 1) reader.counted.0;
    } in
    (c.requires.at.table, omega arith, passes shared.key shared.table_id.slots seat.id seat.me (number_of seat) (reading seat) (1 + reader.number) (reader.next + 1) (ap (λ (m : Here). m.0.role) reader.reads) needs)
