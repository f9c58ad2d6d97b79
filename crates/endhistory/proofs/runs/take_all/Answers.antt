use Rattle.std.proofs.Common.{arith, ◌+◌, ◌<◌, ◌≡◌, ◌≤◌, length, ap, ◌∙◌, ℕ}
use Rattle.std.proofs.lemmas.List.{ext_get_or, length-set}
use Rattle.endhistory.specs.Blocks.{block, word_count}
use Rattle.endhistory.specs.Seats.{blocks_of}
use Rattle.endhistory.proofs.InARow.{take_next, take_left, loaded_more}
use Rattle.endhistory.proofs.runs.take_all.Goals as goal

pub load-requires : goal.load-requires
load-requires c =
    let top = c.args.top.now in
    let z = c.args.sizes in
    let i = c.loop-i.i in
    let start = c.slot_start-start in
    let inv = c.loop-i.invariant in
    let words : top.table_id.words ≡ word_count z = c.requires.at.0.words in
    let wide : length c.args.into.now ≡ z.width = c.requires.wide.0 in
    let inside : i < length c.args.into.now = c.loop-i-test.true in
    let within : start.result + z.width ≤ word_count z = start.ensures.within in (
      inv.0.0 ∙ c.requires.at.0.table,
      omega arith,
      take_next z top.key c.requires.at.2 top.table_id.slots c.args.seat.now c.loop-i.seat i (start.result + i) c.args.next inv.0 c.requires.reader.1 c.requires.reader.3 (omega arith) (ap (λ (k : ℕ). k + i) start.ensures.start),
    )

pub loop-i-preserved : goal.loop-i-preserved
loop-i-preserved c =
    let i = c.loop-i.i in
    let inv = c.loop-i.invariant in
    let e = c.load.ensures in
    let inside : i < length c.args.into.now = c.loop-i-test.true in
    let same : length c.loop-i.into ≡ length c.args.into.now = inv.1 in
    let left = take_left c.args.seat.now c.loop-i.seat c.load.new.seat i (c.slot_start-start.result + i) c.args.next c.load.result c.args.top.now.table_id.slots inv.0 c.requires.reader.1 e.0 e.1 e.2 in
    (left.0, length-set c.loop-i.into i c.load.result ∙ same, loaded_more c.loop-i.into (block (blocks_of c.args.seat.now) c.args.next) i c.load.result (omega arith) left.1 inv.2)

pub returns-clause-words : goal.returns-clause-words
returns-clause-words c =
    let inv = c.loop-i.invariant in
    let same : length c.loop-i.into ≡ length c.args.into.now = inv.1 in
    let wide : length c.args.into.now ≡ c.args.sizes.width = c.requires.wide.0 in
    let all : length c.args.into.now ≤ c.loop-i.i = omega (arith, c.loop-i-test.false) in
    ext_get_or 0 c.loop-i.into (block (blocks_of c.args.seat.now) c.args.next) (omega (arith, c.requires.wide.1)) (λ j l. inv.2 j (omega arith))
