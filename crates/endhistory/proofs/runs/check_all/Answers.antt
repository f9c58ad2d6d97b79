use Rattle.std.proofs.Common.{arith, ◌+◌, ◌<◌, ◌≡◌, ◌≤◌, ◌∙◌}
use Rattle.endhistory.specs.Blocks.{word_count}
use Rattle.endhistory.specs.Seats.{writing}
use Rattle.endhistory.proofs.InARow.{check_next, check_made, free_one}
use Rattle.endhistory.proofs.runs.check_all.Goals as goal

pub load-passed-requires : goal.load-passed-requires
load-passed-requires c =
    let top = c.args.top.now in
    let words : top.table_id.words ≡ word_count c.args.sizes = c.requires.at.0.words in
    let l : c.loop-reader.reader < c.args.sizes.readers = c.loop-reader-test.true in
    let inv = c.loop-reader.invariant in
    (inv.0.0 ∙ c.requires.at.0.table, omega arith, check_next c.args.sizes top.key c.requires.at.2 top.table_id.slots c.args.seat.now c.loop-reader.seat c.loop-reader.reader inv.0 l)

pub returns-then-holds_slot-clause-seat : goal.returns-then-holds_slot-clause-seat
returns-then-holds_slot-clause-seat c =
    let inv = c.loop-reader.invariant in
    let e = c.load-passed.ensures in
    (check_made c.args.sizes c.args.seat.now c.loop-reader.seat c.load-passed.new.seat c.loop-reader.reader c.load-passed.result c.args.top.now.table_id.slots inv.0 inv.1 c.requires.writer.2 c.loop-reader-test.true e.0 e.1 e.2).0

pub returns-then-holds_slot-clause-asked : goal.returns-then-holds_slot-clause-asked
returns-then-holds_slot-clause-asked c =
    let inv = c.loop-reader.invariant in
    let e = c.load-passed.ensures in
    let made = check_made c.args.sizes c.args.seat.now c.loop-reader.seat c.load-passed.new.seat c.loop-reader.reader c.load-passed.result c.args.top.now.table_id.slots inv.0 inv.1 c.requires.writer.2 c.loop-reader-test.true e.0 e.1 e.2 in
    (c.loop-reader.reader + 1, made.1.0)

pub returns-then-holds_slot-clause-answer : goal.returns-then-holds_slot-clause-answer
returns-then-holds_slot-clause-answer c =
    let inv = c.loop-reader.invariant in
    let e = c.load-passed.ensures in
    let made = check_made c.args.sizes c.args.seat.now c.loop-reader.seat c.load-passed.new.seat c.loop-reader.reader c.load-passed.result c.args.top.now.table_id.slots inv.0 inv.1 c.requires.writer.2 c.loop-reader-test.true e.0 e.1 e.2 in
    let late : c.load-passed.result + c.args.sizes.slots ≤ c.args.next = c.if-holds_slot.ensures in
    let now : c.args.next ≡ (writing c.args.seat.now).next = c.requires.writer.1 in
    (c.loop-reader-test.true, made.1.1, omega arith, made.1.2, made.1.0)

pub loop-reader-preserved : goal.loop-reader-preserved
loop-reader-preserved c =
    let inv = c.loop-reader.invariant in
    let e = c.load-passed.ensures in
    let made = check_made c.args.sizes c.args.seat.now c.loop-reader.seat c.load-passed.new.seat c.loop-reader.reader c.load-passed.result c.args.top.now.table_id.slots inv.0 inv.1 c.requires.writer.2 c.loop-reader-test.true e.0 e.1 e.2 in
    let enough : c.args.next < c.load-passed.result + c.args.sizes.slots = c.if-holds_slot.ensures in
    let now : c.args.next ≡ (writing c.args.seat.now).next = c.requires.writer.1 in
    (made.0, free_one c.args.sizes (writing c.args.seat.now) (writing c.load-passed.new.seat) c.loop-reader.reader c.load-passed.result (omega arith) made.1)
