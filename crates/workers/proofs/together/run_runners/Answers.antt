-- What the board and the workers are given, and what the board gives back.
use Rattle.std.specs.Prelude.{◌≡◌, false, length, slice_index_or, vec_len}
use Rattle.std.proofs.Common.{◌∙◌, arith, refl, rules, subst, sym}
use Rattle.claimboard.specs.Items.{AreItems}
use Rattle.claimboard.specs.Views.{IsReady}
use Rattle.regionrun.specs.Lawful.{IsLawful}
use Rattle.runners.specs.Runners.{IsGood, is_finished}
use Rattle.workers.proofs.Boards.{closed, items-of, none-there, same-of}
use Rattle.workers.proofs.Handed.{each-has-room, each-seated}
use Rattle.workers.proofs.together.run_runners.Goals as goal

pub returns-then-is_empty : goal.returns-then-is_empty
returns-then-is_empty g c =
    let zero : vec_len c.args.runners ≡ 0 =
    same-of (vec_len c.args.runners) 0 (sym c.if-is_empty.ensures) in
    let none : length c.args.runners.items ≡ 0 = search rules in
    none-there g.L.Law.meaning g.G.Stub.EntryStub.strand_of g.G.Stub.EntryStub.entered_of
    c.args.tag.now c.args.runners.items none
    c.requires.runners

pub make-requires-clause-few_items : goal.make-requires-clause-few_items
make-requires-clause-few_items g c κs within =
    let lawful : IsLawful c.args.tag.now.layout.now c.args.tag.now.mesh.now =
    c.layouts_are_lawful.ensures c.args.tag.now.layout.now c.args.tag.now.mesh.now
    record { case = c.args.tag.now.case.now; cut = c.requires.tag.cut } in
    omega (arith, lawful.whole.strands, c.requires.runners.each)

pub make-requires-clause-items : goal.make-requires-clause-items
make-requires-clause-items g c κs within =
    let lawful : IsLawful c.args.tag.now.layout.now c.args.tag.now.mesh.now =
    c.layouts_are_lawful.ensures c.args.tag.now.layout.now c.args.tag.now.mesh.now
    record { case = c.args.tag.now.case.now; cut = c.requires.tag.cut } in
    subst (λ t. AreItems (λ r. r.number) is_finished
    (IsGood g.L.Law.meaning g.G.Stub.EntryStub.strand_of g.G.Stub.EntryStub.entered_of) t false
    c.args.runners.items) (sym c.again.ensures)
    (items-of g.L.Law.meaning g.G.Stub.EntryStub.strand_of g.G.Stub.EntryStub.entered_of
    c.args.tag.now c.args.runners.items lawful.steps c.requires.runners)

pub seat_workers-requires-clause-seats : goal.seat_workers-requires-clause-seats
seat_workers-requires-clause-seats g c κs within k d below =
    subst (λ t. IsReady c.in_ok-board.board.table.shared.table_id t
    (slice_index_or c.in_ok-board.seats.items k d).seat) (sym c.in_ok-board.ensures.tag)
    (c.in_ok-board.ensures.seats k d below)

pub work_beside-requires-clause-own_room : goal.work_beside-requires-clause-own_room
work_beside-requires-clause-own_room g c κs within =
    (each-has-room c.args.tag.now.layout.now c.args.tag.now.mesh.now c.widest_block-words.result
    c.in_ok-hands.hands.items c.pop.new.self.items c.pop.new.self.items c.pop.result
    c.unwrap-own.result c.pop.ensures.items c.unwrap-own.ensures refl
    c.widest_block-words.ensures c.in_ok-hands.ensures.room).1

pub work_beside-requires-clause-seats : goal.work_beside-requires-clause-seats
work_beside-requires-clause-seats g c κs within =
    (each-seated c.in_ok-board.board.table.shared.table_id
    c.in_ok-board.board.table.shared.key.value c.in_ok-hands.hands.items c.pop.new.self.items
    c.deref_mut.result.now c.pop.result c.unwrap-own.result c.pop.ensures.items
    c.unwrap-own.ensures c.deref_mut.ensures.value c.in_ok-hands.ensures.seats).0

pub work_beside-requires-clause-room : goal.work_beside-requires-clause-room
work_beside-requires-clause-room g c κs within =
    (each-has-room c.args.tag.now.layout.now c.args.tag.now.mesh.now c.widest_block-words.result
    c.in_ok-hands.hands.items c.pop.new.self.items c.deref_mut.result.now c.pop.result
    c.unwrap-own.result c.pop.ensures.items c.unwrap-own.ensures c.deref_mut.ensures.value
    c.widest_block-words.ensures c.in_ok-hands.ensures.room).0

pub returns : goal.returns
returns g c =
    closed g.L.Law.meaning g.G.Stub.EntryStub.strand_of g.G.Stub.EntryStub.entered_of
    c.args.tag.now c.in_ok-board.board.table.shared.key.value
    c.in_ok-board.board.table.shared.table_id.slots c.close.result
    (c.in_ok-board.ensures.tag ∙ c.again.ensures)
    (c.in_ok-board.ensures.items ∙ c.requires.runners.each) c.close.ensures.count
    c.close.ensures.items
