use Rattle.std.proofs.Common.{rules, arith, true, Some, sym, subst, ap, ◌∙◌, List, Bool, ℕ, ◌≡◌, ◌<◌, ◌+◌, length, get_or, false}
use lib.ListN.{get_elem?}
use Rattle.std.specs.Option.{IsSome}
use Rattle.std.specs.Mem.Slots.{slots_items, slots_filled, slots_len, slots_counts}
use Rattle.std.specs.Mem.Slots.Ownership.{Filled}
use Rattle.claimboard.specs.Items.{IsItem, AreItems}
use Rattle.claimboard.proofs.Dealing.{ends, items_more, taken_is, full_rest, emptied}
use Rattle.claimboard.proofs.Owners.{at_one}
use Rattle.claimboard.proofs.board.Board.close.Goals as goal

pub loop-i-init : goal.loop-i-init
loop-i-init g c =
    let none : length c.in_ok-items.items.items ≡ 0 = search rules in
    record {
      full = search rules;
      taken = λ k l. absurd (omega (arith, l));
      slots = search rules;
      room = search rules;
      count = none;
      items = λ k d l. absurd (omega (arith, l, none));
      rest = λ k l. ends g.T.Item.number_of g.T.Item.is_finished g.T.Item.is_good c.args.self.table.shared.key.value c.args.done.seat.id c.args.done.seat.me.0 _ _ c.close_with-closed.ensures.values.2 k (c.args.done.all.1 k (search rules));
    }

pub unwrap-requires : goal.unwrap-requires
unwrap-requires g c =
    let there = c.loop-i.invariant.rest c.loop-i.i c.loop-i-test.true in
    subst IsSome (at_one (slots_items c.loop-i.closed.slots) c.loop-i.i c.loop-i.i (Some there.0) c.take.result (search rules) there.1 c.take.ensures.value) (search rules)

pub loop-i-preserved : goal.loop-i-preserved
loop-i-preserved g c =
    let now = c.loop-i.invariant in
    let row = c.loop-i.closed.slots in
    let others = c.take.ensures.others in
    let lt : c.loop-i.i < slots_len row = omega (arith, c.loop-i-test.true, now.slots) in
    let there = now.rest c.loop-i.i c.loop-i-test.true in
    let Kept : List g.row.T.Denot → Type 0 = λ xs. AreItems g.T.Item.number_of g.T.Item.is_finished g.T.Item.is_good c.args.self.table.shared.key.value true xs in
    let item = taken_is g.T.Item.number_of g.T.Item.is_finished g.T.Item.is_good c.args.self.table.shared.key.value true (slots_items row) c.loop-i.i c.take.result there.0 c.unwrap.result there.1 c.take.ensures.value c.unwrap.ensures there.2 in
    let next = subst (λ (k : ℕ). IsItem g.T.Item.number_of g.T.Item.is_finished g.T.Item.is_good c.args.self.table.shared.key.value k true c.unwrap.result) (sym now.count) item in
    record {
      full = subst (λ (n : ℕ). Filled (slots_filled c.take.new.self.slots) (c.loop-i.i + 1) n) (sym others.2) (subst (λ (fs : List Bool). Filled fs (c.loop-i.i + 1) (slots_len row)) (sym others.1) (full_rest (slots_filled row) c.loop-i.i (slots_len row) now.full));
      taken = subst (λ (fs : List Bool). (k : ℕ) → k < c.loop-i.i + 1 → get_or fs k false ≡ false) (sym others.1) (emptied (slots_filled row) c.loop-i.i (omega (arith, lt, (slots_counts row).1)) now.taken);
      slots = others.2 ∙ now.slots;
      room = search rules;
      count = search rules;
      items = subst Kept (sym c.push_reserved.ensures.items) (items_more g.T.Item.number_of g.T.Item.is_finished g.T.Item.is_good c.args.self.table.shared.key.value true c.loop-i.items.items c.unwrap.result now.items next);
      rest = λ k l. let r = now.rest k l in (r.0, ap (λ xs. get_elem? xs k) others.0 ∙ r.1, r.2);
    }
