use Rattle.std.proofs.Common.{◌≡◌, ℕ, ◌<◌, ◌≤◌, true, false, length, get_or, vec_capacity, Some}
use mathlib.Core.Option.{some}
use lib.ListN.{get_elem?}
use Rattle.std.specs.Mem.Slots.{slots_items, slots_filled, slots_len}
use Rattle.std.specs.Mem.Slots.Ownership.{Filled}
use Rattle.claimboard.specs.Items.{IsItem, AreItems}
use Rattle.claimboard.proofs.board.Board.close.Given as goal

abbrev pub invariant-loop-i : goal.invariant-loop-i
invariant-loop-i g l = record {
  full : Filled (slots_filled l.closed.slots) l.i (slots_len l.closed.slots);
  taken : (k : ℕ) → k < l.i → get_or (slots_filled l.closed.slots) k false ≡ false;
  slots : slots_len l.closed.slots ≡ l.count;
  room : l.count ≤ vec_capacity l.items;
  count : length l.items.items ≡ l.i;
  items : AreItems g.T.Item.number_of g.T.Item.is_finished g.T.Item.is_good l.fn.self.table.shared.key.value true l.items.items;
  rest : (k : ℕ) → k < l.count → (x : g.row.T.Denot) × (get_elem? (slots_items l.closed.slots) k ≡ some (Some x)) × IsItem g.T.Item.number_of g.T.Item.is_finished g.T.Item.is_good l.fn.self.table.shared.key.value k true x;
}
