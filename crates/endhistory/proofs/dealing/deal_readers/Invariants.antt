use Rattle.std.proofs.Common.{◌≡◌, length, map}
use Rattle.std.specs.Prelude.{All}
use Rattle.std.specs.List.{range_with_len}
use Rattle.endhistory.specs.declared.views.Role.TheVariants.{Nobody}
use Rattle.endhistory.specs.Tells.{in_role}
use Rattle.endhistory.specs.Seats.{IsNewReader, number_of, blocks_of}
use Rattle.endhistory.proofs.dealing.deal_readers.Given as goal

abbrev pub invariant-loop-number : goal.invariant-loop-number
invariant-loop-number l =
    (l.seat.table_id ≡ l.initial.seat.table_id)
    × (l.seat.me.0 ≡ in_role l.initial.seat.me.0 (Nobody l.number))
    × (length l.readers.items ≡ l.number)
    × All (λ r. IsNewReader l.top.table_id l.fn.sizes (blocks_of l.initial.seat) r.seat) l.readers.items
    × (map (λ r. number_of r.seat) l.readers.items ≡ range_with_len 0 l.number)
