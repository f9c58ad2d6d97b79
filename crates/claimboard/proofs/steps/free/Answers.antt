use Rattle.std.proofs.Common.{rules}
use Rattle.claimboard.proofs.Moves.{frees}
use Rattle.claimboard.proofs.steps.free.Goals as goal

pub store-requires : goal.store-requires
store-requires g c =
    let item = c.requires.in_slot in (
      search rules,
      search rules,
      frees g.T.Item.number_of g.T.Item.is_finished g.T.Item.is_good c.args.top.now.key.value c.args.top.now.table_id.slots c.args.seat.now.id c.args.seat.now.me c.args.number c.requires.held.1.0 item.0 item.1 c.requires.held.0 c.requires.held.1.1 item.2,
    )
