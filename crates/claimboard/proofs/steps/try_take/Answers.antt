use Rattle.std.proofs.Common.{rules}
use Rattle.claimboard.proofs.Moves.{claims}
use Rattle.claimboard.proofs.steps.try_take.Goals as goal

pub compare_exchange-requires : goal.compare_exchange-requires
compare_exchange-requires g c = (
  search rules,
  search rules,
  claims g.T.Item.number_of g.T.Item.is_finished g.T.Item.is_good c.args.top.now.key.value c.args.top.now.table_id.slots c.args.seat.now.id c.args.seat.now.me c.args.number c.args.by
      c.requires.on_board.0 c.requires.empty_handed.1 c.requires.empty_handed.0 c.requires.by.0,
)
