use Rattle.std.proofs.Common.{rules}
use Rattle.claimboard.proofs.Moves.{peeks}
use Rattle.claimboard.proofs.steps.peek.Goals as goal

pub load-requires : goal.load-requires
load-requires g c = (
  search rules,
  search rules,
  peeks g.T.Item.number_of g.T.Item.is_finished g.T.Item.is_good c.args.top.now.key.value c.args.top.now.table_id.slots c.args.seat.now.id c.args.seat.now.me c.args.number c.requires.on_board.0,
)
