use Rattle.std.proofs.Common.{rules}
use Rattle.claimboard.proofs.Dealing.{copies}
use Rattle.claimboard.proofs.board.Board.all_finished.Goals as goal

pub split_seat-seat-requires : goal.split_seat-seat-requires
split_seat-seat-requires g c = (
  search rules,
  search rules,
  copies g.T.Item.number_of g.T.Item.is_finished g.T.Item.is_good c.args.self.now.table.shared.key.value c.find_all_finished.new.seat.id c.find_all_finished.new.seat.me.0,
)
