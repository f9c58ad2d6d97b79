use Rattle.std.proofs.Common.{rules}
use Rattle.claimboard.proofs.Dealing.{deals}
use Rattle.claimboard.proofs.making.deal_seats.Goals as goal

pub split_seat-seat-requires : goal.split_seat-seat-requires
split_seat-seat-requires g c = (
  search rules,
  search rules,
  deals g.T.Item.number_of g.T.Item.is_finished g.T.Item.is_good c.args.top.now.key.value c.loop-number.dealer.id c.loop-number.dealer.me.0 c.loop-number.number c.loop-number.invariant.next,
)
