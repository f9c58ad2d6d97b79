use Rattle.std.proofs.Common.{rules, false, subst, sym}
use Rattle.claimboard.specs.Items.{AreItems}
use Rattle.claimboard.proofs.Dealing.{starts}
use Rattle.claimboard.proofs.board.Board.make.Goals as goal

pub new-requires : goal.new-requires
new-requires g c =
    let Good : g.row.T-Tag.Denot → Type 0 = λ tag. AreItems g.T.Item.number_of g.T.Item.is_finished g.T.Item.is_good tag false c.args.items.items in
    starts g.T.Item.number_of g.T.Item.is_finished g.T.Item.is_good c.of-key.result.value c.args.items.items c.as_slice.result.now c.in_ok-slots.slots.items (search rules) (search rules) (subst Good (sym c.of-key.ensures) c.requires.items)
