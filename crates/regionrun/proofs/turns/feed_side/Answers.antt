use Rattle.std.proofs.Common.{◌∙◌, refl, sym}
use Rattle.regionrun.specs.Lent.{lent_tells}
use Rattle.regionrun.proofs.Turning.{feeding, same-itself}
use Rattle.regionrun.proofs.turns.feed_side.Goals as goal

pub load_lent-requires-clause-window : goal.load_lent-requires-clause-window
load_lent-requires-clause-window g c κs within =
    c.requires.window ∙ sym c.requires.right.window_is

pub load_lent-requires-clause-given : goal.load_lent-requires-clause-given
load_lent-requires-clause-given g c κs within =
    let law = g.L.Law.meaning c.args.course.now.law.now in
    let layout = c.args.course.now.layout.now in
    record {
      layout = layout;
      given = feeding law layout c.args.turn.of_sections c.args.turn.region c.args.side c.args.frontier.now
          c.args.frontier.now (lent_tells c.handed-block.result) c.requires.kind c.requires.computed
          c.requires.needed
          record {
            right = c.requires.right;
            same = same-itself c.args.frontier.now;
            computed = refl;
          }
          c.requires.side (λ b need. c.handed-block.ensures.handed b need);
    }

pub returns-clause-right : goal.returns-clause-right
returns-clause-right g c =
    let law = g.L.Law.meaning c.args.course.now.law.now in
    let layout = c.args.course.now.layout.now in
    c.load_lent.ensures.right layout
    (feeding law layout c.args.turn.of_sections c.args.turn.region c.args.side c.args.frontier.now
    c.args.frontier.now (lent_tells c.handed-block.result) c.requires.kind c.requires.computed
    c.requires.needed
    record {
      right = c.requires.right;
      same = same-itself c.args.frontier.now;
      computed = refl;
    }
    c.requires.side (λ b need. c.handed-block.ensures.handed b need))
