use Rattle.std.proofs.Common.{ℕ, ◌<◌, ◌∙◌, subst, sym}
use Rattle.regionrun.specs.Bodies.{FitsWindow, HasOutgoing, IsComputed}
use Rattle.regionrun.specs.Lent.{lent_tells}
use Rattle.regionrun.proofs.Keeping.{right-fits, right-sides}
use Rattle.regionrun.proofs.Turning.{handed-points, needed-last}
use Rattle.regionrun.proofs.turns.handed.Goals as goal

pub block-requires-clause-window : goal.block-requires-clause-window
block-requires-clause-window g c =
    c.requires.window ∙ sym c.requires.neighbour.right.window_is

pub block-requires-clause-region : goal.block-requires-clause-region
block-requires-clause-region g c =
    sym (needed-last (g.L.Law.meaning c.args.course.now.law.now) c.args.course.now.layout.now
    c.args.turn.of_sections c.args.turn.region c.args.number c.args.side
    c.args.neighbour.now.back c.block_number-region.result c.args.neighbour.now.frontier.now
    c.requires.neighbour c.block_number-region.ensures)

pub block-requires-clause-side : goal.block-requires-clause-side
block-requires-clause-side g c =
    let f = c.args.neighbour.now.frontier.now in
    subst (λ (n : ℕ). c.args.neighbour.now.back < n)
    (right-sides (g.L.Law.meaning c.args.course.now.law.now) c.args.course.now.layout.now
    f.computed f c.requires.neighbour.right) c.requires.neighbour.below

pub block-requires-clause-fits : goal.block-requires-clause-fits
block-requires-clause-fits g c =
    let f = c.args.neighbour.now.frontier.now in
    subst (λ (w : ℕ). FitsWindow w f.body)
    (c.requires.neighbour.right.window_is ∙ sym c.requires.window)
    (right-fits (g.L.Law.meaning c.args.course.now.law.now) c.args.course.now.layout.now
    f.computed f c.requires.course.lawful c.requires.neighbour.right)

pub returns-clause-size : goal.returns-clause-size
returns-clause-size g c = c.block.ensures.size ∙ c.requires.window

pub returns-clause-handed : goal.returns-clause-handed
returns-clause-handed g c = λ b need.
    let law = g.L.Law.meaning c.args.course.now.law.now in
    let f = c.args.neighbour.now.frontier.now in
    let a : ℕ = c.block_number-region.result in
    handed-points law c.args.course.now.layout.now c.args.turn.of_sections c.args.turn.region
    c.args.number c.args.side c.args.neighbour.now.back a b f (lent_tells c.block.result)
    c.requires.course.lawful c.requires.neighbour c.block_number-region.ensures need
    (subst (λ (w : ℕ). IsComputed law w a f.body
    → HasOutgoing law w a c.args.neighbour.now.back f.body (lent_tells c.block.result))
    c.requires.window (c.block.ensures.points law))
