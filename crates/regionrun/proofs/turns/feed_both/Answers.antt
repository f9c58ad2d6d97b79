use Rattle.std.proofs.Common.{ℕ, ◌<◌, ◌∙◌, ap, arith, subst, sym}
use Rattle.regions.specs.Sides.{is_section}
use Rattle.regionrun.specs.Neighbours.{IsNeighbour}
use Rattle.regionrun.proofs.Turning.{both-loaded, same-on}
use Rattle.regionrun.proofs.turns.feed_both.Goals as goal

pub feed_side-requires-2-clause-neighbour : goal.feed_side-requires-2-clause-neighbour
feed_side-requires-2-clause-neighbour g c κs within =
    subst (λ (x : ℕ). IsNeighbour (g.L.Law.meaning c.args.course.now.law.now)
    c.args.course.now.layout.now c.args.turn.of_sections c.args.turn.region x 1
    c.neighbour_at-second.result.back c.neighbour_at-second.result.frontier.now)
    (sym c.feed_side.ensures.same.number_is) c.neighbour_at-second.ensures

pub feed_side-requires-2-clause-kind : goal.feed_side-requires-2-clause-kind
feed_side-requires-2-clause-kind g c κs within =
    ap (is_section c.args.course.now.layout.now) c.feed_side.ensures.same.number_is
    ∙ c.requires.kind

pub feed_side-requires-2-clause-computed : goal.feed_side-requires-2-clause-computed
feed_side-requires-2-clause-computed g c κs within =
    c.feed_side.ensures.computed ∙ c.requires.computed

pub feed_side-requires-2-clause-side : goal.feed_side-requires-2-clause-side
feed_side-requires-2-clause-side g c κs within =
    let two = c.feed_side.ensures.same.sides_are ∙ c.requires.two in
    omega (arith, two)

pub returns-clause-fed : goal.returns-clause-fed
returns-clause-fed g c = λ b side need below.
    let two = c.feed_side.ensures.same.sides_are ∙ c.requires.two in
    both-loaded c.args.frontier.now c.feed_side.new.frontier c.feed_side-2.new.frontier
    c.feed_side.ensures.loaded c.feed_side-2.ensures.loaded c.requires.two two side
    (subst (λ (n : ℕ). side < n) (c.feed_side-2.ensures.same.sides_are ∙ two) below)

pub returns-clause-computed : goal.returns-clause-computed
returns-clause-computed g c =
    c.feed_side-2.ensures.computed ∙ c.feed_side.ensures.computed

pub returns-clause-same : goal.returns-clause-same
returns-clause-same g c =
    same-on c.args.frontier.now c.feed_side.new.frontier c.feed_side-2.new.frontier
    c.feed_side.ensures.same c.feed_side-2.ensures.same
