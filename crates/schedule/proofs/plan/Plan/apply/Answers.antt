use Rattle.schedule.specs.States.{after}
use Rattle.schedule.specs.Countings.{net_in, state_in}
use Rattle.schedule.specs.Plans.{net_of, state_of}
use Rattle.schedule.proofs.Sound.{after-left}
use Rattle.schedule.proofs.Turns.{still_before, same_before}
use Rattle.schedule.proofs.plan.Plan.apply.Goals as goal

pub next_unleft-self-requires-clause-before : goal.next_unleft-self-requires-clause-before
next_unleft-self-requires-clause-before c =
    let net = net_of c.args.self.now in
    let old = state_of c.args.self.now in
    let now = after net old c.args.event.now in
    same_before net (net_in c.apply.new.self) now (state_in c.apply.new.self) c.args.self.now.place.turn c.args.self.now.place.strand c.apply.ensures.net c.apply.ensures.state
    (still_before net old now c.args.self.now.place.turn c.args.self.now.place.strand (after-left net old c.args.event.now) c.args.self.now.placed.before)
