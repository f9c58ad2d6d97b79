use Rattle.std.proofs.Common.{◌/◌, arith}
use Rattle.schedule.specs.Plans.{net_of, state_of}
use Rattle.schedule.proofs.Sound.{least_ready}
use Rattle.schedule.proofs.Turns.{least_at, all_left, not_all_left}
use Rattle.schedule.proofs.plan.Plan.next_ready.Goals as goal

pub returns-then-self-windows-clause-done : goal.returns-then-self-windows-clause-done
returns-then-self-windows-clause-done c = let p = c.args.self.now.placed in all_left (net_of c.args.self.now) (state_of c.args.self.now) c.args.self.now.place.turn c.args.self.now.place.strand p (omega arith)

pub returns-clause-least : goal.returns-clause-least
returns-clause-least c = let p = c.args.self.now.placed in least_at (net_of c.args.self.now) (state_of c.args.self.now) c.args.self.now.place.turn c.args.self.now.place.strand p (let m = p.most in omega arith)

pub returns-clause-ready : goal.returns-clause-ready
returns-clause-ready c = let p = c.args.self.now.placed in least_ready (net_of c.args.self.now) (state_of c.args.self.now) c.args.self.now.place.strand (c.args.self.now.place.turn / 2) c.args.self.now.counts.net c.args.self.now.counts.sound
    (least_at (net_of c.args.self.now) (state_of c.args.self.now) c.args.self.now.place.turn c.args.self.now.place.strand p (let m = p.most in omega arith))

pub returns-clause-all_left : goal.returns-clause-all_left
returns-clause-all_left c = λ a. let p = c.args.self.now.placed in absurd (not_all_left (net_of c.args.self.now) (state_of c.args.self.now) c.args.self.now.place.turn c.args.self.now.place.strand p (let m = p.most in omega arith) a)
