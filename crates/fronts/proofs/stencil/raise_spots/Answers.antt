use Rattle.std.proofs.Common.{arith}
use Rattle.fronts.proofs.Making.{raised-evens, raised-odds}
use Rattle.fronts.proofs.stencil.raise_spots.Goals as goal

pub returns-then-even-clause-raised : goal.returns-then-even-clause-raised
returns-then-even-clause-raised g c =
    let p = c.args.places in
    let s = c.split_at_mut-evens in
    raised-odds (g.L.Law.meaning c.args.law.now) p c.args.even c.make_spots.result c.args.spots.now s.result.0.now s.result.1.now c.make_spots.new.new
    c.if-even.true s.ensures.value s.ensures.front_len c.requires.some (omega (arith, c.make_spots.ensures.most, c.requires.low)) c.requires.high c.make_spots.ensures.made

pub returns-else-even-clause-raised : goal.returns-else-even-clause-raised
returns-else-even-clause-raised g c =
    let p = c.args.places in
    let s = c.split_at_mut-evens in
    raised-evens (g.L.Law.meaning c.args.law.now) p c.args.even c.make_spots-else-even.result c.args.spots.now s.result.0.now s.result.1.now c.make_spots-else-even.new.new
    c.if-even.false s.ensures.value s.ensures.front_len c.requires.some (omega (arith, c.make_spots-else-even.ensures.most, c.requires.low)) c.requires.high c.make_spots-else-even.ensures.made
