use Rattle.std.proofs.Common.{◌+◌, inl, inr, refl, arith}
use Rattle.fronts.proofs.Stepping.{stepped-end, stepped-more, stepped-none}
use Rattle.fronts.proofs.stretches.Stretch.raise_run.Goals as goal

pub loop-place-init : goal.loop-place-init
loop-place-init g c = record {
  stepped = stepped-none (g.L.Law.meaning c.args.law.now) c.args.step c.args.low c.args.self.now;
  from = omega arith;
  to = inr refl;
}

pub loop-place-preserved : goal.loop-place-preserved
loop-place-preserved g c =
    let i = c.loop-place.invariant in
    let r = c.raise_next-place.ensures in
    record {
      stepped = stepped-more (g.L.Law.meaning c.args.law.now) c.args.step c.args.low c.loop-place.place (c.loop-place.place + c.raise_next-place.result) c.args.self.now c.loop-place.self c.raise_next-place.new.self
          i.from (omega arith) i.stepped r.stepped;
      from = omega (arith, i.from);
      to = inl (omega (arith, r.most, c.loop-place-test.true));
    }

pub returns : goal.returns
returns g c =
    let i = c.loop-place.invariant in
    stepped-end (g.L.Law.meaning c.args.law.now) c.args.step c.args.low c.loop-place.place c.args.high c.args.self.now c.loop-place.self (omega (arith, c.loop-place-test.false)) i.to i.stepped
