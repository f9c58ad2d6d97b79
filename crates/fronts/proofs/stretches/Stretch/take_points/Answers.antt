use Rattle.std.proofs.Common.{◌≡◌, subst, arith}
use Rattle.fronts.specs.Rows.{IsRowTaken}
use Rattle.fronts.proofs.Taking.{row-more, row-none}
use Rattle.fronts.proofs.stretches.Stretch.take_points.Goals as goal

pub loop-index-init : goal.loop-index-init
loop-index-init c = row-none c.args.even c.args.place c.args.other.now c.args.from c.args.self.now

pub loop-index-preserved : goal.loop-index-preserved
loop-index-preserved c =
    row-more c.args.even c.args.place c.args.other.now c.args.from c.loop-index.index
    c.args.self.now c.loop-index.self c.put_of.new.self c.point_of.result
    c.loop-index.invariant c.point_of.ensures.point c.put_of.ensures

pub returns : goal.returns
returns c =
    let e : c.loop-index.index ≡ c.args.count = omega
    (arith, c.loop-index.auto.index-end, c.loop-index-test.false) in
    subst (λ n. IsRowTaken c.args.even c.args.place c.args.other.now c.args.from n c.args.self.now
    c.loop-index.self) e c.loop-index.invariant
