use Rattle.std.proofs.Common.{◌+◌, ◌∙◌, drop, ap, ◌/◌}
use Rattle.fixed_num.proofs.Put.{put_step, div_more}
use Rattle.fixed_num.proofs.written.put_last.Goals as goal

pub loop-i-preserved : goal.loop-i-preserved
loop-i-preserved c = record {
  rest = ap (λ m. m / 10) c.loop-i.invariant.rest ∙ div_more c.args.n c.loop-i.i;
  text = put_step c.args.into.now c.loop-i.into (drop (c.args.at + c.args.count) c.args.into.now) c.args.at c.args.count c.loop-i.i c.args.n c.loop-i.rest c.requires c.loop-i-test.true c.loop-i.invariant.rest c.loop-i.invariant.text;
}
