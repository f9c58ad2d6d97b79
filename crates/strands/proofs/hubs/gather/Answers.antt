use Rattle.std.proofs.Common.{◌∙◌, subst, arith}
use Rattle.std.proofs.lemmas.List.{get_or_read, length-set}
use Rattle.strands.proofs.Nodes.{beside-more}
use Rattle.strands.specs.Spokes.{IsBeside}
use Rattle.strands.proofs.hubs.gather.Goals as goal

pub loop-i-preserved : goal.loop-i-preserved
loop-i-preserved c =
    let i = c.loop-i.i in
    let spokes = c.args.spokes.now in
    let inv = c.loop-i.invariant in
    record {
      each = length-set c.loop-i.near i c.beside.result ∙ inv.each;
      beside = beside-more c.args.step i spokes c.loop-i.near c.beside.result
          (omega (arith, inv.each, c.loop-i-test.true)) inv.beside
          (λ e. subst (λ z. IsBeside c.args.step z c.beside.result)
          (get_or_read spokes i c.index-spokes-i.result c.loop-i-test.true c.index-spokes-i.is e)
          c.beside.ensures.point);
    }
