use Rattle.std.proofs.Common.{◌∙◌}
use Rattle.strands.proofs.Feeding.{starts-more}
use Rattle.strands.proofs.starts.put_starts.Goals as goal

pub loop-place-preserved : goal.loop-place-preserved
loop-place-preserved g c =
    let inv = c.loop-place.invariant.same in
    let now = c.put.ensures.put.same in
    record {
      same = record {
        pipe_is = now.pipe_is ∙ inv.pipe_is;
        first_is = now.first_is ∙ inv.first_is;
        number_is = now.number_is ∙ inv.number_is;
        count_is = now.count_is ∙ inv.count_is;
      };
      put = starts-more (g.L.Law.meaning c.args.law.now)
          c.args.stretch.now c.loop-place.stretch c.put.new.self c.loop-place.place
          c.start_point-point.result inv c.put.ensures.put c.start_point-point.ensures
          c.loop-place.invariant.put;
    }
