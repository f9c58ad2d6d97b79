use Rattle.std.proofs.Common.{map, sym, arith}
use Rattle.std.proofs.lemmas.List.FromFn.{map-range_with_len_more}
use Rattle.case_lines.specs.Tables.{pair_at}
use Rattle.netfile.proofs.tables.pairs.Goals as goal

pub loop-pair-preserved : goal.loop-pair-preserved
loop-pair-preserved c =
    let p = pair_at c.args.kind (map (λ f. f.now) c.args.fields.now) in
    rw (c.in_ok-push.ensures.items, c.pair_at.ensures.value, c.loop-pair.invariant) (sym (map-range_with_len_more p 0 c.loop-pair.pair c.loop-pair.pair (omega arith)))
