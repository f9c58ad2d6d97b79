use Rattle.std.proofs.Common.{◌≡◌, ◌-◌, true, false, map, ap, sym, ◌∙◌, length, arith}
use Rattle.case_lines.specs.Tables.{may_follow, pair_at, pair_count}
use Rattle.case_lines.proofs.Ranges.{follow_one, follow_more, follow_not}
use Rattle.case_lines.proofs.order.follow.Goals as goal

pub loop-pair-init : goal.loop-pair-init
loop-pair-init c = record {
  before = c.pair_at-before.ensures.value;
  size = c.pair_at-before.ensures.first;
  ordered = follow_one c.args.kind (map (λ f. f.now) c.args.fields.now);
}

pub returns-then-not-may_follow : goal.returns-then-not-may_follow
returns-then-not-may_follow c =
    let fs = map (λ f. f.now) c.args.fields.now in
    let m : may_follow c.args.kind (pair_at c.args.kind fs (c.loop-pair.pair - 1)) (pair_at c.args.kind fs c.loop-pair.pair) ≡ false =
    rw (← c.loop-pair.invariant.before, ← c.pair_at-next.ensures.value) (sym c.may_follow.ensures ∙ c.if-not-may_follow.true) in
    sym (follow_not c.args.kind fs c.loop-pair.pair (pair_count (length c.args.fields.now)) (omega arith) c.loop-pair-test.true m)

pub loop-pair-preserved : goal.loop-pair-preserved
loop-pair-preserved c =
    let fs = map (λ f. f.now) c.args.fields.now in
    let m : may_follow c.args.kind (pair_at c.args.kind fs (c.loop-pair.pair - 1)) (pair_at c.args.kind fs c.loop-pair.pair) ≡ true =
    rw (← c.loop-pair.invariant.before, ← c.pair_at-next.ensures.value) (sym c.may_follow.ensures ∙ c.if-not-may_follow.false) in
    record {
      before = c.pair_at-next.ensures.value ∙ ap (pair_at c.args.kind fs) (omega arith);
      size = c.pair_at-next.ensures.first;
      ordered = follow_more c.args.kind fs c.loop-pair.pair (omega arith) c.loop-pair.invariant.ordered m;
    }
