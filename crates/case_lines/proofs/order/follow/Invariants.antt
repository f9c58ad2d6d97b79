use Rattle.std.proofs.Common.{◌≡◌, ◌-◌, ◌≤◌, true, map, unsigned_abs}
use Rattle.case_lines.specs.Tables.{pair_at, follow}
use Rattle.case_lines.proofs.order.follow.Given as goal

abbrev pub invariant-loop-pair : goal.invariant-loop-pair
invariant-loop-pair l = record {
  before : l.before ≡ pair_at l.kind (map (λ f. f.now) l.fields) (l.pair - 1);
  size : unsigned_abs l.before.0 ≤ 1_000_000_000_000_000_000;
  ordered : follow l.kind (map (λ f. f.now) l.fields) l.pair ≡ true;
}
