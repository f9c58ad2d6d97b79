use Rattle.std.proofs.Common.{◌≡◌, ◌*◌, ◌≤◌, take, unsigned_abs}
use Rattle.scheme.specs.Starts.{start_inflow}
use Rattle.scheme.proofs.starts.start_inflow.Given as goal

abbrev pub invariant-loop-end : goal.invariant-loop-end
invariant-loop-end l = record {
  sum : l.sum ≡ start_inflow l.case (take l.end-index l.ends);
  size : unsigned_abs l.sum ≤ 1_000_000_000_000 * l.end-index;
}
