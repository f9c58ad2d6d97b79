use Rattle.std.proofs.Common.{◌≡◌, length, Some, All}
use Rattle.claimboard.specs.Seats.{AreFresh}
use Rattle.claimboard.specs.Views.{view, IsOf, IsReady}
use Rattle.claimboard.proofs.making.deal_seats.Given as goal

abbrev pub invariant-loop-number : goal.invariant-loop-number
invariant-loop-number g l = record {
  dealer : IsOf l.top.table_id l.top.key.value l.dealer;
  next : (view l.dealer).dealt ≡ Some l.number;
  count : length l.dealt.items ≡ l.number;
  seats : All (λ s. IsReady l.top.table_id l.top.key.value s.seat) l.dealt.items;
  fresh : AreFresh l.top.key.value l.dealt.items;
}
