use Rattle.std.proofs.Common.{◌<◌, ◌≡◌, false, length}
use Rattle.strands.specs.Hubs.{IsHubStepped, IsLoaded}
use Rattle.strands.proofs.hubs.Hub.compute.Given as goal

abbrev pub invariant-loop-done : goal.invariant-loop-done
invariant-loop-done g l = record {
  stepped : IsHubStepped (g.L.Law.meaning l.law) l.window l.start 0 l.done l.fn.self l.self
      l.fn.fold l.fold;
  bare : 0 < l.done → IsLoaded false l.self;
  near : length l.near ≡ length l.self.spokes.items;
  ends : length l.ends ≡ length l.self.spokes.items;
}
