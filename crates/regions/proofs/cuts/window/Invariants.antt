use Rattle.std.proofs.Common.{◌≡◌, take}
use Rattle.regions.specs.Cuts.{least_reaches}
use Rattle.regions.proofs.cuts.window.Given as goal

abbrev pub invariant-loop-pipe : goal.invariant-loop-pipe
invariant-loop-pipe l = l.window ≡ least_reaches l.wish (take l.pipe-index l.mesh.pipes)
