use Rattle.std.proofs.Common.{◌≡◌, ◌++◌, map}
use Rattle.std.specs.List.{range_with_len}
use Rattle.regions.specs.Cuts.{cut}
use Rattle.regions.specs.Layouts.{seam_shape}
use Rattle.regions.proofs.layouts.add_pipe_seams.Given as goal

abbrev pub invariant-loop-index : goal.invariant-loop-index
invariant-loop-index l = record {
  place : l.place ≡ cut l.window l.reaches l.index;
  items : l.shapes.items ≡ l.fn.shapes.items ++ map (seam_shape l.mesh l.window l.pipe) (range_with_len 0 l.index);
}
