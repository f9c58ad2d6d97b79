use Rattle.std.proofs.Common.{◌≡◌, ◌++◌}
use Rattle.std.specs.List.{flat_map, range_with_len}
use Rattle.regions.specs.Layouts.{sections_of}
use Rattle.regions.proofs.layouts.add_sections.Given as goal

abbrev pub invariant-loop-pipe : goal.invariant-loop-pipe
invariant-loop-pipe l = l.shapes.items ≡ l.fn.shapes.items ++ flat_map (sections_of l.mesh l.window) (range_with_len 0 l.pipe)
