use Rattle.std.proofs.Common.{◌≡◌, get_or}
use Rattle.envelope.specs.Cells.{bases_of}
use Rattle.envelope.proofs.cells.count_cells.Given as goal

abbrev pub invariant-loop-span : goal.invariant-loop-span
invariant-loop-span l = l.count ≡ get_or (bases_of l.spans) l.span-index 0
