use Rattle.std.proofs.Common.{◌≡◌, ◌≤◌, ◌+◌, ◌++◌, length}
use Rattle.std.specs.List.{AllByRecursion}
use Rattle.case_lines.specs.Texts.{lines_of}
use Rattle.netfile.specs.Named.{IsNamed, IsPlaced}
use Rattle.netfile.specs.Built.{tables_from, nodes_from, pipes_from, probes_from, tables_of, nodes_of, pipes_of, probes_of}
use Rattle.netfile.proofs.building.parts_of.Given as goal

abbrev pub invariant-lines : goal.invariant-lines
invariant-lines l = record {
  tables : l.tables.items ++ tables_from (l.number + 1) (lines_of l.rest) ≡ tables_of (lines_of l.bytes);
  nodes : l.nodes.items ++ nodes_from (tables_of (lines_of l.bytes)) (l.number + 1) (lines_of l.rest) ≡ nodes_of (lines_of l.bytes);
  pipes : l.pipes.items ++ pipes_from (nodes_of (lines_of l.bytes)) (l.number + 1) (lines_of l.rest) ≡ pipes_of (lines_of l.bytes);
  probes : l.probes.items ++ probes_from (pipes_of (lines_of l.bytes)) (nodes_of (lines_of l.bytes)) (l.number + 1) (lines_of l.rest) ≡ probes_of (lines_of l.bytes);
  within : l.number + length l.rest ≤ length l.bytes;
  named : AllByRecursion IsNamed (lines_of l.rest);
  placed : AllByRecursion IsPlaced (lines_of l.rest);
}

abbrev pub decreases-lines : goal.decreases-lines
decreases-lines l = length l.rest
