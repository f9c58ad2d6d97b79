-- The parts of a case.
use Rattle.std.specs.Prelude.{ℕ, ◌≡◌, List}
use Rattle.netfile.specs.declared.building.Parts.{Parts}
use Rattle.netfile.specs.Built.{tables_of, nodes_of, pipes_of, probes_of}

-- these are the parts that lines say
pub record ArePartsOf (parts : Parts) (lines : List (List (List ℕ))) : Type 0 where
  pub tables : parts.tables.items ≡ tables_of lines
  pub nodes : parts.nodes.items ≡ nodes_of lines
  pub pipes : parts.pipes.items ≡ pipes_of lines
  pub probes : parts.probes.items ≡ probes_of lines
