-- A case with its parts on the lines where its written text has them.
use Rattle.std.specs.Prelude.{ℕ, ◌+◌, ◌==◌, if◌then◌else◌, List, [], ◌∷◌, length}
use Rattle.case_model.specs.declared.cases.Case.{Case}
use Rattle.case_model.specs.declared.cases.Table.{Table}
use Rattle.case_model.specs.declared.cases.Node.{Node}
use Rattle.case_model.specs.declared.cases.Pipe.{Pipe}
use Rattle.case_model.specs.declared.cases.Probe.{Probe}

-- parts on lines that follow one another, the first on this line
abbrev pub tables_on : ℕ → List Table → List Table
tables_on line [] = []
tables_on line (t ∷ more) = record t { line = line } ∷ tables_on (line + 1) more

abbrev pub nodes_on : ℕ → List Node → List Node
nodes_on line [] = []
nodes_on line (n ∷ more) = record n { line = line } ∷ nodes_on (line + 1) more

abbrev pub pipes_on : ℕ → List Pipe → List Pipe
pipes_on line [] = []
pipes_on line (p ∷ more) = record p { line = line } ∷ pipes_on (line + 1) more

abbrev pub probes_on : ℕ → List Probe → List Probe
probes_on line [] = []
probes_on line (q ∷ more) = record q { line = line } ∷ probes_on (line + 1) more

-- the line of the first part: the heading stands before it, and the settings, of which version 2
-- has one more than version 1
abbrev pub first_part : ℕ → ℕ
first_part version = if version == 1 then 8 else 9

-- tables, nodes, pipes and probes stand behind the settings; all else is the same
unfoldable pub renumbered : Case → Case
renumbered case = record case {
  tables = tables_on (first_part case.version) case.tables;
  nodes = nodes_on (first_part case.version + length case.tables) case.nodes;
  pipes = pipes_on (first_part case.version + length case.tables + length case.nodes) case.pipes;
  probes =
      probes_on
      (first_part case.version + length case.tables + length case.nodes + length case.pipes)
      case.probes;
}
