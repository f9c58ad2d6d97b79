-- The lines of the written text of a case, each by its fields.
use Rattle.std.specs.Prelude.{ℕ, ◌==◌, List, [], ◌∷◌, ◌++◌, if◌then◌else◌, map, codes}
use Rattle.std.specs.List.{flat_map}
use Rattle.fixed_num.specs.Written.{written}
use Rattle.case_model.specs.declared.cases.Case.{Case}
use Rattle.case_model.specs.declared.cases.Friction.{Friction}
use Rattle.case_model.specs.declared.cases.Table.{Table}
use Rattle.case_model.specs.declared.cases.Node.{Node}
use Rattle.case_model.specs.declared.cases.Pipe.{Pipe}
use Rattle.case_model.specs.declared.cases.Probe.{Probe}
use Rattle.surge_io.specs.Fields.{count_text}
use Rattle.case_writing.specs.CaseText.{version_word, friction_word, table_word}
use Rattle.case_writing.specs.CaseText.{entry_fields, node_word, kind_fields, pipe_names}
use Rattle.case_writing.specs.CaseText.{pipe_numbers, spot_fields}

-- how friction is taken, of which version 1 has no line
abbrev pub friction_lines : ℕ → Friction → List (List (List ℕ))
friction_lines version friction =
    if version == 1 then [] else (codes "friction" ∷ friction_word friction ∷ []) ∷ []

-- the heading and the single directives
unfoldable pub settings_lines : Case → List (List (List ℕ))
settings_lines case =
    (codes "surge" ∷ version_word case.version ∷ [])
    ∷ (codes "step" ∷ written 6 case.dt ∷ [])
    ∷ (codes "steps" ∷ count_text case.steps ∷ [])
    ∷ (codes "vapour" ∷ written 6 case.vapour ∷ [])
    ∷ (codes "weight" ∷ written 1 case.weight ∷ [])
    ∷ (codes "tolerance" ∷ written 3 case.tolerance ∷ [])
    ∷ (codes "every" ∷ count_text case.every ∷ [])
    ∷ friction_lines case.version case.friction

-- word, name and the two numbers of each pair
unfoldable pub table_line : Table → List (List ℕ)
table_line t = table_word t.kind ∷ t.name ∷ flat_map (entry_fields t.kind) t.points

unfoldable pub node_line : List Table → Node → List (List ℕ)
node_line tables n = node_word n.kind ∷ n.name ∷ written 6 n.elevation ∷ kind_fields tables n.kind

unfoldable pub pipe_line : List Node → Pipe → List (List ℕ)
pipe_line nodes p = codes "pipe" ∷ pipe_names nodes p ++ pipe_numbers p

unfoldable pub probe_line : List Pipe → List Node → Probe → List (List ℕ)
probe_line pipes nodes q = spot_fields pipes nodes q.at

-- the lines of the parts: tables, nodes, pipes, and probes with the watches
abbrev pub part_lines : Case → List (List (List ℕ))
part_lines case =
    map table_line case.tables
    ++ map (node_line case.tables) case.nodes
    ++ map (pipe_line case.nodes) case.pipes
    ++ map (probe_line case.pipes case.nodes) case.probes

-- the fields of each line of the written text
unfoldable pub case_lines : Case → List (List (List ℕ))
case_lines case = settings_lines case ++ part_lines case
