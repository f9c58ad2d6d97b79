-- The written text of a case: lines of fields, one blank between them, a line end after each; each
-- number with all its places.
use Rattle.std.specs.Prelude.{ℕ, ℤ, ◌==◌, List, [], ◌∷◌, ◌++◌, if◌then◌else◌, slice_index_or}
use Rattle.std.specs.Prelude.{codes}
use Rattle.std.specs.List.{flat_map}
use Rattle.fixed_num.specs.Written.{written}
use Rattle.surge_io.specs.Fields.{line_of, count_text, fields_text}
use Rattle.case_model.specs.Parts.{no_table, no_node, no_pipe}
use Rattle.case_model.specs.declared.cases.Case.{Case}
use Rattle.case_model.specs.declared.cases.Friction.{Friction}
use Rattle.case_model.specs.declared.cases.Friction.TheVariants.{Explicit, Linear}
use Rattle.case_model.specs.declared.cases.Table.{Table}
use Rattle.case_model.specs.declared.cases.TableKind.{TableKind}
use Rattle.case_model.specs.declared.cases.TableKind.TheVariants.{Heads, Flows, Openings, Speeds}
use Rattle.case_model.specs.declared.cases.TableKind.TheVariants.{Curve, Gas}
use Rattle.case_model.specs.declared.cases.Value.{Value}
use Rattle.case_model.specs.declared.cases.Value.TheVariants.{Fixed, ByTable}
use Rattle.case_model.specs.declared.cases.Node.{Node}
use Rattle.case_model.specs.declared.cases.NodeKind.{NodeKind}
use Rattle.case_model.specs.declared.cases.NodeKind.TheVariants.{Reservoir, Junction, Discharge}
use Rattle.case_model.specs.declared.cases.NodeKind.TheVariants.{Inline, Pump, Tank, Vessel}
use Rattle.case_model.specs.declared.cases.Pipe.{Pipe}
use Rattle.case_model.specs.declared.cases.Probe.{Probe}
use Rattle.case_model.specs.declared.cases.ProbeAt.{ProbeAt}
use Rattle.case_model.specs.declared.cases.ProbeAt.TheVariants.{OnPipe, OnNode}

abbrev pub name_of_table : List Table → ℕ → List ℕ
name_of_table tables t = (slice_index_or tables t no_table).name

abbrev pub name_of_node : List Node → ℕ → List ℕ
name_of_node nodes k = (slice_index_or nodes k no_node).name

abbrev pub name_of_pipe : List Pipe → ℕ → List ℕ
name_of_pipe pipes p = (slice_index_or pipes p no_pipe).name

-- a number, or a sign @ and the name of a table
abbrev pub value_text : ℕ → List Table → Value → List ℕ
value_text places tables (Fixed x) = written places x
value_text places tables (ByTable t) = 64 ∷ name_of_table tables t

-- the version, as the first line gives it
abbrev pub version_word : ℕ → List ℕ
version_word version = if version == 1 then codes "1" else codes "2"

abbrev pub friction_word : Friction → List ℕ
friction_word Explicit = codes "explicit"
friction_word Linear = codes "linear"

-- how friction is taken, which version 1 doesn't say
abbrev pub friction_text : ℕ → Friction → List ℕ
friction_text version friction =
    if version == 1 then [] else line_of (codes "friction" ∷ friction_word friction ∷ [])

-- the first line and the single directives in a version: s, m, tenths, thousandths and counts, and
-- how friction is taken
unfoldable pub settings_text : ℕ → Case → List ℕ
settings_text version case =
    line_of (codes "surge" ∷ version_word version ∷ [])
    ++ line_of (codes "step" ∷ written 6 case.dt ∷ [])
    ++ line_of (codes "steps" ∷ count_text case.steps ∷ [])
    ++ line_of (codes "vapour" ∷ written 6 case.vapour ∷ [])
    ++ line_of (codes "weight" ∷ written 1 case.weight ∷ [])
    ++ line_of (codes "tolerance" ∷ written 3 case.tolerance ∷ [])
    ++ line_of (codes "every" ∷ count_text case.every ∷ [])
    ++ friction_text version case.friction

abbrev pub table_word : TableKind → List ℕ
table_word Heads = codes "heads"
table_word Flows = codes "flows"
table_word Openings = codes "openings"
table_word Speeds = codes "speeds"
table_word Curve = codes "curve"
table_word Gas = codes "gas"

-- the places of the first numbers: times, and the flows of a curve and the volumes of a gas table
abbrev pub first_places : TableKind → ℕ
first_places Curve = 9
first_places Gas = 9
first_places _ = 6

-- the places of the second numbers: heads, openings, speed ratios and rises, and flows over time
abbrev pub second_places : TableKind → ℕ
second_places Flows = 9
second_places _ = 6

abbrev pub entry_fields : TableKind → ℤ × ℤ → List (List ℕ)
entry_fields kind entry =
    written (first_places kind) entry.0 ∷ written (second_places kind) entry.1 ∷ []

-- a pair of a table, with a blank before each number
abbrev pub entry_text : TableKind → ℤ × ℤ → List ℕ
entry_text kind entry = fields_text (entry_fields kind entry)

unfoldable pub table_text : Table → List ℕ
table_text t = line_of (table_word t.kind ∷ t.name ∷ flat_map (entry_fields t.kind) t.points)

abbrev pub node_word : NodeKind → List ℕ
node_word (Reservoir head) = codes "reservoir"
node_word (Junction demand start) = codes "junction"
node_word (Discharge q0 h0 outlet opening start) = codes "discharge"
node_word (Inline q0 h0 opening start start2) = codes "inline"
node_word (Pump curve speed start start2) = codes "pump"
node_word (Tank area start) = codes "tank"
node_word (Vessel gas volume) = codes "vessel"

-- a reference to a table
abbrev pub reference_text : List Table → ℕ → List ℕ
reference_text tables t = 64 ∷ name_of_table tables t

-- what a kind of node has behind its elevation
abbrev pub kind_fields : List Table → NodeKind → List (List ℕ)
kind_fields tables (Reservoir head) = value_text 6 tables head ∷ []
kind_fields tables (Junction demand start) = value_text 9 tables demand ∷ written 6 start ∷ []
kind_fields tables (Discharge q0 h0 outlet opening start) =
    written 9 q0 ∷ written 6 h0 ∷ written 6 outlet ∷ value_text 6 tables opening ∷ written 6 start
    ∷ []
kind_fields tables (Inline q0 h0 opening start start2) =
    written 9 q0 ∷ written 6 h0 ∷ value_text 6 tables opening ∷ written 6 start ∷ written 6 start2
    ∷ []
kind_fields tables (Pump curve speed start start2) =
    reference_text tables curve ∷ value_text 6 tables speed ∷ written 6 start ∷ written 6 start2
    ∷ []
kind_fields tables (Tank area start) = written 6 area ∷ written 6 start ∷ []
kind_fields tables (Vessel gas volume) = reference_text tables gas ∷ written 9 volume ∷ []

unfoldable pub node_text : List Table → Node → List ℕ
node_text tables n =
    line_of (node_word n.kind ∷ n.name ∷ written 6 n.elevation ∷ kind_fields tables n.kind)

-- the names of a pipe and of the nodes where it begins and ends, and its numbers: mm, mm, mm/s,
-- friction and flow
abbrev pub pipe_names : List Node → Pipe → List (List ℕ)
pipe_names nodes p = p.name ∷ name_of_node nodes p.first ∷ name_of_node nodes p.last ∷ []

abbrev pub pipe_numbers : Pipe → List (List ℕ)
pipe_numbers p =
    written 3 p.length ∷ written 3 p.diameter ∷ written 3 p.speed ∷ written 6 p.friction
    ∷ written 9 p.flow ∷ []

unfoldable pub pipe_text : List Node → Pipe → List ℕ
pipe_text nodes p = line_of (codes "pipe" ∷ pipe_names nodes p ++ pipe_numbers p)

abbrev pub spot_fields : List Pipe → List Node → ProbeAt → List (List ℕ)
spot_fields pipes nodes (OnPipe pipe place) =
    codes "probe" ∷ name_of_pipe pipes pipe ∷ count_text place ∷ []
spot_fields pipes nodes (OnNode node) = codes "watch" ∷ name_of_node nodes node ∷ []

unfoldable pub probe_text : List Pipe → List Node → Probe → List ℕ
probe_text pipes nodes q = line_of (spot_fields pipes nodes q.at)

-- the nodes, the pipes, and the probes with the watches
unfoldable pub network_text : Case → List ℕ
network_text case =
    flat_map (node_text case.tables) case.nodes
    ++ flat_map (pipe_text case.nodes) case.pipes
    ++ flat_map (probe_text case.pipes case.nodes) case.probes

-- the written text of a case in a version of the case text, and in its own
unfoldable pub text_in : ℕ → Case → List ℕ
text_in version case =
    settings_text version case ++ flat_map table_text case.tables ++ network_text case

unfoldable pub case_text : Case → List ℕ
case_text case = text_in case.version case

-- the case in version 2 of the case text, with its friction as it is and all else the same
abbrev pub upgraded : Case → Case
upgraded case = record case { version = 2 }
