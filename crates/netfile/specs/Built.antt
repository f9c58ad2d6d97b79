-- The case that lines say: their values in file order, with names resolved and defaults filled in.
use Rattle.std.specs.Prelude.{ℕ, ◌==◌, ◌+◌, ℤ, pos, neg_ℤ, unsigned_abs, Option, Some, None}
use Rattle.std.specs.Prelude.{if◌then◌else◌, unwrap_or, List, [], ◌∷◌, codes}
use Rattle.std.specs.List.{find, position_from, cons_option}
use Rattle.std.specs.Str.{bytes_eq}
use Rattle.case_model.specs.declared.cases.Case.{Case}
use Rattle.case_model.specs.declared.cases.Friction.{Friction}
use Rattle.case_model.specs.declared.cases.Friction.TheVariants.{Explicit}
use Rattle.case_model.specs.declared.cases.Table.{Table}
use Rattle.case_model.specs.declared.cases.Value.{Value}
use Rattle.case_model.specs.declared.cases.Value.TheVariants.{Fixed, ByTable}
use Rattle.case_model.specs.declared.cases.Node.{Node}
use Rattle.case_model.specs.declared.cases.NodeKind.{NodeKind}
use Rattle.case_model.specs.declared.cases.NodeKind.TheVariants.{Reservoir as ReservoirKind}
use Rattle.case_model.specs.declared.cases.NodeKind.TheVariants.{Junction as JunctionKind}
use Rattle.case_model.specs.declared.cases.NodeKind.TheVariants.{Discharge as DischargeKind}
use Rattle.case_model.specs.declared.cases.NodeKind.TheVariants.{Inline as InlineKind}
use Rattle.case_model.specs.declared.cases.NodeKind.TheVariants.{Pump as PumpKind, Tank as TankKind}
use Rattle.case_model.specs.declared.cases.NodeKind.TheVariants.{Vessel as VesselKind}
use Rattle.case_model.specs.declared.cases.Pipe.{Pipe}
use Rattle.case_model.specs.declared.cases.Probe.{Probe}
use Rattle.case_model.specs.declared.cases.ProbeAt.TheVariants.{OnPipe, OnNode}
use Rattle.case_lines.specs.declared.words.NodeWord.{NodeWord}
use Rattle.case_lines.specs.declared.words.NodeWord.TheVariants.{Reservoir, Junction, Discharge}
use Rattle.case_lines.specs.declared.words.NodeWord.TheVariants.{Inline, Pump, Tank, Vessel}
use Rattle.case_lines.specs.declared.words.Directive.{Directive}
use Rattle.case_lines.specs.declared.words.Directive.TheVariants.{OfSingle, OfTable, OfNode, OfPipe}
use Rattle.case_lines.specs.declared.words.Directive.TheVariants.{OfProbe, OfWatch}
use Rattle.case_lines.specs.declared.quantities.Quantity.{Quantity}
use Rattle.case_lines.specs.declared.quantities.Quantity.TheVariants.{TimeStep, StepCount}
use Rattle.case_lines.specs.declared.quantities.Quantity.TheVariants.{VapourHead, GrowthWeight}
use Rattle.case_lines.specs.declared.quantities.Quantity.TheVariants.{SpeedTolerance, SampleStep}
use Rattle.case_lines.specs.declared.quantities.Quantity.TheVariants.{Head, Flow, Opening}
use Rattle.case_lines.specs.declared.quantities.Quantity.TheVariants.{SpeedRatio, Volume, Elevation}
use Rattle.case_lines.specs.declared.quantities.Quantity.TheVariants.{ValveFlow, ValveLoss, Area}
use Rattle.case_lines.specs.declared.quantities.Quantity.TheVariants.{Length, Diameter, WaveSpeed}
use Rattle.case_lines.specs.declared.quantities.Quantity.TheVariants.{FrictionFactor, PipePlace}
use Rattle.case_lines.specs.Quantities.{amount}
use Rattle.case_lines.specs.Fields.{field, is_marked, referred}
use Rattle.case_lines.specs.Words.{friction_of}
use Rattle.case_lines.specs.Tables.{pairs_of}
use Rattle.case_rules.specs.Said.{version_of, directive_said, is_single_of}

-- what the line of a single directive gives, or the default where there is no such line
abbrev pub given : Quantity → ℤ → Option (List (List ℕ)) → ℤ
given quantity default (Some fields) = amount quantity (field fields 1)
given quantity default None = default

unfoldable pub single_amount : List ℕ → Quantity → ℤ → List (List (List ℕ)) → ℤ
single_amount word quantity default lines = given quantity default (find (is_single_of word) lines)

-- how friction is taken by the line of its directive, or explicitly where there is no such line
abbrev pub friction_by : Option (List (List ℕ)) → Friction
friction_by (Some fields) = unwrap_or (friction_of (field fields 1)) Explicit
friction_by None = Explicit

-- the same of lines in a version; explicitly in version 1, which has no such directive
unfoldable pub friction_from : ℕ → List (List (List ℕ)) → Friction
friction_from version lines =
    if version == 1 then Explicit else friction_by (find (is_single_of (codes "friction")) lines)

-- the index of the table, the node or the pipe of this name; 0 where there is none, which the rule
-- of unknown names refuses
unfoldable pub table_index : List Table → List ℕ → ℕ
table_index tables name = unwrap_or (position_from (λ t. bytes_eq t.name name) 0 tables) 0

unfoldable pub node_index : List Node → List ℕ → ℕ
node_index nodes name = unwrap_or (position_from (λ n. bytes_eq n.name name) 0 nodes) 0

unfoldable pub pipe_index : List Pipe → List ℕ → ℕ
pipe_index pipes name = unwrap_or (position_from (λ p. bytes_eq p.name name) 0 pipes) 0

-- the table that line number `line` says, if any
abbrev pub table_by : Option Directive → ℕ → List (List ℕ) → Option Table
table_by None line fields = None
table_by (Some (OfTable kind)) line fields =
    Some (record { name = field fields 1; line = line; kind = kind; points = pairs_of kind fields })
table_by _ line fields = None

unfoldable pub table_said : ℕ → List (List ℕ) → Option Table
table_said line fields = table_by (directive_said fields) line fields

-- the parts that these lines say in file order, of which the first has the number `line`
abbrev pub parts_from : {X : Type 0} → (ℕ → List (List ℕ) → Option X) → ℕ → List (List (List ℕ))
    → List X
parts_from says line [] = []
parts_from says line (fields ∷ more) =
    cons_option (says line fields) (parts_from says (line + 1) more)

abbrev pub tables_from : ℕ → List (List (List ℕ)) → List Table
tables_from line lines = parts_from table_said line lines

-- a number, or the table that a reference names
unfoldable pub value_said : List Table → Quantity → List ℕ → Value
value_said tables quantity text =
    if is_marked text then ByTable (table_index tables (referred text))
    else Fixed (amount quantity text)

-- what stands at a node, by the fields of its line
unfoldable pub kind_said : List Table → NodeWord → List (List ℕ) → NodeKind
kind_said tables Reservoir f = ReservoirKind (value_said tables Head (field f 3))
kind_said tables Junction f =
    JunctionKind (value_said tables Flow (field f 3)) (amount Head (field f 4))
kind_said tables Discharge f =
    DischargeKind (amount ValveFlow (field f 3)) (amount ValveLoss (field f 4))
    (amount Head (field f 5)) (value_said tables Opening (field f 6)) (amount Head (field f 7))
kind_said tables Inline f =
    InlineKind (amount ValveFlow (field f 3)) (amount ValveLoss (field f 4))
    (value_said tables Opening (field f 5)) (amount Head (field f 6)) (amount Head (field f 7))
kind_said tables Pump f =
    PumpKind (table_index tables (referred (field f 3))) (value_said tables SpeedRatio (field f 4))
    (amount Head (field f 5)) (amount Head (field f 6))
kind_said tables Tank f = TankKind (amount Area (field f 3)) (amount Head (field f 4))
kind_said tables Vessel f =
    VesselKind (table_index tables (referred (field f 3))) (amount Volume (field f 4))

-- the node that line number `line` says, if any
abbrev pub node_by : List Table → Option Directive → ℕ → List (List ℕ) → Option Node
node_by tables None line fields = None
node_by tables (Some (OfNode node)) line fields =
    Some (record {
      name = field fields 1;
      line = line;
      elevation = amount Elevation
          (field fields 2);
      kind = kind_said tables node fields;
    })
node_by tables _ line fields = None

unfoldable pub node_said : List Table → ℕ → List (List ℕ) → Option Node
node_said tables line fields = node_by tables (directive_said fields) line fields

abbrev pub nodes_from : List Table → ℕ → List (List (List ℕ)) → List Node
nodes_from tables line lines = parts_from (node_said tables) line lines

-- the pipe that line number `line` says, if any
unfoldable pub pipe_of : List Node → ℕ → List (List ℕ) → Pipe
pipe_of nodes line f = record {
  name = field f 1;
  line = line;
  first = node_index nodes (field f 2);
  last = node_index nodes (field f 3);
  length = amount Length (field f 4);
  diameter = amount Diameter (field f 5);
  speed = amount WaveSpeed (field f 6);
  friction = amount FrictionFactor (field f 7);
  flow = amount Flow (field f 8);
}

abbrev pub pipe_by : List Node → Option Directive → ℕ → List (List ℕ) → Option Pipe
pipe_by nodes None line fields = None
pipe_by nodes (Some OfPipe) line fields = Some (pipe_of nodes line fields)
pipe_by nodes _ line fields = None

unfoldable pub pipe_said : List Node → ℕ → List (List ℕ) → Option Pipe
pipe_said nodes line fields = pipe_by nodes (directive_said fields) line fields

abbrev pub pipes_from : List Node → ℕ → List (List (List ℕ)) → List Pipe
pipes_from nodes line lines = parts_from (pipe_said nodes) line lines

-- the probe or watch that line number `line` says, if any
abbrev pub probe_by : List Pipe → List Node → Option Directive → ℕ → List (List ℕ) → Option Probe
probe_by pipes nodes None line fields = None
probe_by pipes nodes (Some OfProbe) line fields =
    Some (record {
      line = line;
      at = OnPipe (pipe_index pipes (field fields 1))
          (unsigned_abs (amount PipePlace (field fields 2)));
    })
probe_by pipes nodes (Some OfWatch) line fields =
    Some (record { line = line; at = OnNode (node_index nodes (field fields 1)) })
probe_by pipes nodes _ line fields = None

unfoldable pub probe_said : List Pipe → List Node → ℕ → List (List ℕ) → Option Probe
probe_said pipes nodes line fields = probe_by pipes nodes (directive_said fields) line fields

abbrev pub probes_from : List Pipe → List Node → ℕ → List (List (List ℕ)) → List Probe
probes_from pipes nodes line lines = parts_from (probe_said pipes nodes) line lines

-- the parts that a text says
abbrev pub tables_of : List (List (List ℕ)) → List Table
tables_of lines = tables_from 1 lines

abbrev pub nodes_of : List (List (List ℕ)) → List Node
nodes_of lines = nodes_from (tables_of lines) 1 lines

abbrev pub pipes_of : List (List (List ℕ)) → List Pipe
pipes_of lines = pipes_from (nodes_of lines) 1 lines

abbrev pub probes_of : List (List (List ℕ)) → List Probe
probes_of lines = probes_from (pipes_of lines) (nodes_of lines) 1 lines

-- the case that a text says. A time step and a count of steps have no default, but the rule of
-- missing directives.
unfoldable pub case_of : List (List (List ℕ)) → Case
case_of lines = record {
  version = version_of lines;
  dt = single_amount (codes "step") TimeStep (pos 0) lines;
  steps = unsigned_abs (single_amount (codes "steps") StepCount (pos 0) lines);
  vapour = single_amount (codes "vapour") VapourHead (neg_ℤ (pos 10_100_000)) lines;
  weight = single_amount (codes "weight") GrowthWeight (pos 10) lines;
  tolerance = single_amount (codes "tolerance") SpeedTolerance (pos 150) lines;
  every = unsigned_abs (single_amount (codes "every") SampleStep (pos 1) lines);
  friction = friction_from (version_of lines) lines;
  tables = tables_of lines;
  nodes = nodes_of lines;
  pipes = pipes_of lines;
  probes = probes_of lines;
}
