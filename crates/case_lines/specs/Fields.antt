-- What the fields of a line must be, by the word with which it begins.
use Rattle.std.specs.Prelude.{ℕ, ◌+◌, ◌-◌, ◌*◌, ◌%◌, ◌==◌, ◌&&◌, ◌||◌, nat_lt, nat_le, Bool, false}
use Rattle.std.specs.Prelude.{if◌then◌else◌, List, [], ◌∷◌, length, slice_index_or, codes}
use Rattle.std.specs.List.{list_all}
use Rattle.std.specs.Char.{is_ascii_alphanumeric}
use Rattle.std.specs.Str.{bytes_eq}
use Rattle.case_model.specs.declared.cases.TableKind.{TableKind}
use Rattle.case_model.specs.declared.cases.TableKind.TheVariants.{Heads, Flows, Openings, Speeds}
use Rattle.case_model.specs.declared.cases.TableKind.TheVariants.{Curve, Gas}
use Rattle.case_model.specs.Limits.{least_entries, most_entries}
use Rattle.case_lines.specs.declared.words.Single.{Single}
use Rattle.case_lines.specs.declared.words.Single.TheVariants.{Step, Steps, Vapour, Weight}
use Rattle.case_lines.specs.declared.words.Single.TheVariants.{Tolerance, Every, FrictionForm}
use Rattle.case_lines.specs.declared.words.NodeWord.{NodeWord}
use Rattle.case_lines.specs.declared.words.NodeWord.TheVariants.{Reservoir, Junction, Discharge}
use Rattle.case_lines.specs.declared.words.NodeWord.TheVariants.{Inline, Pump, Tank, Vessel}
use Rattle.case_lines.specs.declared.words.Directive.{Directive}
use Rattle.case_lines.specs.declared.words.Directive.TheVariants.{OfSingle, OfTable, OfNode, OfPipe}
use Rattle.case_lines.specs.declared.words.Directive.TheVariants.{OfProbe, OfWatch}
use Rattle.case_lines.specs.declared.quantities.Quantity.{Quantity}
use Rattle.case_lines.specs.declared.quantities.Quantity.TheVariants.{TimeStep, StepCount}
use Rattle.case_lines.specs.declared.quantities.Quantity.TheVariants.{VapourHead, GrowthWeight}
use Rattle.case_lines.specs.declared.quantities.Quantity.TheVariants.{SpeedTolerance, SampleStep}
use Rattle.case_lines.specs.declared.quantities.Quantity.TheVariants.{Time, Head, Flow, Opening}
use Rattle.case_lines.specs.declared.quantities.Quantity.TheVariants.{SpeedRatio, CurveFlow}
use Rattle.case_lines.specs.declared.quantities.Quantity.TheVariants.{CurveRise, Volume, Elevation}
use Rattle.case_lines.specs.declared.quantities.Quantity.TheVariants.{ValveFlow, ValveLoss, Area}
use Rattle.case_lines.specs.declared.quantities.Quantity.TheVariants.{Length, Diameter, WaveSpeed}
use Rattle.case_lines.specs.declared.quantities.Quantity.TheVariants.{FrictionFactor, PipePlace}
use Rattle.case_lines.specs.declared.fields.FieldKind.{FieldKind}
use Rattle.case_lines.specs.declared.fields.FieldKind.TheVariants.{NewName, NodeName, PipeName}
use Rattle.case_lines.specs.declared.fields.FieldKind.TheVariants.{Reference, Number, Value}
use Rattle.case_lines.specs.declared.fields.FieldKind.TheVariants.{FrictionWord}

-- a field by its place, counted from 0; an empty one where there is none
abbrev pub field : List (List ℕ) → ℕ → List ℕ
field fields k = slice_index_or fields k []

-- the number of a version of the case text, as its first line gives it
abbrev pub is_version : List ℕ → Bool
is_version text = bytes_eq text (codes "1") || bytes_eq text (codes "2")

-- the two fields of the first line: the word of the case text, and the version
abbrev pub is_heading : List (List ℕ) → Bool
is_heading fields =
    (length fields == 2) && bytes_eq (field fields 0) (codes "surge") && is_version (field fields 1)

-- the version that the first line decides
unfoldable pub heading_version : List (List ℕ) → ℕ
heading_version fields = if bytes_eq (field fields 1) (codes "2") then 2 else 1

abbrev pub is_name_byte : ℕ → Bool
is_name_byte b = is_ascii_alphanumeric b || (b == 95) || (b == 45) || (b == 46)

-- letters, digits, low lines, hyphens and points, of whatever length
abbrev pub is_name : List ℕ → Bool
is_name text = nat_lt 0 (length text) && list_all is_name_byte text

-- whether a field begins with the mark of a reference
abbrev pub is_marked : List ℕ → Bool
is_marked text = slice_index_or text 0 0 == 64

-- what stands behind that mark
abbrev pub referred : List ℕ → List ℕ
referred [] = []
referred (mark ∷ name) = name

-- a reference: the mark and a name
abbrev pub is_reference : List ℕ → Bool
is_reference text = is_marked text && is_name (referred text)

-- what the field of a single directive must be
abbrev pub single_field : Single → FieldKind
single_field Step = Number TimeStep
single_field Steps = Number StepCount
single_field Vapour = Number VapourHead
single_field Weight = Number GrowthWeight
single_field Tolerance = Number SpeedTolerance
single_field Every = Number SampleStep
single_field FrictionForm = FrictionWord

-- what the first and the second numbers of the pairs of a table are
abbrev pub first_quantity : TableKind → Quantity
first_quantity Heads = Time
first_quantity Flows = Time
first_quantity Openings = Time
first_quantity Speeds = Time
first_quantity Curve = CurveFlow
first_quantity Gas = Volume

abbrev pub second_quantity : TableKind → Quantity
second_quantity Heads = Head
second_quantity Flows = Flow
second_quantity Openings = Opening
second_quantity Speeds = SpeedRatio
second_quantity Curve = CurveRise
second_quantity Gas = Head

-- the fields behind the name and the elevation of a node
abbrev pub node_fields : NodeWord → List FieldKind
node_fields Reservoir = Value Head Heads ∷ []
node_fields Junction = Value Flow Flows ∷ Number Head ∷ []
node_fields Discharge =
    Number ValveFlow ∷ Number ValveLoss ∷ Number Head ∷ Value Opening Openings ∷ Number Head ∷ []
node_fields Inline =
    Number ValveFlow ∷ Number ValveLoss ∷ Value Opening Openings ∷ Number Head ∷ Number Head ∷ []
node_fields Pump = Reference Curve ∷ Value SpeedRatio Speeds ∷ Number Head ∷ Number Head ∷ []
node_fields Tank = Number Area ∷ Number Head ∷ []
node_fields Vessel = Reference Gas ∷ Number Volume ∷ []

-- name, first node, last node, length, diameter, wave speed, friction and start flow of a pipe
abbrev pub pipe_fields : List FieldKind
pipe_fields =
    NewName ∷ NodeName ∷ NodeName ∷ Number Length ∷ Number Diameter ∷ Number WaveSpeed
    ∷ Number FrictionFactor ∷ Number Flow ∷ []

-- pipe and place of a probe
abbrev pub probe_fields : List FieldKind
probe_fields = PipeName ∷ Number PipePlace ∷ []

-- what the field at place k must be: of a table the name and then numbers in turn
abbrev pub table_field : TableKind → ℕ → FieldKind
table_field kind k =
    if k == 1 then NewName
    else if k % 2 == 0 then Number (first_quantity kind)
    else Number (second_quantity kind)

abbrev pub node_field : NodeWord → ℕ → FieldKind
node_field node k =
    if k == 1 then NewName
    else if k == 2 then Number Elevation
    else slice_index_or (node_fields node) (k - 3) NewName

-- what the field at place k of a line must be, counted from the word at place 0
unfoldable pub field_kind : Directive → ℕ → FieldKind
field_kind (OfSingle single) k = single_field single
field_kind (OfTable kind) k = table_field kind k
field_kind (OfNode node) k = node_field node k
field_kind OfPipe k = slice_index_or pipe_fields (k - 1) NewName
field_kind OfProbe k = slice_index_or probe_fields (k - 1) NewName
field_kind OfWatch k = NodeName

-- whether a line has so many fields as its directive asks for; of a table a name and whole pairs,
-- and not too few of them
unfoldable pub has_count : Directive → ℕ → Bool
has_count (OfSingle single) n = n == 2
has_count (OfTable kind) n = (n % 2 == 0) && nat_le (2 * least_entries kind + 2) n
has_count (OfNode node) n = n == length (node_fields node) + 3
has_count OfPipe n = n == 9
has_count OfProbe n = n == 3
has_count OfWatch n = n == 2

-- whether a line has too many pairs
unfoldable pub has_too_many : Directive → ℕ → Bool
has_too_many (OfTable kind) n = nat_lt (2 * most_entries kind + 2) n
has_too_many _ n = false
