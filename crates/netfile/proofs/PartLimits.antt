-- The nodes, pipes, probes and watches of lines that break no rule are within their limits, and what they name is there.
use Rattle.std.proofs.Common.{◌≡◌, ◌<◌, ◌≤◌, ℕ, suc, ◌+◌, true, pos, unsigned_abs, List, [], ◌∷◌, length, Option, Some, None, refl, subst, arith, Bool, false, sym, ◌∙◌, All, ◌≤ℤ◌, ℤ, ◌&&◌, not, cond}
use Rattle.std.proofs.lemmas.Bool.Decides.{nat_tests}
use Rattle.std.proofs.lemmas.List.Elements.{All-from_recursion}
use Rattle.std.specs.List.{AllByRecursion, list_any, cons_option}
use Rattle.std.specs.Option.{IfSome}
use Rattle.case_model.specs.Sets.{IsEmpty}
use Rattle.case_model.specs.Limits.{IsWithin, IsHead, IsFlow, IsValve, IsOpening, IsKind, IsNode, IsJoined, IsPipe, IsSpot, IsTableOf, IsValue}
use Rattle.case_model.specs.declared.cases.Table.{Table}
use Rattle.case_model.specs.declared.cases.TableKind.TheVariants.{Heads, Flows, Openings, Speeds, Curve, Gas}
use Rattle.case_model.specs.declared.cases.Node.{Node}
use Rattle.case_lines.specs.declared.words.NodeWord.{NodeWord}
use Rattle.case_lines.specs.declared.words.NodeWord.TheVariants.{Reservoir, Junction, Discharge, Inline, Pump, Tank, Vessel}
use Rattle.case_lines.specs.declared.words.Directive.{Directive}
use Rattle.case_lines.specs.declared.words.Directive.TheVariants.{OfSingle, OfTable, OfNode, OfPipe, OfProbe, OfWatch}
use Rattle.case_lines.specs.declared.quantities.Quantity.TheVariants.{Head, Flow, Opening, SpeedRatio, Volume, Elevation, ValveFlow, ValveLoss, Area, Length, Diameter, WaveSpeed, FrictionFactor, PipePlace}
use Rattle.case_lines.specs.declared.fields.FieldKind.{FieldKind}
use Rattle.case_lines.specs.declared.fields.FieldKind.TheVariants.{Reference, Number, Value, NodeName, PipeName}
use Rattle.case_lines.specs.Quantities.{amount, limits}
use Rattle.case_lines.specs.Fields.{field, field_kind, node_fields, has_count, is_marked, referred}
use Rattle.case_rules.specs.Said.{line_at, directive_said, table_part, defines_part}
use Rattle.case_rules.specs.Among.{line_rules, is_unknown}
use Rattle.netfile.specs.Built.{kind_said, value_said, node_by, node_said, nodes_from, nodes_of, tables_of, node_index, pipe_of, pipe_by, pipe_said, pipes_from, pipes_of, pipe_index, probe_by, probe_said, probes_from, probes_of, table_index}
use Rattle.netfile.proofs.PartsSaid.{found, all_parts, listed}
use Rattle.netfile.proofs.FieldLimits.{IsKept, kept_at, field_kept, size_within, in_limits, placed_kept}
use Rattle.std.proofs.lemmas.Bool.{not-false, or_left}
use Rattle.std.specs.Str.{bytes_eq}
use Rattle.case_model.specs.declared.cases.Pipe.{Pipe}
use Rattle.case_rules.specs.declared.parts.Part.TheVariants.{ANode, APipe}
use Rattle.netfile.proofs.TableLimits.{defines_by, defined_by, no_such, no_table, has_name_of, table_found}
use Rattle.std.proofs.lemmas.Int.{ints}
use Rattle.case_model.specs.declared.cases.Probe.{Probe}
use Rattle.case_model.specs.declared.cases.ProbeAt.TheVariants.{OnPipe, OnNode}
use Rattle.case_model.specs.declared.cases.TableKind.{TableKind}
use Rattle.case_model.specs.declared.cases.Value.TheVariants.{Fixed, ByTable}
use Rattle.case_lines.specs.declared.quantities.Quantity.{Quantity}
use Rattle.case_lines.specs.Alone.{breaks_number, breaks_reference, breaks_field}

-- what holds of a field that breaks no rule
record IsFieldKept (lines : List (List (List ℕ))) (kind : FieldKind) (text : List ℕ) : Type 0 where
  alone : (number : ℕ) → breaks_field kind text number ≡ false
  known : is_unknown lines kind text ≡ false

number_kept : (lines : List (List (List ℕ))) (quantity : Quantity) (text : List ℕ) → IsFieldKept lines (Number quantity) text → IsWithin (limits quantity).least (limits quantity).most (amount quantity text)
unfolding breaks_field
number_kept lines quantity text k = in_limits quantity text (k.alone 4) (k.alone 5)

known_table : (lines : List (List (List ℕ))) → IsEmpty (line_rules lines) → (kind : TableKind) (name : List ℕ) → not (list_any (defines_part (table_part kind) name) lines) ≡ false → IsTableOf kind (tables_of lines) (table_index (tables_of lines) name)
known_table lines empty kind name h = table_found lines empty name kind (not-false (list_any (defines_part (table_part kind) name) lines) h)

reference_kept : (lines : List (List (List ℕ))) → IsEmpty (line_rules lines) → (kind : TableKind) (text : List ℕ) → IsFieldKept lines (Reference kind) text → IsTableOf kind (tables_of lines) (table_index (tables_of lines) (referred text))
unfolding is_unknown
reference_kept lines empty kind text k = known_table lines empty kind (referred text) k.known

value_by : (lines : List (List (List ℕ))) → IsEmpty (line_rules lines) → (P : ℤ → Type 0) (quantity : Quantity) (kind : TableKind) (text : List ℕ) (b : Bool)
    → cond b (breaks_reference text 4) (breaks_number quantity text 4) ≡ false → cond b (breaks_reference text 5) (breaks_number quantity text 5) ≡ false
    → (b && not (list_any (defines_part (table_part kind) (referred text)) lines)) ≡ false
    → (IsWithin (limits quantity).least (limits quantity).most (amount quantity text) → P (amount quantity text))
    → IsValue P kind (tables_of lines) (cond b (ByTable (table_index (tables_of lines) (referred text))) (Fixed (amount quantity text)))
value_by lines empty P quantity kind text true s o u f = known_table lines empty kind (referred text) u
value_by lines empty P quantity kind text false s o u f = f (in_limits quantity text s o)

-- a value is a number within its limits, or names a table of its kind
value_kept : (lines : List (List (List ℕ))) → IsEmpty (line_rules lines) → (P : ℤ → Type 0) (quantity : Quantity) (kind : TableKind) (text : List ℕ) → IsFieldKept lines (Value quantity kind) text
    → (IsWithin (limits quantity).least (limits quantity).most (amount quantity text) → P (amount quantity text)) → IsValue P kind (tables_of lines) (value_said (tables_of lines) quantity text)
unfolding value_said breaks_field is_unknown
value_kept lines empty P quantity kind text k f = value_by lines empty P quantity kind text (is_marked text) (k.alone 4) (k.alone 5) k.known f

-- what holds of each node that a line can say
by_node : (P : Node → Type 0) (tables : List Table) (o : Option Directive) (at : ℕ) (fields : List (List ℕ))
    → ((node : NodeWord) → o ≡ Some (OfNode node) → P (record { name = field fields 1; line = at; elevation = amount Elevation (field fields 2); kind = kind_said tables node fields })) → IfSome (node_by tables o at fields) P
by_node P tables (Some (OfNode node)) at fields f = f node refl
by_node P tables _ at fields f = tt

node_length : (node : NodeWord) (n : ℕ) → has_count (OfNode node) n ≡ true → n ≡ length (node_fields node) + 3
unfolding has_count
node_length node n h = grind (arith, nat_tests)

-- what a field of a node line keeps
at_node : (lines : List (List (List ℕ))) (node : NodeWord) (fields : List (List ℕ)) → IsKept lines (OfNode node) fields → (j : ℕ) (kind : FieldKind) → field_kind (OfNode node) j ≡ kind → 1 ≤ j → j < length (node_fields node) + 3 → IsFieldKept lines kind (field fields j)
at_node lines node fields k j kind e a b =
    let n = node_length node (length fields) k.counted in
    subst (λ (x : FieldKind). IsFieldKept lines x (field fields j)) e (record {
      alone = λ number. k.each j number a (omega (arith, n));
      known = k.known j a (omega (arith, n));
    })

head_kept : (lines : List (List (List ℕ))) (text : List ℕ) → IsFieldKept lines (Number Head) text → IsHead (amount Head text)
head_kept lines text k = size_within 100_000_000_000 (amount Head text) (number_kept lines Head text k)

valve_kept : (lines : List (List (List ℕ))) (flow loss : List ℕ) → IsFieldKept lines (Number ValveFlow) flow → IsFieldKept lines (Number ValveLoss) loss → IsValve (amount ValveFlow flow) (amount ValveLoss loss)
valve_kept lines flow loss k l = record { flow = number_kept lines ValveFlow flow k; loss = number_kept lines ValveLoss loss l }

opening_kept : (lines : List (List (List ℕ))) → IsEmpty (line_rules lines) → (text : List ℕ) → IsFieldKept lines (Value Opening Openings) text → IsOpening (tables_of lines) (value_said (tables_of lines) Opening text)
opening_kept lines empty text k = value_kept lines empty (IsWithin (pos 0) (pos 1_000_000)) Opening Openings text k (λ w. w)

-- what stands at a node is within its limits
node_kind : (lines : List (List (List ℕ))) → IsEmpty (line_rules lines) → (node : NodeWord) (f : List (List ℕ)) → IsKept lines (OfNode node) f → IsKind (tables_of lines) (kind_said (tables_of lines) node f)
unfolding kind_said field_kind
node_kind lines empty Reservoir f k =
    value_kept lines empty IsHead Head Heads (field f 3) (at_node lines Reservoir f k 3 (Value Head Heads) refl (omega arith) (omega arith)) (size_within 100_000_000_000 (amount Head (field f 3)))
node_kind lines empty Junction f k = (
  value_kept lines empty IsFlow Flow Flows (field f 3) (at_node lines Junction f k 3 (Value Flow Flows) refl (omega arith) (omega arith)) (size_within 1_000_000_000_000 (amount Flow (field f 3))),
  head_kept lines (field f 4) (at_node lines Junction f k 4 (Number Head) refl (omega arith) (omega arith)),
)
node_kind lines empty Discharge f k = (
  valve_kept lines (field f 3) (field f 4) (at_node lines Discharge f k 3 (Number ValveFlow) refl (omega arith) (omega arith)) (at_node lines Discharge f k 4 (Number ValveLoss) refl (omega arith) (omega arith)),
  head_kept lines (field f 5) (at_node lines Discharge f k 5 (Number Head) refl (omega arith) (omega arith)),
  opening_kept lines empty (field f 6) (at_node lines Discharge f k 6 (Value Opening Openings) refl (omega arith) (omega arith)),
  head_kept lines (field f 7) (at_node lines Discharge f k 7 (Number Head) refl (omega arith) (omega arith)),
)
node_kind lines empty Inline f k = (
  valve_kept lines (field f 3) (field f 4) (at_node lines Inline f k 3 (Number ValveFlow) refl (omega arith) (omega arith)) (at_node lines Inline f k 4 (Number ValveLoss) refl (omega arith) (omega arith)),
  opening_kept lines empty (field f 5) (at_node lines Inline f k 5 (Value Opening Openings) refl (omega arith) (omega arith)),
  head_kept lines (field f 6) (at_node lines Inline f k 6 (Number Head) refl (omega arith) (omega arith)),
  head_kept lines (field f 7) (at_node lines Inline f k 7 (Number Head) refl (omega arith) (omega arith)),
)
node_kind lines empty Pump f k = (
  reference_kept lines empty Curve (field f 3) (at_node lines Pump f k 3 (Reference Curve) refl (omega arith) (omega arith)),
  value_kept lines empty (IsWithin (pos 0) (pos 2_000_000)) SpeedRatio Speeds (field f 4) (at_node lines Pump f k 4 (Value SpeedRatio Speeds) refl (omega arith) (omega arith)) (λ w. w),
  head_kept lines (field f 5) (at_node lines Pump f k 5 (Number Head) refl (omega arith) (omega arith)),
  head_kept lines (field f 6) (at_node lines Pump f k 6 (Number Head) refl (omega arith) (omega arith)),
)
node_kind lines empty Tank f k = (
  number_kept lines Area (field f 3) (at_node lines Tank f k 3 (Number Area) refl (omega arith) (omega arith)),
  head_kept lines (field f 4) (at_node lines Tank f k 4 (Number Head) refl (omega arith) (omega arith)),
)
node_kind lines empty Vessel f k = (
  reference_kept lines empty Gas (field f 3) (at_node lines Vessel f k 3 (Reference Gas) refl (omega arith) (omega arith)),
  number_kept lines Volume (field f 4) (at_node lines Vessel f k 4 (Number Volume) refl (omega arith) (omega arith)),
)

node_raised : (lines : List (List (List ℕ))) (node : NodeWord) (f : List (List ℕ)) → IsKept lines (OfNode node) f → unsigned_abs (amount Elevation (field f 2)) ≤ 10_000_000_000
unfolding field_kind
node_raised lines node f k = size_within 10_000_000_000 (amount Elevation (field f 2)) (number_kept lines Elevation (field f 2) (at_node lines node f k 2 (Number Elevation) refl (omega arith) (omega arith)))

-- the nodes of lines that break no rule
pub nodes_in : (lines : List (List (List ℕ))) → IsEmpty (line_rules lines) → All (IsNode (tables_of lines)) (nodes_of lines)
unfolding node_said
nodes_in lines empty = All-from_recursion (IsNode (tables_of lines)) (nodes_of lines) (all_parts (IsNode (tables_of lines)) (node_said (tables_of lines)) 1 lines
    (λ k at h. by_node (IsNode (tables_of lines)) (tables_of lines) (directive_said (line_at lines k)) at (line_at lines k)
    (λ node s. let kept = kept_at lines k h empty (OfNode node) s in record { elevation = node_raised lines node (line_at lines k) kept; kind = node_kind lines empty node (line_at lines k) kept })))

-- whether a node has this name
abbrev is_node_named : List ℕ → Node → Bool
is_node_named name n = bytes_eq n.name name

node_here : (name : List ℕ) (tables : List Table) (o : Option Directive) (line : ℕ) (fields : List (List ℕ)) (more : List Node) → defines_by ANode name fields o ≡ true
    → list_any (is_node_named name) (cons_option (node_by tables o line fields) more) ≡ true
node_here name tables (Some (OfTable kind)) line fields more h = absurd (no_such ANode name fields (Some (OfTable kind)) (no_table kind).0 h)
node_here name tables (Some (OfNode node)) line fields more h = or_left (bytes_eq (field fields 1) name) (list_any (is_node_named name) more) (has_name_of ANode name fields (Some (OfNode node)) h)
node_here name tables other line fields more h = absurd (no_such ANode name fields other refl h)

-- the index of a name that a line defines for a node is that of a node
node_found : (lines : List (List (List ℕ))) (name : List ℕ) → list_any (defines_part ANode name) lines ≡ true → node_index (nodes_of lines) name < length (nodes_of lines)
unfolding node_index node_said
node_found lines name h = (found (is_node_named name) (nodes_of lines) (listed (is_node_named name) (defines_part ANode name) (node_said (tables_of lines)) 1 lines
    (λ at fields more e. node_here name (tables_of lines) (directive_said fields) at fields more (sym (defined_by ANode name fields) ∙ e)) h)).there

-- the same of a field that must name a node
node_named : (lines : List (List (List ℕ))) (text : List ℕ) → is_unknown lines NodeName text ≡ false → node_index (nodes_of lines) text < length (nodes_of lines)
unfolding is_unknown
node_named lines text h = node_found lines text (not-false (list_any (defines_part ANode text) lines) h)

-- what holds of each pipe that a line can say
by_pipe : (P : Pipe → Type 0) (nodes : List Node) (o : Option Directive) (at : ℕ) (fields : List (List ℕ)) → (o ≡ Some OfPipe → P (pipe_of nodes at fields)) → IfSome (pipe_by nodes o at fields) P
by_pipe P nodes (Some OfPipe) at fields f = f refl
by_pipe P nodes _ at fields f = tt

pipe_length : (n : ℕ) → has_count OfPipe n ≡ true → n ≡ 9
unfolding has_count
pipe_length n h = grind (arith, nat_tests)

-- the nodes that a pipe line names are there
joined : (lines : List (List (List ℕ))) (at : ℕ) (fields : List (List ℕ)) → IsKept lines OfPipe fields → IsJoined (length (nodes_of lines)) (pipe_of (nodes_of lines) at fields)
unfolding pipe_of field_kind
joined lines at fields k =
    let n = pipe_length (length fields) k.counted in record {
      first = node_named lines (field fields 2) (k.known 2 (omega arith) (omega (arith, n)));
      last = node_named lines (field fields 3) (k.known 3 (omega arith) (omega (arith, n)));
    }

-- the pipes of lines that break no rule
pub joins_in : (lines : List (List (List ℕ))) → IsEmpty (line_rules lines) → All (IsJoined (length (nodes_of lines))) (pipes_of lines)
unfolding pipe_said
joins_in lines empty = All-from_recursion (IsJoined (length (nodes_of lines))) (pipes_of lines) (all_parts (IsJoined (length (nodes_of lines))) (pipe_said (nodes_of lines)) 1 lines
    (λ k at h. by_pipe (IsJoined (length (nodes_of lines))) (nodes_of lines) (directive_said (line_at lines k)) at (line_at lines k) (λ s. joined lines at (line_at lines k) (kept_at lines k h empty OfPipe s))))

pipe_in : (lines : List (List (List ℕ))) (nodes : List Node) (line : ℕ) (fields : List (List ℕ)) → IsKept lines OfPipe fields → IsPipe (pipe_of nodes line fields)
unfolding pipe_of field_kind
pipe_in lines nodes line fields h =
    let n = pipe_length (length fields) h.counted in
    record {
      length = field_kept lines OfPipe fields 4 Length h (omega arith) (omega arith) refl;
      diameter = field_kept lines OfPipe fields 5 Diameter h (omega arith) (omega arith) refl;
      speed = field_kept lines OfPipe fields 6 WaveSpeed h (omega arith) (omega arith) refl;
      friction = field_kept lines OfPipe fields 7 FrictionFactor h (omega arith) (omega arith) refl;
      flow = size_within 1_000_000_000_000 _ (field_kept lines OfPipe fields 8 Flow h (omega arith) (omega arith) refl);
    }

-- the numbers of the pipes of lines that break no rule
pub pipes_in : (lines : List (List (List ℕ))) → IsEmpty (line_rules lines) → All IsPipe (pipes_of lines)
unfolding pipe_said
pipes_in lines empty = All-from_recursion IsPipe (pipes_of lines) (all_parts IsPipe (pipe_said (nodes_of lines)) 1 lines
    (λ k at h. by_pipe IsPipe (nodes_of lines) (directive_said (line_at lines k)) at (line_at lines k) (λ s. pipe_in lines (nodes_of lines) at (line_at lines k) (kept_at lines k h empty OfPipe s))))

-- whether a pipe has this name
abbrev is_pipe_named : List ℕ → Pipe → Bool
is_pipe_named name p = bytes_eq p.name name

named_pipe : (name : List ℕ) (nodes : List Node) (line : ℕ) (fields : List (List ℕ)) → bytes_eq (field fields 1) name ≡ true → is_pipe_named name (pipe_of nodes line fields) ≡ true
unfolding pipe_of
named_pipe name nodes line fields h = h

pipe_here : (name : List ℕ) (nodes : List Node) (o : Option Directive) (line : ℕ) (fields : List (List ℕ)) (more : List Pipe) → defines_by APipe name fields o ≡ true
    → list_any (is_pipe_named name) (cons_option (pipe_by nodes o line fields) more) ≡ true
pipe_here name nodes (Some (OfTable kind)) line fields more h = absurd (no_such APipe name fields (Some (OfTable kind)) (no_table kind).1 h)
pipe_here name nodes (Some OfPipe) line fields more h =
    or_left (is_pipe_named name (pipe_of nodes line fields)) (list_any (is_pipe_named name) more) (named_pipe name nodes line fields (has_name_of APipe name fields (Some OfPipe) h))
pipe_here name nodes other line fields more h = absurd (no_such APipe name fields other refl h)

-- the index of a name that a line defines for a pipe is that of a pipe
pipe_found : (lines : List (List (List ℕ))) (name : List ℕ) → list_any (defines_part APipe name) lines ≡ true → pipe_index (pipes_of lines) name < length (pipes_of lines)
unfolding pipe_index pipe_said
pipe_found lines name h = (found (is_pipe_named name) (pipes_of lines) (listed (is_pipe_named name) (defines_part APipe name) (pipe_said (nodes_of lines)) 1 lines
    (λ at fields more e. pipe_here name (nodes_of lines) (directive_said fields) at fields more (sym (defined_by APipe name fields) ∙ e)) h)).there

-- the same of a field that must name a pipe
pipe_named : (lines : List (List (List ℕ))) (text : List ℕ) → is_unknown lines PipeName text ≡ false → pipe_index (pipes_of lines) text < length (pipes_of lines)
unfolding is_unknown
pipe_named lines text h = pipe_found lines text (not-false (list_any (defines_part APipe text) lines) h)

-- what holds of each probe or watch that a line can say
by_probe : (P : Probe → Type 0) (pipes : List Pipe) (nodes : List Node) (o : Option Directive) (at : ℕ) (fields : List (List ℕ))
    → (o ≡ Some OfProbe → P (record { line = at; at = OnPipe (pipe_index pipes (field fields 1)) (unsigned_abs (amount PipePlace (field fields 2))) }))
    → (o ≡ Some OfWatch → P (record { line = at; at = OnNode (node_index nodes (field fields 1)) })) → IfSome (probe_by pipes nodes o at fields) P
by_probe P pipes nodes (Some OfProbe) at fields f g = f refl
by_probe P pipes nodes (Some OfWatch) at fields f g = g refl
by_probe P pipes nodes _ at fields f g = tt

probe_length : (n : ℕ) → has_count OfProbe n ≡ true → n ≡ 3
unfolding has_count
probe_length n h = grind (arith, nat_tests)

watch_length : (n : ℕ) → has_count OfWatch n ≡ true → n ≡ 2
unfolding has_count
watch_length n h = grind (arith, nat_tests)

-- the pipe that a probe line names is there, and its place is within the limits
probe_kept : (lines : List (List (List ℕ))) (fields : List (List ℕ)) → IsKept lines OfProbe fields
    → IsSpot (length (pipes_of lines)) (length (nodes_of lines)) (OnPipe (pipe_index (pipes_of lines) (field fields 1)) (unsigned_abs (amount PipePlace (field fields 2))))
unfolding field_kind
probe_kept lines fields k =
    let n = probe_length (length fields) k.counted in (
      pipe_named lines (field fields 1) (k.known 1 (omega arith) (omega (arith, n))),
      placed_kept lines fields k,
    )

-- the node that a watch line names is there
watch_kept : (lines : List (List (List ℕ))) (fields : List (List ℕ)) → IsKept lines OfWatch fields → node_index (nodes_of lines) (field fields 1) < length (nodes_of lines)
unfolding field_kind
watch_kept lines fields k = let n = watch_length (length fields) k.counted in node_named lines (field fields 1) (k.known 1 (omega arith) (omega (arith, n)))

-- the probes and watches of lines that break no rule
pub spots_in : (lines : List (List (List ℕ))) → IsEmpty (line_rules lines) → All (λ q. IsSpot (length (pipes_of lines)) (length (nodes_of lines)) q.at) (probes_of lines)
unfolding probe_said
spots_in lines empty = All-from_recursion (λ (q : Probe). IsSpot (length (pipes_of lines)) (length (nodes_of lines)) q.at) (probes_of lines)
    (all_parts (λ (q : Probe). IsSpot (length (pipes_of lines)) (length (nodes_of lines)) q.at) (probe_said (pipes_of lines) (nodes_of lines)) 1 lines
    (λ k at h. by_probe (λ (q : Probe). IsSpot (length (pipes_of lines)) (length (nodes_of lines)) q.at) (pipes_of lines) (nodes_of lines) (directive_said (line_at lines k)) at (line_at lines k)
    (λ s. probe_kept lines (line_at lines k) (kept_at lines k h empty OfProbe s)) (λ s. watch_kept lines (line_at lines k) (kept_at lines k h empty OfWatch s))))
