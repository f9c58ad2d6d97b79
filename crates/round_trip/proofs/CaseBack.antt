-- The lines of the written text say the case, with its parts on the lines where they stand.
use Rattle.std.proofs.Common.{inl, inr, Bool, true, false, cond, ◌==◌, eqb-true, sym, ℕ, ◌+◌, ◌≤◌, ◌^◌, ◌≡◌, pos, neg_ℤ, unsigned_abs, Option, Some, None, List, [], ◌∷◌, ◌++◌, map, length, codes, ap, ◌∙◌, refl, arith}
use Rattle.std.proofs.lemmas.List.{append-nil, append_assoc, get_or-map}
use Rattle.std.specs.Prelude.{unwrap_or}
use Rattle.std.specs.List.{find}
use Rattle.case_model.specs.declared.cases.Case.{Case}
use Rattle.case_model.specs.declared.cases.Friction.{Friction}
use Rattle.case_model.specs.declared.cases.Friction.TheVariants.{Explicit, Linear}
use Rattle.case_model.specs.declared.cases.Table.{Table}
use Rattle.case_model.specs.declared.cases.Node.{Node}
use Rattle.case_model.specs.declared.cases.Pipe.{Pipe}
use Rattle.case_model.specs.declared.cases.Probe.{Probe}
use Rattle.case_model.specs.declared.cases.ProbeAt.{ProbeAt}
use Rattle.case_model.specs.declared.cases.ProbeAt.TheVariants.{OnPipe, OnNode}
use Rattle.case_model.specs.Limits.{IsVersion, IsRead}
use Rattle.case_model.specs.Parts.{no_table, no_node, no_pipe}
use Rattle.case_lines.specs.declared.words.Directive.{Directive}
use Rattle.case_lines.specs.declared.quantities.Quantity.TheVariants.{TimeStep, StepCount, VapourHead, GrowthWeight, SpeedTolerance, SampleStep}
use Rattle.case_lines.specs.Words.{single_of, table_of, node_of, directive_of, friction_of}
use Rattle.case_lines.specs.Fields.{heading_version}
use Rattle.case_rules.specs.Said.{version_of, directive_said, is_single, is_single_of}
use Rattle.case_writing.specs.CaseText.{version_word, friction_word, name_of_table, name_of_node, name_of_pipe}
use Rattle.netfile.specs.Built.{friction_by, friction_from, single_amount, table_index, node_index, pipe_index, table_by, table_said, tables_of, node_by, node_said, nodes_of, pipe_by, pipe_said, pipes_of, probe_by, probe_said, probes_of, case_of, parts_from}
use Rattle.round_trip.specs.Lines.{settings_lines, part_lines, table_line, node_line, pipe_line, probe_line, case_lines}
use Rattle.round_trip.specs.Renumbered.{first_part, tables_on, nodes_on, pipes_on, probes_on, renumbered}
use Rattle.round_trip.specs.Writable.{case_names, AreApart, IsWritable}
use Rattle.round_trip.proofs.Amounts.{IsSmall, amount_back, small_above, small_between}
use Rattle.round_trip.proofs.Directives.{spot_directive, of_table, of_node, of_pipe, of_probe}
use Rattle.round_trip.proofs.InOrder.{numbered, skipped, taken}
use Rattle.round_trip.proofs.Indices.{apart_left, apart_right, index_back}
use Rattle.round_trip.proofs.TablesBack.{table_on, tables_in_order, tables_numbered, each_table}
use Rattle.round_trip.proofs.NodesBack.{AreTablesFound, node_on, nodes_in_order, nodes_numbered, each_node}
use Rattle.round_trip.proofs.PipesBack.{AreNodesFound, ArePipesFound, pipe_on, probe_on, pipes_in_order, probes_in_order, pipes_numbered, probes_numbered, each_pipe, each_probe}

-- the lines behind the settings, and those behind the tables, the nodes and the pipes
abbrev pub probe_rest : Case → List (List (List ℕ))
probe_rest case = map (probe_line case.pipes case.nodes) case.probes ++ []

abbrev pub pipe_rest : Case → List (List (List ℕ))
pipe_rest case = map (pipe_line case.nodes) case.pipes ++ probe_rest case

abbrev pub node_rest : Case → List (List (List ℕ))
node_rest case = map (node_line case.tables) case.nodes ++ pipe_rest case

abbrev pub table_rest : Case → List (List (List ℕ))
table_rest case = map table_line case.tables ++ node_rest case

right : {X : Type 0} (s a b c d : List X) → s ++ (a ++ b ++ c ++ d) ≡ s ++ (a ++ (b ++ (c ++ (d ++ []))))
right s a b c d = simp (append_assoc, append-nil)

pub lines_right : (case : Case) → case_lines case ≡ settings_lines case ++ table_rest case
unfolding case_lines
lines_right case = right (settings_lines case) (map table_line case.tables) (map (node_line case.tables) case.nodes) (map (pipe_line case.nodes) case.pipes) (map (probe_line case.pipes case.nodes) case.probes)

-- which lines say no table
node_no_table : (tables : List Table) (line : ℕ) (n : Node) → table_said line (node_line tables n) ≡ None
unfolding table_said
node_no_table tables line n = ap (λ (o : Option Directive). table_by o line (node_line tables n)) (of_node tables n)

pipe_no_table : (nodes : List Node) (line : ℕ) (p : Pipe) → table_said line (pipe_line nodes p) ≡ None
unfolding table_said
pipe_no_table nodes line p = ap (λ (o : Option Directive). table_by o line (pipe_line nodes p)) (of_pipe nodes p)

spot_no_table : (line : ℕ) (fields : List (List ℕ)) (at : ProbeAt) → table_by (Some (spot_directive at)) line fields ≡ None
spot_no_table line fields (OnPipe pipe place) = refl
spot_no_table line fields (OnNode node) = refl

probe_no_table : (pipes : List Pipe) (nodes : List Node) (line : ℕ) (q : Probe) → table_said line (probe_line pipes nodes q) ≡ None
unfolding table_said
probe_no_table pipes nodes line q = ap (λ (o : Option Directive). table_by o line (probe_line pipes nodes q)) (of_probe pipes nodes q) ∙ spot_no_table line (probe_line pipes nodes q) q.at

-- no node
table_no_node : (read : List Table) (line : ℕ) (t : Table) → node_said read line (table_line t) ≡ None
unfolding node_said
table_no_node read line t = ap (λ (o : Option Directive). node_by read o line (table_line t)) (of_table t)

pipe_no_node : (read : List Table) (nodes : List Node) (line : ℕ) (p : Pipe) → node_said read line (pipe_line nodes p) ≡ None
unfolding node_said
pipe_no_node read nodes line p = ap (λ (o : Option Directive). node_by read o line (pipe_line nodes p)) (of_pipe nodes p)

spot_no_node : (read : List Table) (line : ℕ) (fields : List (List ℕ)) (at : ProbeAt) → node_by read (Some (spot_directive at)) line fields ≡ None
spot_no_node read line fields (OnPipe pipe place) = refl
spot_no_node read line fields (OnNode node) = refl

probe_no_node : (read : List Table) (pipes : List Pipe) (nodes : List Node) (line : ℕ) (q : Probe) → node_said read line (probe_line pipes nodes q) ≡ None
unfolding node_said
probe_no_node read pipes nodes line q = ap (λ (o : Option Directive). node_by read o line (probe_line pipes nodes q)) (of_probe pipes nodes q) ∙ spot_no_node read line (probe_line pipes nodes q) q.at

-- no pipe
table_no_pipe : (read : List Node) (line : ℕ) (t : Table) → pipe_said read line (table_line t) ≡ None
unfolding pipe_said
table_no_pipe read line t = ap (λ (o : Option Directive). pipe_by read o line (table_line t)) (of_table t)

node_no_pipe : (read : List Node) (tables : List Table) (line : ℕ) (n : Node) → pipe_said read line (node_line tables n) ≡ None
unfolding pipe_said
node_no_pipe read tables line n = ap (λ (o : Option Directive). pipe_by read o line (node_line tables n)) (of_node tables n)

spot_no_pipe : (read : List Node) (line : ℕ) (fields : List (List ℕ)) (at : ProbeAt) → pipe_by read (Some (spot_directive at)) line fields ≡ None
spot_no_pipe read line fields (OnPipe pipe place) = refl
spot_no_pipe read line fields (OnNode node) = refl

probe_no_pipe : (read : List Node) (pipes : List Pipe) (nodes : List Node) (line : ℕ) (q : Probe) → pipe_said read line (probe_line pipes nodes q) ≡ None
unfolding pipe_said
probe_no_pipe read pipes nodes line q = ap (λ (o : Option Directive). pipe_by read o line (probe_line pipes nodes q)) (of_probe pipes nodes q) ∙ spot_no_pipe read line (probe_line pipes nodes q) q.at

-- no probe
table_no_probe : (pipes : List Pipe) (nodes : List Node) (line : ℕ) (t : Table) → probe_said pipes nodes line (table_line t) ≡ None
unfolding probe_said
table_no_probe pipes nodes line t = ap (λ (o : Option Directive). probe_by pipes nodes o line (table_line t)) (of_table t)

node_no_probe : (pipes : List Pipe) (nodes : List Node) (tables : List Table) (line : ℕ) (n : Node) → probe_said pipes nodes line (node_line tables n) ≡ None
unfolding probe_said
node_no_probe pipes nodes tables line n = ap (λ (o : Option Directive). probe_by pipes nodes o line (node_line tables n)) (of_node tables n)

pipe_no_probe : (pipes : List Pipe) (nodes written_nodes : List Node) (line : ℕ) (p : Pipe) → probe_said pipes nodes line (pipe_line written_nodes p) ≡ None
unfolding probe_said
pipe_no_probe pipes nodes written_nodes line p = ap (λ (o : Option Directive). probe_by pipes nodes o line (pipe_line written_nodes p)) (of_pipe written_nodes p)

-- the heading and the settings say no part
friction_tables : (b : Bool) (f : Friction) (rest : List (List (List ℕ)))
    → parts_from table_said 8 (cond b [] ((codes "friction" ∷ friction_word f ∷ []) ∷ []) ++ rest) ≡ parts_from table_said (cond b 8 9) rest
unfolding table_said directive_said directive_of single_of table_of node_of
friction_tables true f rest = refl
friction_tables false f rest = refl

settings_tables : (case : Case) (rest : List (List (List ℕ))) → parts_from table_said 1 (settings_lines case ++ rest) ≡ parts_from table_said (first_part case.version) rest
unfolding settings_lines table_said directive_said directive_of single_of table_of node_of
settings_tables case rest = friction_tables (case.version == 1) case.friction rest

friction_nodes : (tables : List Table) (b : Bool) (f : Friction) (rest : List (List (List ℕ)))
    → parts_from (node_said tables) 8 (cond b [] ((codes "friction" ∷ friction_word f ∷ []) ∷ []) ++ rest) ≡ parts_from (node_said tables) (cond b 8 9) rest
unfolding node_said directive_said directive_of single_of table_of node_of
friction_nodes tables true f rest = refl
friction_nodes tables false f rest = refl

settings_nodes : (tables : List Table) (case : Case) (rest : List (List (List ℕ))) → parts_from (node_said tables) 1 (settings_lines case ++ rest) ≡ parts_from (node_said tables) (first_part case.version) rest
unfolding settings_lines node_said directive_said directive_of single_of table_of node_of
settings_nodes tables case rest = friction_nodes tables (case.version == 1) case.friction rest

friction_pipes : (nodes : List Node) (b : Bool) (f : Friction) (rest : List (List (List ℕ)))
    → parts_from (pipe_said nodes) 8 (cond b [] ((codes "friction" ∷ friction_word f ∷ []) ∷ []) ++ rest) ≡ parts_from (pipe_said nodes) (cond b 8 9) rest
unfolding pipe_said directive_said directive_of single_of table_of node_of
friction_pipes nodes true f rest = refl
friction_pipes nodes false f rest = refl

settings_pipes : (nodes : List Node) (case : Case) (rest : List (List (List ℕ))) → parts_from (pipe_said nodes) 1 (settings_lines case ++ rest) ≡ parts_from (pipe_said nodes) (first_part case.version) rest
unfolding settings_lines pipe_said directive_said directive_of single_of table_of node_of
settings_pipes nodes case rest = friction_pipes nodes (case.version == 1) case.friction rest

friction_probes : (pipes : List Pipe) (nodes : List Node) (b : Bool) (f : Friction) (rest : List (List (List ℕ)))
    → parts_from (probe_said pipes nodes) 8 (cond b [] ((codes "friction" ∷ friction_word f ∷ []) ∷ []) ++ rest) ≡ parts_from (probe_said pipes nodes) (cond b 8 9) rest
unfolding probe_said directive_said directive_of single_of table_of node_of
friction_probes pipes nodes true f rest = refl
friction_probes pipes nodes false f rest = refl

settings_probes : (pipes : List Pipe) (nodes : List Node) (case : Case) (rest : List (List (List ℕ))) → parts_from (probe_said pipes nodes) 1 (settings_lines case ++ rest) ≡ parts_from (probe_said pipes nodes) (first_part case.version) rest
unfolding settings_lines probe_said directive_said directive_of single_of table_of node_of
settings_probes pipes nodes case rest = friction_probes pipes nodes (case.version == 1) case.friction rest

-- the parts of the lines
pub tables_back : (case : Case) → IsRead case → tables_of (case_lines case) ≡ tables_on (first_part case.version) case.tables
tables_back case h =
    tables_in_order 1 (case_lines case) ∙ ap (λ (lines : List (List (List ℕ))). parts_from table_said 1 lines) (lines_right case) ∙ settings_tables case (table_rest case)
    ∙ taken table_said table_line table_on case.tables (first_part case.version) (node_rest case) (each_table case.tables h.tables)
    ∙ ap (λ (ts : List Table). numbered table_on (first_part case.version) case.tables ++ ts) (
    skipped table_said (node_line case.tables) case.nodes (first_part case.version + length case.tables) (pipe_rest case) (node_no_table case.tables)
    ∙ skipped table_said (pipe_line case.nodes) case.pipes (first_part case.version + length case.tables + length case.nodes) (probe_rest case) (pipe_no_table case.nodes)
    ∙ skipped table_said (probe_line case.pipes case.nodes) case.probes (first_part case.version + length case.tables + length case.nodes + length case.pipes) [] (probe_no_table case.pipes case.nodes)
    ) ∙ append-nil (numbered table_on (first_part case.version) case.tables) ∙ tables_numbered (first_part case.version) case.tables

nodes_back : (read : List Table) (case : Case) → IsRead case → AreTablesFound read case.tables → parts_from (node_said read) 1 (case_lines case) ≡ nodes_on (first_part case.version + length case.tables) case.nodes
nodes_back read case h f =
    ap (λ (lines : List (List (List ℕ))). parts_from (node_said read) 1 lines) (lines_right case) ∙ settings_nodes read case (table_rest case)
    ∙ skipped (node_said read) table_line case.tables (first_part case.version) (node_rest case) (table_no_node read)
    ∙ taken (node_said read) (node_line case.tables) node_on case.nodes (first_part case.version + length case.tables) (pipe_rest case) (each_node read case.tables case.nodes f h.nodes)
    ∙ ap (λ (ns : List Node). numbered node_on (first_part case.version + length case.tables) case.nodes ++ ns) (
    skipped (node_said read) (pipe_line case.nodes) case.pipes (first_part case.version + length case.tables + length case.nodes) (probe_rest case) (pipe_no_node read case.nodes)
    ∙ skipped (node_said read) (probe_line case.pipes case.nodes) case.probes (first_part case.version + length case.tables + length case.nodes + length case.pipes) [] (probe_no_node read case.pipes case.nodes)
    ) ∙ append-nil (numbered node_on (first_part case.version + length case.tables) case.nodes) ∙ nodes_numbered (first_part case.version + length case.tables) case.nodes

pipes_back : (read : List Node) (case : Case) → IsRead case → AreNodesFound read case.nodes → parts_from (pipe_said read) 1 (case_lines case) ≡ pipes_on (first_part case.version + length case.tables + length case.nodes) case.pipes
pipes_back read case h f =
    let line = first_part case.version + length case.tables + length case.nodes in
    ap (λ (lines : List (List (List ℕ))). parts_from (pipe_said read) 1 lines) (lines_right case) ∙ settings_pipes read case (table_rest case)
    ∙ skipped (pipe_said read) table_line case.tables (first_part case.version) (node_rest case) (table_no_pipe read)
    ∙ skipped (pipe_said read) (node_line case.tables) case.nodes (first_part case.version + length case.tables) (pipe_rest case) (node_no_pipe read case.tables)
    ∙ taken (pipe_said read) (pipe_line case.nodes) pipe_on case.pipes line (probe_rest case) (each_pipe read case.nodes case.pipes f h.pipes h.joins)
    ∙ ap (λ (ps : List Pipe). numbered pipe_on line case.pipes ++ ps) (skipped (pipe_said read) (probe_line case.pipes case.nodes) case.probes (line + length case.pipes) [] (probe_no_pipe read case.pipes case.nodes))
    ∙ append-nil (numbered pipe_on line case.pipes) ∙ pipes_numbered line case.pipes

probes_back : (read_pipes : List Pipe) (read_nodes : List Node) (case : Case) → IsRead case → ArePipesFound read_pipes case.pipes → AreNodesFound read_nodes case.nodes
    → parts_from (probe_said read_pipes read_nodes) 1 (case_lines case) ≡ probes_on (first_part case.version + length case.tables + length case.nodes + length case.pipes) case.probes
probes_back read_pipes read_nodes case h f g =
    let line = first_part case.version + length case.tables + length case.nodes + length case.pipes in
    let says = probe_said read_pipes read_nodes in
    ap (λ (lines : List (List (List ℕ))). parts_from says 1 lines) (lines_right case) ∙ settings_probes read_pipes read_nodes case (table_rest case)
    ∙ skipped says table_line case.tables (first_part case.version) (node_rest case) (table_no_probe read_pipes read_nodes)
    ∙ skipped says (node_line case.tables) case.nodes (first_part case.version + length case.tables) (pipe_rest case) (node_no_probe read_pipes read_nodes case.tables)
    ∙ skipped says (pipe_line case.nodes) case.pipes (first_part case.version + length case.tables + length case.nodes) (probe_rest case) (pipe_no_probe read_pipes read_nodes case.nodes)
    ∙ taken says (probe_line case.pipes case.nodes) probe_on case.probes line [] (each_probe read_pipes case.pipes read_nodes case.nodes case.probes f g h.spots)
    ∙ append-nil (numbered probe_on line case.probes) ∙ probes_numbered line case.probes

-- the names of parts on their lines are those of the parts
table_names : (line : ℕ) (ts : List Table) → map (λ t. t.name) (tables_on line ts) ≡ map (λ t. t.name) ts
table_names line [] = refl
table_names line (t ∷ ts) = ap (λ (ns : List (List ℕ)). t.name ∷ ns) (table_names (line + 1) ts)

node_names : (line : ℕ) (ns : List Node) → map (λ n. n.name) (nodes_on line ns) ≡ map (λ n. n.name) ns
node_names line [] = refl
node_names line (n ∷ ns) = ap (λ (ms : List (List ℕ)). n.name ∷ ms) (node_names (line + 1) ns)

pipe_names : (line : ℕ) (ps : List Pipe) → map (λ p. p.name) (pipes_on line ps) ≡ map (λ p. p.name) ps
pipe_names line [] = refl
pipe_names line (p ∷ ps) = ap (λ (ms : List (List ℕ)). p.name ∷ ms) (pipe_names (line + 1) ps)

pub length-names : {X : Type 0} (name_of : X → List ℕ) (xs : List X) → length (map name_of xs) ≡ length xs
length-names name_of [] = refl
length-names name_of (x ∷ xs) = omega (arith, length-names name_of xs)

tables_found : (line : ℕ) (tables : List Table) → AreApart (map (λ t. t.name) tables) → AreTablesFound (tables_on line tables) tables
unfolding table_index
tables_found line tables h = record {
  index = λ k l. ap (λ (o : Option ℕ). unwrap_or o 0) (index_back (λ (t : Table). t.name) (tables_on line tables) (map (λ (t : Table). t.name) tables) (name_of_table tables k) k (table_names line tables) h
      (omega (arith, length-names (λ (t : Table). t.name) tables)) (get_or-map (λ (t : Table). t.name) tables k no_table [] l));
}

nodes_found : (line : ℕ) (nodes : List Node) → AreApart (map (λ n. n.name) nodes) → AreNodesFound (nodes_on line nodes) nodes
unfolding node_index
nodes_found line nodes h = record {
  index = λ k l. ap (λ (o : Option ℕ). unwrap_or o 0) (index_back (λ (n : Node). n.name) (nodes_on line nodes) (map (λ (n : Node). n.name) nodes) (name_of_node nodes k) k (node_names line nodes) h
      (omega (arith, length-names (λ (n : Node). n.name) nodes)) (get_or-map (λ (n : Node). n.name) nodes k no_node [] l));
}

pipes_found : (line : ℕ) (pipes : List Pipe) → AreApart (map (λ p. p.name) pipes) → ArePipesFound (pipes_on line pipes) pipes
unfolding pipe_index
pipes_found line pipes h = record {
  index = λ k l. ap (λ (o : Option ℕ). unwrap_or o 0) (index_back (λ (p : Pipe). p.name) (pipes_on line pipes) (map (λ (p : Pipe). p.name) pipes) (name_of_pipe pipes k) k (pipe_names line pipes) h
      (omega (arith, length-names (λ (p : Pipe). p.name) pipes)) (get_or-map (λ (p : Pipe). p.name) pipes k no_pipe [] l));
}

-- no two tables, nodes or pipes have one name
pub record AreNamesApart (case : Case) : Type 0 where
  pub tables : AreApart (map (λ t. t.name) case.tables)
  pub nodes : AreApart (map (λ n. n.name) case.nodes)
  pub pipes : AreApart (map (λ p. p.name) case.pipes)

pub names_apart : (case : Case) → AreApart (case_names case) → AreNamesApart case
unfolding case_names
names_apart case h =
    let ts = map (λ (t : Table). t.name) case.tables in
    let ns = map (λ (n : Node). n.name) case.nodes in
    let ps = map (λ (p : Pipe). p.name) case.pipes in record {
      tables = apart_left ts ns (apart_left (ts ++ ns) ps h);
      nodes = apart_right ts ns (apart_left (ts ++ ns) ps h);
      pipes = apart_right (ts ++ ns) ps h;
    }

-- the single amounts
count_back : (n : ℕ) → n ≤ 100_000_000 → IsSmall (pos n)
count_back n h = omega arith

dt_back : (case : Case) → IsRead case → single_amount (codes "step") TimeStep (pos 0) (case_lines case) ≡ case.dt
unfolding single_amount case_lines settings_lines is_single_of is_single directive_said directive_of single_of table_of node_of
dt_back case h = amount_back TimeStep case.dt (small_above 1 1_000_000 (10 ^ 18) case.dt h.dt (omega arith))

steps_back : (case : Case) → IsRead case → unsigned_abs (single_amount (codes "steps") StepCount (pos 0) (case_lines case)) ≡ case.steps
unfolding single_amount case_lines settings_lines is_single_of is_single directive_said directive_of single_of table_of node_of
steps_back case h = ap unsigned_abs (amount_back StepCount (pos case.steps) (count_back case.steps h.few_steps))

vapour_back : (case : Case) → IsRead case → single_amount (codes "vapour") VapourHead (neg_ℤ (pos 10_100_000)) (case_lines case) ≡ case.vapour
unfolding single_amount case_lines settings_lines is_single_of is_single directive_said directive_of single_of table_of node_of
vapour_back case h = amount_back VapourHead case.vapour (small_between 100_000_000 0 (10 ^ 18) case.vapour h.vapour (omega arith) (omega arith))

weight_back : (case : Case) → IsRead case → single_amount (codes "weight") GrowthWeight (pos 10) (case_lines case) ≡ case.weight
unfolding single_amount case_lines settings_lines is_single_of is_single directive_said directive_of single_of table_of node_of
weight_back case h = amount_back GrowthWeight case.weight (small_above 5 10 (10 ^ 18) case.weight h.weight (omega arith))

tolerance_back : (case : Case) → IsRead case → single_amount (codes "tolerance") SpeedTolerance (pos 150) (case_lines case) ≡ case.tolerance
unfolding single_amount case_lines settings_lines is_single_of is_single directive_said directive_of single_of table_of node_of
tolerance_back case h = amount_back SpeedTolerance case.tolerance (small_above 0 500 (10 ^ 18) case.tolerance h.tolerance (omega arith))

every_back : (case : Case) → IsRead case → unsigned_abs (single_amount (codes "every") SampleStep (pos 1) (case_lines case)) ≡ case.every
unfolding single_amount case_lines settings_lines is_single_of is_single directive_said directive_of single_of table_of node_of
every_back case h = ap unsigned_abs (amount_back SampleStep (pos case.every) (count_back case.every h.few_every))

-- the version and how friction is taken
word_back : (v : ℕ) → IsVersion v → heading_version (codes "surge" ∷ version_word v ∷ []) ≡ v
unfolding heading_version
word_back v (inl e) = rw e refl
word_back v (inr e) = rw e refl

pub version_back : (case : Case) → IsRead case → version_of (case_lines case) ≡ case.version
unfolding case_lines settings_lines
version_back case h = word_back case.version h.version

friction_found : (f : Friction) → unwrap_or (friction_of (friction_word f)) Explicit ≡ f
unfolding friction_of
friction_found Explicit = refl
friction_found Linear = refl

friction_given : (b : Bool) (f : Friction) (rest : List (List (List ℕ))) → (b ≡ true → f ≡ Explicit)
    → cond b Explicit (friction_by (find (is_single_of (codes "friction")) (cond b [] ((codes "friction" ∷ friction_word f ∷ []) ∷ []) ++ rest))) ≡ f
unfolding is_single_of is_single directive_said directive_of single_of table_of node_of
friction_given true f rest h = sym (h refl)
friction_given false f rest h = friction_found f

friction_back : (case : Case) → IsRead case → friction_from case.version (case_lines case) ≡ case.friction
unfolding friction_from case_lines settings_lines is_single_of is_single directive_said directive_of single_of table_of node_of
friction_back case h =
    friction_given (case.version == 1) case.friction (part_lines case) (λ e. h.friction (eqb-true case.version 1 e))

-- the parts with those before them as they are read
pub nodes_read : (case : Case) → IsRead case → AreNamesApart case → nodes_of (case_lines case) ≡ nodes_on (first_part case.version + length case.tables) case.nodes
nodes_read case h a =
    rw (tables_back case h) (nodes_in_order (tables_on (first_part case.version) case.tables) 1 (case_lines case) ∙ nodes_back (tables_on (first_part case.version) case.tables) case h (tables_found (first_part case.version) case.tables a.tables))

pub pipes_read : (case : Case) → IsRead case → AreNamesApart case → pipes_of (case_lines case) ≡ pipes_on (first_part case.version + length case.tables + length case.nodes) case.pipes
pipes_read case h a =
    rw (nodes_read case h a) (pipes_in_order (nodes_on (first_part case.version + length case.tables) case.nodes) 1 (case_lines case) ∙ pipes_back (nodes_on (first_part case.version + length case.tables) case.nodes) case h (nodes_found (first_part case.version + length case.tables) case.nodes a.nodes))

pub probes_read : (case : Case) → IsRead case → AreNamesApart case → probes_of (case_lines case) ≡ probes_on (first_part case.version + length case.tables + length case.nodes + length case.pipes) case.probes
probes_read case h a =
    let ns = nodes_on (first_part case.version + length case.tables) case.nodes in
    let ps = pipes_on (first_part case.version + length case.tables + length case.nodes) case.pipes in
    rw (pipes_read case h a, nodes_read case h a) (probes_in_order ps ns 1 (case_lines case)
    ∙ probes_back ps ns case h (pipes_found (first_part case.version + length case.tables + length case.nodes) case.pipes a.pipes) (nodes_found (first_part case.version + length case.tables) case.nodes a.nodes))

pub case_back : (case : Case) → IsWritable case → case_of (case_lines case) ≡ renumbered case
unfolding case_of renumbered
case_back case w =
    let h = w.read in
    let a = names_apart case w.once in
    rw (version_back case h, friction_back case h, dt_back case h, steps_back case h, vapour_back case h, weight_back case h, tolerance_back case h, every_back case h, probes_read case h a, pipes_read case h a, nodes_read case h a, tables_back case h) refl
