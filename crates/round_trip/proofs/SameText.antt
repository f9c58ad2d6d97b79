-- The written text of a case doesn't hang on the lines of its parts.
use Rattle.std.proofs.Common.{ℕ, zero, suc, ◌+◌, ◌≡◌, List, [], ◌∷◌, map, length, sym, ap, ◌∙◌, refl}
use Rattle.std.specs.List.{flat_map}
use Rattle.case_model.specs.declared.cases.Case.{Case}
use Rattle.case_model.specs.declared.cases.Table.{Table}
use Rattle.case_model.specs.declared.cases.Value.{Value}
use Rattle.case_model.specs.declared.cases.Value.TheVariants.{Fixed, ByTable}
use Rattle.case_model.specs.declared.cases.Node.{Node}
use Rattle.case_model.specs.declared.cases.NodeKind.{NodeKind}
use Rattle.case_model.specs.declared.cases.NodeKind.TheVariants.{Reservoir, Junction, Discharge, Inline, Pump, Tank, Vessel}
use Rattle.case_model.specs.declared.cases.Pipe.{Pipe}
use Rattle.case_model.specs.declared.cases.Probe.{Probe}
use Rattle.case_model.specs.declared.cases.ProbeAt.{ProbeAt}
use Rattle.case_model.specs.declared.cases.ProbeAt.TheVariants.{OnPipe, OnNode}
use Rattle.surge_io.specs.Fields.{line_of}
use Rattle.case_writing.specs.CaseText.{name_of_table, name_of_node, name_of_pipe, value_text, kind_fields, spot_fields, case_text}
use Rattle.round_trip.specs.Lines.{settings_lines, table_line, node_line, pipe_line, probe_line, case_lines}
use Rattle.round_trip.specs.Renumbered.{first_part, tables_on, nodes_on, pipes_on, probes_on, renumbered}
use Rattle.round_trip.proofs.CaseTexts.{text_of_lines}
use Rattle.round_trip.proofs.CountsBack.{tables_length}
use Rattle.round_trip.proofs.DivisionBack.{nodes_length, pipes_length}

-- the names of parts by their index
table_name : (line : ℕ) (ts : List Table) (k : ℕ) → name_of_table (tables_on line ts) k ≡ name_of_table ts k
table_name line [] k = refl
table_name line (t ∷ ts) zero = refl
table_name line (t ∷ ts) (suc k) = table_name (line + 1) ts k

node_name : (line : ℕ) (ns : List Node) (k : ℕ) → name_of_node (nodes_on line ns) k ≡ name_of_node ns k
node_name line [] k = refl
node_name line (n ∷ ns) zero = refl
node_name line (n ∷ ns) (suc k) = node_name (line + 1) ns k

pipe_name : (line : ℕ) (ps : List Pipe) (k : ℕ) → name_of_pipe (pipes_on line ps) k ≡ name_of_pipe ps k
pipe_name line [] k = refl
pipe_name line (p ∷ ps) zero = refl
pipe_name line (p ∷ ps) (suc k) = pipe_name (line + 1) ps k

value_same : (places line : ℕ) (ts : List Table) (v : Value) → value_text places (tables_on line ts) v ≡ value_text places ts v
value_same places line ts (Fixed x) = refl
value_same places line ts (ByTable t) = ap (λ (name : List ℕ). 64 ∷ name) (table_name line ts t)

kind_same : (line : ℕ) (ts : List Table) (kind : NodeKind) → kind_fields (tables_on line ts) kind ≡ kind_fields ts kind
kind_same line ts (Reservoir head) = rw (value_same 6 line ts head) refl
kind_same line ts (Junction demand start) = rw (value_same 9 line ts demand) refl
kind_same line ts (Discharge q0 h0 outlet opening start) = rw (value_same 6 line ts opening) refl
kind_same line ts (Inline q0 h0 opening start start2) = rw (value_same 6 line ts opening) refl
kind_same line ts (Pump curve speed start start2) = rw (table_name line ts curve, value_same 6 line ts speed) refl
kind_same line ts (Tank area start) = refl
kind_same line ts (Vessel gas volume) = rw (table_name line ts gas) refl

-- the lines of the parts
table_lines : (line : ℕ) (ts : List Table) → map table_line (tables_on line ts) ≡ map table_line ts
unfolding table_line
table_lines line [] = refl
table_lines line (t ∷ ts) = ap (λ (ls : List (List (List ℕ))). table_line t ∷ ls) (table_lines (line + 1) ts)

node_lines : (from line : ℕ) (ts : List Table) (ns : List Node) → map (node_line (tables_on from ts)) (nodes_on line ns) ≡ map (node_line ts) ns
unfolding node_line
node_lines from line ts [] = refl
node_lines from line ts (n ∷ ns) = rw (kind_same from ts n.kind) (ap (λ (ls : List (List (List ℕ))). node_line ts n ∷ ls) (node_lines from (line + 1) ts ns))

pipe_lines : (from line : ℕ) (ns : List Node) (ps : List Pipe) → map (pipe_line (nodes_on from ns)) (pipes_on line ps) ≡ map (pipe_line ns) ps
unfolding pipe_line
pipe_lines from line ns [] = refl
pipe_lines from line ns (p ∷ ps) = rw (node_name from ns p.first, node_name from ns p.last) (ap (λ (ls : List (List (List ℕ))). pipe_line ns p ∷ ls) (pipe_lines from (line + 1) ns ps))

spot_same : (first from : ℕ) (ps : List Pipe) (ns : List Node) (at : ProbeAt) → spot_fields (pipes_on first ps) (nodes_on from ns) at ≡ spot_fields ps ns at
spot_same first from ps ns (OnPipe pipe place) = rw (pipe_name first ps pipe) refl
spot_same first from ps ns (OnNode node) = rw (node_name from ns node) refl

probe_lines : (first from line : ℕ) (ps : List Pipe) (ns : List Node) (qs : List Probe) → map (probe_line (pipes_on first ps) (nodes_on from ns)) (probes_on line qs) ≡ map (probe_line ps ns) qs
unfolding probe_line
probe_lines first from line ps ns [] = refl
probe_lines first from line ps ns (q ∷ qs) = rw (spot_same first from ps ns q.at) (ap (λ (ls : List (List (List ℕ))). probe_line ps ns q ∷ ls) (probe_lines first from (line + 1) ps ns qs))

pub lines_same : (case : Case) → case_lines (renumbered case) ≡ case_lines case
unfolding case_lines settings_lines renumbered
lines_same case =
    let nodes = first_part case.version + length case.tables in
    let pipes = first_part case.version + length case.tables + length case.nodes in
    let probes = first_part case.version + length case.tables + length case.nodes + length case.pipes in
    rw (table_lines (first_part case.version) case.tables, node_lines (first_part case.version) nodes case.tables case.nodes, pipe_lines nodes pipes case.nodes case.pipes, probe_lines pipes nodes probes case.pipes case.nodes case.probes) refl

pub text_same : (case : Case) → case_text (renumbered case) ≡ case_text case
text_same case = sym (text_of_lines (renumbered case)) ∙ ap (λ (lines : List (List (List ℕ))). flat_map line_of lines) (lines_same case) ∙ text_of_lines case

-- counting the lines again changes nothing
tables_again : (from line : ℕ) (ts : List Table) → tables_on line (tables_on from ts) ≡ tables_on line ts
tables_again from line [] = refl
tables_again from line (t ∷ ts) = ap (λ (us : List Table). record t { line = line } ∷ us) (tables_again (from + 1) (line + 1) ts)

nodes_again : (from line : ℕ) (ns : List Node) → nodes_on line (nodes_on from ns) ≡ nodes_on line ns
nodes_again from line [] = refl
nodes_again from line (n ∷ ns) = ap (λ (us : List Node). record n { line = line } ∷ us) (nodes_again (from + 1) (line + 1) ns)

pipes_again : (from line : ℕ) (ps : List Pipe) → pipes_on line (pipes_on from ps) ≡ pipes_on line ps
pipes_again from line [] = refl
pipes_again from line (p ∷ ps) = ap (λ (us : List Pipe). record p { line = line } ∷ us) (pipes_again (from + 1) (line + 1) ps)

probes_again : (from line : ℕ) (qs : List Probe) → probes_on line (probes_on from qs) ≡ probes_on line qs
probes_again from line [] = refl
probes_again from line (q ∷ qs) = ap (λ (us : List Probe). record q { line = line } ∷ us) (probes_again (from + 1) (line + 1) qs)

pub renumbered_again : (case : Case) → renumbered (renumbered case) ≡ renumbered case
unfolding renumbered
renumbered_again case =
    let nodes = first_part case.version + length case.tables in
    let pipes = first_part case.version + length case.tables + length case.nodes in
    let probes = first_part case.version + length case.tables + length case.nodes + length case.pipes in
    rw (tables_length (first_part case.version) case.tables, nodes_length nodes case.nodes, pipes_length pipes case.pipes, tables_again (first_part case.version) (first_part case.version) case.tables, nodes_again nodes nodes case.nodes, pipes_again pipes pipes case.pipes, probes_again probes probes case.probes) refl
