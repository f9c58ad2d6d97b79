-- The pipes and probes that the lines of the written text say.
use Rattle.std.proofs.Common.{ℕ, ◌+◌, ◌<◌, ◌≤◌, ◌^◌, ◌≡◌, pos, unsigned_abs, Some, List, [], ◌∷◌, length, ap, refl, arith}
use Rattle.std.proofs.lemmas.List.Elements.{All-weaker, recursion_from_All}
use Rattle.std.specs.List.{All, AllByRecursion, cons_option}
use Rattle.case_model.specs.declared.cases.Node.{Node}
use Rattle.case_model.specs.declared.cases.Pipe.{Pipe}
use Rattle.case_model.specs.declared.cases.Probe.{Probe}
use Rattle.case_model.specs.declared.cases.ProbeAt.{ProbeAt}
use Rattle.case_model.specs.declared.cases.ProbeAt.TheVariants.{OnPipe, OnNode}
use Rattle.case_model.specs.Limits.{IsPipe, IsJoined, IsSpot}
use Rattle.case_lines.specs.declared.quantities.Quantity.TheVariants.{Length, Diameter, WaveSpeed, FrictionFactor, Flow, PipePlace}
use Rattle.case_lines.specs.Quantities.{amount}
use Rattle.surge_io.specs.Fields.{count_text}
use Rattle.case_writing.specs.CaseText.{name_of_node, name_of_pipe, spot_fields}
use Rattle.netfile.specs.Built.{node_index, pipe_index, pipe_of, pipe_said, pipes_from, probe_by, probe_said, probes_from, parts_from}
use Rattle.round_trip.specs.Lines.{pipe_line, probe_line}
use Rattle.round_trip.specs.Renumbered.{pipes_on, probes_on}
use Rattle.round_trip.proofs.Amounts.{IsSmall, amount_back, small_above}
use Rattle.round_trip.proofs.Directives.{spot_directive, of_pipe, of_probe}
use Rattle.round_trip.proofs.InOrder.{numbered}
use Rattle.round_trip.proofs.NodesBack.{flow_small}
use Rattle.case_model.proofs.ListFacts.{all_both}

-- the nodes and the pipes are found by their names among those that are read
pub record AreNodesFound (read nodes : List Node) : Type 0 where
  pub index : (k : ℕ) → k < length nodes → node_index read (name_of_node nodes k) ≡ k

pub record ArePipesFound (read pipes : List Pipe) : Type 0 where
  pub index : (k : ℕ) → k < length pipes → pipe_index read (name_of_pipe pipes k) ≡ k

-- a pipe, and a probe, on its line
abbrev pub pipe_on : ℕ → Pipe → Pipe
pipe_on line p = record p { line = line }

abbrev pub probe_on : ℕ → Probe → Probe
probe_on line q = record q { line = line }

-- the numbers of a pipe read back
pub record IsPipeSmall (p : Pipe) : Type 0 where
  pub length : IsSmall p.length
  pub diameter : IsSmall p.diameter
  pub speed : IsSmall p.speed
  pub friction : IsSmall p.friction
  pub flow : IsSmall p.flow

pub pipe_small : (p : Pipe) → IsPipe p → IsPipeSmall p
pipe_small p h = record {
  length = small_above 1 1_000_000_000 (10 ^ 18) p.length h.length (omega arith);
  diameter = small_above 20 10_000 (10 ^ 18) p.diameter h.diameter (omega arith);
  speed = small_above 10_000 2_000_000 (10 ^ 18) p.speed h.speed (omega arith);
  friction = small_above 0 500_000 (10 ^ 18) p.friction h.friction (omega arith);
  flow = flow_small p.flow h.flow;
}

pipe_fields_back : (read nodes : List Node) (p : Pipe) → AreNodesFound read nodes → IsPipeSmall p → IsJoined (length nodes) p → (line : ℕ) → pipe_of read line (pipe_line nodes p) ≡ pipe_on line p
unfolding pipe_of pipe_line
pipe_fields_back read nodes p f h j line =
    rw (f.index p.first j.first, f.index p.last j.last, amount_back Length p.length h.length, amount_back Diameter p.diameter h.diameter, amount_back WaveSpeed p.speed h.speed, amount_back FrictionFactor p.friction h.friction, amount_back Flow p.flow h.flow) refl

pipe_back : (read nodes : List Node) (p : Pipe) → AreNodesFound read nodes → IsPipeSmall p → IsJoined (length nodes) p → (line : ℕ) → pipe_said read line (pipe_line nodes p) ≡ Some (pipe_on line p)
unfolding pipe_said
pipe_back read nodes p f h j line = rw (of_pipe nodes p) (ap (λ (x : Pipe). Some x) (pipe_fields_back read nodes p f h j line))

place_back : (n : ℕ) → n ≤ 65_536 → unsigned_abs (amount PipePlace (count_text n)) ≡ n
place_back n h = ap unsigned_abs (amount_back PipePlace (pos n) (omega arith))

spot_back : (read_pipes pipes : List Pipe) (read_nodes nodes : List Node) (at : ProbeAt) → ArePipesFound read_pipes pipes → AreNodesFound read_nodes nodes → IsSpot (length pipes) (length nodes) at → (line : ℕ)
    → probe_by read_pipes read_nodes (Some (spot_directive at)) line (spot_fields pipes nodes at) ≡ Some (record { line = line; at = at })
spot_back read_pipes pipes read_nodes nodes (OnPipe pipe place) f g h line = rw (f.index pipe h.0, place_back place h.1) refl
spot_back read_pipes pipes read_nodes nodes (OnNode node) f g h line = rw (g.index node h) refl

probe_back : (read_pipes pipes : List Pipe) (read_nodes nodes : List Node) (q : Probe) → ArePipesFound read_pipes pipes → AreNodesFound read_nodes nodes → IsSpot (length pipes) (length nodes) q.at → (line : ℕ)
    → probe_said read_pipes read_nodes line (probe_line pipes nodes q) ≡ Some (probe_on line q)
unfolding probe_said probe_line
probe_back read_pipes pipes read_nodes nodes q f g h line = rw (of_probe pipes nodes q) (spot_back read_pipes pipes read_nodes nodes q.at f g h line)

pub pipes_in_order : (nodes : List Node) (line : ℕ) (lines : List (List (List ℕ))) → pipes_from nodes line lines ≡ parts_from (pipe_said nodes) line lines
pipes_in_order nodes line [] = refl
pipes_in_order nodes line (fields ∷ lines) = ap (λ (ps : List Pipe). cons_option (pipe_said nodes line fields) ps) (pipes_in_order nodes (line + 1) lines)

pub probes_in_order : (pipes : List Pipe) (nodes : List Node) (line : ℕ) (lines : List (List (List ℕ))) → probes_from pipes nodes line lines ≡ parts_from (probe_said pipes nodes) line lines
probes_in_order pipes nodes line [] = refl
probes_in_order pipes nodes line (fields ∷ lines) = ap (λ (qs : List Probe). cons_option (probe_said pipes nodes line fields) qs) (probes_in_order pipes nodes (line + 1) lines)

pub pipes_numbered : (line : ℕ) (ps : List Pipe) → numbered pipe_on line ps ≡ pipes_on line ps
pipes_numbered line [] = refl
pipes_numbered line (p ∷ ps) = ap (λ (us : List Pipe). pipe_on line p ∷ us) (pipes_numbered (line + 1) ps)

pub probes_numbered : (line : ℕ) (qs : List Probe) → numbered probe_on line qs ≡ probes_on line qs
probes_numbered line [] = refl
probes_numbered line (q ∷ qs) = ap (λ (us : List Probe). probe_on line q ∷ us) (probes_numbered (line + 1) qs)

pub each_pipe : (read nodes : List Node) (ps : List Pipe) → AreNodesFound read nodes → All IsPipe ps → All (IsJoined (length nodes)) ps → AllByRecursion (λ p. (line : ℕ) → pipe_said read line (pipe_line nodes p) ≡ Some (pipe_on line p)) ps
each_pipe read nodes ps f h j =
    let P = λ (p : Pipe). (line : ℕ) → pipe_said read line (pipe_line nodes p) ≡ Some (pipe_on line p) in
    recursion_from_All P ps (All-weaker (λ p. IsPipe p × IsJoined (length nodes) p) P (λ p k. pipe_back read nodes p f (pipe_small p k.0) k.1) ps (all_both IsPipe (IsJoined (length nodes)) ps h j))

pub each_probe : (read_pipes pipes : List Pipe) (read_nodes nodes : List Node) (qs : List Probe) → ArePipesFound read_pipes pipes → AreNodesFound read_nodes nodes → All (λ q. IsSpot (length pipes) (length nodes) q.at) qs
    → AllByRecursion (λ q. (line : ℕ) → probe_said read_pipes read_nodes line (probe_line pipes nodes q) ≡ Some (probe_on line q)) qs
each_probe read_pipes pipes read_nodes nodes qs f g h =
    let P = λ (q : Probe). (line : ℕ) → probe_said read_pipes read_nodes line (probe_line pipes nodes q) ≡ Some (probe_on line q) in
    recursion_from_All P qs (All-weaker (λ q. IsSpot (length pipes) (length nodes) q.at) P (λ q k. probe_back read_pipes pipes read_nodes nodes q f g k) qs h)
