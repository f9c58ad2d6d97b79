-- What the division of a case refuses: 11 ends that do not suit, 12 reaches, 13 wave speed over the
-- tolerance, 15 a coefficient out of its limits, 16 a probe off the mesh, and then 10 too many
-- places or samples. The rules are sets over all nodes, pipes and probes at once.
use Rattle.std.specs.Prelude.{ℕ, ◌+◌, ◌-◌, ◌*◌, ◌/◌, ◌==◌, ◌&&◌, ◌||◌, not, nat_lt, nat_le, Bool}
use Rattle.std.specs.Prelude.{false, ℤ, pos, ◌+ℤ◌, ◌*ℤ◌, int_le, if◌then◌else◌, List, [], ◌∷◌}
use Rattle.std.specs.Prelude.{length}
use Rattle.case_model.specs.declared.cases.Case.{Case}
use Rattle.case_model.specs.declared.cases.Node.{Node}
use Rattle.case_model.specs.declared.cases.NodeKind.{NodeKind}
use Rattle.case_model.specs.declared.cases.NodeKind.TheVariants.{Reservoir, Junction, Discharge}
use Rattle.case_model.specs.declared.cases.NodeKind.TheVariants.{Inline, Pump, Tank, Vessel}
use Rattle.case_model.specs.declared.cases.Pipe.{Pipe}
use Rattle.case_model.specs.declared.cases.ProbeAt.{ProbeAt}
use Rattle.case_model.specs.declared.cases.ProbeAt.TheVariants.{OnPipe, OnNode}
use Rattle.case_model.specs.declared.meshes.End.{End}
use Rattle.case_model.specs.Formulas.{reach_count}
use Rattle.case_model.specs.Limits.{entry_at}
use Rattle.case_model.specs.Parts.{pipe_at, node_at, table_at, probe_at}
use Rattle.case_model.specs.Division.{is_count, is_adjusted, has_coefficients, divides, reaches_at}
use Rattle.case_model.specs.Division.{b_at, node_ends, place_base}
use Rattle.case_model.specs.Sets.{Rules, on_line, either, any_below}

-- the rules that a pipe breaks: 11 one node twice, 12 its reaches, 13 their adjustment, 15 its
-- coefficients
unfoldable pub breaks_pipe : ℤ → ℤ → Pipe → ℕ → Bool
breaks_pipe dt tolerance p number =
    ((number == 11) && (p.first == p.last))
    || ((number == 12) && not (is_count (reach_count dt p)))
    || ((number == 13) && is_count (reach_count dt p)
    && not (is_adjusted dt tolerance (reach_count dt p) p))
    || ((number == 15) && is_count (reach_count dt p)
    && not (has_coefficients dt (reach_count dt p) p))

-- exactly two ends, one the last of its pipe and one the first
abbrev pub is_through : List End → Bool
is_through [] = false
is_through (a ∷ []) = false
is_through (a ∷ b ∷ []) = if a.at_last then not b.at_last else b.at_last
is_through (a ∷ b ∷ c ∷ ends) = false

-- the most ends of a node, by the version of the case text
abbrev pub most_ends : ℕ → ℕ
most_ends version = if version == 1 then 8 else 16

abbrev pub is_joined : ℕ → List End → Bool
is_joined most ends = nat_le 1 (length ends) && nat_le (length ends) most

-- whether the ends at a node suit its kind, of which it may have so many
unfoldable pub ends_suit : ℕ → NodeKind → List End → Bool
ends_suit most (Reservoir head) ends = is_joined most ends
ends_suit most (Junction demand start) ends = is_joined most ends
ends_suit most (Discharge q0 h0 outlet opening start) ends = length ends == 1
ends_suit most (Inline q0 h0 opening start start2) ends = is_through ends
ends_suit most (Pump curve speed start start2) ends = is_through ends
ends_suit most (Tank area start) ends = is_joined most ends
ends_suit most (Vessel gas volume) ends = is_joined most ends

-- whether b*q0^2 is over 2*h0*10^24, at a valve with this flow and loss
unfoldable pub is_over : ℤ → ℤ → ℤ → Bool
is_over q0 h0 b = not (int_le (b *ℤ q0 *ℤ q0) (pos 2_000_000_000_000_000_000_000_000 *ℤ h0))

-- the same at the ends of a valve: at one, or at two with the sum of both impedances; not judged
-- where a pipe is refused
abbrev pub valve_over : Case → ℤ → ℤ → List End → Bool
valve_over case q0 h0 [] = false
valve_over case q0 h0 (a ∷ []) = divides case a.pipe && is_over q0 h0 (b_at case a.pipe)
valve_over case q0 h0 (a ∷ b ∷ []) =
    divides case a.pipe && divides case b.pipe
    && is_over q0 h0 (b_at case a.pipe +ℤ b_at case b.pipe)
valve_over case q0 h0 (a ∷ b ∷ c ∷ ends) = false

-- whether a volume lies outside a gas table
abbrev pub is_outside : List (ℤ × ℤ) → ℤ → Bool
is_outside points volume =
    not (int_le (entry_at points 0).0 volume
    && int_le volume (entry_at points (length points - 1)).0)

-- whether a number of a node is out of its limits: a valve's, judged where its ends suit, or a
-- vessel's volume
unfoldable pub exceeds : Case → NodeKind → List End → Bool
exceeds case (Reservoir head) ends = false
exceeds case (Junction demand start) ends = false
exceeds case (Discharge q0 h0 outlet opening start) ends =
    (length ends == 1) && valve_over case q0 h0 ends
exceeds case (Inline q0 h0 opening start start2) ends =
    is_through ends && valve_over case q0 h0 ends
exceeds case (Pump curve speed start start2) ends = false
exceeds case (Tank area start) ends = false
exceeds case (Vessel gas volume) ends = is_outside (table_at case gas).points volume

-- the rules that a node breaks: 11 its ends, 15 a number of it
unfoldable pub breaks_node : Case → Node → List End → ℕ → Bool
breaks_node case n ends number =
    ((number == 11) && not (ends_suit (most_ends case.version) n.kind ends))
    || ((number == 15) && exceeds case n.kind ends)

-- whether a probe is off the mesh, judged where its pipe is not refused
unfoldable pub is_off : Case → ProbeAt → Bool
is_off case (OnPipe pipe place) = divides case pipe && nat_lt (reaches_at case pipe) place
is_off case (OnNode node) = false

-- the rules that pipe p, node k and probe q break
abbrev pub pipe_rules : Case → ℕ → Rules
pipe_rules case p =
    on_line (pipe_at case p).line (breaks_pipe case.dt case.tolerance (pipe_at case p))

abbrev pub node_rules : Case → ℕ → Rules
node_rules case k =
    on_line (node_at case k).line (breaks_node case (node_at case k) (node_ends case k))

abbrev pub probe_rules : Case → ℕ → Rules
probe_rules case q =
    on_line (probe_at case q).line (λ number. (number == 16) && is_off case (probe_at case q).at)

-- the rules of single pipes, nodes and probes
unfoldable pub part_rules : Case → Rules
part_rules case =
    either (either (any_below (pipe_rules case) (length case.pipes))
    (any_below (node_rules case) (length case.nodes)))
    (any_below (probe_rules case) (length case.probes))

-- the count of samples: so many for each probe
unfoldable pub sample_count : Case → ℕ
sample_count case = length case.probes * (case.steps / case.every + 1)

-- whether there are too many places or samples
abbrev pub is_too_large : Case → Bool
is_too_large case =
    nat_lt 400_000 (place_base case (length case.pipes)) || nat_lt 4_000_000 (sample_count case)

-- the rule of the whole mesh
unfoldable pub size_rules : Case → Rules
size_rules case = on_line 0 (λ number. (number == 10) && is_too_large case)

-- the rules that division asks for, in the order in which they are judged
abbrev pub passes : Case → List Rules
passes case = part_rules case ∷ size_rules case ∷ []
