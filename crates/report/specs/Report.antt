-- The report of a run: the samples of probes and watches, the cavities, the envelopes of all
-- places, and the peak.
use Rattle.std.specs.Prelude.{ℕ, ◌+◌, ◌*◌, ◌/◌, ◌&&◌, not, Bool, true, false, pos, int_lt}
use Rattle.std.specs.Prelude.{if◌then◌else◌, List, [], ◌∷◌, ◌++◌, length, map, codes, Option, Some}
use Rattle.std.specs.Prelude.{None}
use Rattle.std.specs.List.{flat_map, range_with_len}
use Rattle.case_model.specs.Parts.{node_at, probe_at}
use Rattle.case_model.specs.Samples.{Sample}
use Rattle.case_model.specs.declared.cases.Case.{Case}
use Rattle.case_model.specs.declared.cases.NodeKind.{NodeKind}
use Rattle.case_model.specs.declared.cases.NodeKind.TheVariants.{Reservoir, Junction, Discharge}
use Rattle.case_model.specs.declared.cases.NodeKind.TheVariants.{Inline, Pump, Tank, Vessel}
use Rattle.case_model.specs.declared.cases.ProbeAt.{ProbeAt}
use Rattle.case_model.specs.declared.cases.ProbeAt.TheVariants.{OnPipe, OnNode}
use Rattle.case_model.specs.declared.meshes.Mesh.{Mesh}
use Rattle.envelope.specs.declared.extremes.Extreme.{Extreme}
use Rattle.surge_io.specs.Fields.{line_of, count_text}
use Rattle.report.specs.Lines.{head_text, flow_text, volume_text, label}
use Rattle.report.specs.Peaks.{highest, lowest}
use Rattle.report.specs.Places.{places}

-- ---- samples

-- a sample, and zeros where there is none
abbrev pub or_zeros : Option Sample → Sample
or_zeros (Some s) = s
or_zeros None = record { h = pos 0; qu = pos 0; qd = pos 0; v = pos 0 }

-- what a line of samples begins with, and its numbers: of a place of a pipe both flows, of a node
-- its growth, which is the flow on the downstream side
abbrev pub sample_word : ProbeAt → List ℕ
sample_word (OnPipe pipe place) = codes "probe"
sample_word (OnNode node) = codes "watch"

abbrev pub sample_numbers : ProbeAt → Sample → List (List ℕ)
sample_numbers (OnPipe pipe place) s =
    head_text s.h ∷ flow_text s.qu ∷ flow_text s.qd ∷ volume_text s.v ∷ []
sample_numbers (OnNode node) s = head_text s.h ∷ flow_text s.qd ∷ volume_text s.v ∷ []

unfoldable pub sample_line : Case → ProbeAt → ℕ → Option Sample → List ℕ
sample_line case at step s =
    line_of (sample_word at ∷ label case at ++ count_text step ∷ sample_numbers at (or_zeros s))

-- the steps 0, every, 2*every .. up to the last
abbrev pub sampled_steps : Case → List ℕ
sampled_steps case = map (λ j. j * case.every) (range_with_len 0 (case.steps / case.every + 1))

-- the line of one probe at a step, and its lines step by step
abbrev pub probe_line : Case → (ℕ → ℕ → Option Sample) → ℕ → ℕ → List ℕ
probe_line case samples probe step =
    sample_line case (probe_at case probe).at step (samples probe step)

unfoldable pub probe_lines : Case → (ℕ → ℕ → Option Sample) → ℕ → List ℕ
probe_lines case samples probe = flat_map (probe_line case samples probe) (sampled_steps case)

-- the lines of all probes and watches in file order
unfoldable pub samples_text : Case → (ℕ → ℕ → Option Sample) → List ℕ
samples_text case samples =
    flat_map (probe_lines case samples) (range_with_len 0 (length case.probes))

-- ---- places

abbrev pub is_vessel : NodeKind → Bool
is_vessel (Reservoir head) = false
is_vessel (Junction demand start) = false
is_vessel (Discharge q0 h0 outlet opening start) = false
is_vessel (Inline q0 h0 opening start start2) = false
is_vessel (Pump curve speed start start2) = false
is_vessel (Tank area start) = false
is_vessel (Vessel gas volume) = true

-- whether the volume of a place is that of a gas, and no cavity's
abbrev pub has_gas : Case → ProbeAt → Bool
has_gas case (OnPipe pipe place) = false
has_gas case (OnNode node) = is_vessel (node_at case node).kind

-- the line of a place's greatest volume where it is over 0 and a cavity's, with its first step
unfoldable pub cavity_line : Case → ProbeAt → Extreme → List ℕ
cavity_line case at e =
    if int_lt (pos 0) e.volume && not (has_gas case at)
    then line_of (codes "cavity" ∷ label case at
    ++ volume_text e.volume ∷ count_text e.volume_step ∷ [])
    else []

-- the line of a place's greatest and least head, each with its first step
unfoldable pub envelope_line : Case → ProbeAt → Extreme → List ℕ
envelope_line case at e =
    line_of (codes "envelope" ∷ label case at ++ head_text e.max ∷ count_text e.max_step
    ∷ head_text e.min ∷ count_text e.min_step ∷ [])

unfoldable pub cavities_text : Case → Mesh → (ProbeAt → Extreme) → List ℕ
cavities_text case mesh extremes = flat_map (λ at. cavity_line case at (extremes at)) (places mesh)

unfoldable pub envelopes_text : Case → Mesh → (ProbeAt → Extreme) → List ℕ
envelopes_text case mesh extremes =
    flat_map (λ at. envelope_line case at (extremes at)) (places mesh)

-- ---- the peak

-- the greatest head over all places of pipes, and the least, each with its place and its first step
unfoldable pub peak_line : Case → ProbeAt → Extreme → ProbeAt → Extreme → List ℕ
peak_line case high greatest low least =
    line_of ((codes "peak" ∷ label case high
    ++ head_text greatest.max ∷ count_text greatest.max_step ∷ [])
    ++ (codes "low" ∷ label case low ++ head_text least.min ∷ count_text least.min_step ∷ []))

unfoldable pub peak_text : Case → Mesh → (ProbeAt → Extreme) → List ℕ
peak_text case mesh extremes =
    peak_line case (highest extremes mesh) (extremes (highest extremes mesh)) (lowest extremes mesh)
    (extremes (lowest extremes mesh))

-- ---- the report

-- over an extreme for each place, and a sample for each probe by its index and each step
unfoldable pub report_text : Case → Mesh → (ProbeAt → Extreme) → (ℕ → ℕ → Option Sample) → List ℕ
report_text case mesh extremes samples =
    samples_text case samples ++ cavities_text case mesh extremes
    ++ envelopes_text case mesh extremes ++ peak_text case mesh extremes
