-- The report of a case doesn't hang on its version, nor on the lines of its parts.
use Rattle.std.proofs.Common.{ℕ, ◌+◌, ◌/◌, ◌≡◌, ◌++◌, Option, List, length, refl, ap, ◌∙◌}
use Rattle.std.proofs.Math.Path.{fun_ext}
use Rattle.std.specs.List.{flat_map, range_with_len}
use Rattle.case_model.specs.declared.cases.Case.{Case}
use Rattle.case_model.specs.declared.cases.ProbeAt.{ProbeAt}
use Rattle.case_model.specs.declared.cases.ProbeAt.TheVariants.{OnPipe, OnNode}
use Rattle.case_model.specs.declared.meshes.Mesh.{Mesh}
use Rattle.case_model.specs.Meaning.{Meaning}
use Rattle.case_model.specs.Parts.{probe_at}
use Rattle.case_model.specs.PlaceNumbers.{place_at}
use Rattle.case_model.specs.Samples.{Sample, sample}
use Rattle.envelope.specs.declared.extremes.Extreme.{Extreme}
use Rattle.report.specs.Lines.{label}
use Rattle.report.specs.Messages.{range_text}
use Rattle.report.specs.Peaks.{highest, lowest}
use Rattle.report.specs.Places.{places}
use Rattle.report.specs.Report.{has_gas, sample_line, sampled_steps, probe_line, probe_lines, samples_text, cavity_line, envelope_line, cavities_text, envelopes_text, peak_line, peak_text, report_text}
use Rattle.upgrading.proofs.Same.{AreAlike}

label_same : (again case : Case) → AreAlike again case → (at : ProbeAt) → label again at ≡ label case at
label_same again case a (OnPipe pipe place) = rw (a.pipe_name pipe) refl
label_same again case a (OnNode node) = rw (a.node_name node) refl

gas_same : (again case : Case) → AreAlike again case → (at : ProbeAt) → has_gas again at ≡ has_gas case at
gas_same again case a (OnPipe pipe place) = refl
gas_same again case a (OnNode node) = rw (a.kind node) refl

-- the samples
sample_line_same : (again case : Case) → AreAlike again case → (at : ProbeAt) (step : ℕ) (s : Option Sample) → sample_line again at step s ≡ sample_line case at step s
unfolding sample_line
sample_line_same again case a at step s = rw (label_same again case a at) refl

probe_line_same : (again case : Case) → AreAlike again case → (samples : ℕ → ℕ → Option Sample) (probe step : ℕ) → probe_line again samples probe step ≡ probe_line case samples probe step
probe_line_same again case a samples probe step =
    ap (λ (at : ProbeAt). sample_line again at step (samples probe step)) (a.at probe)
    ∙ sample_line_same again case a (probe_at case probe).at step (samples probe step)

steps_same : (again case : Case) → AreAlike again case → sampled_steps again ≡ sampled_steps case
steps_same again case a = rw (a.every, a.steps) refl

probe_lines_same : (again case : Case) → AreAlike again case → (samples : ℕ → ℕ → Option Sample) (probe : ℕ) → probe_lines again samples probe ≡ probe_lines case samples probe
unfolding probe_lines
probe_lines_same again case a samples probe =
    ap (λ (line : ℕ → List ℕ). flat_map line (sampled_steps again)) (fun_ext (λ step. probe_line_same again case a samples probe step))
    ∙ ap (λ (steps : List ℕ). flat_map (probe_line case samples probe) steps) (steps_same again case a)

samples_same : (again case : Case) → AreAlike again case → (samples : ℕ → ℕ → Option Sample) → samples_text again samples ≡ samples_text case samples
unfolding samples_text
samples_same again case a samples =
    ap (λ (lines : ℕ → List ℕ). flat_map lines (range_with_len 0 (length again.probes))) (fun_ext (λ probe. probe_lines_same again case a samples probe))
    ∙ ap (λ (n : ℕ). flat_map (probe_lines case samples) (range_with_len 0 n)) a.probes

-- the lines of places
cavity_same : (again case : Case) → AreAlike again case → (at : ProbeAt) (e : Extreme) → cavity_line again at e ≡ cavity_line case at e
unfolding cavity_line
cavity_same again case a at e = rw (label_same again case a at, gas_same again case a at) refl

envelope_same : (again case : Case) → AreAlike again case → (at : ProbeAt) (e : Extreme) → envelope_line again at e ≡ envelope_line case at e
unfolding envelope_line
envelope_same again case a at e = rw (label_same again case a at) refl

cavities_same : (again case : Case) → AreAlike again case → (mesh : Mesh) (extremes : ProbeAt → Extreme) → cavities_text again mesh extremes ≡ cavities_text case mesh extremes
unfolding cavities_text
cavities_same again case a mesh extremes =
    ap (λ (line : ProbeAt → List ℕ). flat_map line (places mesh)) (fun_ext (λ at. cavity_same again case a at (extremes at)))

envelopes_same : (again case : Case) → AreAlike again case → (mesh : Mesh) (extremes : ProbeAt → Extreme) → envelopes_text again mesh extremes ≡ envelopes_text case mesh extremes
unfolding envelopes_text
envelopes_same again case a mesh extremes =
    ap (λ (line : ProbeAt → List ℕ). flat_map line (places mesh)) (fun_ext (λ at. envelope_same again case a at (extremes at)))

peak_same : (again case : Case) → AreAlike again case → (mesh : Mesh) (extremes : ProbeAt → Extreme) → peak_text again mesh extremes ≡ peak_text case mesh extremes
unfolding peak_text peak_line
peak_same again case a mesh extremes =
    rw (label_same again case a (highest extremes mesh), label_same again case a (lowest extremes mesh)) refl

pub report_same : (again case : Case) → AreAlike again case → (mesh : Mesh) (extremes : ProbeAt → Extreme) (samples : ℕ → ℕ → Option Sample) → report_text again mesh extremes samples ≡ report_text case mesh extremes samples
unfolding report_text
report_same again case a mesh extremes samples =
    rw (samples_same again case a samples, cavities_same again case a mesh extremes, envelopes_same again case a mesh extremes, peak_same again case a mesh extremes) refl

pub range_same : (again case : Case) → AreAlike again case → (mesh : Mesh) (step place : ℕ) → range_text again mesh step place ≡ range_text case mesh step place
unfolding range_text
range_same again case a mesh step place = rw (label_same again case a (place_at mesh place)) refl

-- the sample of a probe
pub sample_same : (again case : Case) → AreAlike again case → (law : Meaning) (at : ProbeAt) (step : ℕ) → sample law again at step ≡ sample law case at step
unfolding sample
sample_same again case a law at step = rw (a.every, a.steps) refl
