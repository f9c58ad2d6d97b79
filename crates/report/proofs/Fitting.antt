-- How large an accepted case is, and that its probes are on its mesh.
use Rattle.std.proofs.Common.{◌≡◌, ℕ, ◌<◌, ◌≤◌, ◌&&◌, nat_lt, true, false, List, [], ◌∷◌, length, sym, ap, ◌∙◌, arith}
use Rattle.std.specs.List.{All}
use Rattle.std.proofs.lemmas.Bool.Decides.{nat_tests}
use Rattle.std.proofs.lemmas.List.Elements.{All-from_get_or}
use Rattle.case_model.specs.Accepted.{IsAccepted}
use Rattle.case_model.specs.Division.{mesh_of, pipe_mesh, divides, reaches_at}
use Rattle.case_model.specs.Kept.{HasParts, IsKept}
use Rattle.case_model.specs.Limits.{IsSpot}
use Rattle.case_model.specs.Mesh.{reaches}
use Rattle.case_model.specs.Parts.{no_probe, probe_at}
use Rattle.case_model.specs.PlaceNumbers.{IsOn}
use Rattle.case_model.specs.Refusals.{is_off, passes, sample_count}
use Rattle.case_model.specs.Sets.{AreEmpty}
use Rattle.case_model.specs.declared.cases.Case.{Case}
use Rattle.case_model.specs.declared.cases.Probe.{Probe}
use Rattle.case_model.specs.declared.cases.ProbeAt.{ProbeAt}
use Rattle.case_model.specs.declared.cases.ProbeAt.TheVariants.{OnPipe, OnNode}
use Rattle.case_model.specs.declared.meshes.Mesh.{Mesh}
use Rattle.case_model.specs.declared.meshes.PipeMesh.{PipeMesh}
use Rattle.std.proofs.lemmas.List.{length-map}
use Rattle.case_model.specs.PlaceNumbers.{number_of}
use Rattle.envelope.proofs.CellLaws.{within-first}
use Rattle.envelope.specs.Folds.{IsFoldOf, probes_of, spans_of}
use Rattle.envelope.specs.RowFolds.{probe_numbers}
use Rattle.envelope.specs.declared.folds.Fold.{Fold}
use Rattle.report.specs.Reportable.{IsReportable}
use Rattle.report.specs.Sizes.{IsSmall}

-- the law of accepted cases: each part keeps its rules, and the mesh has the parts of its case
abbrev pub KeptLaw : Type 0
KeptLaw = (case : Case) → AreEmpty (passes case) → IsKept case

abbrev pub PartsLaw : Type 0
PartsLaw = (case : Case) → HasParts case (mesh_of case)

pub parts_of : (case : Case) (mesh : Mesh) → IsAccepted case mesh → PartsLaw → HasParts case mesh
parts_of case mesh a parts = rw a.divided (parts case)

-- an accepted case is as small as the limits of the case text say
pub small : (case : Case) (mesh : Mesh) → IsAccepted case mesh → IsKept case → HasParts case mesh → IsSmall case mesh
unfolding sample_count
small case mesh a kept parts = record {
  steps = a.read.few_steps;
  same_nodes = parts.nodes;
  nodes = omega (arith, parts.nodes, a.read.few_nodes);
  same_pipes = parts.count;
  pipes = omega (arith, parts.count, a.read.few_pipes);
  places = omega (arith, a.numbered.all, parts.places, kept.places);
  numbers = omega (arith, parts.places, kept.places);
  probes = a.read.few_probes;
  samples = kept.samples;
}

within_reaches : (case : Case) (pipe place : ℕ) → divides case pipe ≡ true → is_off case (OnPipe pipe place) ≡ false → place ≤ reaches_at case pipe
unfolding is_off
within_reaches case pipe place d o =
    let n : nat_lt (reaches_at case pipe) place ≡ false = sym (ap (λ b. b && nat_lt (reaches_at case pipe) place) d) ∙ o in
    grind (arith, nat_tests)

mesh_reaches : (case : Case) (mesh : Mesh) (p : ℕ) → HasParts case mesh → p < length case.pipes → reaches mesh p ≡ reaches_at case p
unfolding pipe_mesh
mesh_reaches case mesh p parts h = ap (λ (m : PipeMesh). m.reaches) (parts.pipes p h)

on_mesh : (case : Case) (mesh : Mesh) (at : ProbeAt) → IsKept case → HasParts case mesh → IsSpot (length case.pipes) (length case.nodes) at → is_off case at ≡ false → IsOn mesh at
on_mesh case mesh (OnNode node) kept parts s o = rw parts.nodes s
on_mesh case mesh (OnPipe pipe place) kept parts s o =
    (rw parts.count s.0, rw (mesh_reaches case mesh pipe parts s.0) (within_reaches case pipe place (kept.pipes pipe s.0) o))

-- each probe of an accepted case is on its mesh
pub probes_on : (case : Case) (mesh : Mesh) → IsAccepted case mesh → IsKept case → HasParts case mesh → All (λ probe. IsOn mesh probe.at) case.probes
probes_on case mesh a kept parts =
    All-from_get_or (λ (probe : Probe). IsOn mesh probe.at) case.probes no_probe (λ q h. on_mesh case mesh (probe_at case q).at kept parts (a.read.spots q no_probe h) (kept.probes q h))

-- ---- a fold over all its places

pub few_numbers : (case : Case) (mesh : Mesh) (numbers : List ℕ) → numbers ≡ probe_numbers mesh case → length numbers ≡ length case.probes
few_numbers case mesh numbers e = ap length e ∙ length-map case.probes (λ (probe : Probe). number_of mesh probe.at)

pub reportable : (case : Case) (mesh : Mesh) (fold : Fold) → IsAccepted case mesh → IsSmall case mesh → All (λ probe. IsOn mesh probe.at) case.probes
    → IsFoldOf ((0, mesh.places) ∷ []) (probe_numbers mesh case) case.steps case.every fold → IsReportable case mesh fold
reportable case mesh fold a small on given = record {
  sized = record { same_nodes = small.same_nodes; same_pipes = small.same_pipes; few_nodes = a.read.few_nodes; few_pipes = a.read.few_pipes };
  some_pipes = a.some;
  over = record { accepted = record { case = case; accepted = a }; whole = λ k h. within-first (spans_of fold) mesh.places k given.spans_are h };
  same_probes = few_numbers case mesh (probes_of fold) given.probes_are;
  same_steps = given.steps_are;
  same_every = given.every_is;
  probes_on = on;
  few_probes = small.probes;
  some_every = a.read.some_every;
  few_steps = small.steps;
}
