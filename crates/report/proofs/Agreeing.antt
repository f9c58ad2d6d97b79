-- Reports over the same numbers are the same.
use Rattle.std.proofs.Common.{◌≡◌, ◌∙◌, ℕ, zero, suc, ◌+◌, ◌*◌, ◌/◌, ◌%◌, ◌<◌, ◌≤◌, List, [], ◌∷◌, length, map, Option, refl, ap, arith}
use Rattle.std.proofs.Math.Nat.{mul-mod_left}
use Rattle.std.specs.List.{All, flat_map, range_with_len}
use Rattle.std.proofs.lemmas.List.Elements.{All-head, All-tail, All-append}
use Rattle.case_model.specs.Samples.{Sample}
use Rattle.case_model.specs.declared.cases.Case.{Case}
use Rattle.case_model.specs.declared.cases.ProbeAt.{ProbeAt}
use Rattle.case_model.specs.declared.cases.ProbeAt.TheVariants.{OnNode}
use Rattle.case_model.specs.declared.meshes.Mesh.{Mesh}
use Rattle.case_model.specs.Parts.{probe_at}
use Rattle.case_model.specs.PlaceNumbers.{IsOn}
use Rattle.envelope.specs.declared.extremes.Extreme.{Extreme}
use Rattle.report.specs.Peaks.{highest, lowest}
use Rattle.report.specs.Places.{IsOnPipe, node_places, pipe_places, places}
use Rattle.report.specs.Report.{cavities_text, cavity_line, envelope_line, envelopes_text, peak_line, peak_text, probe_line, probe_lines, report_text, sample_line, samples_text}
use Rattle.report.proofs.Numbers.{on_pipe, step-within}
use Rattle.report.proofs.Ordered.{all_of_range, all-pipe_places}
use Rattle.report.proofs.PeakLaws.{highest-alike, highest-is, lowest-alike, lowest-is}

same_on : {X : Type 0} (f g : X → List ℕ) (xs : List X) → All (λ x. f x ≡ g x) xs → flat_map f xs ≡ flat_map g xs
same_on f g [] h = refl
same_on f g (x ∷ xs) h = rw (All-head (λ y. f y ≡ g y) x xs h, same_on f g xs (All-tail (λ y. f y ≡ g y) x xs h)) refl

same_over_range : {X : Type 0} (f g : X → List ℕ) (at : ℕ → X) (n : ℕ) → ((i : ℕ) → i < n → f (at i) ≡ g (at i)) → flat_map f (map at (range_with_len 0 n)) ≡ flat_map g (map at (range_with_len 0 n))
same_over_range f g at n h = same_on f g (map at (range_with_len 0 n)) (all_of_range (λ x. f x ≡ g x) at 0 n (λ i low high. h i (omega arith)))

-- ---- samples

times_over : (j every : ℕ) → j * every % every ≡ 0
times_over j every = mul-mod_left j every

-- two readings of samples agree on the probes of a case and the steps that are sampled
abbrev pub AgreeOnSamples : Case → (ℕ → ℕ → Option Sample) → (ℕ → ℕ → Option Sample) → Type 0
AgreeOnSamples case s t = (j step : ℕ) → j < length case.probes → step ≤ case.steps → step % case.every ≡ 0 → s j step ≡ t j step

same_probe : (case : Case) (s t : ℕ → ℕ → Option Sample) (j : ℕ) → j < length case.probes → AgreeOnSamples case s t → probe_lines case s j ≡ probe_lines case t j
unfolding probe_lines
same_probe case s t j there same =
    same_over_range (probe_line case s j) (probe_line case t j) (λ i. i * case.every) (case.steps / case.every + 1)
    (λ i low. ap (sample_line case (probe_at case j).at (i * case.every)) (same j (i * case.every) there (step-within i case.every case.steps (omega arith)) (times_over i case.every)))

same_probes : (case : Case) (s t : ℕ → ℕ → Option Sample) (a n : ℕ) → a + n ≤ length case.probes → AgreeOnSamples case s t → flat_map (probe_lines case s) (range_with_len a n) ≡ flat_map (probe_lines case t) (range_with_len a n)
same_probes case s t a zero h same = refl
same_probes case s t a (suc n) h same = rw (same_probe case s t a (omega arith) same, same_probes case s t (a + 1) n (omega arith) same) refl

same_samples : (case : Case) (s t : ℕ → ℕ → Option Sample) → AgreeOnSamples case s t → samples_text case s ≡ samples_text case t
unfolding samples_text
same_samples case s t same = same_probes case s t 0 (length case.probes) (omega arith) same

-- ---- places

all_places : (P : ProbeAt → Type 0) (mesh : Mesh) → ((at : ProbeAt) → IsOn mesh at → P at) → All P (places mesh)
unfolding places
all_places P mesh h =
    All-append P (node_places mesh) (pipe_places mesh)
    (all_of_range P OnNode 0 (length mesh.ends) (λ k low high. h (OnNode k) (omega arith)))
    (all-pipe_places P mesh (λ at on. h at (on_pipe mesh at on)))

same_cavities : (case : Case) (mesh : Mesh) (e f : ProbeAt → Extreme) → ((at : ProbeAt) → IsOn mesh at → e at ≡ f at) → cavities_text case mesh e ≡ cavities_text case mesh f
unfolding cavities_text
same_cavities case mesh e f same =
    same_on (λ at. cavity_line case at (e at)) (λ at. cavity_line case at (f at)) (places mesh)
    (all_places (λ at. cavity_line case at (e at) ≡ cavity_line case at (f at)) mesh (λ at on. ap (cavity_line case at) (same at on)))

same_envelopes : (case : Case) (mesh : Mesh) (e f : ProbeAt → Extreme) → ((at : ProbeAt) → IsOn mesh at → e at ≡ f at) → envelopes_text case mesh e ≡ envelopes_text case mesh f
unfolding envelopes_text
same_envelopes case mesh e f same =
    same_on (λ at. envelope_line case at (e at)) (λ at. envelope_line case at (f at)) (places mesh)
    (all_places (λ at. envelope_line case at (e at) ≡ envelope_line case at (f at)) mesh (λ at on. ap (envelope_line case at) (same at on)))

pub same-peak : (case : Case) (mesh : Mesh) (e f : ProbeAt → Extreme) → 0 < length mesh.pipes → ((at : ProbeAt) → IsOnPipe mesh at → e at ≡ f at) → peak_text case mesh e ≡ peak_text case mesh f
unfolding peak_text
same-peak case mesh e f some pipes =
    let high : e (highest e mesh) ≡ f (highest e mesh) = pipes (highest e mesh) ((highest-is mesh e some).there) in
    let low : e (lowest e mesh) ≡ f (lowest e mesh) = pipes (lowest e mesh) ((lowest-is mesh e some).there) in
    ap (λ x. peak_line case (highest e mesh) x (lowest e mesh) (e (lowest e mesh))) high
    ∙ ap (λ x. peak_line case (highest e mesh) (f (highest e mesh)) (lowest e mesh) x) low
    ∙ ap (λ at. peak_line case at (f at) (lowest e mesh) (f (lowest e mesh))) (highest-alike e f mesh some pipes)
    ∙ ap (λ at. peak_line case (highest f mesh) (f (highest f mesh)) at (f at)) (lowest-alike e f mesh some pipes)

pub same-report : (case : Case) (mesh : Mesh) (e f : ProbeAt → Extreme) (s t : ℕ → ℕ → Option Sample) → 0 < length mesh.pipes
    → ((at : ProbeAt) → IsOn mesh at → e at ≡ f at) → AgreeOnSamples case s t → report_text case mesh e s ≡ report_text case mesh f t
unfolding report_text
same-report case mesh e f s t some extremes samples =
    rw (same_samples case s t samples, same_cavities case mesh e f extremes, same_envelopes case mesh e f extremes, same-peak case mesh e f some (λ at on. extremes at (on_pipe mesh at on))) refl
