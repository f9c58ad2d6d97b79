-- A text and its upgrade have the same answer.
use Rattle.std.proofs.Common.{ℕ, ◌≤◌, ◌≡◌, true, Option, Some, None, Ok, List, length, refl, ap, ◌∙◌}
use Rattle.std.proofs.Math.Path.{fun_ext}
use Rattle.case_model.specs.declared.cases.Case.{Case}
use Rattle.case_model.specs.declared.cases.ProbeAt.{ProbeAt}
use Rattle.case_model.specs.declared.meshes.Mesh.{Mesh}
use Rattle.case_model.specs.FirstFault.{first_fault}
use Rattle.case_model.specs.Meaning.{Meaning}
use Rattle.case_model.specs.Parts.{probe_at}
use Rattle.case_model.specs.Samples.{Sample, sample}
use Rattle.case_writing.specs.CaseText.{case_text, upgraded}
use Rattle.command_words.specs.CommandLine.{job_of}
use Rattle.command_words.specs.declared.job.Command.{Command}
use Rattle.command_words.specs.declared.job.Command.TheVariants.{Rounds}
use Rattle.command_words.specs.declared.job.Job.{Job}
use Rattle.envelope.specs.declared.extremes.Extreme.{Extreme}
use Rattle.envelope.specs.Rows.{extreme_at}
use Rattle.netfile.specs.Verdict.{verdict}
use Rattle.report.specs.Report.{report_text}
use Rattle.round_trip.proofs.Upgraded.{upgraded_reads_back}
use Rattle.round_trip.specs.Renumbered.{renumbered}
use Rattle.scheme.specs.Laws.{meaning_of}
use Rattle.surge_top.specs.Answer.{answer, answer_by, answer_case, computed, reads, rows_text}
use Rattle.upgrading.proofs.Same.{AreAlike, upgraded_alike}
use Rattle.upgrading.proofs.MeaningSame.{meaning_same}
use Rattle.upgrading.proofs.ReportSame.{report_same, range_same, sample_same}

extremes_same : (again case : Case) → AreAlike again case → (mesh : Mesh) → extreme_at (meaning_of again mesh) again.steps ≡ extreme_at (meaning_of case mesh) case.steps
extremes_same again case a mesh =
    ap (λ (law : Meaning). extreme_at law again.steps) (meaning_same again case a mesh)
    ∙ ap (λ (last : ℕ). extreme_at (meaning_of case mesh) last) a.steps

one_sample : (again case : Case) → AreAlike again case → (mesh : Mesh) (j step : ℕ)
    → sample (meaning_of again mesh) again (probe_at again j).at step ≡ sample (meaning_of case mesh) case (probe_at case j).at step
one_sample again case a mesh j step =
    ap (λ (law : Meaning). sample law again (probe_at again j).at step) (meaning_same again case a mesh)
    ∙ ap (λ (at : ProbeAt). sample (meaning_of case mesh) again at step) (a.at j)
    ∙ sample_same again case a (meaning_of case mesh) (probe_at case j).at step

samples_alike : (again case : Case) → AreAlike again case → (mesh : Mesh)
    → (let f : ℕ → ℕ → Option Sample = λ j step. sample (meaning_of again mesh) again (probe_at again j).at step in f)
    ≡ (let g : ℕ → ℕ → Option Sample = λ j step. sample (meaning_of case mesh) case (probe_at case j).at step in g)
samples_alike again case a mesh = fun_ext (λ j. fun_ext (λ step. one_sample again case a mesh j step))

rows_same : (again case : Case) → AreAlike again case → (mesh : Mesh) → rows_text again mesh ≡ rows_text case mesh
unfolding rows_text
rows_same again case a mesh =
    report_same again case a mesh (extreme_at (meaning_of again mesh) again.steps) (λ j step. sample (meaning_of again mesh) again (probe_at again j).at step)
    ∙ ap (λ (extremes : ProbeAt → Extreme). report_text case mesh extremes (λ j step. sample (meaning_of again mesh) again (probe_at again j).at step)) (extremes_same again case a mesh)
    ∙ ap (λ (samples : ℕ → ℕ → Option Sample). report_text case mesh (extreme_at (meaning_of case mesh) case.steps) samples) (samples_alike again case a mesh)

computed_same : (again case : Case) → AreAlike again case → (mesh : Mesh) (fault : Option (ℕ × ℕ)) → computed (rows_text again mesh) again mesh fault ≡ computed (rows_text case mesh) case mesh fault
computed_same again case a mesh (Some fault) = rw (range_same again case a mesh fault.0 fault.1) refl
computed_same again case a mesh None = rw (rows_same again case a mesh) refl

fault_same : (again case : Case) → AreAlike again case → (mesh : Mesh) → first_fault (meaning_of again mesh) again.steps ≡ first_fault (meaning_of case mesh) case.steps
fault_same again case a mesh =
    ap (λ (law : Meaning). first_fault law again.steps) (meaning_same again case a mesh)
    ∙ ap (λ (last : ℕ). first_fault (meaning_of case mesh) last) a.steps

by_same : (again case : Case) → AreAlike again case → (mesh : Mesh) (command : Command) (wish : ℕ) → command ≡ Rounds → answer_by command wish again mesh ≡ answer_by command wish case mesh
by_same again case a mesh command wish c =
    rw c (computed_same again case a mesh (first_fault (meaning_of again mesh) again.steps) ∙ ap (computed (rows_text case mesh) case mesh) (fault_same again case a mesh))

answers_same : (words : List (List ℕ)) (text bytes : List ℕ) (job : Job) (again case : Case) (mesh : Mesh) → job_of words ≡ Some job → reads job.command ≡ true
    → verdict text ≡ Ok (again, mesh) → verdict bytes ≡ Ok (case, mesh) → answer_case job again mesh ≡ answer_case job case mesh → answer words text ≡ answer words bytes
unfolding answer
answers_same words text bytes job again case mesh j r v w e = rw (j, r, v, w) e

pub upgraded_same : (words : List (List ℕ)) (bytes : List ℕ) (job : Job) (case : Case) (mesh : Mesh) → job_of words ≡ Some job → job.command ≡ Rounds
    → verdict bytes ≡ Ok (case, mesh) → length (case_text (upgraded case)) ≤ 8_388_608 → answer words (case_text (upgraded case)) ≡ answer words bytes
upgraded_same words bytes job case mesh j c v l =
    answers_same words (case_text (upgraded case)) bytes job (renumbered (upgraded case)) case mesh j (rw c refl) (upgraded_reads_back bytes case mesh v l) v
    (by_same (renumbered (upgraded case)) case (upgraded_alike case) mesh job.command job.window c)
