-- The answer: what the program prints for its words and its input, and the number of its status.
use Rattle.std.specs.Prelude.{◌≡◌, ℕ, Bool, true, false, Option, Some, None, Result, Ok, Err}
use Rattle.std.specs.Prelude.{if◌then◌else◌, List}
use Rattle.case_model.specs.declared.cases.Case.{Case}
use Rattle.case_model.specs.declared.meshes.Mesh.{Mesh}
use Rattle.case_model.specs.Parts.{probe_at}
use Rattle.case_model.specs.Samples.{sample}
use Rattle.case_model.specs.FirstFault.{first_fault}
use Rattle.case_model.specs.Search.{Refusal}
use Rattle.command_words.specs.declared.job.Command.{Command}
use Rattle.case_writing.specs.CaseText.{case_text, upgraded}
use Rattle.command_words.specs.declared.job.Command.TheVariants.{Check, Mesh as MeshCommand, Rounds}
use Rattle.command_words.specs.declared.job.Command.TheVariants.{Run, Drill, Upgrade}
use Rattle.command_words.specs.declared.job.Job.{Job}
use Rattle.command_words.specs.CommandLine.{job_of}
use Rattle.drill.specs.Network.{drill_text}
use Rattle.envelope.specs.Rows.{extreme_at}
use Rattle.netfile.specs.Verdict.{verdict}
use Rattle.scheme.specs.Laws.{meaning_of}
use Rattle.report.specs.Messages.{usage_text, accepted_text, refusal_text, range_text}
use Rattle.report.specs.MeshText.{mesh_text}
use Rattle.report.specs.Report.{peak_text, report_text}
use Rattle.regions.specs.Layouts.{layout_of}

pub record Answer : Type 0 where
  pub text : List ℕ
  pub status : ℕ

-- the answer to words that are refused
abbrev pub usage : Answer
usage = record { text = usage_text; status = 2 }

abbrev pub refused : ℕ → ℕ → Answer
refused number line = record { text = refusal_text number line; status = 1 }

-- the report of an accepted case: over its rows of the steps 0 to the last
unfoldable pub rows_text : Case → Mesh → List ℕ
rows_text case mesh =
    report_text case mesh (extreme_at (meaning_of case mesh) case.steps)
    (λ j step. sample (meaning_of case mesh) case (probe_at case j).at step)

-- the last line of that report alone
unfoldable pub peak_of_rows : Case → Mesh → List ℕ
peak_of_rows case mesh = peak_text case mesh (extreme_at (meaning_of case mesh) case.steps)

-- of an accepted case: the first fault up to the last step, or else this text of its rows
abbrev pub computed : List ℕ → Case → Mesh → Option (ℕ × ℕ) → Answer
computed text case mesh (Some fault) =
    record { text = range_text case mesh fault.0 fault.1; status = 3 }
computed text case mesh None = record { text = text; status = 0 }

abbrev pub run_of : List ℕ → Case → Mesh → Answer
run_of text case mesh = computed text case mesh (first_fault (meaning_of case mesh) case.steps)

-- the mesh of an accepted case, cut for windows of at most so many steps
abbrev pub cut : Case → Mesh → ℕ → Answer
cut case mesh wish =
    record { text = mesh_text case mesh (layout_of case.steps mesh wish); status = 0 }

-- what a command answers to an accepted case, where windows of at most so many steps are wished for
abbrev pub answer_by : Command → ℕ → Case → Mesh → Answer
answer_by Check wish case mesh = record { text = accepted_text; status = 0 }
answer_by MeshCommand wish case mesh = cut case mesh wish
answer_by Rounds wish case mesh = run_of (rows_text case mesh) case mesh
answer_by Run wish case mesh = run_of (rows_text case mesh) case mesh
answer_by Drill wish case mesh = run_of (peak_of_rows case mesh) case mesh
answer_by Upgrade wish case mesh = record { text = case_text (upgraded case); status = 0 }

abbrev pub answer_case : Job → Case → Mesh → Answer
answer_case job case mesh = answer_by job.command job.window case mesh

-- what a job answers to a text that means this
abbrev pub answer_to : Job → Result (Case × Mesh) Refusal → Answer
answer_to job (Ok accepted) = answer_case job accepted.0 accepted.1
answer_to job (Err refusal) = refused refusal.number refusal.line

-- whether a command reads the input; a drill makes its case text from its number
abbrev pub reads : Command → Bool
reads Check = true
reads MeshCommand = true
reads Rounds = true
reads Run = true
reads Drill = false
reads Upgrade = true

-- whether a command computes the steps of an accepted case
abbrev pub computes : Command → Bool
computes Check = false
computes MeshCommand = false
computes Rounds = true
computes Run = true
computes Drill = true
computes Upgrade = false

-- whether words, by the job that they name, have the input read
abbrev pub job_reads : Option Job → Bool
job_reads (Some job) = reads job.command
job_reads None = false

abbrev pub are_read : List (List ℕ) → Bool
are_read words = job_reads (job_of words)

-- the case text that a job is about, with this input
abbrev pub text_for : Job → List ℕ → List ℕ
text_for job bytes = if reads job.command then bytes else drill_text job.number

abbrev pub answer_job : Option Job → List ℕ → Answer
answer_job (Some job) bytes = answer_to job (verdict (text_for job bytes))
answer_job None bytes = usage

-- the answer to these words and this input
unfoldable pub answer : List (List ℕ) → List ℕ → Answer
answer words bytes = answer_job (job_of words) bytes

-- the answer to words that have no input read: the usage line to refused words, and to a drill that
-- to the text of its number
abbrev pub unread_by : Option Job → Answer
unread_by (Some job) = answer_to job (verdict (drill_text job.number))
unread_by None = usage

unfoldable pub unread : List (List ℕ) → Answer
unread words = unread_by (job_of words)

-- the words name this job, and its text is accepted and means this case and this mesh
pub record Says (words : List (List ℕ)) (bytes : List ℕ) (job : Job) (case : Case)
    (mesh : Mesh) : Type 0 where
  pub named : job_of words ≡ Some job
  pub meant : verdict (text_for job bytes) ≡ Ok (case, mesh)
