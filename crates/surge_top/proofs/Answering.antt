-- The answer to what was read of an input.
use Rattle.std.proofs.Common.{◌≡◌, ◌<◌, ℕ, Bool, true, false, List, ◌++◌, length, Option, Some, None, Result, Ok, Err, refl, sym, ap, ap₂, ◌∙◌, subst, arith, inl, inr, length-append}
use Rattle.std.proofs.lemmas.List.{append-nil}
use Rattle.std.proofs.lemmas.Bool.{lt-ltb}
use Rattle.std.specs.Prelude.{IfSome, if◌then◌else◌}
use Rattle.surge_io.specs.Bytes.{IsReading}
use Rattle.command_words.specs.declared.job.Command.{Command}
use Rattle.command_words.specs.declared.job.Command.TheVariants.{Check, Mesh as MeshCommand, Rounds, Run, Drill, Upgrade}
use Rattle.command_words.specs.declared.job.Job.{Job}
use Rattle.command_words.specs.CommandLine.{job_of}
use Rattle.drill.specs.Network.{drill_text}
use Rattle.netfile.specs.Verdict.{verdict}
use Rattle.surge_top.specs.Answer.{Answer, answer, answer_by, answer_to, computed, usage, reads, job_reads, are_read, computes, text_for, unread, peak_of_rows, rows_text}
use Rattle.case_model.specs.declared.cases.Case.{Case}
use Rattle.case_model.specs.declared.meshes.Mesh.{Mesh}
use Rattle.case_model.specs.FirstFault.{first_fault}
use Rattle.case_model.specs.Search.{Refusal}
use Rattle.scheme.specs.Laws.{meaning_of}

verdict_long : (bytes : List ℕ) (other : List ℕ) → 8_388_608 < length bytes → 8_388_608 < length other → verdict bytes ≡ verdict other
unfolding verdict
verdict_long bytes other h k = rw (lt-ltb 8_388_608 (length bytes) h, lt-ltb 8_388_608 (length other) k) refl

same_verdict : (taken bytes : List ℕ) → IsReading 8_388_608 taken bytes → verdict taken ≡ verdict bytes
same_verdict taken bytes r = elim r.2 [
  | inl e ↦ ap verdict (sym (r.1 ∙ ap (λ rest. taken ++ rest) e ∙ append-nil taken))
  | inr long ↦ verdict_long taken bytes long (let l = ap length r.1 in omega (arith, l, length-append taken r.0))
]

-- what holds of the answer to the bytes that were taken holds of the answer to all
pub for_taken : (left : Option (List ℕ)) (job : Job) (taken : List ℕ) (P : Answer → Type 0) → IfSome left (IsReading 8_388_608 taken)
    → P (answer_to job (verdict taken)) → IfSome left (λ bytes. P (answer_to job (verdict bytes)))
for_taken None job taken P r p = tt
for_taken (Some bytes) job taken P r p = subst P (ap (answer_to job) (same_verdict taken bytes r)) p

pub answer_read : (words : List (List ℕ)) (job : Job) (bytes : List ℕ) → job_of words ≡ Some job → reads job.command ≡ true → answer_to job (verdict bytes) ≡ answer words bytes
unfolding answer
answer_read words job bytes w r = rw (w, r) refl

-- what holds of a command's answer holds of the answer to words that name it
pub for_job : (left : Option (List ℕ)) (words : List (List ℕ)) (job : Job) (P : Answer → Type 0) → job_of words ≡ Some job → reads job.command ≡ true
    → IfSome left (λ bytes. P (answer_to job (verdict bytes))) → IfSome left (λ bytes. P (answer words bytes))
for_job None words job P w r p = tt
for_job (Some bytes) words job P w r p = subst P (answer_read words job bytes w r) p

pub answer_unread : (words : List (List ℕ)) (bytes : List ℕ) (o : Option Job) → job_of words ≡ o → job_reads o ≡ false → unread words ≡ answer words bytes
unfolding answer unread
answer_unread words bytes None w r = rw w refl
answer_unread words bytes (Some job) w r = rw (w, r) refl

-- what holds of the answer to words that have no input read, whatever the input is
pub for_unread : (left : Option (List ℕ)) (words : List (List ℕ)) (P : Answer → Type 0) → are_read words ≡ false → P (unread words) → IfSome left (λ bytes. P (answer words bytes))
for_unread None words P w p = tt
for_unread (Some bytes) words P w p = subst P (answer_unread words bytes (job_of words) refl w) p

-- the usage line to refused words
pub unread_refused : (words : List (List ℕ)) → job_of words ≡ None → usage ≡ unread words
unfolding unread
unread_refused words w = rw w refl

-- the answer to a drill
pub unread_drill : (words : List (List ℕ)) (job : Job) → job_of words ≡ Some job → answer_to job (verdict (drill_text job.number)) ≡ unread words
unfolding unread
unread_drill words job w = rw w refl

-- a refused text
pub answer_of_refused : (words : List (List ℕ)) (bytes : List ℕ) (r : Refusal) (job : Job) → job_of words ≡ Some job → verdict (text_for job bytes) ≡ Err r → (answer words bytes).status ≡ 1
unfolding answer
answer_of_refused words bytes r job w v = rw (w, v) refl

-- words that name a command which reads
pub read_words : (words : List (List ℕ)) (job : Job) → job_of words ≡ Some job → are_read words ≡ reads job.command
read_words words job w = rw w refl

pub unread_words : (words : List (List ℕ)) → job_of words ≡ None → are_read words ≡ false
unread_words words w = rw w refl

-- the answer to a text is never that to refused words
pub not_usage : (job : Job) (told : Result (Case × Mesh) Refusal) → (answer_to job told).status ≡ 2 → ⊥
not_usage job (Err refusal) e = cc
not_usage job (Ok accepted) e = by_command job.command job.window accepted.0 accepted.1 e
  where
    computed_status : (text : List ℕ) (case : Case) (mesh : Mesh) (fault : Option (ℕ × ℕ)) → (computed text case mesh fault).status ≡ 2 → ⊥
    computed_status text case mesh (Some fault) e = cc
    computed_status text case mesh None e = cc

    by_command : (command : Command) (wish : ℕ) (case : Case) (mesh : Mesh) → (answer_by command wish case mesh).status ≡ 2 → ⊥
    by_command Check wish case mesh e = cc
    by_command MeshCommand wish case mesh e = cc
    by_command Rounds wish case mesh e = computed_status (rows_text case mesh) case mesh (first_fault (meaning_of case mesh) case.steps) e
    by_command Run wish case mesh e = computed_status (rows_text case mesh) case mesh (first_fault (meaning_of case mesh) case.steps) e
    by_command Drill wish case mesh e = computed_status (peak_of_rows case mesh) case mesh (first_fault (meaning_of case mesh) case.steps) e
    by_command Upgrade wish case mesh e = cc

-- what a command answers to an accepted case hangs on the wish of `mesh` alone
same_by : (command : Command) (wish other : ℕ) (case : Case) (mesh : Mesh) → (command ≡ MeshCommand → other ≡ wish) → answer_by command other case mesh ≡ answer_by command wish case mesh
same_by Check wish other case mesh e = refl
same_by MeshCommand wish other case mesh e = ap (λ (w : ℕ). answer_by MeshCommand w case mesh) (e refl)
same_by Rounds wish other case mesh e = refl
same_by Run wish other case mesh e = refl
same_by Drill wish other case mesh e = refl
same_by Upgrade wish other case mesh e = refl

same_to : (command : Command) (job other : Job) (told : Result (Case × Mesh) Refusal) → job.command ≡ command → other.command ≡ command → (command ≡ MeshCommand → other.window ≡ job.window)
    → answer_to other told ≡ answer_to job told
same_to command job other (Err refusal) k l e = refl
same_to command job other (Ok accepted) k l e = rw (k, l) (same_by command job.window other.window accepted.0 accepted.1 e)

-- jobs of one command and one number are about one text
same_text : (job other : Job) (bytes : List ℕ) → other.command ≡ job.command → other.number ≡ job.number → text_for other bytes ≡ text_for job bytes
same_text job other bytes k n = rw (k, n) refl

-- jobs of one command and one number have one answer, where they wish for one window or the command isn't `mesh`
pub same_answer : (words others : List (List ℕ)) (bytes : List ℕ) (job other : Job) → job_of words ≡ Some job → job_of others ≡ Some other → other.command ≡ job.command → other.number ≡ job.number
    → (job.command ≡ MeshCommand → other.window ≡ job.window) → answer others bytes ≡ answer words bytes
unfolding answer
same_answer words others bytes job other w o k n e =
    rw (w, o) (ap (λ text. answer_to other (verdict text)) (same_text job other bytes k n) ∙ same_to job.command job other (verdict (text_for job bytes)) refl k e)

-- `run` has the answer that `rounds` has
pub run_answer : (words others : List (List ℕ)) (bytes : List ℕ) (job other : Job) → job_of words ≡ Some job → job_of others ≡ Some other → job.command ≡ Rounds → other.command ≡ Run
    → answer others bytes ≡ answer words bytes
unfolding answer
run_answer words others bytes job other w o k l =
    let first : text_for job bytes ≡ bytes = rw k refl in
    let second : text_for other bytes ≡ bytes = rw l refl in
    rw (w, o, first, second) (told job other (verdict bytes) k l)
  where
    told : (job other : Job) (told : Result (Case × Mesh) Refusal) → job.command ≡ Rounds → other.command ≡ Run → answer_to other told ≡ answer_to job told
    told job other (Err refusal) k l = refl
    told job other (Ok accepted) k l = rw (k, l) refl

-- the status of a command that computes
pub run_status : (command : Command) (wish : ℕ) (case : Case) (mesh : Mesh) (fault : ℕ × ℕ) → computes command ≡ true → first_fault (meaning_of case mesh) case.steps ≡ Some fault → (answer_by command wish case mesh).status ≡ 3
run_status Check wish case mesh fault k f = absurd cc
run_status MeshCommand wish case mesh fault k f = absurd cc
run_status Rounds wish case mesh fault k f = rw f refl
run_status Run wish case mesh fault k f = rw f refl
run_status Drill wish case mesh fault k f = rw f refl
run_status Upgrade wish case mesh fault k f = absurd cc

pub done_status : (command : Command) (wish : ℕ) (case : Case) (mesh : Mesh) → computes command ≡ true → first_fault (meaning_of case mesh) case.steps ≡ None → (answer_by command wish case mesh).status ≡ 0
done_status Check wish case mesh k f = refl
done_status MeshCommand wish case mesh k f = refl
done_status Rounds wish case mesh k f = rw f refl
done_status Run wish case mesh k f = rw f refl
done_status Drill wish case mesh k f = rw f refl
done_status Upgrade wish case mesh k f = refl
