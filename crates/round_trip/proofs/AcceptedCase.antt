-- The case of lines that break no rule can be written, and so can the case of a text that is accepted, which reads back.
use Rattle.std.proofs.Common.{ℕ, ◌<◌, ◌≤◌, ◌≡◌, nat_lt, Bool, true, false, cond, Option, Some, None, Result, Ok, Err, List, length, sym, ap, ◌∙◌, subst}
use Rattle.case_model.specs.declared.cases.Case.{Case}
use Rattle.case_model.specs.declared.meshes.Mesh.{Mesh}
use Rattle.case_model.specs.Division.{mesh_of}
use Rattle.case_model.specs.Refusals.{passes}
use Rattle.case_model.specs.Sets.{IsEmpty, AreEmpty}
use Rattle.case_model.specs.Search.{Refusal}
use Rattle.case_model.specs.Bounds.{FirstOrNone}
use Rattle.case_lines.specs.Texts.{lines_of}
use Rattle.case_rules.specs.Among.{line_rules}
use Rattle.case_rules.specs.Counts.{count_rules}
use Rattle.case_writing.specs.CaseText.{case_text}
use Rattle.netfile.specs.Built.{case_of}
use Rattle.netfile.specs.Verdict.{all_passes, refusal_of, judged, too_long, verdict}
use Rattle.netfile.proofs.Judged.{refusal_first, some_pipe, is_read}
use Rattle.netfile.proofs.PartsSaid.{some_pipe_in}
use Rattle.round_trip.specs.Renumbered.{renumbered}
use Rattle.round_trip.specs.Writable.{IsWritable}
use Rattle.round_trip.proofs.LawBack.{mesh_reads_back}
use Rattle.round_trip.proofs.NamesKept.{names_spelt, names_apart}

-- the case of lines that the four passes accept
pub lines_writable : (lines : List (List (List ℕ))) → IsEmpty (line_rules lines) → IsEmpty (count_rules lines) → AreEmpty (passes (case_of lines)) → IsWritable (case_of lines)
lines_writable lines kept counts empty = record {
  read = is_read lines kept counts;
  kept = empty;
  some = some_pipe lines counts;
  names = names_spelt lines kept;
  once = names_apart lines kept;
}

-- the value in an `Ok`, or another one
abbrev value_or : {X E : Type 0} → X → Result X E → X
value_or d (Ok x) = x
value_or d (Err e) = d

no_refusal : (r : Refusal) (v : Case × Mesh) → Err r ≡ Ok v → ⊥
no_refusal r v h = cc

-- a verdict that accepts: no pass refuses, the case is that of the lines, and the mesh is its own
record AcceptsAll (lines : List (List (List ℕ))) (v : Case × Mesh) : Type 0 where
  empty : AreEmpty (all_passes lines)
  directive_said : case_of lines ≡ v.0
  divided : mesh_of (case_of lines) ≡ v.1

accepts : (lines : List (List (List ℕ))) (long : Bool) (o : Option Refusal) (v : Case × Mesh) → FirstOrNone (all_passes lines) o → cond long (Err too_long) (judged (case_of lines) o) ≡ Ok v → AcceptsAll lines v
accepts lines true o v f h = absurd (no_refusal too_long v h)
accepts lines false (Some r) v f h = absurd (no_refusal r v h)
accepts lines false None v f h = record { empty = f; directive_said = ap (λ (r : Result (Case × Mesh) Refusal). (value_or v r).0) h; divided = ap (λ (r : Result (Case × Mesh) Refusal). (value_or v r).1) h }

accepts_text : (bytes : List ℕ) (v : Case × Mesh) → verdict bytes ≡ Ok v → AcceptsAll (lines_of bytes) v
unfolding verdict
accepts_text bytes v h = accepts (lines_of bytes) (nat_lt 8_388_608 (length bytes)) (refusal_of (lines_of bytes)) v (refusal_first (lines_of bytes)) h

-- the case of a text that is accepted
pub accepted_writable : (bytes : List ℕ) (case : Case) (mesh : Mesh) → verdict bytes ≡ Ok (case, mesh) → IsWritable case
accepted_writable bytes case mesh h =
    let a = accepts_text bytes (case, mesh) h in
    subst IsWritable a.directive_said (lines_writable (lines_of bytes) a.empty.0 a.empty.1.0 a.empty.1.1)

pub accepted_mesh : (bytes : List ℕ) (case : Case) (mesh : Mesh) → verdict bytes ≡ Ok (case, mesh) → mesh_of case ≡ mesh
accepted_mesh bytes case mesh h =
    let a = accepts_text bytes (case, mesh) h in
    sym (ap mesh_of a.directive_said) ∙ a.divided

-- its written text means that case again, with its parts on the lines of that text, and the same mesh
pub accepted_reads_back : (bytes : List ℕ) (case : Case) (mesh : Mesh) → verdict bytes ≡ Ok (case, mesh) → length (case_text case) ≤ 8_388_608 → verdict (case_text case) ≡ Ok (renumbered case, mesh)
accepted_reads_back bytes case mesh h l =
    let same = accepted_mesh bytes case mesh h in
    subst (λ (m : Mesh). verdict (case_text case) ≡ Ok (renumbered case, m)) same (mesh_reads_back case (accepted_writable bytes case mesh h) l)
