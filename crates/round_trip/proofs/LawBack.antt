-- A written case reads back: with its parts on the lines where its text has them, and with its mesh.
use Rattle.std.proofs.Common.{ℕ, ◌≤◌, ◌≡◌, Ok, Result, List, length, subst, sym, ap, ◌∙◌}
use Rattle.case_model.specs.declared.cases.Case.{Case}
use Rattle.case_model.specs.declared.meshes.Mesh.{Mesh}
use Rattle.case_model.specs.Division.{mesh_of}
use Rattle.case_model.specs.Refusals.{passes}
use Rattle.case_model.specs.Sets.{IsEmpty, AreEmpty}
use Rattle.case_model.specs.Search.{Refusal}
use Rattle.case_lines.specs.Texts.{lines_of}
use Rattle.case_rules.specs.Among.{line_rules}
use Rattle.case_rules.specs.Counts.{count_rules}
use Rattle.case_writing.specs.CaseText.{case_text}
use Rattle.netfile.specs.Built.{case_of}
use Rattle.netfile.specs.Verdict.{all_passes, verdict}
use Rattle.netfile.proofs.Judged.{accepted}
use Rattle.round_trip.specs.Lines.{case_lines}
use Rattle.round_trip.specs.Renumbered.{renumbered}
use Rattle.round_trip.specs.Writable.{IsWritable}
use Rattle.round_trip.proofs.CaseBack.{case_back}
use Rattle.round_trip.proofs.CountsBack.{counts_kept}
use Rattle.round_trip.proofs.DivisionBack.{division_empty, mesh_same}
use Rattle.round_trip.proofs.LinesBack.{lines_back}
use Rattle.round_trip.proofs.RulesBack.{lines_kept}

-- the division of the case that the lines say
divided : (case : Case) → IsWritable case → AreEmpty (passes (case_of (case_lines case)))
divided case w = subst (λ (c : Case). AreEmpty (passes c)) (sym (case_back case w)) (division_empty case w.kept)

pub no_rule_broken : (case : Case) → IsWritable case → AreEmpty (all_passes (case_lines case))
no_rule_broken case w = (lines_kept case w, (counts_kept case w, divided case w))

-- a text whose lines are those of a case
text_back : (case : Case) (text : List ℕ) → IsWritable case → lines_of text ≡ case_lines case → length text ≤ 8_388_608 → verdict text ≡ Ok (case_of (lines_of text), mesh_of (case_of (lines_of text)))
text_back case text w e l =
    let kept : IsEmpty (line_rules (lines_of text)) = subst (λ (lines : List (List (List ℕ))). IsEmpty (line_rules lines)) (sym e) (lines_kept case w) in
    let counts : IsEmpty (count_rules (lines_of text)) = subst (λ (lines : List (List (List ℕ))). IsEmpty (count_rules lines)) (sym e) (counts_kept case w) in
    let parts : AreEmpty (passes (case_of (lines_of text))) = subst (λ (lines : List (List (List ℕ))). AreEmpty (passes (case_of lines))) (sym e) (divided case w) in
    accepted text l kept counts parts

said_back : (case : Case) → IsWritable case → case_of (lines_of (case_text case)) ≡ renumbered case
said_back case w = ap case_of (lines_back case w) ∙ case_back case w

result_of : Case → Result (Case × Mesh) Refusal
result_of case = Ok (case, mesh_of case)

pub case_reads_back : (case : Case) → IsWritable case → length (case_text case) ≤ 8_388_608 → verdict (case_text case) ≡ Ok (renumbered case, mesh_of (renumbered case))
unfolding result_of
case_reads_back case w l = text_back case (case_text case) w (lines_back case w) l ∙ ap result_of (said_back case w)

with_mesh : Case → Mesh → Result (Case × Mesh) Refusal
with_mesh case mesh = Ok (case, mesh)

-- the mesh is that of the case itself
pub mesh_reads_back : (case : Case) → IsWritable case → length (case_text case) ≤ 8_388_608 → verdict (case_text case) ≡ Ok (renumbered case, mesh_of case)
unfolding with_mesh
mesh_reads_back case w l = case_reads_back case w l ∙ ap (with_mesh (renumbered case)) (mesh_same case)
