-- The verdict on a text: its refusal is that of the first pass that has one; where none has one its case is within the limits of the case text.
use Rattle.std.proofs.Common.{Bool, cond, inl, inr, ◌∙◌, ℕ, ◌+◌, ◌<◌, ◌≤◌, ◌≡◌, nat_lt, true, false, Option, Some, None, Result, Ok, Err, IfSome, IfErr, List, length, sym, subst, refl}
use Rattle.std.specs.Result.{IsErrAnd}
use Rattle.std.proofs.lemmas.Bool.{lt-ltb, le-ltb, ltb-true, ltb-false}
use Rattle.case_model.specs.declared.cases.Case.{Case}
use Rattle.case_model.specs.declared.meshes.Mesh.{Mesh}
use Rattle.case_model.specs.Division.{mesh_of}
use Rattle.case_model.specs.Mesh.{IsMesh, IsNumbered}
use Rattle.case_model.specs.Refusals.{passes}
use Rattle.case_model.specs.Sets.{IsEmpty, AreEmpty, IsFirst}
use Rattle.case_model.specs.Search.{Refusal}
use Rattle.case_model.specs.Bounds.{FirstOrNone}
use Rattle.case_model.proofs.SearchLaws.{first_is, first_found, first_none}
use Rattle.case_model.specs.declared.fault.CaseFault.{CaseFault}
use Rattle.case_model.specs.declared.fault.CaseFault.TheVariants.{Refused, Memory}
use Rattle.case_lines.specs.Texts.{lines_of}
use Rattle.case_rules.specs.Among.{line_rules}
use Rattle.case_rules.specs.Counts.{count_rules}
use Rattle.case_model.specs.Accepted.{IsAccepted}
use Rattle.netfile.specs.Built.{case_of}
use Rattle.netfile.specs.Verdict.{all_passes, rule_numbers, refusal_of, judged, too_long, verdict, refusal_in, IsVerdict}
use Rattle.netfile.proofs.Bounds.{rising, all_bounded}
use Rattle.netfile.proofs.PartsSaid.{some_pipe_in, few_tables_in, few_nodes_in, few_pipes_in, few_probes_in}
use Rattle.case_model.specs.Limits.{IsRead}
use Rattle.netfile.proofs.SingleLimits.{version_read, friction_read, dt_in, steps_in, vapour_in, weight_in, tolerance_in, every_in}
use Rattle.netfile.proofs.TableLimits.{tables_in}
use Rattle.netfile.proofs.PartLimits.{nodes_in, pipes_in, joins_in, spots_in}

pub is_read : (lines : List (List (List ℕ))) → IsEmpty (line_rules lines) → IsEmpty (count_rules lines) → IsRead (case_of lines)
unfolding case_of
is_read lines kept counts = record {
  version = version_read lines;
  friction = friction_read lines;
  dt = dt_in lines kept counts;
  some_steps = (steps_in lines kept counts).0;
  few_steps = (steps_in lines kept counts).1;
  vapour = vapour_in lines kept counts;
  weight = weight_in lines kept counts;
  tolerance = tolerance_in lines kept counts;
  some_every = (every_in lines kept counts).0;
  few_every = (every_in lines kept counts).1;
  few_tables = few_tables_in lines counts;
  few_nodes = few_nodes_in lines counts;
  few_pipes = few_pipes_in lines counts;
  few_probes = few_probes_in lines counts;
  tables = tables_in lines kept;
  nodes = nodes_in lines kept;
  pipes = pipes_in lines kept;
  joins = joins_in lines kept;
  spots = spots_in lines kept;
}

-- the refusal of lines against their passes
pub refusal_only : (lines : List (List (List ℕ))) (line number : ℕ) → IsFirst (all_passes lines) line number → refusal_of lines ≡ Some (record { number = number; line = line })
unfolding refusal_of
refusal_only lines line number f = first_found (all_passes lines) rule_numbers (length lines + 2) line number rising (all_bounded lines) f

pub refusal_empty : (lines : List (List (List ℕ))) → AreEmpty (all_passes lines) → refusal_of lines ≡ None
unfolding refusal_of
refusal_empty lines e = first_none (all_passes lines) rule_numbers (length lines + 2) rising (all_bounded lines) e

pub refusal_first : (lines : List (List (List ℕ))) → FirstOrNone (all_passes lines) (refusal_of lines)
unfolding refusal_of
refusal_first lines = first_is (all_passes lines) rule_numbers (length lines + 2) rising (all_bounded lines)

-- the verdict on a text of no more than so many bytes
short_verdict : (bytes : List ℕ) (o : Option Refusal) → length bytes ≤ 8_388_608 → refusal_of (lines_of bytes) ≡ o → verdict bytes ≡ judged (case_of (lines_of bytes)) o
unfolding verdict
short_verdict bytes o h e = let n : nat_lt 8_388_608 (length bytes) ≡ false = le-ltb 8_388_608 (length bytes) h in rw (n, e) refl

pub long_refused : (bytes : List ℕ) → 8_388_608 < length bytes → verdict bytes ≡ Err too_long
unfolding verdict
long_refused bytes h = let n : nat_lt 8_388_608 (length bytes) ≡ true = lt-ltb 8_388_608 (length bytes) h in rw n refl

pub refused : (bytes : List ℕ) (fault : CaseFault) → length bytes ≤ 8_388_608 → ((number line : ℕ) → fault ≡ Refused number line → IsFirst (all_passes (lines_of bytes)) line number) → IfSome (refusal_in fault) (λ r. verdict bytes ≡ Err r)
refused bytes (Refused number line) h f = short_verdict bytes (Some (record { number = number; line = line })) h (refusal_only (lines_of bytes) line number (f number line refl))
refused bytes Memory h f = tt

pub accepted : (bytes : List ℕ) → length bytes ≤ 8_388_608 → IsEmpty (line_rules (lines_of bytes)) → IsEmpty (count_rules (lines_of bytes)) → AreEmpty (passes (case_of (lines_of bytes)))
    → verdict bytes ≡ Ok (case_of (lines_of bytes), mesh_of (case_of (lines_of bytes)))
accepted bytes h kept counts divided = short_verdict bytes None h (refusal_empty (lines_of bytes) (kept, (counts, divided)))

pub some_pipe : (lines : List (List (List ℕ))) → IsEmpty (count_rules lines) → 0 < length (case_of lines).pipes
unfolding case_of
some_pipe lines counts = some_pipe_in lines counts

pub fulfilled : (lines : List (List (List ℕ))) (mesh : Mesh) → IsEmpty (line_rules lines) → IsEmpty (count_rules lines) → AreEmpty (passes (case_of lines)) → mesh ≡ mesh_of (case_of lines) → IsMesh mesh → IsNumbered mesh → IsAccepted (case_of lines) mesh
fulfilled lines mesh kept counts empty divided good numbered = record {
  read = is_read lines kept counts;
  divided = divided;
  kept = empty;
  good = good;
  numbered = numbered;
  some = some_pipe lines counts;
}

-- an error that is passed on
pub passed_on : {X : Type 0} (r : Result X CaseFault) (fault : CaseFault) (P : CaseFault → Type 0) → IsErrAnd r (λ e. e ≡ fault) → P fault → IfErr r P
passed_on (Ok x) fault P h p = tt
passed_on (Err e) fault P h p = subst P (sym h) p

-- the verdict against its passes
judged_so : (bytes : List ℕ) (long : Bool) (o : Option Refusal) → nat_lt 8_388_608 (length bytes) ≡ long
    → FirstOrNone (all_passes (lines_of bytes)) o
    → IsVerdict bytes (cond long (Err too_long) (judged (case_of (lines_of bytes)) o))
judged_so bytes true o e f = inl (ltb-true 8_388_608 (length bytes) e, refl)
judged_so bytes false (Some r) e f = inr (ltb-false 8_388_608 (length bytes) e, f)
judged_so bytes false None e f = (ltb-false 8_388_608 (length bytes) e, f, refl, refl)

pub verdict_so : (bytes : List ℕ) → IsVerdict bytes (verdict bytes)
unfolding verdict
verdict_so bytes =
    judged_so bytes (nat_lt 8_388_608 (length bytes)) (refusal_of (lines_of bytes)) refl
    (refusal_first (lines_of bytes))

meant : (v : Case × Mesh) (case : Case) → v.0 ≡ case → v.1 ≡ mesh_of v.0 → judged case None ≡ Ok v
meant v case e f = rw (← e, ← f) refl

pub verdict_only : (bytes : List ℕ) (v : Result (Case × Mesh) Refusal) → IsVerdict bytes v → verdict bytes ≡ v
verdict_only bytes (Err r) (inl h) = let l = long_refused bytes h.0 in let e = h.1 in cc
verdict_only bytes (Err r) (inr h) =
    short_verdict bytes (Some r) h.0 (refusal_only (lines_of bytes) r.line r.number h.1)
verdict_only bytes (Ok v) h =
    short_verdict bytes None h.0 (refusal_empty (lines_of bytes) h.1)
    ∙ meant v (case_of (lines_of bytes)) h.2 h.3
