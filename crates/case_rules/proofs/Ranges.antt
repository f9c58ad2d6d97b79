-- Tests of the fields behind the word of a line, one after another.
use Rattle.std.proofs.Common.{◌≡◌, ℕ, suc, ◌+◌, ◌-◌, ◌≤◌, true, false, List, refl, ◌∙◌, arith, get_or}
use Rattle.std.specs.List.{range_with_len}
use Rattle.std.proofs.lemmas.List.FromFn.{length-range_with_len, get_or-range_with_len}
use Rattle.std.proofs.lemmas.List.Folds.{list_any_at}
use Rattle.case_lines.specs.declared.words.Directive.{Directive}
use Rattle.case_lines.specs.Fields.{field, field_kind}
use Rattle.case_model.proofs.Sets.{any_suc}
use Rattle.case_rules.specs.Among.{is_unknown, uses_unknown}

pub unknown_none : (lines : List (List (List ℕ))) (d : Directive) (fields : List (List ℕ)) → uses_unknown lines d fields 0 ≡ false
unfolding uses_unknown
unknown_none lines d fields = refl

-- the field at place k comes next, and uses no unknown name
pub unknown_more : (lines : List (List (List ℕ))) (d : Directive) (fields : List (List ℕ)) (k : ℕ) → 1 ≤ k → uses_unknown lines d fields (k - 1) ≡ false → is_unknown lines (field_kind d k) (field fields k) ≡ false → uses_unknown lines d fields (k + 1 - 1) ≡ false
unfolding uses_unknown
unknown_more lines d fields k h f g =
    let e : k + 1 - 1 ≡ suc (k - 1) = omega arith in
    let i : 1 + (k - 1) ≡ k = omega arith in
    rw (e, any_suc (λ j. is_unknown lines (field_kind d j) (field fields j)) 1 (k - 1), f, i) g

-- the field at place k uses one
pub unknown_at : (lines : List (List (List ℕ))) (d : Directive) (fields : List (List ℕ)) (k n : ℕ) → 1 ≤ k → k ≤ n → is_unknown lines (field_kind d k) (field fields k) ≡ true → uses_unknown lines d fields n ≡ true
unfolding uses_unknown
unknown_at lines d fields k n h l g =
    let e : get_or (range_with_len 1 n) (k - 1) 0 ≡ k = get_or-range_with_len 1 n (k - 1) 0 (omega arith) ∙ omega arith in
    list_any_at (λ j. is_unknown lines (field_kind d j) (field fields j)) (range_with_len 1 n) (k - 1) 0 (omega (arith, length-range_with_len 1 n)) (rw e g)
