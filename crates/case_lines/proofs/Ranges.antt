-- Tests of numbers in a range, one number after another; and the least rule that more and more fields break.
use Rattle.std.proofs.Common.{◌≡◌, ℕ, zero, suc, ◌+◌, ◌-◌, ◌<◌, ◌≤◌, ◌||◌, ◌&&◌, Bool, true, false, Option, Some, None, List, refl, ap, sym, ◌∙◌, arith, get_or}
use Rattle.std.proofs.Math.Bool.{and_assoc, and-true}
use Rattle.std.specs.List.{list_all, range_with_len}
use Rattle.std.proofs.lemmas.List.FromFn.{length-range_with_len, get_or-range_with_len}
use Rattle.std.proofs.lemmas.List.Folds.{list_all_at}
use Rattle.case_model.specs.Sets.{FindsLeast}
use Rattle.case_model.proofs.Sets.{any_suc}
use Rattle.case_model.specs.declared.cases.TableKind.{TableKind}
use Rattle.case_lines.specs.declared.words.Directive.{Directive}
use Rattle.case_lines.specs.Fields.{field, field_kind}
use Rattle.case_lines.specs.Alone.{breaks_field, breaks_fields}
use Rattle.case_lines.specs.Tables.{pair_at, may_follow, follow}

all_suc : (p : ℕ → Bool) (a n : ℕ) → list_all p (range_with_len a (suc n)) ≡ (list_all p (range_with_len a n) && p (a + n))
all_suc p a zero = and-true (p a) ∙ ap p (omega arith)
all_suc p a (suc n) =
    ap (λ (b : Bool). p a && b) (all_suc p (a + 1) n ∙ ap (λ (k : ℕ). list_all p (range_with_len (a + 1) n) && p k) (omega arith))
    ∙ sym (and_assoc (p a) (list_all p (range_with_len (a + 1) n)) (p (a + suc n)))

-- two sets with the same rules have the same least one
pub least_same : (some others : ℕ → Bool) (o : Option ℕ) → ((n : ℕ) → some n ≡ others n) → FindsLeast some o → FindsLeast others o
least_same some others None e f = λ n h. f n (e n ∙ h)
least_same some others (Some r) e f = (sym (e r) ∙ f.0, λ n h. f.1 n (e n ∙ h))

pub fields_none : (d : Directive) (fields : List (List ℕ)) → FindsLeast (breaks_fields d fields 0) None
unfolding breaks_fields
fields_none d fields = λ n h. grind arith

-- the field at place k comes next
pub fields_more : (d : Directive) (fields : List (List ℕ)) (k : ℕ) (o : Option ℕ) → 1 ≤ k →
    FindsLeast (λ n. breaks_fields d fields (k - 1) n || breaks_field (field_kind d k) (field fields k) n) o → FindsLeast (breaks_fields d fields (k + 1 - 1)) o
unfolding breaks_fields
fields_more d fields k o h f =
    let e : k + 1 - 1 ≡ suc (k - 1) = omega arith in
    let i : 1 + (k - 1) ≡ k = omega arith in
    rw e (least_same (λ n. breaks_fields d fields (k - 1) n || breaks_field (field_kind d k) (field fields k) n) (breaks_fields d fields (suc (k - 1))) o
    (λ n. sym (any_suc (λ j. breaks_field (field_kind d j) (field fields j) n) 1 (k - 1) ∙ ap (λ (j : ℕ). breaks_fields d fields (k - 1) n || breaks_field (field_kind d j) (field fields j) n) i)) f)

-- one pair follows no other
pub follow_one : (kind : TableKind) (fields : List (List ℕ)) → follow kind fields 1 ≡ true
unfolding follow
follow_one kind fields = refl

-- pair k comes next
pub follow_more : (kind : TableKind) (fields : List (List ℕ)) (k : ℕ) → 1 ≤ k → follow kind fields k ≡ true → may_follow kind (pair_at kind fields (k - 1)) (pair_at kind fields k) ≡ true → follow kind fields (k + 1) ≡ true
unfolding follow
follow_more kind fields k h f m =
    let e : k + 1 - 1 ≡ suc (k - 1) = omega arith in
    let i : k - 1 + 1 ≡ k = omega arith in
    rw (e, all_suc (λ j. may_follow kind (pair_at kind fields j) (pair_at kind fields (j + 1))) 0 (k - 1), f)
    (ap (λ (j : ℕ). may_follow kind (pair_at kind fields j) (pair_at kind fields (j + 1))) (omega arith) ∙ ap (λ (j : ℕ). may_follow kind (pair_at kind fields (k - 1)) (pair_at kind fields j)) i ∙ m)

-- pair k does not follow
pub follow_not : (kind : TableKind) (fields : List (List ℕ)) (k n : ℕ) → 1 ≤ k → k < n → may_follow kind (pair_at kind fields (k - 1)) (pair_at kind fields k) ≡ false → follow kind fields n ≡ false
unfolding follow
follow_not kind fields k n h l m =
    let i : k - 1 + 1 ≡ k = omega arith in
    let g : get_or (range_with_len 0 (n - 1)) (k - 1) 0 ≡ k - 1 = get_or-range_with_len 0 (n - 1) (k - 1) 0 (omega arith) ∙ omega arith in
    list_all_at (λ j. may_follow kind (pair_at kind fields j) (pair_at kind fields (j + 1))) (range_with_len 0 (n - 1)) (k - 1) 0
    (omega (arith, length-range_with_len 0 (n - 1)))
    (rw (g, i) m)
