-- Whether a line before the first k lines passes a test, by the place of the first that does.
use Rattle.std.proofs.Common.{ℕ, zero, suc, ◌+◌, ◌≤◌, ◌≡◌, ◌&&◌, ◌||◌, nat_lt, Bool, true, false, cond, Option, Some, None, List, [], ◌∷◌, length, take, refl, ap, ◌∙◌, arith, lt-ltb}
use Rattle.std.proofs.lemmas.Bool.{le-ltb}
use Rattle.std.specs.List.{list_any}
use Rattle.std.specs.Str.{bytes_eq}
use Rattle.case_lines.specs.declared.words.Single.{Single}
use Rattle.case_lines.specs.Fields.{field}
use Rattle.case_rules.specs.Said.{directive_said, is_some_part, named_by, is_definition, defines, is_single, is_single_of}
use Rattle.case_rules.specs.Known.{is_every, is_named, names_such, index_from, is_earlier, single_in, single_word, single_from, line_told}
use Rattle.case_rules.proofs.SingleWords.{is_single_in, word_in}
use Rattle.std.specs.Option.{option_or}

later : (b : Bool) (m n : ℕ) (o : Option ℕ) → m ≤ n → is_earlier m o ≡ false → is_earlier m (cond b (Some n) o) ≡ false
later true m n o h e = le-ltb n m h
later false m n o h e = e

none_earlier : (test : List (List ℕ) → Bool) (m n : ℕ) (lines : List (List (List ℕ))) → m ≤ n → is_earlier m (index_from is_every test n lines) ≡ false
none_earlier test m n [] h = refl
none_earlier test m n (fields ∷ lines) h = later (test fields) m n (index_from is_every test (n + 1) lines) h (none_earlier test m (n + 1) lines (omega arith))

one_earlier : (b : Bool) (n k : ℕ) (o : Option ℕ) (more : Bool) → is_earlier (n + suc k) o ≡ more → is_earlier (n + suc k) (cond b (Some n) o) ≡ (b || more)
one_earlier true n k o more e = lt-ltb n (n + suc k) (omega arith)
one_earlier false n k o more e = e

-- one of the first k lines passes it where the first that does stands before line k
earlier_is : (test : List (List ℕ) → Bool) (n k : ℕ) (lines : List (List (List ℕ))) → is_earlier (n + k) (index_from is_every test n lines) ≡ list_any test (take k lines)
earlier_is test n zero lines = none_earlier test (n + 0) n lines (omega arith)
earlier_is test n (suc k) [] = refl
earlier_is test n (suc k) (fields ∷ lines) =
    let i : n + suc k ≡ n + 1 + k = omega arith in
    one_earlier (test fields) n k (index_from is_every test (n + 1) lines) (list_any test (take k lines)) (ap (λ (m : ℕ). is_earlier m (index_from is_every test (n + 1) lines)) i ∙ earlier_is test (n + 1) k lines)

earlier_first : (test : List (List ℕ) → Bool) (k : ℕ) (lines : List (List (List ℕ))) → is_earlier k (index_from is_every test 0 lines) ≡ list_any test (take k lines)
earlier_first test k lines = let i : k ≡ 0 + k = omega arith in ap (λ (m : ℕ). is_earlier m (index_from is_every test 0 lines)) i ∙ earlier_is test 0 k lines

-- the same by another test that passes the same lines
index_same : (some others : List (List ℕ) → Bool) → ((fields : List (List ℕ)) → some fields ≡ others fields) → (n : ℕ) (lines : List (List (List ℕ))) → index_from is_every some n lines ≡ index_from is_every others n lines
index_same some others e n [] = refl
index_same some others e n (fields ∷ lines) = rw (e fields, index_same some others e (n + 1) lines) refl

and_more : (a b c : Bool) → (a && b && c) ≡ ((a && b) && c)
and_more true b c = refl
and_more false b c = refl

named_defines : (name : List ℕ) (fields : List (List ℕ)) → names_such is_named name fields ≡ defines name fields
unfolding names_such defines is_definition
named_defines name fields = and_more (is_some_part (named_by (directive_said fields))) (nat_lt 1 (length fields)) (bytes_eq (field fields 1) name)

-- whether one of the first k lines defines a name
pub name_earlier : (name : List ℕ) (k : ℕ) (lines : List (List (List ℕ))) → is_earlier k (index_from is_every (names_such is_named name) 0 lines) ≡ list_any (defines name) (take k lines)
name_earlier name k lines = ap (is_earlier k) (index_same (names_such is_named name) (defines name) (named_defines name) 0 lines) ∙ earlier_first (defines name) k lines

told_more : (b : Bool) (n : ℕ) (text : List ℕ) (o : Option (ℕ × List ℕ)) (i : Option ℕ) → line_told o ≡ i → line_told (option_or (cond b (Some (n, text)) None) o) ≡ cond b (Some n) i
told_more true n text o i e = refl
told_more false n text o i e = e

single_told : (s : Single) (n : ℕ) (lines : List (List (List ℕ))) → line_told (single_from s n lines) ≡ index_from is_every (is_single_of (single_word s)) n lines
single_told s n [] = refl
single_told s n (fields ∷ lines) = told_more (is_single_of (single_word s) fields) n (field fields 1) (single_from s (n + 1) lines) (index_from is_every (is_single_of (single_word s)) (n + 1) lines) (single_told s (n + 1) lines)

-- whether one of the first k lines has the single directive of a line
pub single_earlier : (fields : List (List ℕ)) (s : Single) (k : ℕ) (lines : List (List (List ℕ))) → single_in (directive_said fields) ≡ Some s
    → is_earlier k (line_told (single_from s 0 lines)) ≡ (is_single fields && list_any (is_single_of (field fields 0)) (take k lines))
single_earlier fields s k lines e = rw (is_single_in fields, e, word_in fields s e) (ap (is_earlier k) (single_told s 0 lines) ∙ earlier_first (is_single_of (single_word s)) k lines)

pub no_single_in : (fields : List (List ℕ)) (b : Bool) → single_in (directive_said fields) ≡ None → false ≡ (is_single fields && b)
no_single_in fields b e = rw (is_single_in fields, e) refl
