-- What is known of the fields of lines that break no rule: numbers and places are within their limits, each new name is short and the only one.
use Rattle.std.proofs.Common.{◌≡◌, ◌<◌, ◌≤◌, ◌≤ℤ◌, ℕ, zero, suc, ℤ, pos, neg_ℤ, unsigned_abs, ◌+◌, ◌-◌, ◌==◌, ◌&&◌, ◌||◌, not, nat_lt, nat_le, Bool, true, false, cond, IsTrue, Some, None, Result, Ok, Err, List, [], ◌∷◌, length, take, get_or, refl, ap, ◌∙◌, arith, lt-ltb, le-leb, ◌*◌, ◌%◌, Option}
use Rattle.std.proofs.lemmas.Bool.{ne_eqb, and_parts, or_parts, not-false, false_from_ne_true, eqb-true, ltb-true}
use Rattle.std.proofs.lemmas.Bool.Decides.{nat_tests}
use Rattle.std.proofs.lemmas.Int.{ints}
use Rattle.std.proofs.lemmas.List.Folds.{list_any_at}
use Rattle.std.proofs.lemmas.List.FromFn.{length-range_with_len, get_or-range_with_len}
use Rattle.std.proofs.lemmas.Slice.Eq.{bytes_eq-Decides}
use Rattle.std.specs.Prelude.{int_le, codes}
use Rattle.std.specs.List.{list_any, range_with_len, AllByRecursion}
use Rattle.std.specs.Str.{bytes_eq}
use Rattle.fixed_num.specs.declared.decimal.NumberFault.{NumberFault}
use Rattle.fixed_num.specs.declared.decimal.NumberFault.TheVariants.{Spelling, Places, Large}
use Rattle.case_model.specs.Limits.{IsWithin, least_entries}
use Rattle.case_model.specs.Sets.{IsEmpty}
use Rattle.case_lines.specs.declared.words.Directive.{Directive}
use Rattle.case_lines.specs.declared.quantities.NumberLimits.{NumberLimits}
use Rattle.case_lines.specs.declared.quantities.Quantity.{Quantity}
use Rattle.case_lines.specs.declared.fields.FieldKind.TheVariants.{Number, NewName}
use Rattle.case_lines.specs.Words.{directive_of, single_of, table_of, node_of, has_directive, directive_in}
use Rattle.case_lines.specs.Quantities.{limits, quantity_in, is_spelt, is_outside, number_or_zero, amount}
use Rattle.case_lines.specs.Fields.{field, is_heading, is_version, field_kind, has_count, has_too_many, node_fields}
use Rattle.case_lines.specs.Tables.{is_disordered}
use Rattle.case_lines.specs.Alone.{breaks_number, breaks_field, breaks_fields, is_readable, breaks_counted, breaks_known, breaks_alone, breaks_name}
use Rattle.case_rules.specs.Said.{line_at, version_of, directive_said, named_by, is_some_part, is_definition, defines}
use Rattle.case_rules.specs.Among.{directive_among, is_unknown, uses_unknown, breaks_counted as breaks_counted_among, breaks_among, breaks_line, line_rules}
use Rattle.fixed_num.proofs.Orders.{at_most_of}
use Rattle.case_model.specs.declared.cases.TableKind.{TableKind}
use Rattle.case_lines.specs.declared.words.Directive.TheVariants.{OfSingle, OfTable, OfNode, OfPipe, OfProbe, OfWatch}
use Rattle.case_lines.specs.declared.quantities.Quantity.TheVariants.{PipePlace}
use Rattle.netfile.specs.Named.{IsNamed, IsPlaced}

-- what is known of a line with this directive among lines that break no rule
pub record IsKept (lines : List (List (List ℕ))) (d : Directive) (fields : List (List ℕ)) : Type 0 where
  pub allowed : has_directive (version_of lines) d ≡ true
  pub counted : has_count d (length fields) ≡ true
  pub few : has_too_many d (length fields) ≡ false
  pub each : (k number : ℕ) → 1 ≤ k → k < length fields → breaks_field (field_kind d k) (field fields k) number ≡ false
  pub ordered : is_disordered d fields ≡ false
  pub known : (k : ℕ) → 1 ≤ k → k < length fields → is_unknown lines (field_kind d k) (field fields k) ≡ false

-- the same of a line with whatever directive
abbrev pub IsLine : List (List (List ℕ)) → List (List ℕ) → Type 0
IsLine lines fields = (d : Directive) → directive_said fields ≡ Some d → IsKept lines d fields

-- where none of a range of numbers passes a test, each of them fails
failing : (p : ℕ → Bool) (n k : ℕ) (b : Bool) → p k ≡ b → 1 ≤ k → k ≤ n → list_any p (range_with_len 1 n) ≡ false → b ≡ false
failing p n k true e h l f =
    let i : get_or (range_with_len 1 n) (k - 1) 0 ≡ k = get_or-range_with_len 1 n (k - 1) 0 (omega arith) ∙ omega arith in
    let t : list_any p (range_with_len 1 n) ≡ true = list_any_at p (range_with_len 1 n) (k - 1) 0 (omega (arith, length-range_with_len 1 n)) (rw i e) in
    absurd (cc)
failing p n k false e h l f = refl

-- a rule that a line breaks is among the rules that the lines break
on_line : (lines : List (List (List ℕ))) (k number : ℕ) → k < length lines → IsTrue (breaks_line (take k lines) lines (k + 1) (line_at lines k) number) → IsTrue (line_rules lines (k + 1) number)
unfolding line_rules
on_line lines k number h b =
    let o : k + 1 - 1 ≡ k = omega arith in
    let p : nat_lt 0 (k + 1) ≡ true = lt-ltb 0 (k + 1) (omega arith) in
    let q : nat_le (k + 1) (length lines) ≡ true = le-leb (k + 1) (length lines) (omega arith) in
    rw (p, q, o, b) refl

pub line_none : (lines : List (List (List ℕ))) (k number : ℕ) → k < length lines → IsEmpty (line_rules lines) → breaks_line (take k lines) lines (k + 1) (line_at lines k) number ≡ false
line_none lines k number h empty = false_from_ne_true _ (λ b. empty (k + 1) number (on_line lines k number h b))

alone_none : (before lines : List (List (List ℕ))) (line number : ℕ) (fields : List (List ℕ)) → breaks_line before lines line fields number ≡ false → breaks_alone (version_of lines) line fields number ≡ false
unfolding breaks_line
alone_none before lines line number fields h = (or_parts (breaks_alone (version_of lines) line fields number) _ h).0

pub among_none : (before lines : List (List (List ℕ))) (line number : ℕ) (fields : List (List ℕ)) → (line == 1) ≡ false → breaks_line before lines line fields number ≡ false → breaks_among before lines (directive_among lines fields) fields number ≡ false
unfolding breaks_line
among_none before lines line number fields e h =
    let r : (not (line == 1) && breaks_among before lines (directive_among lines fields) fields number) ≡ false = (or_parts (breaks_alone (version_of lines) line fields number) _ h).1 in
    rw e at r

-- the first line has no directive
surge_none : directive_of (codes "surge") ≡ None
unfolding directive_of single_of table_of node_of
surge_none = refl

heading_word : (fields : List (List ℕ)) → is_heading fields ≡ true → bytes_eq (field fields 0) (codes "surge") ≡ true
heading_word fields h =
    let front = (and_parts ((length fields == 2) && bytes_eq (field fields 0) (codes "surge")) (is_version (field fields 1)) h).0 in
    (and_parts (length fields == 2) (bytes_eq (field fields 0) (codes "surge")) front).1

heading_none : (fields : List (List ℕ)) → is_heading fields ≡ true → directive_said fields ≡ None
unfolding directive_said
heading_none fields h = ap directive_of ((bytes_eq-Decides (field fields 0) (codes "surge")).0 (heading_word fields h)) ∙ surge_none

first_heading : (version : ℕ) (fields : List (List ℕ)) → breaks_alone version 1 fields 1 ≡ false → is_heading fields ≡ true
unfolding breaks_alone
first_heading version fields h = not-false (is_heading fields) h

-- nor has a line without fields
empty_none : (fields : List (List ℕ)) → (length fields == 0) ≡ true → directive_said fields ≡ None
unfolding directive_said directive_of single_of table_of node_of
empty_none [] h = refl
empty_none (f ∷ fields) h = absurd (grind (arith, nat_tests))

some_fields : (fields : List (List ℕ)) (d : Directive) (b : Bool) → (length fields == 0) ≡ b → directive_said fields ≡ Some d → b ≡ false
some_fields fields d true e h = absurd (let n = empty_none fields e in cc)
some_fields fields d false e h = refl

known_none : (version line number : ℕ) (fields : List (List ℕ)) (d : Directive) → (line == 1) ≡ false → directive_said fields ≡ Some d
    → breaks_alone version line fields number ≡ false → breaks_known (directive_in version (Some d)) fields number ≡ false
unfolding breaks_alone directive_said
known_none version line number fields d e s h =
    let z : (length fields == 0) ≡ false = some_fields fields d (length fields == 0) refl s in
    rw (e, z, s) at h

-- a directive that the version hasn't is an unknown word
allowed_of : (d : Directive) (fields : List (List ℕ)) (b : Bool) → breaks_known (cond b (Some d) None) fields 2 ≡ false → b ≡ true
allowed_of d fields true h = refl
allowed_of d fields false h = cc

allowed_none : (version number : ℕ) (fields : List (List ℕ)) (d : Directive) → has_directive version d ≡ true
    → breaks_known (directive_in version (Some d)) fields number ≡ false → breaks_known (Some d) fields number ≡ false
allowed_none version number fields d a h = rw a at h

counted_of : (b x : Bool) → cond b x true ≡ false → b ≡ true
counted_of true x h = refl
counted_of false x h = cc

has_counted : (fields : List (List ℕ)) (d : Directive) → breaks_known (Some d) fields 3 ≡ false → has_count d (length fields) ≡ true
has_counted fields d h = counted_of (has_count d (length fields)) (breaks_counted d fields 3) h

counted_none : (fields : List (List ℕ)) (d : Directive) (number : ℕ) → has_count d (length fields) ≡ true → breaks_known (Some d) fields number ≡ false → breaks_counted d fields number ≡ false
counted_none fields d number c h = rw c at h

fields_none : (fields : List (List ℕ)) (d : Directive) (number : ℕ) → breaks_counted d fields number ≡ false → breaks_fields d fields (length fields - 1) number ≡ false
unfolding breaks_counted
fields_none fields d number h =
    let f = breaks_fields d fields (length fields - 1) number in
    let many = (number == 10) && has_too_many d (length fields) in
    (or_parts f many (or_parts (f || many) ((number == 14) && is_readable d fields && is_disordered d fields) h).0).0

field_none : (fields : List (List ℕ)) (d : Directive) (k number : ℕ) → 1 ≤ k → k < length fields → breaks_fields d fields (length fields - 1) number ≡ false → breaks_field (field_kind d k) (field fields k) number ≡ false
unfolding breaks_fields
field_none fields d k number h l f =
    failing (λ j. breaks_field (field_kind d j) (field fields j) number) (length fields - 1) k (breaks_field (field_kind d k) (field fields k) number) refl h (omega arith) f

not_many : (fields : List (List ℕ)) (d : Directive) → breaks_counted d fields 10 ≡ false → has_too_many d (length fields) ≡ false
unfolding breaks_counted
not_many fields d h =
    let f = breaks_fields d fields (length fields - 1) 10 in
    (or_parts f (has_too_many d (length fields)) (or_parts (f || has_too_many d (length fields)) false h).0).1

not_disordered : (fields : List (List ℕ)) (d : Directive) → breaks_fields d fields (length fields - 1) 4 ≡ false → breaks_fields d fields (length fields - 1) 5 ≡ false → breaks_counted d fields 14 ≡ false → is_disordered d fields ≡ false
unfolding breaks_counted
not_disordered fields d f g h =
    let r : (is_readable d fields && is_disordered d fields) ≡ false = (or_parts (breaks_fields d fields (length fields - 1) 14 || false) (is_readable d fields && is_disordered d fields) h).1 in
    rw (f, g) at r

unknown_none : (before lines : List (List (List ℕ))) (fields : List (List ℕ)) (d : Directive) (k : ℕ) → has_directive (version_of lines) d ≡ true
    → has_count d (length fields) ≡ true → directive_said fields ≡ Some d → breaks_among before lines (directive_among lines fields) fields 7 ≡ false → 1 ≤ k → k < length fields
    → is_unknown lines (field_kind d k) (field fields k) ≡ false
unfolding breaks_among breaks_counted_among uses_unknown
unknown_none before lines fields d k a c s h l m =
    let b : uses_unknown lines d fields (length fields - 1) ≡ false = (or_parts (uses_unknown lines d fields (length fields - 1)) false (rw (s, a, c) at h)).0 in
    failing (λ j. is_unknown lines (field_kind d j) (field fields j)) (length fields - 1) k (is_unknown lines (field_kind d k) (field fields k)) refl l (omega arith) b

-- a line behind the first
line_kept : (lines : List (List (List ℕ))) (k : ℕ) (d : Directive) → 1 ≤ k → k < length lines → IsEmpty (line_rules lines) → directive_said (line_at lines k) ≡ Some d → IsKept lines d (line_at lines k)
line_kept lines k d l h empty s =
    let e : (k + 1 == 1) ≡ false = ne_eqb (k + 1) 1 (λ z. absurd (omega arith)) in
    let fields = line_at lines k in
    let version = version_of lines in
    let among : (number : ℕ) → breaks_known (directive_in version (Some d)) fields number ≡ false =
    λ number. known_none version (k + 1) number fields d e s (alone_none (take k lines) lines (k + 1) number fields (line_none lines k number h empty)) in
    let a : has_directive version d ≡ true = allowed_of d fields (has_directive version d) (among 2) in
    let known : (number : ℕ) → breaks_known (Some d) fields number ≡ false = λ number. allowed_none version number fields d a (among number) in
    let c : has_count d (length fields) ≡ true = has_counted fields d (known 3) in
    let none : (number : ℕ) → breaks_counted d fields number ≡ false = λ number. counted_none fields d number c (known number) in
    record {
      allowed = a;
      counted = c;
      few = not_many fields d (none 10);
      each = λ j number low high. field_none fields d j number low high (fields_none fields d number (none number));
      ordered = not_disordered fields d (fields_none fields d 4 (none 4)) (fields_none fields d 5 (none 5)) (none 14);
      known = λ j low high. unknown_none (take k lines) lines fields d j a c s (among_none (take k lines) lines (k + 1) 7 fields e (line_none lines k 7 h empty)) low high;
    }

-- a line with a directive is not the first
pub not_first : (lines : List (List (List ℕ))) (k : ℕ) (d : Directive) → k < length lines → IsEmpty (line_rules lines) → directive_said (line_at lines k) ≡ Some d → 1 ≤ k
not_first lines zero d h empty s = absurd (let n = heading_none (line_at lines 0) (first_heading (version_of lines) (line_at lines 0) (alone_none (take 0 lines) lines 1 1 (line_at lines 0) (line_none lines 0 1 h empty))) in cc)
not_first lines (suc k) d h empty s = omega arith

-- each line of a text that breaks no rule of lines
pub kept_at : (lines : List (List (List ℕ))) (k : ℕ) → k < length lines → IsEmpty (line_rules lines) → IsLine lines (line_at lines k)
kept_at lines k h empty = λ d s. line_kept lines k d (not_first lines k d h empty s) h empty s

pub all_at : (P : List (List ℕ) → Type 0) (lines : List (List (List ℕ))) → ((k : ℕ) → k < length lines → P (line_at lines k)) → AllByRecursion P lines
all_at P [] f = tt
all_at P (fields ∷ lines) f = (f 0 (omega arith), all_at P lines (λ k h. f (suc k) (omega arith)))

pub all_kept : (lines : List (List (List ℕ))) → IsEmpty (line_rules lines) → AllByRecursion (IsLine lines) lines
all_kept lines empty = all_at (IsLine lines) lines (λ k h. kept_at lines k h empty)

-- a number that is spelt, and not outside its limits, lies within them
within_of : (l : NumberLimits) (r : Result ℤ NumberFault) → is_spelt r ≡ true → is_outside l r ≡ false → IsWithin l.least l.most (number_or_zero r)
within_of l (Ok x) s o =
    let t : (int_le l.least x && int_le x l.most) ≡ true = not-false _ o in
    record { low = at_most_of l.least x (and_parts (int_le l.least x) (int_le x l.most) t).0; high = at_most_of x l.most (and_parts (int_le l.least x) (int_le x l.most) t).1 }
within_of l (Err Spelling) s o = absurd (cc)
within_of l _ s o = absurd (cc)

-- a number that breaks no rule
pub in_limits : (quantity : Quantity) (text : List ℕ) → breaks_number quantity text 4 ≡ false → breaks_number quantity text 5 ≡ false → IsWithin (limits quantity).least (limits quantity).most (amount quantity text)
unfolding breaks_number amount
in_limits quantity text f g =
    within_of (limits quantity) (quantity_in quantity text) (not-false (is_spelt (quantity_in quantity text)) (or_parts (not (is_spelt (quantity_in quantity text))) false f).0) g

number_kept : (quantity : Quantity) (text : List ℕ) → ((number : ℕ) → breaks_field (Number quantity) text number ≡ false) → IsWithin (limits quantity).least (limits quantity).most (amount quantity text)
unfolding breaks_field
number_kept quantity text f = in_limits quantity text (f 4) (f 5)

-- a field that is a number
pub field_kept : (lines : List (List (List ℕ))) (d : Directive) (fields : List (List ℕ)) (k : ℕ) (quantity : Quantity) → IsKept lines d fields → 1 ≤ k → k < length fields → field_kind d k ≡ Number quantity
    → IsWithin (limits quantity).least (limits quantity).most (amount quantity (field fields k))
field_kept lines d fields k quantity h l m e = number_kept quantity (field fields k) (λ number. let f = h.each k number l m in rw e at f)

-- a number between two limits of one size
pub size_within : (most : ℕ) (x : ℤ) → IsWithin (neg_ℤ (pos most)) (pos most) x → unsigned_abs x ≤ most
size_within most x h = omega (arith, ints)

-- a new name
pub new_name : (d : Directive) → is_some_part (named_by (Some d)) ≡ true → field_kind d 1 ≡ NewName
unfolding field_kind
new_name (OfTable kind) h = refl
new_name (OfNode node) h = refl
new_name OfPipe h = refl
new_name _ h = absurd (cc)

pub short_name : (text : List ℕ) → breaks_field NewName text 10 ≡ false → length text ≤ 32
unfolding breaks_field breaks_name
short_name text h = grind (arith, nat_tests)

-- a table line has two fields at least
pub two_fields : (kind : TableKind) (n : ℕ) → has_count (OfTable kind) n ≡ true → nat_lt 1 n ≡ true
unfolding has_count
two_fields kind n h = let m = (and_parts (n % 2 == 0) (nat_le (2 * least_entries kind + 2) n) h).1 in grind (arith, nat_tests)

-- a line with a new name has it
some_name : (d : Directive) (n : ℕ) → is_some_part (named_by (Some d)) ≡ true → has_count d n ≡ true → nat_lt 1 n ≡ true
unfolding has_count
some_name (OfTable kind) n h k = two_fields kind n k
some_name (OfNode node) n h k = lt-ltb 1 n (let e = eqb-true n (length (node_fields node) + 3) k in omega (arith, e))
some_name OfPipe n h k = grind (arith, nat_tests)
some_name _ n h k = absurd (cc)

named_kept : (lines : List (List (List ℕ))) (d : Directive) (fields : List (List ℕ)) → is_some_part (named_by (Some d)) ≡ true → IsKept lines d fields → (nat_lt 1 (length fields) ≡ true) × (length (field fields 1) ≤ 32)
named_kept lines d fields p k =
    let n = some_name d (length fields) p k.counted in
    (n, short_name (field fields 1) (let f = k.each 1 10 (omega arith) (ltb-true 1 (length fields) n) in rw (new_name d p) at f))

named_said : (lines : List (List (List ℕ))) (o : Option Directive) (fields : List (List ℕ)) → directive_said fields ≡ o → IsLine lines fields → is_some_part (named_by o) ≡ true → (nat_lt 1 (length fields) ≡ true) × (length (field fields 1) ≤ 32)
named_said lines None fields e f h = absurd (cc)
named_said lines (Some d) fields e f h = named_kept lines d fields h (f d e)

named_line : (lines : List (List (List ℕ))) (fields : List (List ℕ)) → IsLine lines fields → IsNamed fields
named_line lines fields f h = named_said lines (directive_said fields) fields refl f h

-- a place
low_place : (x : ℤ) → IsWithin (pos 0) (pos 65_536) x → unsigned_abs x ≤ 65_536
low_place x h = omega (arith, ints)

pub placed_kept : (lines : List (List (List ℕ))) (fields : List (List ℕ)) → IsKept lines OfProbe fields → unsigned_abs (amount PipePlace (field fields 2)) ≤ 65_536
unfolding field_kind has_count
placed_kept lines fields k =
    let n = eqb-true (length fields) 3 k.counted in
    low_place (amount PipePlace (field fields 2)) (field_kept lines OfProbe fields 2 PipePlace k (omega arith) (omega arith) refl)

placed_line : (lines : List (List (List ℕ))) (fields : List (List ℕ)) → IsLine lines fields → IsPlaced fields
placed_line lines fields f e = placed_kept lines fields (f OfProbe e)

pub all_named : (lines : List (List (List ℕ))) → IsEmpty (line_rules lines) → AllByRecursion IsNamed lines
all_named lines empty = all_at IsNamed lines (λ k h. named_line lines (line_at lines k) (kept_at lines k h empty))

pub all_placed : (lines : List (List (List ℕ))) → IsEmpty (line_rules lines) → AllByRecursion IsPlaced lines
all_placed lines empty = all_at IsPlaced lines (λ k h. placed_line lines (line_at lines k) (kept_at lines k h empty))

-- no two lines define one name
and_no : (a b : Bool) → a ≡ true → (a && b) ≡ false → b ≡ false
and_no true b e h = h
and_no false b e h = cc

name_new : (before all : List (List (List ℕ))) (fields : List (List ℕ)) (d : Directive) → breaks_counted_among before all d fields 6 ≡ false → (is_definition fields && list_any (defines (field fields 1)) before) ≡ false
unfolding breaks_counted_among
name_new before all fields d h = (or_parts (is_definition fields && list_any (defines (field fields 1)) before) false (or_parts _ false h).0).0

counted_among : (before all : List (List (List ℕ))) (fields : List (List ℕ)) (d : Directive) (number : ℕ) → has_directive (version_of all) d ≡ true → has_count d (length fields) ≡ true → directive_said fields ≡ Some d → breaks_among before all (directive_among all fields) fields number ≡ false → breaks_counted_among before all d fields number ≡ false
unfolding breaks_among
counted_among before all fields d number a c s h = rw (s, a, c) at h

-- a line that defines a name comes behind no other that does
pub name_once : (lines : List (List (List ℕ))) → IsEmpty (line_rules lines) → (k : ℕ) (d : Directive) → k < length lines → directive_said (line_at lines k) ≡ Some d → is_definition (line_at lines k) ≡ true
    → list_any (defines (field (line_at lines k) 1)) (take k lines) ≡ false
name_once lines empty k d h s e =
    let fields = line_at lines k in
    let first = not_first lines k d h empty s in
    let kept = kept_at lines k h empty d s in
    let l : (k + 1 == 1) ≡ false = ne_eqb (k + 1) 1 (λ z. absurd (omega arith)) in
    and_no (is_definition fields) (list_any (defines (field fields 1)) (take k lines)) e
    (name_new (take k lines) lines fields d (counted_among (take k lines) lines fields d 6 kept.allowed kept.counted s (among_none (take k lines) lines (k + 1) 6 fields l (line_none lines k 6 h empty))))
