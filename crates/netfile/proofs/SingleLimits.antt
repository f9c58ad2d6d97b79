-- The numbers of the single directives: within their limits, where lines and counts break no rule, and what a tally tells of them.
use Rattle.std.proofs.Common.{inl, inr, eq-eqb, ◌≡◌, ◌≤◌, ◌==◌, ◌||◌, ◌&&◌, not, ℕ, ℤ, pos, neg_ℤ, unsigned_abs, Bool, true, false, cond, Option, Some, None, List, [], ◌∷◌, length, refl, ap, arith, ◌∙◌, ◌+◌, codes}
use Rattle.std.proofs.lemmas.Bool.{and_parts, or_parts, not-false}
use Rattle.std.proofs.lemmas.Bool.Decides.{nat_tests}
use Rattle.std.proofs.lemmas.Int.{ints}
use Rattle.std.proofs.lemmas.Slice.Eq.{bytes_eq-Decides}
use Rattle.std.specs.Prelude.{int_le}
use Rattle.std.specs.List.{AllByRecursion, find, list_any}
use Rattle.std.specs.Str.{bytes_eq}
use Rattle.case_model.specs.Limits.{IsWithin, IsVersion, AllowsFriction}
use Rattle.case_model.specs.Sets.{IsEmpty}
use Rattle.case_lines.specs.declared.words.Single.{Single}
use Rattle.case_lines.specs.declared.words.Single.TheVariants.{Step, Steps, Vapour, Weight, Tolerance, Every, FrictionForm}
use Rattle.case_lines.specs.declared.words.Directive.TheVariants.{OfSingle}
use Rattle.case_lines.specs.declared.fields.FieldKind.TheVariants.{Number}
use Rattle.case_lines.specs.declared.quantities.Quantity.{Quantity}
use Rattle.case_lines.specs.declared.quantities.Quantity.TheVariants.{TimeStep, StepCount, VapourHead, GrowthWeight, SpeedTolerance, SampleStep}
use Rattle.case_lines.specs.Words.{directive_of}
use Rattle.case_lines.specs.Quantities.{limits, amount}
use Rattle.case_lines.specs.Fields.{field, field_kind, heading_version, has_count, single_field}
use Rattle.case_rules.specs.Said.{line_at, version_of, directive_said, is_single, is_single_of}
use Rattle.case_rules.specs.Among.{line_rules}
use Rattle.case_rules.specs.Counts.{is_incomplete, count_rules, count_of, is_pipe}
use Rattle.case_rules.proofs.SingleWords.{word_says}
use Rattle.netfile.specs.Built.{given, single_amount, friction_from, case_of, friction_by}
use Rattle.fixed_num.proofs.Orders.{at_most_of}
use Rattle.netfile.proofs.PartsSaid.{complete}
use Rattle.netfile.proofs.FieldLimits.{IsKept, IsLine, all_kept, field_kept}
use Rattle.case_rules.specs.Known.{single_word, single_from, text_told}
use Rattle.netfile.specs.Settings.{amount_by, friction_told}
use Rattle.std.specs.Option.{option_or}

single_count : (single : Single) (fields : List (List ℕ)) → has_count (OfSingle single) (length fields) ≡ true → length fields ≡ 2
unfolding has_count
single_count single fields h = grind (arith, nat_tests)

-- the number of a line with this single directive
line_in : (lines : List (List (List ℕ))) (single : Single) (quantity : Quantity) (fields : List (List ℕ)) → single_field single ≡ Number quantity → IsKept lines (OfSingle single) fields
    → IsWithin (limits quantity).least (limits quantity).most (amount quantity (field fields 1))
unfolding field_kind
line_in lines single quantity fields q h =
    let n = single_count single fields h.counted in
    field_kept lines (OfSingle single) fields 1 quantity h (omega arith) (omega arith) q

-- a line with this word says its single directive
said_of : (word : List ℕ) (fields : List (List ℕ)) → is_single_of word fields ≡ true → directive_said fields ≡ directive_of word
unfolding is_single_of directive_said
said_of word fields h = ap directive_of ((bytes_eq-Decides (field fields 0) word).0 (and_parts (is_single fields) (bytes_eq (field fields 0) word) h).1)

-- a line that is found is one of those that are kept, and passes the test
abbrev IsFound : (List (List ℕ) → Type 0) → (List (List ℕ) → Bool) → Option (List (List ℕ)) → Type 0
IsFound P test None = Unit {0}
IsFound P test (Some fields) = P fields × (test fields ≡ true)

found_here : (P : List (List ℕ) → Type 0) (test : List (List ℕ) → Bool) (fields : List (List ℕ)) (later : Option (List (List ℕ))) (b : Bool) → test fields ≡ b → P fields → IsFound P test later → IsFound P test (cond b (Some fields) later)
found_here P test fields later true e h f = (h, e)
found_here P test fields later false e h f = f

found_in : (P : List (List ℕ) → Type 0) (test : List (List ℕ) → Bool) (lines : List (List (List ℕ))) → AllByRecursion P lines → IsFound P test (find test lines)
found_in P test [] h = tt
found_in P test (fields ∷ lines) h = found_here P test fields (find test lines) (test fields) refl h.0 (found_in P test lines h.1)

-- the number that is given, or else the default
given_in : (lines : List (List (List ℕ))) (word : List ℕ) (single : Single) (quantity : Quantity) (default : ℤ) (o : Option (List (List ℕ))) → single_field single ≡ Number quantity → directive_of word ≡ Some (OfSingle single) → IsFound (IsLine lines) (is_single_of word) o
    → (o ≡ None → IsWithin (limits quantity).least (limits quantity).most default)
    → IsWithin (limits quantity).least (limits quantity).most (given quantity default o)
given_in lines word single quantity default None q w f d = d refl
given_in lines word single quantity default (Some fields) q w f d = line_in lines single quantity fields q (f.0 (OfSingle single) (said_of word fields f.1 ∙ w))

-- a default within its limits
default_in : (least most x : ℤ) → (int_le least x && int_le x most) ≡ true → IsWithin least most x
default_in least most x h = record { low = at_most_of least x (and_parts (int_le least x) (int_le x most) h).0; high = at_most_of x most (and_parts (int_le least x) (int_le x most) h).1 }

single_in : (lines : List (List (List ℕ))) (word : List ℕ) (single : Single) (quantity : Quantity) (default : ℤ) → single_field single ≡ Number quantity → IsEmpty (line_rules lines) → directive_of word ≡ Some (OfSingle single)
    → (find (is_single_of word) lines ≡ None → IsWithin (limits quantity).least (limits quantity).most default)
    → IsWithin (limits quantity).least (limits quantity).most (single_amount word quantity default lines)
unfolding single_amount
single_in lines word single quantity default q empty w d =
    given_in lines word single quantity default (find (is_single_of word) lines) q w (found_in (IsLine lines) (is_single_of word) lines (all_kept lines empty)) d

-- a text with the directives that it must have
has_step : (lines : List (List (List ℕ))) → IsEmpty (count_rules lines) → list_any (is_single_of (codes "step")) lines ≡ true
unfolding is_incomplete
has_step lines empty =
    let s = list_any (is_single_of (codes "step")) lines in
    let t = list_any (is_single_of (codes "steps")) lines in
    not-false s (or_parts (not s) (not t) (or_parts (not s || not t) (count_of is_pipe lines == 0) (complete lines empty)).0).0

has_steps : (lines : List (List (List ℕ))) → IsEmpty (count_rules lines) → list_any (is_single_of (codes "steps")) lines ≡ true
unfolding is_incomplete
has_steps lines empty =
    let s = list_any (is_single_of (codes "step")) lines in
    let t = list_any (is_single_of (codes "steps")) lines in
    not-false t (or_parts (not s) (not t) (or_parts (not s || not t) (count_of is_pipe lines == 0) (complete lines empty)).0).1

none_here : (test : List (List ℕ) → Bool) (fields : List (List ℕ)) (later : Option (List (List ℕ))) (any b : Bool) → (later ≡ None → any ≡ false) → cond b (Some fields) later ≡ None → (b || any) ≡ false
none_here test fields later any true f e = absurd (cc)
none_here test fields later any false f e = f e

not_found : (test : List (List ℕ) → Bool) (lines : List (List (List ℕ))) → find test lines ≡ None → list_any test lines ≡ false
not_found test [] e = refl
not_found test (fields ∷ lines) e = none_here test fields (find test lines) (list_any test lines) (test fields) (not_found test lines) e

there : (test : List (List ℕ) → Bool) (lines : List (List (List ℕ))) → list_any test lines ≡ true → find test lines ≡ None → ⊥
there test lines h e = let n = not_found test lines e in cc

pub dt_in : (lines : List (List (List ℕ))) → IsEmpty (line_rules lines) → IsEmpty (count_rules lines) → IsWithin (pos 1) (pos 1_000_000) (case_of lines).dt
unfolding case_of
dt_in lines empty counts = single_in lines (codes "step") Step TimeStep (pos 0) refl empty (word_says Step) (λ e. absurd (there (is_single_of (codes "step")) lines (has_step lines counts) e))

count_in : (most : ℕ) (x : ℤ) → IsWithin (pos 1) (pos most) x → (1 ≤ unsigned_abs x) × (unsigned_abs x ≤ most)
count_in most x h = (omega (arith, ints), omega (arith, ints))

pub steps_in : (lines : List (List (List ℕ))) → IsEmpty (line_rules lines) → IsEmpty (count_rules lines) → (1 ≤ (case_of lines).steps) × ((case_of lines).steps ≤ 100_000_000)
unfolding case_of
steps_in lines empty counts =
    count_in 100_000_000 _ (single_in lines (codes "steps") Steps StepCount (pos 0) refl empty (word_says Steps) (λ e. absurd (there (is_single_of (codes "steps")) lines (has_steps lines counts) e)))

pub vapour_in : (lines : List (List (List ℕ))) → IsEmpty (line_rules lines) → IsEmpty (count_rules lines) → IsWithin (neg_ℤ (pos 100_000_000)) (pos 0) (case_of lines).vapour
unfolding case_of
vapour_in lines empty counts = single_in lines (codes "vapour") Vapour VapourHead (neg_ℤ (pos 10_100_000)) refl empty (word_says Vapour) (λ e. default_in _ _ _ refl)

pub weight_in : (lines : List (List (List ℕ))) → IsEmpty (line_rules lines) → IsEmpty (count_rules lines) → IsWithin (pos 5) (pos 10) (case_of lines).weight
unfolding case_of
weight_in lines empty counts = single_in lines (codes "weight") Weight GrowthWeight (pos 10) refl empty (word_says Weight) (λ e. default_in _ _ _ refl)

pub tolerance_in : (lines : List (List (List ℕ))) → IsEmpty (line_rules lines) → IsEmpty (count_rules lines) → IsWithin (pos 0) (pos 500) (case_of lines).tolerance
unfolding case_of
tolerance_in lines empty counts = single_in lines (codes "tolerance") Tolerance SpeedTolerance (pos 150) refl empty (word_says Tolerance) (λ e. default_in _ _ _ refl)

pub every_in : (lines : List (List (List ℕ))) → IsEmpty (line_rules lines) → IsEmpty (count_rules lines) → (1 ≤ (case_of lines).every) × ((case_of lines).every ≤ 100_000_000)
unfolding case_of
every_in lines empty counts = count_in 100_000_000 _ (single_in lines (codes "every") Every SampleStep (pos 1) refl empty (word_says Every) (λ e. default_in _ _ _ refl))

-- the version is one of the two, and version 1 takes friction explicitly
one_of_two : (b : Bool) → IsVersion (cond b 2 1)
one_of_two true = inr refl
one_of_two false = inl refl

version_in : (fields : List (List ℕ)) → IsVersion (heading_version fields)
unfolding heading_version
version_in fields = one_of_two (bytes_eq (field fields 1) (codes "2"))

pub version_read : (lines : List (List (List ℕ))) → IsVersion (case_of lines).version
unfolding case_of
version_read lines = version_in (line_at lines 0)

friction_in : (version : ℕ) (lines : List (List (List ℕ))) → AllowsFriction version (friction_from version lines)
unfolding friction_from
friction_in version lines e = let t : (version == 1) ≡ true = eq-eqb version 1 e in rw t refl

pub friction_read : (lines : List (List (List ℕ))) → AllowsFriction (case_of lines).version (case_of lines).friction
unfolding case_of
friction_read lines = friction_in (version_of lines) lines

-- the field of a line
abbrev pub first_field : Option (List (List ℕ)) → Option (List ℕ)
first_field (Some fields) = Some (field fields 1)
first_field None = None

told_here : (b : Bool) (n : ℕ) (fields : List (List ℕ)) (o : Option (ℕ × List ℕ)) (later : Option (List (List ℕ))) → text_told o ≡ first_field later → text_told (option_or (cond b (Some (n, field fields 1)) None) o) ≡ first_field (cond b (Some fields) later)
told_here true n fields o later e = refl
told_here false n fields o later e = e

told_first : (s : Single) (n : ℕ) (lines : List (List (List ℕ))) → text_told (single_from s n lines) ≡ first_field (find (is_single_of (single_word s)) lines)
told_first s n [] = refl
told_first s n (fields ∷ lines) = told_here (is_single_of (single_word s) fields) n fields (single_from s (n + 1) lines) (find (is_single_of (single_word s)) lines) (told_first s (n + 1) lines)

given_by : (quantity : Quantity) (default : ℤ) (o : Option (List (List ℕ))) → amount_by quantity default (first_field o) ≡ given quantity default o
given_by quantity default (Some fields) = refl
given_by quantity default None = refl

pub amount_told : (s : Single) (quantity : Quantity) (default : ℤ) (lines : List (List (List ℕ))) → amount_by quantity default (text_told (single_from s 0 lines)) ≡ single_amount (single_word s) quantity default lines
unfolding single_amount
amount_told s quantity default lines = ap (amount_by quantity default) (told_first s 0 lines) ∙ given_by quantity default (find (is_single_of (single_word s)) lines)

form_by : (o : Option (List (List ℕ))) → friction_told (first_field o) ≡ friction_by o
form_by (Some fields) = refl
form_by None = refl

pub form_told : (lines : List (List (List ℕ))) → friction_told (text_told (single_from FrictionForm 0 lines)) ≡ friction_by (find (is_single_of (codes "friction")) lines)
form_told lines = ap friction_told (told_first FrictionForm 0 lines) ∙ form_by (find (is_single_of (codes "friction")) lines)
