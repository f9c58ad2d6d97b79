-- The least rule of a line, by its directive and its number.
use Rattle.std.proofs.Common.{◌≡◌, ℕ, ◌==◌, ◌||◌, true, false, Option, Some, None, List, length, refl, sym}
use Rattle.std.proofs.Math.Bool.{or-false}
use Rattle.case_model.specs.Sets.{FindsLeast}
use Rattle.case_lines.specs.declared.words.Directive.{Directive}
use Rattle.case_lines.specs.Fields.{has_count}
use Rattle.case_lines.specs.Alone.{breaks_alone}
use Rattle.case_lines.proofs.Ranges.{least_same}
use Rattle.case_lines.proofs.Rules.{no_field}
use Rattle.case_rules.specs.Said.{version_of, directive_said}
use Rattle.case_rules.specs.Among.{directive_among, breaks_counted, breaks_among, breaks_line}

pub among_counted : (before all : List (List (List ℕ))) (d : Directive) (fields : List (List ℕ)) (o : Option ℕ) → has_count d (length fields) ≡ true →
    FindsLeast (breaks_counted before all d fields) o → FindsLeast (breaks_among before all (Some d) fields) o
unfolding breaks_among
among_counted before all d fields o h f = least_same (breaks_counted before all d fields) (breaks_among before all (Some d) fields) o (λ n. rw h refl) f

pub line_first : (before all : List (List (List ℕ))) (line : ℕ) (fields : List (List ℕ)) (o : Option ℕ) → (line == 1) ≡ true → FindsLeast (breaks_alone (version_of all) line fields) o → FindsLeast (breaks_line before all line fields) o
unfolding breaks_line
line_first before all line fields o h f =
    least_same (breaks_alone (version_of all) line fields) (breaks_line before all line fields) o
    (λ n. rw h (sym (or-false (breaks_alone (version_of all) line fields n)))) f

pub line_later : (before all : List (List (List ℕ))) (line : ℕ) (fields : List (List ℕ)) (o : Option ℕ) → (line == 1) ≡ false →
    FindsLeast (λ n. breaks_alone (version_of all) line fields n || breaks_among before all (directive_among all fields) fields n) o → FindsLeast (breaks_line before all line fields) o
unfolding breaks_line
line_later before all line fields o h f =
    least_same (λ n. breaks_alone (version_of all) line fields n || breaks_among before all (directive_among all fields) fields n) (breaks_line before all line fields) o (λ n. rw h refl) f

-- a line without fields behind the first
pub line_blank : (before all : List (List (List ℕ))) (line : ℕ) (fields : List (List ℕ)) → (line == 1) ≡ false → (length fields == 0) ≡ true → FindsLeast (breaks_line before all line fields) None
unfolding breaks_line breaks_alone breaks_among directive_said
line_blank before all line fields h k = λ n e. let f = rw (h, k, ← no_field fields k) at e in cc
