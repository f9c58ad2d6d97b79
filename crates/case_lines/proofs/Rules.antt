-- The least rule of a line by the count of its fields.
use Rattle.std.proofs.Common.{◌≡◌, ℕ, ◌%◌, ◌≤◌, ◌==◌, ◌&&◌, nat_le, true, false, Option, Some, None, List, [], ◌∷◌, length, refl, arith}
use Rattle.std.proofs.lemmas.Bool.Decides.{nat_tests}
use Rattle.case_model.specs.Sets.{FindsLeast}
use Rattle.case_model.specs.declared.cases.TableKind.{TableKind}
use Rattle.case_model.specs.declared.cases.TableKind.TheVariants.{Curve, Gas}
use Rattle.case_lines.specs.declared.words.Directive.{Directive}
use Rattle.case_lines.specs.declared.words.Directive.TheVariants.{OfTable}
use Rattle.case_lines.specs.Words.{single_of, table_of, node_of, directive_of, directive_in}
use Rattle.case_lines.specs.Fields.{field, has_count}
use Rattle.case_lines.specs.Alone.{breaks_counted, breaks_known, breaks_alone}
use Rattle.case_lines.proofs.Ranges.{least_same}

at_least : (n m : ℕ) → 4 ≤ m → ((n % 2 == 0) && nat_le m n) ≡ true → 4 ≤ n
at_least n m h e = grind (arith, nat_tests)

-- a table with the right count of fields has a pair
pub table_counted : (kind : TableKind) (n : ℕ) → has_count (OfTable kind) n ≡ true → 4 ≤ n
unfolding has_count
table_counted Curve n h = at_least n 6 (omega arith) h
table_counted Gas n h = at_least n 6 (omega arith) h
table_counted _ n h = at_least n 4 (omega arith) h

pub known_counted : (d : Directive) (fields : List (List ℕ)) (o : Option ℕ) → has_count d (length fields) ≡ true → FindsLeast (breaks_counted d fields) o → FindsLeast (breaks_known (Some d) fields) o
known_counted d fields o h f = least_same (breaks_counted d fields) (breaks_known (Some d) fields) o (λ n. rw h refl) f

-- a line behind the first that has fields
pub alone_known : (version line : ℕ) (fields : List (List ℕ)) (o : Option ℕ) → (line == 1) ≡ false → (length fields == 0) ≡ false →
    FindsLeast (breaks_known (directive_in version (directive_of (field fields 0))) fields) o →
    FindsLeast (breaks_alone version line fields) o
unfolding breaks_alone
alone_known version line fields o h k f =
    least_same (breaks_known (directive_in version (directive_of (field fields 0))) fields)
    (breaks_alone version line fields) o (λ n. rw (h, k) refl) f

-- a line without fields has no directive
pub no_field : (fields : List (List ℕ)) → (length fields == 0) ≡ true → None ≡ directive_of (field fields 0)
unfolding directive_of single_of table_of node_of
no_field [] h = refl
no_field (text ∷ fields) h = absurd (grind arith)
