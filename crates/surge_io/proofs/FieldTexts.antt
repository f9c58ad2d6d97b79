-- Fields one behind the other in a line.
use Rattle.std.proofs.Common.{ℕ, ◌≡◌, ◌∙◌, List, [], ◌∷◌, ◌++◌, ap, sym, append_assoc, append-nil}
use Rattle.std.specs.List.{join_with_byte}
use Rattle.std.proofs.lemmas.Grind.{flat_map-append}
use Rattle.surge_io.specs.Fields.{line_of, fields_text}

-- the fields of a line, each behind a blank but the first
pub joined_fields : (field : List ℕ) (fields : List (List ℕ)) → join_with_byte 32 (field ∷ fields) ≡ field ++ fields_text fields
joined_fields field [] = sym (append-nil field)
joined_fields field (next ∷ fields) = ap (λ l. field ++ 32 ∷ l) (joined_fields next fields)

pub fields_of_both : (first second : List (List ℕ)) → fields_text (first ++ second) ≡ fields_text first ++ fields_text second
fields_of_both first second = flat_map-append (λ field. 32 ∷ field) first second

-- a line of a word and two runs of fields
pub two_runs : (word : List ℕ) (first second : List (List ℕ)) → ((word ++ fields_text first) ++ fields_text second) ++ 10 ∷ [] ≡ line_of (word ∷ first ++ second)
two_runs word first second =
    ap (λ l. l ++ 10 ∷ []) (append_assoc word (fields_text first) (fields_text second) ∙ ap (λ l. word ++ l) (sym (fields_of_both first second)) ∙ sym (joined_fields word (first ++ second)))
