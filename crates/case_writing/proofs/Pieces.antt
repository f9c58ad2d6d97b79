-- Fields one behind the other in a line.
use Rattle.std.proofs.Common.{ℕ, ◌≡◌, ◌∙◌, List, [], ◌∷◌, ◌++◌, refl, ap, sym, append_assoc, append-nil}
use Rattle.std.specs.List.{flat_map, join_with_byte}
use Rattle.std.proofs.lemmas.Grind.{flat_map-append}
use Rattle.surge_io.specs.Fields.{fields_text, line_of}
use Rattle.surge_io.proofs.FieldTexts.{joined_fields, two_runs}
use Rattle.case_writing.specs.CaseText.{entry_fields, entry_text, table_text, table_word}
use Rattle.case_model.specs.declared.cases.Table.{Table}

fields_of_pieces : {X : Type 0} (f : X → List (List ℕ)) (xs : List X) → fields_text (flat_map f xs) ≡ flat_map (λ x. fields_text (f x)) xs
fields_of_pieces f [] = refl
fields_of_pieces f (x ∷ xs) = flat_map-append (λ field. 32 ∷ field) (f x) (flat_map f xs) ∙ ap (λ l. fields_text (f x) ++ l) (fields_of_pieces f xs)

-- the line of a table is its word and its name, its pairs, and a line end
pub table_pieces : (t : Table) → (table_word t.kind ++ 32 ∷ t.name) ++ flat_map (entry_text t.kind) t.points ++ 10 ∷ [] ≡ table_text t
unfolding table_text
table_pieces t =
    let pairs = flat_map (entry_text t.kind) t.points in
    let inside : (table_word t.kind ++ 32 ∷ t.name) ++ pairs ≡ join_with_byte 32 (table_word t.kind ∷ t.name ∷ flat_map (entry_fields t.kind) t.points) =
    append_assoc (table_word t.kind) (32 ∷ t.name) pairs
    ∙ ap (λ l. table_word t.kind ++ 32 ∷ (t.name ++ l)) (sym (fields_of_pieces (entry_fields t.kind) t.points))
    ∙ sym (joined_fields (table_word t.kind) (t.name ∷ flat_map (entry_fields t.kind) t.points)) in
    ap (λ l. l ++ 10 ∷ []) inside

-- a line of a word, two fields and a run of fields
pub node_pieces : (word name number : List ℕ) (fields : List (List ℕ)) → ((word ++ 32 ∷ name) ++ 32 ∷ number) ++ fields_text fields ++ 10 ∷ [] ≡ line_of (word ∷ name ∷ number ∷ fields)
node_pieces word name number fields =
    let front : (word ++ 32 ∷ name) ++ 32 ∷ number ≡ word ++ fields_text (name ∷ number ∷ []) =
    append_assoc word (32 ∷ name) (32 ∷ number) ∙ ap (λ l. word ++ 32 ∷ (name ++ 32 ∷ l)) (sym (append-nil number)) in
    ap (λ l. l ++ fields_text fields ++ 10 ∷ []) front ∙ two_runs word (name ∷ number ∷ []) fields
