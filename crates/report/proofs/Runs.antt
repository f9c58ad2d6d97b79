-- Fields one behind the other in a line.
use Rattle.std.proofs.Common.{ℕ, ◌≡◌, ◌∙◌, List, [], ◌∷◌, ◌++◌, ap, sym, append_assoc}
use Rattle.surge_io.specs.Fields.{line_of, fields_text}
use Rattle.surge_io.proofs.FieldTexts.{fields_of_both, joined_fields}

-- a line of two words, each with two runs of fields
pub four_runs : (word next : List ℕ) (first second third fourth : List (List ℕ))
    → (((((word ++ fields_text first) ++ fields_text second) ++ 32 ∷ next) ++ fields_text third) ++ fields_text fourth) ++ 10 ∷ []
    ≡ line_of ((word ∷ first ++ second) ++ (next ∷ third ++ fourth))
four_runs word next first second third fourth =
    let inside : ((((word ++ fields_text first) ++ fields_text second) ++ 32 ∷ next) ++ fields_text third) ++ fields_text fourth ≡ word ++ fields_text ((first ++ second) ++ (next ∷ third ++ fourth)) =
    rw (fields_of_both (first ++ second) (next ∷ third ++ fourth), fields_of_both first second, fields_of_both third fourth) (simp append_assoc) in
    ap (λ l. l ++ 10 ∷ []) (inside ∙ sym (joined_fields word ((first ++ second) ++ (next ∷ third ++ fourth))))

-- a line of a word and four runs of fields
pub runs_of_four : (word : List ℕ) (first second third fourth : List (List ℕ))
    → ((((word ++ fields_text first) ++ fields_text second) ++ fields_text third) ++ fields_text fourth) ++ 10 ∷ [] ≡ line_of (word ∷ first ++ (second ++ (third ++ fourth)))
runs_of_four word first second third fourth =
    let inside : (((word ++ fields_text first) ++ fields_text second) ++ fields_text third) ++ fields_text fourth ≡ word ++ fields_text (first ++ (second ++ (third ++ fourth))) =
    rw (fields_of_both first (second ++ (third ++ fourth)), fields_of_both second (third ++ fourth), fields_of_both third fourth) (simp append_assoc) in
    ap (λ l. l ++ 10 ∷ []) (inside ∙ sym (joined_fields word (first ++ (second ++ (third ++ fourth)))))
