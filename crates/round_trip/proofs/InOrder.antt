-- The parts that lines say, in the order of the lines.
use Rattle.std.proofs.Common.{ℕ, suc, ◌+◌, ◌≡◌, Option, Some, None, List, [], ◌∷◌, ◌++◌, map, length, ap, ◌∙◌, arith}
use Rattle.std.specs.List.{cons_option, AllByRecursion}
use Rattle.netfile.specs.Built.{parts_from}

-- parts that are made of others by the numbers of their lines
abbrev pub numbered : {A X : Type 0} → (ℕ → A → X) → ℕ → List A → List X
numbered on line [] = []
numbered on line (a ∷ more) = on line a ∷ numbered on (line + 1) more

-- lines that say no such part
pub skipped : {A X : Type 0} (says : ℕ → List (List ℕ) → Option X) (line_of : A → List (List ℕ)) (parts : List A) (line : ℕ) (rest : List (List (List ℕ))) → ((j : ℕ) (a : A) → says j (line_of a) ≡ None)
    → parts_from says line (map line_of parts ++ rest) ≡ parts_from says (line + length parts) rest
skipped says line_of [] line rest f = let e : line ≡ line + 0 = omega arith in ap (λ (n : ℕ). parts_from says n rest) e
skipped {A} {X} says line_of (a ∷ parts) line rest f =
    let e : line + 1 + length parts ≡ line + suc (length parts) = omega arith in
    ap (λ (o : Option X). cons_option o (parts_from says (line + 1) (map line_of parts ++ rest))) (f line a) ∙ skipped says line_of parts (line + 1) rest f ∙ ap (λ (n : ℕ). parts_from says n rest) e

-- lines that say a part each
pub taken : {A X : Type 0} (says : ℕ → List (List ℕ) → Option X) (line_of : A → List (List ℕ)) (on : ℕ → A → X) (parts : List A) (line : ℕ) (rest : List (List (List ℕ)))
    → AllByRecursion (λ a. (j : ℕ) → says j (line_of a) ≡ Some (on j a)) parts
    → parts_from says line (map line_of parts ++ rest) ≡ numbered on line parts ++ parts_from says (line + length parts) rest
taken says line_of on [] line rest f = let e : line ≡ line + 0 = omega arith in ap (λ (n : ℕ). parts_from says n rest) e
taken {A} {X} says line_of on (a ∷ parts) line rest f =
    let e : line + 1 + length parts ≡ line + suc (length parts) = omega arith in
    ap (λ (o : Option X). cons_option o (parts_from says (line + 1) (map line_of parts ++ rest))) (f.0 line)
    ∙ ap (λ (xs : List X). on line a ∷ xs) (taken says line_of on parts (line + 1) rest f.1 ∙ ap (λ (n : ℕ). numbered on (line + 1) parts ++ parts_from says n rest) e)
