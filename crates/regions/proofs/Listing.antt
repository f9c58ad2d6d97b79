-- Lists that grow by one item, or by one piece.
use Rattle.std.proofs.Common.{◌≡◌, ℕ, ◌+◌, List, [], ◌∷◌, ◌++◌, map, ap, sym, ◌∙◌, arith, append_assoc}
use Rattle.std.specs.List.{flat_map, range_with_len}
use Rattle.std.proofs.lemmas.List.{flat_map_more}
use Rattle.std.proofs.lemmas.List.FromFn.{map-range_with_len_more}
use Rattle.case_model.proofs.PlaceLaws.{range_more}

pub items_more : {X : Type 0} (f : ℕ → X) (n : ℕ) (base xs ys : List X) (v : X) → xs ≡ base ++ map f (range_with_len 0 n) → ys ≡ xs ++ v ∷ [] → v ≡ f n → ys ≡ base ++ map f (range_with_len 0 (n + 1))
items_more f n base xs ys v e h k =
    h ∙ ap (λ l. l ++ v ∷ []) e ∙ append_assoc base (map f (range_with_len 0 n)) (v ∷ [])
    ∙ ap (λ x. base ++ (map f (range_with_len 0 n) ++ x ∷ [])) k ∙ ap (λ l. base ++ l) (sym (map-range_with_len_more f 0 n n (omega arith)))

pub pieces_more : {X : Type 0} (f : ℕ → List X) (n : ℕ) (base xs ys : List X) → xs ≡ base ++ flat_map f (range_with_len 0 n) → ys ≡ xs ++ f n → ys ≡ base ++ flat_map f (range_with_len 0 (n + 1))
pieces_more f n base xs ys e h =
    h ∙ ap (λ l. l ++ f n) e ∙ flat_map_more f base (range_with_len 0 n) n ∙ ap (λ r. base ++ flat_map f r) (sym (range_more n))
