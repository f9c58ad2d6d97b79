-- The ends at each node, one pipe more.
use Rattle.std.proofs.Common.{◌≡◌, ℕ, ◌+◌, ◌<◌, ◌==◌, Bool, true, false, get_or, set, take, length, List, [], ◌∷◌, ◌++◌, replicate, Option, Some, None, refl, ap, ◌∙◌, sym, subst, arith, append-nil, inl, inr}
use Rattle.std.specs.List.{cons_option}
use Rattle.std.proofs.lemmas.Bool.{cases_eq, eq-eqb, ne_eqb}
use Rattle.std.proofs.lemmas.List.{take_more, length-take-le, length-set, length-replicate, replicate-append-replicate, set-set, get_or-replicate, get_or-set_other, get_or-set_same}
use Rattle.case_model.specs.declared.cases.Pipe.{Pipe}
use Rattle.case_model.specs.declared.meshes.End.{End}
use Rattle.case_model.specs.Ends.{end_if, ends_at}
use Rattle.reaches.specs.Adding.{with_end, with_pipe}

cons_append : {X : Type 0} (o : Option X) (xs ys : List X) → cons_option o xs ++ ys ≡ cons_option o (xs ++ ys)
cons_append None xs ys = refl
cons_append (Some x) xs ys = refl

-- both ends of a pipe, as far as they are those of the node
abbrev pub both : ℕ → ℕ → Pipe → List End
both k index p = cons_option (end_if (p.first == k) index false) (cons_option (end_if (p.last == k) index true) [])

cons_twice : {X : Type 0} (a b : Option X) (xs ys : List X) → cons_option a (cons_option b xs) ++ ys ≡ cons_option a (cons_option b (xs ++ ys))
cons_twice a b xs ys = cons_append a (cons_option b xs) ys ∙ ap (cons_option a) (cons_append b xs ys)

ends_more : (k index n : ℕ) (ps : List Pipe) (p : Pipe) → n ≡ index + length ps → ends_at k index (ps ++ p ∷ []) ≡ ends_at k index ps ++ both k n p
ends_more k index n [] p h = let s : index ≡ n = omega arith in ap (λ m. both k m p) s
ends_more k index n (x ∷ ps) p h =
    ap (λ xs. cons_option (end_if (x.first == k) index false) (cons_option (end_if (x.last == k) index true) xs)) (ends_more k (index + 1) n ps p (omega arith))
    ∙ sym (cons_twice (end_if (x.first == k) index false) (end_if (x.last == k) index true) (ends_at k (index + 1) ps) (both k n p))

ends_next : (k i : ℕ) (ps : List Pipe) (p d : Pipe) → i < length ps → p ≡ get_or ps i d → ends_at k 0 (take (i + 1) ps) ≡ ends_at k 0 (take i ps) ++ both k i p
ends_next k i ps p d h is =
    ap (ends_at k 0) (take_more ps i d h ∙ ap (λ x. take i ps ++ x ∷ []) (sym is)) ∙ ends_more k 0 i (take i ps) p (omega (arith, length-take-le i ps (omega arith)))

added_twice : {X : Type 0} (a b : Option X) (xs : List X) → (xs ++ cons_option a []) ++ cons_option b [] ≡ xs ++ cons_option a (cons_option b [])
added_twice None None [] = refl
added_twice None (Some b) [] = refl
added_twice (Some a) None [] = refl
added_twice (Some a) (Some b) [] = refl
added_twice a b (x ∷ xs) = ap (λ ys. x ∷ ys) (added_twice a b xs)

-- what stands at node k after an end was added at node j
with_end_at : (xs : List (List End)) (j k index : ℕ) (last : Bool) → j < length xs → get_or (with_end xs j (record { pipe = index; at_last = last })) k [] ≡ get_or xs k [] ++ cons_option (end_if (j == k) index last) []
with_end_at xs j k index last h = elim (cases_eq j k) [
  | inl e ↦ rw (eq-eqb j k e) (subst (λ (m : ℕ). get_or (with_end xs j (record { pipe = index; at_last = last })) m [] ≡ get_or xs m [] ++ record { pipe = index; at_last = last } ∷ []) e
      (get_or-set_same xs j (get_or xs j [] ++ record { pipe = index; at_last = last } ∷ []) [] h))
  | inr n ↦ rw (ne_eqb j k n) (get_or-set_other xs j k (get_or xs j [] ++ record { pipe = index; at_last = last } ∷ []) [] (λ e. n (sym e)) ∙ sym (append-nil (get_or xs k [])))
]

pub with_pipe_length : (xs : List (List End)) (index : ℕ) (p : Pipe) → length (with_pipe xs index p) ≡ length xs
unfolding with_pipe
with_pipe_length xs index p =
    let ys = with_end xs p.first (record { pipe = index; at_last = false }) in
    length-set ys p.last (get_or ys p.last [] ++ record { pipe = index; at_last = true } ∷ []) ∙ length-set xs p.first (get_or xs p.first [] ++ record { pipe = index; at_last = false } ∷ [])

with_pipe_at : (xs : List (List End)) (index k : ℕ) (p : Pipe) → p.first < length xs → p.last < length xs → get_or (with_pipe xs index p) k [] ≡ get_or xs k [] ++ both k index p
unfolding with_pipe
with_pipe_at xs index k p h l =
    let first : End = record { pipe = index; at_last = false } in
    let ys = with_end xs p.first first in
    let n : length ys ≡ length xs = length-set xs p.first (get_or xs p.first [] ++ first ∷ []) in
    with_end_at ys p.last k index true (omega arith)
    ∙ ap (λ (es : List End). es ++ cons_option (end_if (p.last == k) index true) []) (with_end_at xs p.first k index false h)
    ∙ added_twice (end_if (p.first == k) index false) (end_if (p.last == k) index true) (get_or xs k [])

-- the ends at each of so many nodes, of the first pipes
pub record IsMetTo (nodes : ℕ) (pipes : List Pipe) (i : ℕ) (ends : List (List End)) : Type 0 where
  pub each : length ends ≡ nodes
  pub found : (k : ℕ) → k < nodes → get_or ends k [] ≡ ends_at k 0 (take i pipes)

pub met_more : (nodes : ℕ) (pipes : List Pipe) (i : ℕ) (xs ys : List (List End)) (p d : Pipe) → IsMetTo nodes pipes i xs → ys ≡ with_pipe xs i p → i < length pipes → p ≡ get_or pipes i d → p.first < nodes → p.last < nodes → IsMetTo nodes pipes (i + 1) ys
met_more nodes pipes i xs ys p d m e h is f l = record {
  each = ap length e ∙ with_pipe_length xs i p ∙ m.each;
  found = λ k b.
      let n = m.each in
      ap (λ (zs : List (List End)). get_or zs k []) e ∙ with_pipe_at xs i k p (omega arith) (omega arith)
      ∙ ap (λ (es : List End). es ++ both k i p) (m.found k b) ∙ sym (ends_next k i pipes p d h is);
}

pub met_none : (nodes : ℕ) (pipes : List Pipe) (xs : List (List End)) → xs ≡ replicate nodes [] → IsMetTo nodes pipes 0 xs
met_none nodes pipes xs e = record {
  each = ap length e ∙ length-replicate nodes [];
  found = λ k b. ap (λ (zs : List (List End)). get_or zs k []) e ∙ get_or-replicate nodes k [] [] b;
}

pub replicate_more : {X : Type 0} (x : X) (n : ℕ) (xs ys : List X) (y : X) → xs ≡ replicate n x → ys ≡ xs ++ y ∷ [] → y ≡ x → ys ≡ replicate (n + 1) x
replicate_more x n xs ys y e f g = f ∙ ap (λ zs. zs ++ y ∷ []) e ∙ ap (λ z. replicate n x ++ z ∷ []) g ∙ replicate-append-replicate n 1 x

-- an end put behind those that were taken out of their place
pub put_back : (xs : List (List End)) (k : ℕ) (r own new : List End) (e : End) → k < length xs → own ≡ get_or xs k [] → new ≡ own ++ e ∷ [] → set (set xs k r) k new ≡ with_end xs k e
put_back xs k r own new e h f g = set-set xs k r new ∙ ap (set xs k) (g ∙ ap (λ (es : List End). es ++ e ∷ []) f)
