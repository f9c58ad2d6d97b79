-- The places of pipes one behind the other.
use Rattle.std.proofs.Common.{◌≡◌, ◌∙◌, ℕ, zero, suc, ◌<◌, ◌≤◌, ◌+◌, ◌⊎◌, inl, inr, List, [], ◌∷◌, ◌++◌, length, map, refl, ap, subst, append-nil, arith}
use Rattle.std.specs.List.{All, flat_map, fold, range_with_len}
use Rattle.std.proofs.lemmas.List.Elements.{All-nil, All-cons, All-head, All-tail, All-append}
use Rattle.std.proofs.lemmas.List.Sums.{fold-append}
use Rattle.std.proofs.lemmas.List.FromFn.{map-range_with_len_more}
use Rattle.std.proofs.lemmas.Grind.{flat_map-append}
use Rattle.case_model.specs.Mesh.{reaches}
use Rattle.case_model.specs.declared.cases.ProbeAt.{ProbeAt}
use Rattle.case_model.specs.declared.cases.ProbeAt.TheVariants.{OnPipe, OnNode}
use Rattle.case_model.specs.declared.meshes.Mesh.{Mesh}
use Rattle.report.specs.Places.{IsBefore, IsOnPipe, pipe_places, places_of_pipe}
use Rattle.case_model.proofs.PlaceLaws.{range_more}
use Rattle.case_model.proofs.ListFacts.{all_left, all_right}
use Rattle.case_model.proofs.SearchLaws.{here_or_later}

-- ---- parts of lists

-- ---- all of a range

pub all_of_range : {X : Type 0} (P : X → Type 0) (f : ℕ → X) (a n : ℕ) → ((i : ℕ) → a ≤ i → i < a + n → P (f i)) → All P (map f (range_with_len a n))
all_of_range P f a zero h = All-nil P
all_of_range P f a (suc n) h = All-cons P (f a) (map f (range_with_len (a + 1) n)) (h a (omega arith) (omega arith)) (all_of_range P f (a + 1) n (λ i low high. h i (omega arith) (omega arith)))

at_first_or_later : (P : ℕ → Type 0) (a i : ℕ) → (a ≡ i) ⊎ (a + 1 ≤ i) → P a → (a + 1 ≤ i → P i) → P i
at_first_or_later P a i (inl e) here later = subst P e here
at_first_or_later P a i (inr low) here later = later low

one_of_range : {X : Type 0} (P : X → Type 0) (f : ℕ → X) (a n i : ℕ) → a ≤ i → i < a + n → All P (map f (range_with_len a n)) → P (f i)
one_of_range P f a zero i low high h = absurd (omega arith)
one_of_range P f a (suc n) i low high h = at_first_or_later (λ k. P (f k)) a i (here_or_later a i low) (All-head P (f a) (map f (range_with_len (a + 1) n)) h)
    (λ more. one_of_range P f (a + 1) n i more (omega arith) (All-tail P (f a) (map f (range_with_len (a + 1) n)) h))

-- ---- all places of the pipes

all_of_pipes : (P : ProbeAt → Type 0) (mesh : Mesh) (a n : ℕ) → ((p i : ℕ) → a ≤ p → p < a + n → i ≤ reaches mesh p → P (OnPipe p i)) → All P (flat_map (places_of_pipe mesh) (range_with_len a n))
all_of_pipes P mesh a zero h = All-nil P
all_of_pipes P mesh a (suc n) h = All-append P (places_of_pipe mesh a) (flat_map (places_of_pipe mesh) (range_with_len (a + 1) n))
    (all_of_range P (OnPipe a) 0 (reaches mesh a + 1) (λ i low high. h a i (omega arith) (omega arith) (omega arith)))
    (all_of_pipes P mesh (a + 1) n (λ p i low high on. h p i (omega arith) (omega arith) on))

one_of_pipes : (P : ProbeAt → Type 0) (mesh : Mesh) (a n p : ℕ) → a ≤ p → p < a + n → All P (flat_map (places_of_pipe mesh) (range_with_len a n)) → All P (places_of_pipe mesh p)
one_of_pipes P mesh a zero p low high h = absurd (omega arith)
one_of_pipes P mesh a (suc n) p low high h = at_first_or_later (λ k. All P (places_of_pipe mesh k)) a p (here_or_later a p low)
    (all_left P (places_of_pipe mesh a) (flat_map (places_of_pipe mesh) (range_with_len (a + 1) n)) h)
    (λ more. one_of_pipes P mesh (a + 1) n p more (omega arith) (all_right P (places_of_pipe mesh a) (flat_map (places_of_pipe mesh) (range_with_len (a + 1) n)) h))

pub all-pipe_places : (P : ProbeAt → Type 0) (mesh : Mesh) → ((at : ProbeAt) → IsOnPipe mesh at → P at) → All P (pipe_places mesh)
unfolding pipe_places
all-pipe_places P mesh h = all_of_pipes P mesh 0 (length mesh.pipes) (λ p i low high on. h (OnPipe p i) (omega arith, on))

pub one-pipe_place : (P : ProbeAt → Type 0) (mesh : Mesh) (at : ProbeAt) → IsOnPipe mesh at → All P (pipe_places mesh) → P at
unfolding pipe_places
one-pipe_place P mesh (OnPipe p i) on h = one_of_range P (OnPipe p) 0 (reaches mesh p + 1) i (omega arith) (omega (arith, on.1)) (one_of_pipes P mesh 0 (length mesh.pipes) p (omega arith) (omega (arith, on.0)) h)
one-pipe_place P mesh (OnNode _) on h = elim on [ ]

-- ---- their order

abbrev pub IsSorted : List ProbeAt → Type 0
IsSorted [] = Unit {0}
IsSorted (x ∷ xs) = All (IsBefore x) xs × IsSorted xs

sorted_both : (xs ys : List ProbeAt) → IsSorted xs → IsSorted ys → All (λ x. All (IsBefore x) ys) xs → IsSorted (xs ++ ys)
sorted_both [] ys h k b = k
sorted_both (x ∷ xs) ys h k b =
    (All-append (IsBefore x) xs ys h.0 (All-head (λ y. All (IsBefore y) ys) x xs b), sorted_both xs ys h.1 k (All-tail (λ y. All (IsBefore y) ys) x xs b))

sorted_pipe : (p a n : ℕ) → IsSorted (map (OnPipe p) (range_with_len a n))
sorted_pipe p a zero = tt
sorted_pipe p a (suc n) = (all_of_range (IsBefore (OnPipe p a)) (OnPipe p) (a + 1) n (λ i low high. inr (refl, omega arith)), sorted_pipe p (a + 1) n)

sorted_pipes : (mesh : Mesh) (a n : ℕ) → IsSorted (flat_map (places_of_pipe mesh) (range_with_len a n))
sorted_pipes mesh a zero = tt
sorted_pipes mesh a (suc n) =
    let rest : List ProbeAt = flat_map (places_of_pipe mesh) (range_with_len (a + 1) n) in
    sorted_both (places_of_pipe mesh a) rest (sorted_pipe a 0 (reaches mesh a + 1)) (sorted_pipes mesh (a + 1) n)
    (all_of_range (λ x. All (IsBefore x) rest) (OnPipe a) 0 (reaches mesh a + 1)
    (λ i low high. all_of_pipes (IsBefore (OnPipe a i)) mesh (a + 1) n (λ q j qlow qhigh on. inl (omega arith))))

pub sorted-pipe_places : (mesh : Mesh) → IsSorted (pipe_places mesh)
unfolding pipe_places
sorted-pipe_places mesh = sorted_pipes mesh 0 (length mesh.pipes)

-- what stands behind a place comes after it
pub sorted-after : (before after : List ProbeAt) (at : ProbeAt) → IsSorted (before ++ at ∷ after) → All (IsBefore at) after
sorted-after [] after at h = h.0
sorted-after (x ∷ before) after at h = sorted-after before after at h.1

-- ---- the first place, and one place more

first_of_pipe : (p n : ℕ) → map (OnPipe p) (range_with_len 0 (n + 1)) ≡ OnPipe p 0 ∷ map (OnPipe p) (range_with_len 1 n)
first_of_pipe p n = let e : n + 1 ≡ suc n = omega arith in rw e refl

first_of_pipes : (mesh : Mesh) (n : ℕ) → 0 < n → (rest : List ProbeAt) × (flat_map (places_of_pipe mesh) (range_with_len 0 n) ≡ OnPipe 0 0 ∷ rest)
first_of_pipes mesh zero h = absurd (omega arith)
first_of_pipes mesh (suc n) h = (map (OnPipe 0) (range_with_len 1 (reaches mesh 0)) ++ flat_map (places_of_pipe mesh) (range_with_len 1 n), ap (λ l. l ++ flat_map (places_of_pipe mesh) (range_with_len 1 n)) (first_of_pipe 0 (reaches mesh 0)))

pub first-pipe_place : (mesh : Mesh) → 0 < length mesh.pipes → (rest : List ProbeAt) × (pipe_places mesh ≡ OnPipe 0 0 ∷ rest)
unfolding pipe_places
first-pipe_place mesh h = first_of_pipes mesh (length mesh.pipes) h

pub folded_place : {B : Type 0} (h : B → ProbeAt → B) (b : B) (p i : ℕ) → fold h b (map (OnPipe p) (range_with_len 0 (i + 1))) ≡ h (fold h b (map (OnPipe p) (range_with_len 0 i))) (OnPipe p i)
folded_place h b p i = ap (fold h b) (map-range_with_len_more (OnPipe p) 0 i i (omega arith)) ∙ fold-append h b (map (OnPipe p) (range_with_len 0 i)) (OnPipe p i ∷ [])

one_pipe_more : (mesh : Mesh) (p : ℕ) → flat_map (places_of_pipe mesh) (range_with_len 0 (p + 1)) ≡ flat_map (places_of_pipe mesh) (range_with_len 0 p) ++ places_of_pipe mesh p
one_pipe_more mesh p =
    ap (flat_map (places_of_pipe mesh)) (range_more p) ∙ flat_map-append (places_of_pipe mesh) (range_with_len 0 p) (p ∷ [])
    ∙ ap (λ l. flat_map (places_of_pipe mesh) (range_with_len 0 p) ++ l) (append-nil (places_of_pipe mesh p))

pub folded_pipe : {B : Type 0} (h : B → ProbeAt → B) (b : B) (mesh : Mesh) (p : ℕ) → fold h b (flat_map (places_of_pipe mesh) (range_with_len 0 (p + 1))) ≡ fold h (fold h b (flat_map (places_of_pipe mesh) (range_with_len 0 p))) (places_of_pipe mesh p)
folded_pipe h b mesh p = ap (fold h b) (one_pipe_more mesh p) ∙ fold-append h b (flat_map (places_of_pipe mesh) (range_with_len 0 p)) (places_of_pipe mesh p)
