-- In the mesh of a case each end in a node's list is found there again.
use Rattle.std.proofs.Common.{◌≡◌, ℕ, zero, suc, ◌+◌, ◌*◌, ◌<◌, ◌≤◌, inl, inr, ◌==◌, ◌&&◌, not, Bool, true, false, List, [], ◌∷◌, length, get_or, refl, ap, subst, sym, ◌∙◌, arith, eq-eqb}
use Rattle.std.specs.Prelude.{if◌then◌else◌}
use Rattle.std.specs.List.{AllByRecursion, cons_option, list_any, position_or_len}
use Rattle.std.proofs.lemmas.Bool.{cases_lt, eqb-true, false_from_ne_true}
use Rattle.std.proofs.lemmas.List.Elements.{All-from_recursion}
use Rattle.std.proofs.lemmas.List.Folds.{list_any_at}
use Rattle.std.proofs.lemmas.List.Sums.{position_or_len_is}
use Rattle.case_model.specs.declared.cases.Case.{Case}
use Rattle.case_model.specs.declared.cases.Pipe.{Pipe}
use Rattle.case_model.specs.declared.meshes.End.{End}
use Rattle.case_model.specs.Division.{node_ends, mesh_of}
use Rattle.case_model.specs.Ends.{end_if, ends_at}
use Rattle.case_model.specs.Mesh.{is_end, ends_of, end_node, end_index}
use Rattle.case_model.specs.Parts.{no_pipe}
use Rattle.case_model.proofs.Keeping.{parts}
use Rattle.case_model.specs.Joints.{no_end}
use Rattle.regions.specs.Sides.{end_at, AreOrdered, IsBefore, IsWired}
use Rattle.regions.proofs.Joining.{end-is}
use Rattle.case_model.proofs.ListFacts.{any-index}

-- ---- the ends of a node stand in order of pipes, place 0 first

abbrev rank : ℕ → Bool → ℕ
rank p last = 2 * p + (if last then 1 else 0)

abbrev Rising : ℕ → List End → Type 0
Rising a [] = Unit {0}
Rising a (e ∷ es) = (a ≤ rank e.pipe e.at_last) × Rising (rank e.pipe e.at_last + 1) es

weaker : (a b : ℕ) (xs : List End) → b ≤ a → Rising a xs → Rising b xs
weaker a b [] h r = tt
weaker a b (e ∷ es) h r = ((let l = r.0 in omega arith), r.1)

rising_if : (b : Bool) (index : ℕ) (last : Bool) (xs : List End) → Rising (rank index last + 1) xs → Rising (rank index last) (cons_option (end_if b index last) xs)
rising_if true index last xs r = (omega arith, r)
rising_if false index last xs r = weaker (rank index last + 1) (rank index last) xs (omega arith) r

ends-rising : (k index : ℕ) (ps : List Pipe) → Rising (2 * index) (ends_at k index ps)
ends-rising k index [] = tt
ends-rising k index (p ∷ ps) =
    weaker (rank index false) (2 * index) (ends_at k index (p ∷ ps)) (omega arith)
    (rising_if (p.first == k) index false (cons_option (end_if (p.last == k) index true) (ends_at k (index + 1) ps))
    (weaker (rank index true) (rank index false + 1) (cons_option (end_if (p.last == k) index true) (ends_at k (index + 1) ps)) (omega arith)
    (rising_if (p.last == k) index true (ends_at k (index + 1) ps)
    (weaker (2 * (index + 1)) (rank index true + 1) (ends_at k (index + 1) ps) (omega arith) (ends-rising k (index + 1) ps)))))

rank-low : (a : ℕ) (xs : List End) (j : ℕ) (d : End) → Rising a xs → j < length xs → a ≤ rank (get_or xs j d).pipe (get_or xs j d).at_last
rank-low a [] j d r h = absurd (omega arith)
rank-low a (e ∷ es) zero d r h = r.0
rank-low a (e ∷ es) (suc j) d r h = let l = rank-low (rank e.pipe e.at_last + 1) es j d r.1 (omega arith) in let k = r.0 in omega arith

rank-less : (a : ℕ) (xs : List End) (i j : ℕ) (d : End) → Rising a xs → i < j → j < length xs → rank (get_or xs i d).pipe (get_or xs i d).at_last < rank (get_or xs j d).pipe (get_or xs j d).at_last
rank-less a [] i j d r l h = absurd (omega arith)
rank-less a (e ∷ es) i zero d r l h = absurd (omega arith)
rank-less a (e ∷ es) zero (suc j) d r l h = let k = rank-low (rank e.pipe e.at_last + 1) es j d r.1 (omega arith) in omega arith
rank-less a (e ∷ es) (suc i) (suc j) d r l h = rank-less (rank e.pipe e.at_last + 1) es i j d r.1 (omega arith) (omega arith)

flag : (b : Bool) → (true && (if b then b else not b)) ≡ true
flag true = refl
flag false = refl

is_self : (e : End) → is_end e.pipe e.at_last e ≡ true
is_self e = rw (eq-eqb e.pipe e.pipe refl) (flag e.at_last)

found_again : (a : ℕ) (xs : List End) (j : ℕ) → Rising a xs → j < length xs → position_or_len (is_end (get_or xs j no_end).pipe (get_or xs j no_end).at_last) xs ≡ j
found_again a xs j r h =
    let e = get_or xs j no_end in
    position_or_len_is (is_end e.pipe e.at_last) xs j no_end (omega arith)
    (λ i l. false_from_ne_true _ (λ t.
    let s = end-is e.pipe e.at_last (get_or xs i no_end) t in
    let m = rank-less a xs i j no_end r l h in
    let q : rank (get_or xs i no_end).pipe (get_or xs i no_end).at_last ≡ rank e.pipe e.at_last = ap (λ (x : End). rank x.pipe x.at_last) s in
    absurd (omega arith)))
    (λ l. is_self e)

-- ---- and each is an end of a pipe at that node

abbrev stands_at : List Pipe → ℕ → Bool → ℕ
stands_at whole p last = if last then (get_or whole p no_pipe).last else (get_or whole p no_pipe).first

all_if : (P : End → Type 0) (b : Bool) (index : ℕ) (last : Bool) (xs : List End) → (b ≡ true → P (record { pipe = index; at_last = last })) → AllByRecursion P xs → AllByRecursion P (cons_option (end_if b index last) xs)
all_if P true index last xs p h = (p refl, h)
all_if P false index last xs p h = h

ends-stand : (k index : ℕ) (ps whole : List Pipe) → ((i : ℕ) → i < length ps → get_or whole (index + i) no_pipe ≡ get_or ps i no_pipe)
    → AllByRecursion (λ e. stands_at whole e.pipe e.at_last ≡ k) (ends_at k index ps)
ends-stand k index [] whole same = tt
ends-stand k index (p ∷ ps) whole same =
    let here : get_or whole index no_pipe ≡ p = ap (λ (i : ℕ). get_or whole i no_pipe) (omega arith) ∙ same 0 (omega arith) in
    all_if (λ e. stands_at whole e.pipe e.at_last ≡ k) (p.first == k) index false (cons_option (end_if (p.last == k) index true) (ends_at k (index + 1) ps)) (λ t. ap (λ (q : Pipe). q.first) here ∙ eqb-true p.first k t)
    (all_if (λ e. stands_at whole e.pipe e.at_last ≡ k) (p.last == k) index true (ends_at k (index + 1) ps) (λ t. ap (λ (q : Pipe). q.last) here ∙ eqb-true p.last k t)
    (ends-stand k (index + 1) ps whole (λ i h. ap (λ (m : ℕ). get_or whole m no_pipe) (omega arith) ∙ same (suc i) (omega arith))))

-- ---- of the mesh of a case

stands : (case : Case) (k j : ℕ) → j < length (node_ends case k) → stands_at case.pipes (get_or (node_ends case k) j no_end).pipe (get_or (node_ends case k) j no_end).at_last ≡ k
stands case k j h =
    All-from_recursion (λ e. stands_at case.pipes e.pipe e.at_last ≡ k) (node_ends case k)
    (ends-stand k 0 case.pipes case.pipes (λ i l. ap (λ (m : ℕ). get_or case.pipes m no_pipe) (omega arith))) j no_end h

-- a node where this end is found is the one where it stands
only_there : (case : Case) (k p : ℕ) (last : Bool) → list_any (is_end p last) (node_ends case k) ≡ true → stands_at case.pipes p last ≡ k
only_there case k p last h =
    let r = any-index (is_end p last) (node_ends case k) no_end h in
    ap (λ (e : End). stands_at case.pipes e.pipe e.at_last) (sym (end-is p last _ r.2)) ∙ stands case k r.0 r.1

node_again : (case : Case) (k j : ℕ) → k < length case.nodes → j < length (node_ends case k)
    → end_node (mesh_of case) (get_or (node_ends case k) j no_end).pipe (get_or (node_ends case k) j no_end).at_last ≡ k
node_again case k j h l =
    let e = get_or (node_ends case k) j no_end in
    let test = list_any (is_end e.pipe e.at_last) in
    let n = (parts case).nodes in
    position_or_len_is test (mesh_of case).ends k [] (omega arith)
    (λ i b. false_from_ne_true _ (λ t.
    let s = only_there case i e.pipe e.at_last (subst (λ (xs : List End). test xs ≡ true) ((parts case).ends i (omega arith)) t) in
    let m = stands case k j l in
    absurd (omega arith)))
    (λ b. subst (λ (xs : List End). test xs ≡ true) (sym ((parts case).ends k h)) (list_any_at (is_end e.pipe e.at_last) (node_ends case k) j no_end l (is_self e)))

wired_node : (case : Case) (k j : ℕ) → k < length (mesh_of case).ends → j < length (ends_of (mesh_of case) k) → end_node (mesh_of case) (end_at (mesh_of case) k j).pipe (end_at (mesh_of case) k j).at_last ≡ k
wired_node case k j h l =
    let b : k < length case.nodes = omega (arith, (parts case).nodes) in
    let s = (parts case).ends k b in
    subst (λ (xs : List End). end_node (mesh_of case) (get_or xs j no_end).pipe (get_or xs j no_end).at_last ≡ k) (sym s)
    (node_again case k j b (subst (λ (xs : List End). j < length xs) s l))

wired_index : (case : Case) (k j : ℕ) → k < length (mesh_of case).ends → j < length (ends_of (mesh_of case) k) → end_index (mesh_of case) (end_at (mesh_of case) k j).pipe (end_at (mesh_of case) k j).at_last ≡ j
wired_index case k j h l =
    let b : k < length case.nodes = omega (arith, (parts case).nodes) in
    let s = (parts case).ends k b in
    let e = end_at (mesh_of case) k j in
    ap (λ (n : ℕ). position_or_len (is_end e.pipe e.at_last) (ends_of (mesh_of case) n)) (wired_node case k j h l)
    ∙ subst (λ (xs : List End). position_or_len (is_end (get_or xs j no_end).pipe (get_or xs j no_end).at_last) xs ≡ j) (sym s)
    (found_again 0 (node_ends case k) j (ends-rising k 0 case.pipes) (subst (λ (xs : List End). j < length xs) s l))

pub wired : (case : Case) → IsWired (mesh_of case)
wired case = record { node = wired_node case; index = wired_index case }

-- ---- and they stand in order

before_by : (p q : ℕ) (l m : Bool) → rank p l < rank q m
    → IsBefore (record { pipe = p; at_last = l }) (record { pipe = q; at_last = m })
before_by p q false false h = inl (omega arith)
before_by p q true true h = inl (omega arith)
before_by p q true false h = inl (omega arith)
before_by p q false true h = elim (cases_lt p q) [
  | inl l ↦ inl l
  | inr l ↦ inr (omega arith, refl, refl)
]

ordered_at : (case : Case) (k i j : ℕ) → k < length (mesh_of case).ends → i < j
    → j < length (ends_of (mesh_of case) k)
    → IsBefore (end_at (mesh_of case) k i) (end_at (mesh_of case) k j)
ordered_at case k i j h l m =
    let b : k < length case.nodes = omega (arith, (parts case).nodes) in
    let s = (parts case).ends k b in
    subst (λ (xs : List End). IsBefore (get_or xs i no_end) (get_or xs j no_end)) (sym s)
    (before_by _ _ _ _ (rank-less 0 (node_ends case k) i j no_end (ends-rising k 0 case.pipes) l
    (subst (λ (xs : List End). j < length xs) s m)))

pub ordered : (case : Case) → AreOrdered (mesh_of case)
ordered case = record { each = ordered_at case }
