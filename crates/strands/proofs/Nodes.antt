-- The strand of a node: its spokes together, its state, and what the fold is told of both.
use Rattle.std.proofs.Common.{◌≡◌, ℕ, suc, ◌+◌, ◌-◌, ◌<◌, ◌≤◌, ◌⊎◌, inl, inr, ◌∙◌}
use Rattle.std.proofs.Common.{ap, sym, subst, refl, arith, Bool, true, false, List, [], ◌∷◌, ◌++◌}
use Rattle.std.proofs.Common.{length, take, set, get_or, Some}
use Rattle.std.specs.List.{list_any}
use Rattle.std.specs.Prelude.{◌≢◌, ◌||◌, ◌&&◌, ◌==◌}
use Rattle.std.proofs.Math.Bool.{and-false, or-false}
use Rattle.std.proofs.lemmas.Bool.{eq-eqb, lt-ltb, le-leb, le-ltb, lt-leb, ne_eqb, cases_eq}
use Rattle.std.proofs.lemmas.List.{ext_get_or, get_or-append_right, get_or-set_other}
use Rattle.std.proofs.lemmas.List.{get_or-set_same, get_or_append_left, get_or_default, get_or_read}
use Rattle.std.proofs.lemmas.List.{length-append, length-set, take_more}
use Rattle.std.proofs.lemmas.List.Folds.{list_any-append}
use Rattle.case_model.specs.declared.cases.ProbeAt.TheVariants.{OnNode}
use Rattle.case_model.specs.declared.meshes.End.{End}
use Rattle.case_model.specs.declared.meshes.Mesh.{Mesh}
use Rattle.case_model.specs.declared.points.Point.{Point}
use Rattle.case_model.specs.declared.points.Point.TheVariants.{Bad}
use Rattle.case_model.specs.declared.states.NodeState.{NodeState}
use Rattle.case_model.specs.Meaning.{Meaning}
use Rattle.case_model.specs.Mesh.{IsNumbered, end_node, ends_of, next_to, reaches}
use Rattle.case_model.specs.PlaceNumbers.{place_at}
use Rattle.case_model.specs.Rows.{Row, end_point, near, node_ends, row}
use Rattle.case_model.proofs.RowLaws.{length-near, near-at, point-first, point-last}
use Rattle.case_model.proofs.RowLaws.{row-start, state-next}
use Rattle.envelope.specs.Folds.{IsSameFold, Stands}
use Rattle.envelope.specs.Notings.{only}
use Rattle.envelope.specs.Notings.Noting.{OfNode}
use Rattle.envelope.specs.Rows.{noting_at, rows_noted}
use Rattle.envelope.specs.declared.folds.Fold.{Fold}
use Rattle.fronts.specs.Fronts.{spot}
use Rattle.fronts.specs.Stretches.{count_of}
use Rattle.fronts.specs.declared.stretches.Stretch.{Stretch}
use Rattle.strands.proofs.Advancing.{between-join, or-assoc, same-marks}
use Rattle.strands.proofs.Marking.{ArePlaces, IsSplit, same-between}
use Rattle.strands.proofs.Spoking.{spoke-begins, spoke-next}
use Rattle.strands.specs.Hubs.{AreNewSpokes, EachSpoke, IsHub, IsHubAfter, IsHubAt, IsHubEnd}
use Rattle.strands.specs.Hubs.{IsHubNode, IsHubStepped, IsLoaded, IsNewHub, IsSameHub, IsSideLoaded}
use Rattle.strands.specs.Hubs.{IsSpokeOf, NotesHub, hub_marks, is_passed}
use Rattle.strands.specs.Marks.{Marks, is_between, is_only, marked, or_marked}
use Rattle.strands.specs.Spokes.{IsBeside, IsNewSpoke, IsSameSpoke, IsSpoke}
use Rattle.strands.specs.Spokes.{IsSpokeAt, IsSpokeLater, NotesSpoke, end_place, spoke_front}
use Rattle.strands.specs.Spokes.{spokes_marks}
use Rattle.strands.specs.Stations.{half}
use Rattle.strands.specs.declared.hubs.Hub.{Hub}
use Rattle.strands.specs.declared.spokes.Spoke.{Spoke}
use Rattle.envelope.proofs.Lined.{same-then}
use Rattle.fronts.proofs.Keeping.{places-then}

-- ---- marks

swap : (a r b s : Bool) → ((a || r) || (b || s)) ≡ ((a || b) || (r || s))
swap true r b s = refl
swap false true true s = refl
swap false true false s = refl
swap false false b s = refl

pub any-more : {X : Type 0} (p : X → Bool) (xs : List X) (i : ℕ) (d : X) → i < length xs
    → list_any p (take (i + 1) xs) ≡ (list_any p (take i xs) || p (get_or xs i d))
any-more p xs i d b =
    ap (list_any p) (take_more xs i d b) ∙ list_any-append p (take i xs) (get_or xs i d ∷ [])
    ∙ ap (λ z. list_any p (take i xs) || z) (or-false (p (get_or xs i d)))

-- two parts of a window at the places of spokes are the whole
pub spokes-join : (w s from mid until : ℕ) (spokes : List Spoke) (t p : ℕ) → from ≤ mid
    → mid ≤ until
    → (spokes_marks w s from mid spokes t p || spokes_marks w s mid until spokes t p)
    ≡ spokes_marks w s from until spokes t p
spokes-join w s from mid until [] t p a b = refl
spokes-join w s from mid until (spoke ∷ spokes) t p a b =
    swap
    (is_between spoke.stretch (spoke_front spoke.last w s from) (spoke_front spoke.last w s mid) t
    p)
    (spokes_marks w s from mid spokes t p)
    (is_between spoke.stretch (spoke_front spoke.last w s mid) (spoke_front spoke.last w s until) t
    p)
    (spokes_marks w s mid until spokes t p)
    ∙ ap (λ z. z || (spokes_marks w s from mid spokes t p || spokes_marks w s mid until spokes t p))
    (between-join spoke.stretch (spoke_front spoke.last w s from) (spoke_front spoke.last w s mid)
    (spoke_front spoke.last w s until) t p
    (λ x h. (omega arith, omega arith)))
    ∙ ap (λ z. is_between spoke.stretch (spoke_front spoke.last w s from)
    (spoke_front spoke.last w s until) t p || z)
    (spokes-join w s from mid until spokes t p a b)

where-step : (t low mid high : ℕ)
    → (t ≤ low) ⊎ (((low < t) × (t ≤ mid)) ⊎ (((mid < t) × (t ≤ high)) ⊎ (high < t)))
where-step t low mid high = grind arith

passed-none : (place s from until t p : ℕ) → (t ≤ s + from) ⊎ (s + until < t)
    → is_passed s from until place t p ≡ false
passed-none place s from until t p (inl h) = rw (le-ltb (s + from) t h, and-false) refl
passed-none place s from until t p (inr h) = rw (lt-leb t (s + until) h, and-false, and-false) refl

and-true : (b : Bool) → (b && true) ≡ b
and-true true = refl
and-true false = refl

passed-some : (place s from until t p : ℕ) → s + from < t → t ≤ s + until
    → is_passed s from until place t p ≡ (p == place)
passed-some place s from until t p a b = rw (
  lt-ltb (s + from) t a,
  le-leb t (s + until) b,
  and-true,
) refl

pub or-left : (b : Bool) → (b || false) ≡ b
or-left true = refl
or-left false = refl

pub passed-join : (place s from mid until t p : ℕ) → from ≤ mid → mid ≤ until
    → (is_passed s from mid place t p || is_passed s mid until place t p) ≡ is_passed s from until
    place t p
passed-join place s from mid until t p a b = elim (where-step t (s + from) (s + mid) (s + until)) [
  | inl c ↦
      ap (λ z. z || is_passed s mid until place t p) (passed-none place s from mid t p (inl c))
      ∙ passed-none place s mid until t p (inl (omega arith))
      ∙ sym (passed-none place s from until t p (inl c))
  | inr c ↦ elim c [
    | inl d ↦
        let lo : s + from < t = d.0 in
        let hi : t ≤ s + mid = d.1 in
        ap (λ z. z || is_passed s mid until place t p) (passed-some place s from mid t p lo hi)
        ∙ ap (λ z. (p == place) || z) (passed-none place s mid until t p (inl hi))
        ∙ or-left (p == place) ∙ sym (passed-some place s from until t p lo (omega arith))
    | inr d ↦ elim d [
      | inl e ↦
          let lo : s + mid < t = e.0 in
          let hi : t ≤ s + until = e.1 in
          ap (λ z. z || is_passed s mid until place t p) (passed-none place s from mid t p (inr lo))
          ∙ passed-some place s mid until t p lo hi
          ∙ sym (passed-some place s from until t p (omega arith) hi)
      | inr e ↦
          ap (λ z. z || is_passed s mid until place t p)
          (passed-none place s from mid t p (inr (omega arith)))
          ∙ passed-none place s mid until t p (inr e)
          ∙ sym (passed-none place s from until t p (inr e))
    ]
  ]
]

-- nothing is passed in no steps
pub passed-nothing : (place s k t p : ℕ) → is_passed s k k place t p ≡ false
passed-nothing place s k t p = elim (order t (s + k)) [
  | inl a ↦ passed-none place s k k t p (inl a)
  | inr a ↦ passed-none place s k k t p (inr a)
]
  where
    order : (x y : ℕ) → (x ≤ y) ⊎ (y < x)
    order x y = grind arith

pub spokes-nothing : (w s k : ℕ) (spokes : List Spoke) (t p : ℕ) → spokes_marks w s k k spokes t p ≡
    false
spokes-nothing w s k [] t p = refl
spokes-nothing w s k (spoke ∷ spokes) t p =
    ap (λ z. z || spokes_marks w s k k spokes t p)
    (none spoke.stretch (spoke_front spoke.last w s k) t p)
    ∙ spokes-nothing w s k spokes t p
  where
    order : (x y : ℕ) → (x ≤ y) ⊎ (y < x)
    order x y = grind arith

    none : (stretch : Stretch) (front : ℕ → ℕ) (t p : ℕ) → is_between stretch front front t p ≡
        false
    none stretch front t p = elim (order t (front (p - stretch.number))) [
      | inl a ↦ rw (le-ltb (front (p - stretch.number)) t a, and-false, and-false) refl
      | inr a ↦ rw (lt-leb t (front (p - stretch.number)) a, and-false, and-false, and-false) refl
    ]

-- one step of the node is that step alone
pub passed-one : (place s k t p : ℕ) → is_only (s + k + 1) place t p ≡ is_passed s k (k + 1) place t
    p
passed-one place s k t p = elim (cases_eq t (s + k + 1)) [
  | inl e ↦
      rw (eq-eqb t (s + k + 1) e) refl ∙ sym (passed-some place s k (k + 1) t p (omega arith)
      (omega arith))
  | inr e ↦ elim (apart t (s + k)) [
    | inl a ↦ rw (ne_eqb t (s + k + 1) e) refl ∙ sym (passed-none place s k (k + 1) t p (inl a))
    | inr a ↦ rw (ne_eqb t (s + k + 1) e) refl
        ∙ sym (passed-none place s k (k + 1) t p
        (inr (let z : s + k + 1 < t = beyond t (s + k) a e in omega arith)))
  ]
]
  where
    apart : (x y : ℕ) → (x ≤ y) ⊎ (y < x)
    apart x y = grind arith

    beyond : (x y : ℕ) → y < x → x ≢ y + 1 → y + 1 < x
    beyond x y a e = grind arith

four : (m a b c d : Bool) → (((m || (a || b)) || (c || d))) ≡ (m || ((a || c) || (b || d)))
four true a b c d = refl
four false true b c d = refl
four false false true true d = refl
four false false true false d = refl
four false false false c d = refl

pub hub-join : (w s from mid until : ℕ) (hub : Hub) (marks : Marks) (t p : ℕ) → from ≤ mid
    → mid ≤ until
    → or_marked (or_marked marks (hub_marks w s from mid hub)) (hub_marks w s mid until hub) t p
    ≡ or_marked marks (hub_marks w s from until hub) t p
hub-join w s from mid until hub marks t p a b =
    four (marks t p) (spokes_marks w s from mid hub.spokes.items t p)
    (is_passed s from mid hub.node t p)
    (spokes_marks w s mid until hub.spokes.items t p) (is_passed s mid until hub.node t p)
    ∙ ap (λ z. marks t p ||
    (z || (is_passed s from mid hub.node t p || is_passed s mid until hub.node t p)))
    (spokes-join w s from mid until hub.spokes.items t p a b)
    ∙ ap (λ z. marks t p || (spokes_marks w s from until hub.spokes.items t p || z))
    (passed-join hub.node s from mid until t p a b)

pub hub-nothing : (w s k : ℕ) (hub : Hub) (marks : Marks) (t p : ℕ) → marks t p ≡ or_marked marks
    (hub_marks w s k k hub) t p
hub-nothing w s k hub marks t p =
    sym (ap (λ z. marks t p || (z || is_passed s k k hub.node t p))
    (spokes-nothing w s k hub.spokes.items t p)
    ∙ ap (λ z. marks t p || z) (passed-nothing hub.node s k t p) ∙ or-left (marks t p))

-- ---- the node's state, noted

pub split-node : (law : Meaning) (node step : ℕ) (state : NodeState) (s k : ℕ) → ArePlaces
    → IsNumbered law.mesh
    → node < length law.mesh.ends → state ≡ (row law step).state node
    → IsSplit law (only step node (OfNode state)) (is_only step node) s k
split-node law node step state s k places numbered there e = elim (cases_eq s step) [
  | inr a ↦ inr (rw (ne_eqb s step a) refl, rw (ne_eqb s step a) refl)
  | inl a ↦ elim (cases_eq k node) [
    | inr b ↦ inr (rw (ne_eqb k node b, and-false) refl, rw (ne_eqb k node b, and-false) refl)
    | inl b ↦ inl (
      rw (eq-eqb s step a, eq-eqb k node b) refl,
      (rw (eq-eqb s step a, eq-eqb k node b) refl)
          ∙ ap (λ y. Some (OfNode y)) e
          ∙ ap (λ at. Some (noting_at (row law step) at))
          (sym (places law.mesh (OnNode node) numbered there))
          ∙ ap (λ j. Some (noting_at (row law step) (place_at law.mesh j))) (sym b)
          ∙ ap (λ t. rows_noted law t k) (sym a),
    )
  ]
]

-- ---- the points beside the node, and those of its ends

pick : (spokes : List Spoke) → 0 < length spokes → Spoke
pick [] b = absurd (omega arith)
pick (spoke ∷ spokes) b = spoke

pub near-is : (law : Meaning) (w s k : ℕ) (hub : Hub) (xs : List Point) → IsHubAfter law w s k hub
    → k < w
    → length xs ≡ length hub.spokes.items
    → ((i : ℕ) (d : Point) (e : Spoke) → i < length hub.spokes.items → IsBeside (s + k)
    (get_or hub.spokes.items i e) (get_or xs i d))
    → xs ≡ near law.mesh (row law (s + k)) hub.node
near-is law w s k hub xs h b size points =
    let each : length hub.spokes.items ≡ length (ends_of law.mesh hub.node) = h.on_mesh.each in
    ext_get_or Bad xs (near law.mesh (row law (s + k)) hub.node)
    (size ∙ each ∙ sym (length-near law.mesh (row law (s + k)) hub.node))
    (λ i l.
    let e = pick hub.spokes.items (omega arith) in
    let spoke = get_or hub.spokes.items i e in
    let end : End = record { pipe = spoke.stretch.pipe; at_last = spoke.last } in
    points i Bad e (omega arith) law w s k (h.spokes i e (omega arith)) b refl
    ∙ ap (λ (x : End). (row law (s + k)).point x.pipe (next_to law.mesh x))
    (sym ((h.on_mesh.ends i e (omega arith)).end_is end))
    ∙ sym (near-at law.mesh (row law (s + k)) hub.node i Bad end (omega arith)))

-- what the law makes of the row before
pub state-made : (law : Meaning) (t node : ℕ) (own now : NodeState) (xs : List Point)
    → own ≡ (row law t).state node
    → xs ≡ near law.mesh (row law t) node → now ≡ law.node node (t + 1) own xs
    → now ≡ (row law (t + 1)).state node
state-made law t node own now xs o n e =
    e ∙ ap (λ y. law.node node (t + 1) y xs) o ∙ ap (law.node node (t + 1) ((row law t).state node))
    n ∙ sym (state-next law t node)

pub ends-made : (law : Meaning) (t node : ℕ) (own : NodeState) (xs ys : List Point)
    → own ≡ (row law t).state node
    → xs ≡ near law.mesh (row law t) node → ys ≡ law.ends node (t + 1) own xs → ys ≡ node_ends law
    (t + 1) (row law t) node
unfolding node_ends
ends-made law t node own xs ys o n e =
    e ∙ ap (λ y. law.ends node (t + 1) y xs) o ∙ ap (law.ends node (t + 1) ((row law t).state node))
    n

end-place-point : (law : Meaning) (t pipe place n : ℕ) (last : Bool) → place ≡ end_place last
    (reaches law.mesh pipe) → 1 ≤ n
    → place ≡ end_place last n + (place - end_place last n) → n ≤ reaches law.mesh pipe
    → (row law (t + 1)).point pipe place ≡ end_point law (t + 1) (row law t) pipe last
end-place-point law t pipe place n true e a f l = point-last law t pipe place (omega arith) e
end-place-point law t pipe place n false e a f l = ap ((row law (t + 1)).point pipe) e
    ∙ point-first law t pipe

pub end-is-given : (law : Meaning) (w t node i : ℕ) (spoke : Spoke) (xs : List Point) (d : Point)
    → IsSpoke law w spoke
    → IsSpokeOf law.mesh node i spoke → i < length xs → xs ≡ node_ends law (t + 1) (row law t) node
    → get_or xs i d ≡ spot law spoke.stretch (t + 1) (end_place spoke.last (half w))
unfolding end_point
end-is-given law w t node i spoke xs d is of b e =
    let at : spoke.stretch.first + end_place spoke.last (half w) ≡ end_place spoke.last
    (reaches law.mesh spoke.stretch.pipe) = is.end_is in
    let some : 1 ≤ w = is.some in
    let fits : spoke.stretch.first + count_of spoke.stretch ≤ reaches law.mesh spoke.stretch.pipe +
    1 = is.line.on_mesh.fits in
    let size : count_of spoke.stretch ≡ half w + 1 = is.size in
    get_or_default xs i d Bad b
    ∙ ap (λ ys. get_or ys i Bad) e
    ∙ ap (λ k. get_or (node_ends law (t + 1) (row law t) k) i Bad) (sym of.node_is)
    ∙ ap (λ j. get_or (node_ends law (t + 1) (row law t)
    (end_node law.mesh spoke.stretch.pipe spoke.last)) j Bad) (sym of.index_is)
    ∙ sym (end-place-point law t spoke.stretch.pipe (spoke.stretch.first + end_place spoke.last
    (half w)) (half w) spoke.last at (omega arith) (omega arith) (omega arith))

-- ---- the spokes one after another

pub record AreStepped (law : Meaning) (w s k n : ℕ) (olds news : List Spoke) : Type 0 where
  pub each : length news ≡ length olds
  pub done : (i : ℕ) (d : Spoke) → i < n → IsSpokeLater law w s k (get_or olds i d)
      (get_or news i d)
  pub left : (i : ℕ) (d : Spoke) → n ≤ i → get_or news i d ≡ get_or olds i d

pub stepped-more : (law : Meaning) (w s k n : ℕ) (olds news : List Spoke) (x : Spoke)
    → AreStepped law w s k n olds news
    → n < length olds → ((d : Spoke) → IsSpokeLater law w s k (get_or olds n d) x)
    → AreStepped law w s k (n + 1) olds (set news n x)
stepped-more law w s k n olds news x h b now =
    let size : length news ≡ length olds = h.each in
    record {
      each = length-set news n x ∙ h.each;
      done = λ i d l. elim (below i n l) [
        | inl a ↦ subst (IsSpokeLater law w s k (get_or olds i d))
            (sym (get_or-set_other news n i x d (λ e. omega arith))) (h.done i d a)
        | inr a ↦
            subst (λ j. IsSpokeLater law w s k (get_or olds j d) (get_or (set news n x) j d))
            (sym a)
            (subst (IsSpokeLater law w s k (get_or olds n d))
            (sym (get_or-set_same news n x d (omega arith))) (now d))
      ];
      left = λ i d l. get_or-set_other news n i x d (λ e. omega arith) ∙ h.left i d (omega arith);
    }
  where
    below : (x y : ℕ) → x < y + 1 → (x < y) ⊎ (x ≡ y)
    below x y h = grind arith

pub stepped-none : (law : Meaning) (w s k : ℕ) (olds : List Spoke) → AreStepped law w s k 0 olds
    olds
stepped-none law w s k olds = record {
  each = refl;
  done = λ i d b. absurd (omega arith);
  left = λ i
      d b. refl;
}

-- ---- folds

pub notes-spoke : (spoke : Spoke) (before after : Fold) → IsSameFold before after
    → NotesSpoke spoke before → NotesSpoke spoke after
notes-spoke spoke before after same h = rw (same.spans_are) h

pub stands-none : (law : Meaning) (fold : Fold) (marks more : Marks)
    → ((t p : ℕ) → more t p ≡ false)
    → Stands fold (marked law marks) → Stands fold (marked law (or_marked marks more))
stands-none law fold marks more e h =
    same-marks law fold marks (or_marked marks more)
    (λ t p. sym (ap (λ z. marks t p || z) (e t p) ∙ or-left (marks t p))) h

-- one spoke more
pub stands-more : (law : Meaning) (fold : Fold) (f : Spoke → Marks) (spokes : List Spoke) (i : ℕ)
    (spoke : Spoke) (marks : Marks)
    → i < length spokes → ((d : Spoke) → spoke ≡ get_or spokes i d)
    → Stands fold (marked law
    (or_marked (or_marked marks (λ t p. list_any (λ x. f x t p) (take i spokes))) (f spoke)))
    → Stands fold (marked law
    (or_marked marks (λ t p. list_any (λ x. f x t p) (take (i + 1) spokes))))
stands-more law fold f spokes i spoke marks b e h =
    same-marks law fold (or_marked
    (or_marked marks (λ t p. list_any (λ x. f x t p) (take i spokes))) (f spoke))
    (or_marked marks (λ t p. list_any (λ x. f x t p) (take (i + 1) spokes)))
    (λ t p.
    or-assoc (marks t p) (list_any (λ x. f x t p) (take i spokes)) (f spoke t p)
    ∙ ap (λ z. marks t p || (list_any (λ x. f x t p) (take i spokes) || f z t p)) (e spoke)
    ∙ ap (λ z. marks t p || z) (sym (any-more (λ x. f x t p) spokes i spoke b)))
    h

-- the spoke that is read has not been computed by this step
pub stepped-read : (law : Meaning) (w s k i : ℕ) (olds news : List Spoke) (x : Spoke)
    → AreStepped law w s k i olds news
    → i < length olds → x ≡ get_or news i x → (d : Spoke) → x ≡ get_or olds i d
stepped-read law w s k i olds news x h b e d =
    let size : length news ≡ length olds = h.each in
    get_or_read news i x (omega arith) e d ∙ h.left i d (omega arith)

-- ---- the spokes as they are made, and the points beside

pub new-more : (law : Meaning) (w n : ℕ) (ends : List End) (spokes : List Spoke) (x : Spoke)
    → AreNewSpokes law w ends n spokes
    → ((d : End) → IsNewSpoke law w (get_or ends n d) x) → AreNewSpokes law w ends (n + 1)
    (spokes ++ x ∷ [])
new-more law w n ends spokes x h now =
    let size : length spokes ≡ n = h.each in
    record {
      each = length-append spokes (x ∷ []) ∙ ap (λ z. z + 1) h.each;
      made = λ i d e l. elim (below i n l) [
        | inl a ↦
            subst (IsNewSpoke law w (get_or ends i d))
            (sym (get_or_append_left spokes (x ∷ []) e i (omega arith))) (h.made i d e a)
        | inr a ↦
            subst (λ j. IsNewSpoke law w (get_or ends j d) (get_or (spokes ++ x ∷ []) j e)) (sym a)
            (subst (IsNewSpoke law w (get_or ends n d))
            (sym (get_or-append_right spokes (x ∷ []) n n e h.each (omega arith)
            ∙ ap (λ z. get_or (x ∷ []) z e) (none n)))
            (now d))
      ];
    }
  where
    below : (x y : ℕ) → x < y + 1 → (x < y) ⊎ (x ≡ y)
    below x y h = grind arith

    none : (n : ℕ) → n - n ≡ 0
    none n = omega arith

pub beside-more : (step n : ℕ) (spokes : List Spoke) (near : List Point) (x : Point)
    → n < length near
    → ((i : ℕ) (d : Point) (e : Spoke) → i < n → IsBeside step (get_or spokes i e)
    (get_or near i d))
    → ((e : Spoke) → IsBeside step (get_or spokes n e) x)
    → (i : ℕ) (d : Point) (e : Spoke) → i < n + 1 → IsBeside step (get_or spokes i e)
    (get_or (set near n x) i d)
beside-more step n spokes near x b h now i d e l = elim (below i n l) [
  | inl a ↦ subst (λ y. IsBeside step (get_or spokes i e) y)
      (sym (get_or-set_other near n i x d (λ f. omega arith))) (h i d e a)
  | inr a ↦
      subst (λ j. IsBeside step (get_or spokes j e) (get_or (set near n x) j d)) (sym a)
      (subst (λ y. IsBeside step (get_or spokes n e) y) (sym (get_or-set_same near n x d b))
      (now e))
]
  where
    below : (x y : ℕ) → x < y + 1 → (x < y) ⊎ (x ≡ y)
    below x y h = grind arith

-- ---- a hub from step to step

pub same-hub : (law : Meaning) (old new : Hub) → IsSameHub old new → IsHub law old → IsHub law new
same-hub law old new same h =
    let size : length new.spokes.items ≡ length old.spokes.items = same.each in
    record {
      numbered = h.numbered;
      there = subst (λ n. n < length law.mesh.ends) (sym same.node_is) h.there;
      each = same.each ∙ h.each ∙ ap (λ n. length (ends_of law.mesh n)) (sym same.node_is);
      few = subst (λ n. n ≤ 16) (sym same.each) h.few;
      ends = λ i d b.
          let k = same.spokes i d (omega arith) in
          let of = h.ends i d (omega arith) in
          subst (λ n. IsSpokeOf law.mesh n i (get_or new.spokes.items i d)) (sym same.node_is)
          (same-of law.mesh old.node i (get_or old.spokes.items i d) (get_or new.spokes.items i d)
          k.places.pipe_is k.last_is of);
    }
  where
    same-of : (mesh : Mesh) (node i : ℕ) (old new : Spoke) → new.stretch.pipe ≡ old.stretch.pipe
        → new.last ≡ old.last
        → IsSpokeOf mesh node i old → IsSpokeOf mesh node i new
    same-of mesh node i old new p l h = record {
      end_is = λ d. rw (p, l) (h.end_is d);
      node_is = rw (p, l) h.node_is;
      index_is = rw (p, l) h.index_is;
    }

zero-more : (s : ℕ) → s ≡ s + 0
zero-more s = omega arith

pub hub-begins : (law : Meaning) (w s : ℕ) (hub : Hub) → IsLoaded true hub → IsHubAt law w s hub
    → IsHubAfter law w s 0 hub
hub-begins law w s hub loaded h = record {
  on_mesh = h.on_mesh;
  state_is = h.state_is ∙ ap (λ t. (row law t).state hub.node) (zero-more s);
  spokes = λ i d b. spoke-begins law w s (get_or hub.spokes.items i d) (loaded i d b)
      (h.spokes i d b);
}

pub hub-next : (law : Meaning) (w s : ℕ) (hub : Hub) → IsLoaded false hub → IsHubAfter law w s w hub
    → IsHubAt law w (s + w) hub
hub-next law w s hub bare h = record {
  on_mesh = h.on_mesh;
  state_is = h.state_is;
  spokes = λ i d b. spoke-next law w s (get_or hub.spokes.items i d) (bare i d b) (h.spokes i d b);
}

pub new-hub : (law : Meaning) (w node : ℕ) (hub : Hub) → hub.node ≡ node
    → hub.state ≡ law.start_node node
    → IsNumbered law.mesh → IsHubNode law.mesh w node
    → AreNewSpokes law w (ends_of law.mesh node) (length (ends_of law.mesh node)) hub.spokes.items
    → IsNewHub law w node hub
new-hub law w node hub e f numbered is made =
    let each : length hub.spokes.items ≡ length (ends_of law.mesh node) = made.each in
    let few : length (ends_of law.mesh node) ≤ 16 = is.few in
    record {
      at = record {
        on_mesh = record {
          numbered = numbered;
          there = subst (λ n. n < length law.mesh.ends) (sym e) is.there;
          each = each ∙ ap (λ n. length (ends_of law.mesh n)) (sym e);
          few = omega arith;
          ends = λ i d b. subst (λ n. IsSpokeOf law.mesh n i (get_or hub.spokes.items i d)) (sym e)
              (of law.mesh w node i (get_or hub.spokes.items i d)
              (λ x. (made.made i x d (omega arith)).pipe_is)
              (λ x. (made.made i x d (omega arith)).last_is)
              (λ x. is.ends i x (omega arith)));
        };
        state_is = f ∙ ap law.start_node (sym e)
            ∙ sym (ap (λ (r : Row). r.state hub.node) (row-start law));
        spokes = λ i d b. (made.made i (record { pipe = 0; at_last = false }) d (omega arith)).at;
      };
      node_is = e;
      bare = λ i d b. (made.made i (record { pipe = 0; at_last = false }) d (omega arith)).bare;
    }
  where
    same : (x : End) (pipe : ℕ) (last : Bool) → pipe ≡ x.pipe → last ≡ x.at_last
        → x ≡ record { pipe = pipe; at_last = last }
    same x pipe last p l =
        ap (λ q. record { pipe = q; at_last = x.at_last }) (sym p)
        ∙ ap (λ b. record { pipe = pipe; at_last = b }) (sym l)

    of : (mesh : Mesh) (w node i : ℕ) (spoke : Spoke)
        → ((x : End) → spoke.stretch.pipe ≡ (get_or (ends_of mesh node) i x).pipe)
        → ((x : End) → spoke.last ≡ (get_or (ends_of mesh node) i x).at_last)
        → ((x : End) → IsHubEnd mesh w node i (get_or (ends_of mesh node) i x))
        → IsSpokeOf mesh node i spoke
    of mesh w node i spoke p l h =
        let x : End = record { pipe = 0; at_last = false } in
        record {
          end_is = λ d. same (get_or (ends_of mesh node) i d) spoke.stretch.pipe spoke.last (p d)
              (l d);
          node_is = rw (p x, l x) (h x).node_is;
          index_is = rw (p x, l x) (h x).index_is;
        }

-- ---- one spoke of a hub is changed

each-set : (P : ℕ → Spoke → Type 0) (spokes : List Spoke) (side : ℕ) (x : Spoke)
    → EachSpoke P spokes → P side x
    → EachSpoke P (set spokes side x)
each-set P spokes side x h now i d b =
    let size : length (set spokes side x) ≡ length spokes = length-set spokes side x in
    elim (cases_eq i side) [
      | inl e ↦
          subst (λ j. P j (get_or (set spokes side x) j d)) (sym e)
          (subst (P side) (sym (get_or-set_same spokes side x d (omega arith))) now)
      | inr e ↦ subst (P i) (sym (get_or-set_other spokes side i x d e)) (h i d (omega arith))
    ]

pub same-spoke-self : (spoke : Spoke) → IsSameSpoke spoke spoke
same-spoke-self spoke = record {
  places = record { pipe_is = refl; first_is = refl; number_is = refl; count_is = refl };
  last_is = refl;
}

pub same-hub-set : (old new : Hub) (side : ℕ) (x : Spoke) → new.node ≡ old.node
    → new.spokes.items ≡ set old.spokes.items side x
    → side < length old.spokes.items
    → ((d : Spoke) → IsSameSpoke (get_or old.spokes.items side d) x) → IsSameHub old new
same-hub-set old new side x n e b h = record {
  node_is = n;
  each = ap length e ∙ length-set old.spokes.items side x;
  spokes = λ i d l.
      subst (λ ys. IsSameSpoke (get_or old.spokes.items i d) (get_or ys i d)) (sym e)
      (elim (cases_eq i side) [
        | inl f ↦
            subst (λ j. IsSameSpoke (get_or old.spokes.items j d)
            (get_or (set old.spokes.items side x) j d)) (sym f)
            (subst (IsSameSpoke (get_or old.spokes.items side d))
            (sym (get_or-set_same old.spokes.items side x d b)) (h d))
        | inr f ↦
            subst (IsSameSpoke (get_or old.spokes.items i d))
            (sym (get_or-set_other old.spokes.items side i x d f))
            (same-spoke-self (get_or old.spokes.items i d))
      ]);
}

pub side-loaded : (old new : Hub) (side : ℕ) (x : Spoke) → new.node ≡ old.node
    → new.state ≡ old.state
    → new.spokes.items ≡ set old.spokes.items side x
    → side < length old.spokes.items
    → ((d : Spoke) → IsSameSpoke (get_or old.spokes.items side d) x) → x.loaded ≡ true
    → IsSideLoaded side old new
side-loaded old new side x n f e b h l = record {
  same = same-hub-set old new side x n e b h;
  state_is = f;
  here = λ d. ap (λ (ys : List Spoke). (get_or ys side d).loaded) e
      ∙ ap (λ (y : Spoke). y.loaded) (get_or-set_same old.spokes.items side x d b) ∙ l;
  others = λ i d f. ap (λ (ys : List Spoke). (get_or ys i d).loaded) e
      ∙ ap (λ (y : Spoke). y.loaded) (get_or-set_other old.spokes.items side i x d f);
}

pub hub-at-set : (law : Meaning) (w s : ℕ) (old new : Hub) (side : ℕ) (x : Spoke)
    → IsSameHub old new → new.state ≡ old.state
    → new.spokes.items ≡ set old.spokes.items side x → IsSpokeAt law w s x → IsHubAt law w s old
    → IsHubAt law w s new
hub-at-set law w s old new side x same f e now h = record {
  on_mesh = same-hub law old new same h.on_mesh;
  state_is = f ∙ h.state_is ∙ ap (row law s).state (sym same.node_is);
  spokes = subst (EachSpoke (λ i. IsSpokeAt law w s)) (sym e)
      (each-set (λ i. IsSpokeAt law w s) old.spokes.items side x h.spokes now);
}

-- ---- all steps of a window

same-between-spoke : (w s from until : ℕ) (old new : Spoke) (t p : ℕ) → IsSameSpoke old new
    → is_between new.stretch (spoke_front new.last w s from) (spoke_front new.last w s until) t p
    ≡ is_between old.stretch (spoke_front old.last w s from) (spoke_front old.last w s until) t p
same-between-spoke w s from until old new t p h =
    ap (λ b. is_between new.stretch (spoke_front b w s from) (spoke_front b w s until) t p)
    h.last_is
    ∙ same-between old.stretch new.stretch (spoke_front old.last w s from)
    (spoke_front old.last w s until) t p h.places

pub same-spokes-marks : (w s from until : ℕ) (olds news : List Spoke) (t p : ℕ)
    → length news ≡ length olds
    → ((i : ℕ) (d : Spoke) → i < length olds → IsSameSpoke (get_or olds i d) (get_or news i d))
    → spokes_marks w s from until news t p ≡ spokes_marks w s from until olds t p
same-spokes-marks w s from until [] [] t p e h = refl
same-spokes-marks w s from until [] (y ∷ ys) t p e h = absurd (omega arith)
same-spokes-marks w s from until (x ∷ xs) [] t p e h = absurd (omega arith)
same-spokes-marks w s from until (x ∷ xs) (y ∷ ys) t p e h =
    ap (λ z. z || spokes_marks w s from until ys t p) (same-between-spoke w s from until x y t p
    (h 0 x (omega arith)))
    ∙ ap (λ z. is_between x.stretch (spoke_front x.last w s from) (spoke_front x.last w s until) t p
    || z)
    (same-spokes-marks w s from until xs ys t p (omega arith) (λ i d b. h (suc i) d (omega arith)))

pub same-hub-marks : (w s from until : ℕ) (old new : Hub) (t p : ℕ) → IsSameHub old new
    → hub_marks w s from until new t p ≡ hub_marks w s from until old t p
same-hub-marks w s from until old new t p h =
    ap (λ z. z || is_passed s from until new.node t p)
    (same-spokes-marks w s from until old.spokes.items new.spokes.items t p h.each h.spokes)
    ∙ ap (λ n. spokes_marks w s from until old.spokes.items t p || is_passed s from until n t p)
    h.node_is

pub same-hub-then : (a b c : Hub) → IsSameHub a b → IsSameHub b c → IsSameHub a c
same-hub-then a b c h k =
    let size : length b.spokes.items ≡ length a.spokes.items = h.each in
    record {
      node_is = k.node_is ∙ h.node_is;
      each = k.each ∙ h.each;
      spokes = λ i d l. same-spoke-then (get_or a.spokes.items i d) (get_or b.spokes.items i d)
          (get_or c.spokes.items i d)
          (h.spokes i d l) (k.spokes i d (omega arith));
    }
  where
    same-spoke-then : (a b c : Spoke) → IsSameSpoke a b → IsSameSpoke b c → IsSameSpoke a c
    same-spoke-then a b c h k = record {
      places = places-then a.stretch b.stretch c.stretch h.places
          k.places;
      last_is = k.last_is ∙ h.last_is;
    }

moved : (old new : Spoke) (fold : Fold) → IsSameSpoke old new → NotesSpoke old fold
    → NotesSpoke new fold
unfolding count_of
moved old new fold same h = rw (same.places.number_is, same.places.count_is, same.last_is) h

pub notes-hub : (old new : Hub) (before after : Fold) → IsSameHub old new → IsSameFold before after
    → NotesHub old before → NotesHub new after
notes-hub old new before after same fold h =
    let size : length new.spokes.items ≡ length old.spokes.items = same.each in
    record {
      node = rw (fold.spans_are, same.node_is) h.node;
      spokes = λ i d b.
          notes-spoke (get_or new.spokes.items i d) before after fold
          (moved (get_or old.spokes.items i d) (get_or new.spokes.items i d) before
          (same.spokes i d (omega arith)) (h.spokes i d (omega arith)));
    }

pub hub-stepped-none : (law : Meaning) (w s k : ℕ) (hub : Hub) (fold : Fold)
    → IsHubAfter law w s k hub
    → IsHubStepped law w s k k hub hub fold fold
hub-stepped-none law w s k hub fold h = record {
  same = record {
    node_is = refl;
    each = refl;
    spokes = λ i d b. same-spoke-self
        (get_or hub.spokes.items i d);
  };
  computed = h;
  same_fold = record { spans_are = refl; probes_are = refl; steps_are = refl; every_is = refl };
  stands = λ marks st. same-marks law fold marks (or_marked marks (hub_marks w s k k hub))
      (hub-nothing w s k hub marks) st;
}

pub hub-stepped-more : (law : Meaning) (w s from mid until : ℕ) (old now new : Hub)
    (first second third : Fold) → from ≤ mid → mid ≤ until
    → IsHubStepped law w s from mid old now first second → IsHubStepped law w s mid until now new
    second third
    → IsHubStepped law w s from until old new first third
hub-stepped-more law w s from mid until old now new first second third a b one two = record {
  same = same-hub-then old now new one.same two.same;
  computed = two.computed;
  same_fold = same-then first second third one.same_fold two.same_fold;
  stands = λ marks st.
      same-marks law third (or_marked (or_marked marks (hub_marks w s from mid old))
      (hub_marks w s mid until now)) (or_marked marks (hub_marks w s from until old))
      (λ t p.
      ap (λ z. or_marked marks (hub_marks w s from mid old) t p || z)
      (same-hub-marks w s mid until old now t p one.same)
      ∙ hub-join w s from mid until old marks t p a b)
      (two.stands (or_marked marks (hub_marks w s from mid old)) (one.stands marks st));
}

-- one step of a window: the spokes, then the node
pub hub-stepped-one : (law : Meaning) (w s k : ℕ) (old new : Hub) (first second third : Fold)
    → new.node ≡ old.node
    → length new.spokes.items ≡ length old.spokes.items
    → ((i : ℕ) (d : Spoke) → i < length old.spokes.items → IsSpokeLater law w s k
    (get_or old.spokes.items i d) (get_or new.spokes.items i d))
    → IsHubAfter law w s k old → new.state ≡ (row law (s + k + 1)).state old.node
    → IsSameFold first second → IsSameFold second third
    → ((marks : Marks) → Stands first (marked law marks)
    → Stands second (marked law
    (or_marked marks (spokes_marks w s k (k + 1) old.spokes.items))))
    → ((marks : Marks) → Stands second (marked law marks)
    → Stands third (marked law (or_marked marks (is_only (s + k + 1) old.node))))
    → IsHubStepped law w s k (k + 1) old new first third
hub-stepped-one law w s k old new first second third n e later h f one two spokes node =
    let same : IsSameHub old new = record {
      node_is = n;
      each = e;
      spokes = λ i d b.
          (later i d b).same;
    } in
    record {
      same = same;
      computed = record {
        on_mesh = same-hub law old new same h.on_mesh;
        state_is = f ∙ ap (λ t. (row law t).state old.node) (more s k)
            ∙ ap (row law (s + (k + 1))).state (sym n);
        spokes = λ i d b. (later i d (subst (λ z. i < z) e b)).computed;
      };
      same_fold = same-then first second third one two;
      stands = λ marks st.
          same-marks law third (or_marked
          (or_marked marks (spokes_marks w s k (k + 1) old.spokes.items))
          (is_only (s + k + 1) old.node))
          (or_marked marks (hub_marks w s k (k + 1) old))
          (λ t p.
          or-assoc (marks t p) (spokes_marks w s k (k + 1) old.spokes.items t p)
          (is_only (s + k + 1) old.node t p)
          ∙ ap (λ z. marks t p || (spokes_marks w s k (k + 1) old.spokes.items t p || z))
          (passed-one old.node s k t p))
          (node (or_marked marks (spokes_marks w s k (k + 1) old.spokes.items)) (spokes marks st));
    }
  where
    more : (s k : ℕ) → s + k + 1 ≡ s + (k + 1)
    more s k = omega arith
