-- What a fold stands for after it took in another.
use Rattle.std.proofs.Common.{◌≡◌, ◌≢◌, ◌∙◌, ℕ, ◌+◌, ◌/◌, ◌<◌, ◌≤◌, ◌⊎◌, inl, inr, refl, sym, ap, subst, Bool, true, false, cond, List, [], ◌∷◌, length, get_or, Option, Some, None, suc, zero, arith}
use Rattle.std.specs.List.{filter}
use Rattle.std.proofs.lemmas.List.{get_or_read}
use Rattle.case_model.specs.Samples.{Sample}
use Rattle.envelope.specs.Cells.{is_within, cell_of, first_of_span, end_of_span, IsRising, bases_of}
use Rattle.envelope.specs.Extremes.{either, HasExtreme, unmet}
use Rattle.envelope.specs.Changes.{AreJoined, IsMergeable, IsSameLayout}
use Rattle.envelope.specs.Folds.{spans_of, steps_of, every_of, probes_of}
use Rattle.envelope.specs.Layout.{cell_in, IsStanding, StandsAt, IsHeld, line_in, marks_in, lines_in}
use Rattle.envelope.specs.Faults.{HasFault}
use Rattle.envelope.specs.Notings.{Noting, Noted, union, Agree, IsInside, column, taken, is_bad_noting}
use Rattle.envelope.specs.Lines.{HasSamples}
use Rattle.envelope.specs.declared.extremes.Extreme.{Extreme}
use Rattle.envelope.specs.declared.folds.Fold.{Fold}
use Rattle.envelope.specs.declared.samples.Sample.{Sample as Kept}
use Rattle.envelope.proofs.Noted.{taken-either, nothing-more, columns-agree}
use Rattle.envelope.proofs.Placed.{within-index, laid-out}
use Rattle.envelope.proofs.Sampled.{one-place}
use Rattle.envelope.proofs.Standing.{same-standing, standing-here, standing-elsewhere, line-width}
use Rattle.std.proofs.lemmas.Bool.{cases_eq}
use Rattle.fixed_num.proofs.Between.{le_or_more}

pub same-layout : (fold : Fold) → IsSameLayout fold fold
same-layout fold = record { same = record { spans_are = refl; probes_are = refl; steps_are = refl; every_is = refl }; marks_are = refl; fault_is = refl }

pub layout-on : (a b c : Fold) → IsSameLayout a b → IsSameLayout b c → IsSameLayout a c
layout-on a b c h k = record {
  same = record { spans_are = k.same.spans_are ∙ h.same.spans_are; probes_are = k.same.probes_are ∙ h.same.probes_are; steps_are = k.same.steps_are ∙ h.same.steps_are; every_is = k.same.every_is ∙ h.same.every_is };
  marks_are = k.marks_are ∙ h.marks_are;
  fault_is = k.fault_is ∙ h.fault_is;
}

-- of no places nothing is taken in
pub joined-none : (fold other : Fold) (low high : ℕ) → ((k : ℕ) → is_within (spans_of other) k ≡ true → low ≤ k → k < high → ⊥) → AreJoined fold other fold low high
joined-none fold other low high h = record {
  layout = same-layout fold;
  joined = λ k w l m. absurd (h k w l m);
  kept = λ k w o f p. p;
}

not-between : (k low mid high : ℕ) (W : Type 0) → low ≤ mid → mid ≤ high → (k < low) ⊎ (high ≤ k) ⊎ W → ((k < low) ⊎ (mid ≤ k) ⊎ W) × ((k < mid) ⊎ (high ≤ k) ⊎ W)
not-between k low mid high W l m (inl h) = (inl h, inl (omega arith))
not-between k low mid high W l m (inr (inl h)) = (inr (inl (omega arith)), inr (inl h))
not-between k low mid high W l m (inr (inr h)) = (inr (inr h), inr (inr h))

within-still : (a b : Fold) (k : ℕ) → IsSameLayout a b → is_within (spans_of a) k ≡ true → is_within (spans_of b) k ≡ true
within-still a b k l w = subst (λ sp. is_within sp k ≡ true) (sym l.same.spans_are) w

pub joined-on : (a other b c : Fold) (low mid high : ℕ) → IsMergeable a other → low ≤ mid → mid ≤ high
    → AreJoined a other b low mid → AreJoined b other c mid high → AreJoined a other c low high
joined-on a other b c low mid high g l m p q = record {
  layout = layout-on a b c p.layout q.layout;
  joined = λ k w i j f h ag s t. elim (le_or_more mid k) [
    | inl v ↦ q.joined k w v j f h ag (p.kept k (g.inside k w) (inr (inl v)) f s) t
    | inr v ↦ q.kept k (within-still a b k p.layout (g.inside k w)) (inl v) (either f h) (p.joined k w i v f h ag s t)
  ];
  kept = λ k w o f s.
      let n = not-between k low mid high (is_within (spans_of other) k ≡ false) l m o in
      q.kept k (within-still a b k p.layout w) n.1 f (p.kept k w n.0 f s);
}

same-line : (a b : Fold) (k : ℕ) → IsSameLayout a b → line_in b k ≡ line_in a k
same-line a b k l = ap (λ m. get_or m (cell_of b.spans.items (bases_of b.spans.items) k) None) l.marks_are
    ∙ ap (λ s. get_or (marks_in a) (cell_of s (bases_of s) k) None) l.same.spans_are

pub mergeable-still : (a b other : Fold) → IsSameLayout a b → IsMergeable a other → IsMergeable b other
mergeable-still a b other l m = record {
  inside = λ k w. within-still a b k l (m.inside k w);
  sampled_too = λ k w h. m.sampled_too k w (λ q. h (same-line a b k l ∙ q));
  steps_are = m.steps_are ∙ sym l.same.steps_are;
  every_is = m.every_is ∙ sym l.same.every_is;
}

-- n lies past the spans before span i, and not past the rest
pub record IsGap (spans : List (ℕ × ℕ)) (i n : ℕ) : Type 0 where
  pub after : (j : ℕ) → j < i → j < length spans → end_of_span spans j ≤ n
  pub before : (j : ℕ) → i ≤ j → j < length spans → n ≤ first_of_span spans j

pub gap-at : (spans : List (ℕ × ℕ)) (i : ℕ) → IsRising spans → i < length spans → IsGap spans i (first_of_span spans i)
gap-at spans i r l = record {
  after = λ j h m. r.apart j i h l;
  before = λ j h m. elim (cases_eq j i) [
    | inl e ↦ let q : i ≡ j = sym e in subst (λ z. first_of_span spans i ≤ first_of_span spans z) q (omega arith)
    | inr n ↦ let a = r.apart i j (omega arith) m in omega arith
  ];
}

none-between : (spans : List (ℕ × ℕ)) (i n k : ℕ) → IsRising spans → i < length spans → IsGap spans (i + 1) n → is_within spans k ≡ true → end_of_span spans i ≤ k → k < n → ⊥
none-between spans i n k r l g w h m =
    let a = within-index spans k w in
    let low = a.1.low in
    let high = a.1.high in
    elim (le_or_more a.0 i) [
      | inl v ↦ elim (cases_eq a.0 i) [
        | inl e ↦ let q : end_of_span spans a.0 ≡ end_of_span spans i = ap (end_of_span spans) e in omega arith
        | inr d ↦ let b = r.apart a.0 i (omega arith) l in omega arith
      ]
      | inr v ↦ let b = g.before a.0 (omega arith) a.1.there in omega arith
    ]

pub joined-gap : (a other b : Fold) (i n : ℕ) → IsMergeable a other → i < length (spans_of other) → IsGap (spans_of other) (i + 1) n
    → AreJoined a other b 0 (end_of_span (spans_of other) i) → AreJoined a other b 0 n
joined-gap a other b i n m l g p =
    let e = g.after i (omega arith) l in
    joined-on a other b b 0 (end_of_span (spans_of other) i) n m (omega arith) e p
    (joined-none b other (end_of_span (spans_of other) i) n (λ k w h j. none-between (spans_of other) i n k other.rising l g w h j))

pub joined-start : (fold other : Fold) (n : ℕ) → IsGap (spans_of other) 0 n → AreJoined fold other fold 0 n
joined-start fold other n g = joined-none fold other 0 n (λ k w h j.
    let a = within-index (spans_of other) k w in
    let b = g.before a.0 (omega arith) a.1.there in
    let low = a.1.low in
    omega arith)

pub last-gap : (spans : List (ℕ × ℕ)) (i : ℕ) → IsRising spans → length spans ≤ i → IsGap spans i 400000
last-gap spans i r l = record {
  after = λ j h m. r.low j m;
  before = λ j h m. absurd (omega arith);
}

true-or-false : (b : Bool) → (b ≡ true) ⊎ (b ≡ false)
true-or-false true = inl refl
true-or-false false = inr refl

below-limit : (spans : List (ℕ × ℕ)) (k limit : ℕ) → ((i : ℕ) → i < length spans → end_of_span spans i ≤ limit) → is_within spans k ≡ true → k < limit
below-limit spans k limit low w =
    let a = within-index spans k w in
    let h = a.1.high in
    let m = low a.0 a.1.there in
    omega arith

place-merged : (old other new : Fold) (map more : Noted) (limit k : ℕ) → AreJoined old other new 0 limit → ((i : ℕ) → i < length (spans_of other) → end_of_span (spans_of other) i ≤ limit) → Agree map more → IsInside (spans_of other) more
    → IsHeld old map → IsHeld other more → is_within (spans_of old) k ≡ true → (is_within (spans_of other) k ≡ true) ⊎ (is_within (spans_of other) k ≡ false) → StandsAt new k (column (union map more) k)
place-merged old other new map more limit k j low g n p q w (inl v) =
    same-standing new.spans.items (bases_of new.spans.items) new.steps new.every (marks_in new) new.cells.items (lines_in new) k (either (column map k) (column more k)) (column (union map more) k)
    (λ s l. taken-either (map s k) (more s k) (g s k))
    (j.joined k v (omega arith) (below-limit (spans_of other) k limit low v) (column map k) (column more k) (columns-agree map more k g) (p.places k w) (q.places k v))
place-merged old other new map more limit k j low g n p q w (inr v) =
    same-standing new.spans.items (bases_of new.spans.items) new.steps new.every (marks_in new) new.cells.items (lines_in new) k (column map k) (column (union map more) k)
    (λ s l. nothing-more (map s k) (more s k) (g s k) (ap taken (n s k v)))
    (j.kept k w (inr (inr v)) (column map k) (p.places k w))

pub places-merged : (old other new : Fold) (map more : Noted) (limit : ℕ) → AreJoined old other new 0 limit → ((i : ℕ) → i < length (spans_of other) → end_of_span (spans_of other) i ≤ limit) → Agree map more → IsInside (spans_of other) more
    → IsHeld old map → IsHeld other more → (k : ℕ) → is_within (spans_of new) k ≡ true → StandsAt new k (column (union map more) k)
places-merged old other new map more limit j low g n p q k w =
    place-merged old other new map more limit k j low g n p q (subst (λ sp. is_within sp k ≡ true) j.layout.same.spans_are w) (true-or-false (is_within (spans_of other) k))

never-bad : (a : Option Noting) → a ≡ None → is_bad_noting a ≡ true → ⊥
never-bad None e h = cc
never-bad (Some x) e h = cc

bad-inside : (spans : List (ℕ × ℕ)) (more : Noted) (s k : ℕ) → IsInside spans more → is_bad_noting (more s k) ≡ true → is_within spans k ≡ true
bad-inside spans more s k n b = elim (true-or-false (is_within spans k)) [ inl v ↦ v | inr v ↦ absurd (never-bad (more s k) (n s k v) b) ]

good-or : (a : Option Noting) → (is_bad_noting a ≡ true → ⊥) → is_bad_noting a ≡ false
good-or a h = elim (true-or-false (is_bad_noting a)) [ inl v ↦ absurd (h v) | inr v ↦ v ]

both-ways : (b : Bool) → b ≡ true → b ≡ false → ⊥
both-ways b h k = cc

pub fault-wider : (spans wide : List (ℕ × ℕ)) (last : ℕ) (more : Noted) (fault : Option (ℕ × ℕ)) → ((k : ℕ) → is_within spans k ≡ true → is_within wide k ≡ true) → IsInside spans more
    → HasFault spans last more fault → HasFault wide last more fault
fault-wider spans wide last more None h n p = λ s k l w. good-or (more s k) (λ b. both-ways (is_bad_noting (more s k)) b (p s k l (bad-inside spans more s k n b)))
fault-wider spans wide last more (Some f) h n p = record {
  within = p.within;
  inside = h f.1 p.inside;
  bad = p.bad;
  least = λ s k l w b. p.least s k l (bad-inside spans more s k n b) b;
}

-- what passes a filter stands in what it leaves
filtered-cons : (b : Bool) (x : ℕ) (ys : List ℕ) (v : ℕ) → (j : ℕ) × (j < length ys) × (get_or ys j 0 ≡ v) → (j : ℕ) × (j < length (cond b (x ∷ ys) ys)) × (get_or (cond b (x ∷ ys) ys) j 0 ≡ v)
filtered-cons true x ys v r = (suc r.0, (let l : r.0 < length ys = r.1 in omega arith), r.2)
filtered-cons false x ys v r = r

filtered-head : (b : Bool) (x : ℕ) (ys : List ℕ) → b ≡ true → (j : ℕ) × (j < length (cond b (x ∷ ys) ys)) × (get_or (cond b (x ∷ ys) ys) j 0 ≡ x)
filtered-head true x ys h = (0, omega arith, refl)
filtered-head false x ys h = cc

pub filtered-index : (p : ℕ → Bool) (xs : List ℕ) (i : ℕ) → i < length xs → p (get_or xs i 0) ≡ true → (j : ℕ) × (j < length (filter p xs)) × (get_or (filter p xs) j 0 ≡ get_or xs i 0)
filtered-index p [] i l h = absurd (omega arith)
filtered-index p (x ∷ xs) zero l h = filtered-head (p x) x (filter p xs) h
filtered-index p (x ∷ xs) (suc i) l h = filtered-cons (p x) x (filter p xs) (get_or xs i 0) (filtered-index p xs i (omega arith) h)

some-or-none : (o : Option ℕ) → (o ≡ None) ⊎ ((line : ℕ) × (o ≡ Some line))
some-or-none None = inl refl
some-or-none (Some line) = inr (line, refl)

sampled-there : (fold other : Fold) (k line : ℕ) → probes_of other ≡ filter (is_within (spans_of other)) (probes_of fold) → is_within (spans_of fold) k ≡ true → is_within (spans_of other) k ≡ true
    → line_in fold k ≡ Some line → line_in other k ≢ None
sampled-there fold other k line e wf wo h =
    let o = fold.marked.own (cell_of fold.spans.items (bases_of fold.spans.items) k) line h in
    let same = one-place fold.spans.items (bases_of fold.spans.items) (get_or (probes_of fold) line 0) k fold.rising (laid-out fold.spans.items fold.rising) (fold.probed line o.0) wf o.1 in
    let f = filtered-index (is_within (spans_of other)) (probes_of fold) line o.0 (subst (λ z. is_within (spans_of other) z ≡ true) (sym same) wo) in
    let there : f.0 < length (probes_of other) = subst (λ xs. f.0 < length xs) (sym e) f.1 in
    let at : get_or (probes_of other) f.0 0 ≡ k = ap (λ xs. get_or xs f.0 0) e ∙ f.2 ∙ same in
    subst (λ z. get_or (marks_in other) (cell_of other.spans.items (bases_of other.spans.items) z) None ≢ None) at (other.marked.each f.0 there)

pub mergeable : (fold other : Fold) → ((k : ℕ) → is_within (spans_of other) k ≡ true → is_within (spans_of fold) k ≡ true) → probes_of other ≡ filter (is_within (spans_of other)) (probes_of fold)
    → steps_of other ≡ steps_of fold → every_of other ≡ every_of fold → IsMergeable fold other
mergeable fold other inside e steps every = record {
  inside = inside;
  sampled_too = λ k w h. elim (some-or-none (line_in fold k)) [ inl n ↦ absurd (h n) | inr s ↦ sampled-there fold other k s.0 e (inside k w) w s.1 ];
  steps_are = steps;
  every_is = every;
}

apart-from : (k place : ℕ) (spans : List (ℕ × ℕ)) → is_within spans place ≡ true → (k < place) ⊎ (place + 1 ≤ k) ⊎ (is_within spans k ≡ false) → k ≢ place
apart-from k place spans w (inl h) e = omega arith
apart-from k place spans w (inr (inl h)) e = omega arith
apart-from k place spans w (inr (inr h)) e = both-ways (is_within spans place) w (sym (ap (is_within spans) e) ∙ h)

extreme-of : (o r : Fold) (place from : ℕ) (extreme : Extreme) (g : ℕ → Option Sample) → IsMergeable o r → from ≡ cell_of r.spans.items (bases_of r.spans.items) place → from < length r.cells.items
    → extreme ≡ get_or r.cells.items from extreme → StandsAt r place g → HasExtreme g o.steps extreme
extreme-of o r place from extreme g m e l h t =
    subst (λ z. HasExtreme g z extreme) m.steps_are
    (subst (λ x. HasExtreme g r.steps x) (sym (get_or_read r.cells.items from extreme l h unmet)) (subst (λ z. HasExtreme g r.steps (get_or r.cells.items z unmet)) (sym e) t.envelope))

line-of : (o r : Fold) (place from more : ℕ) (g : ℕ → Option Sample) → IsMergeable o r → from ≡ cell_of r.spans.items (bases_of r.spans.items) place → get_or (marks_in r) from None ≡ Some more → StandsAt r place g
    → HasSamples g o.steps o.every (get_or (lines_in r) more [])
line-of o r place from more g m e h t =
    subst (λ n. HasSamples g n o.every (get_or (lines_in r) more [])) m.steps_are
    (subst (λ n. HasSamples g r.steps n (get_or (lines_in r) more [])) m.every_is (t.line_has more (sym (ap (λ z. get_or (marks_in r) z None) e) ∙ h)))

pub place-joined : (o r : Fold) (new : List Extreme) (lines : List (List (Option Kept))) (place cell from k : ℕ) (extreme : Extreme) (f g : ℕ → Option Sample) → IsMergeable o r
    → cell ≡ cell_of o.spans.items (bases_of o.spans.items) place → from ≡ cell_of r.spans.items (bases_of r.spans.items) place → from < length r.cells.items → extreme ≡ get_or r.cells.items from extreme
    → (HasExtreme f o.steps (get_or o.cells.items cell unmet) → HasExtreme g o.steps extreme → HasExtreme (either f g) o.steps (get_or new cell unmet))
    → ((line : ℕ) → get_or (marks_in o) cell None ≡ Some line → HasSamples f o.steps o.every (get_or (lines_in o) line []) → ((more : ℕ) → get_or (marks_in r) from None ≡ Some more → HasSamples g o.steps o.every (get_or (lines_in r) more []))
    → HasSamples (either f g) o.steps o.every (get_or lines line []))
    → place ≤ k → k < place + 1 → StandsAt o k f → StandsAt r k g → IsStanding o.spans.items (bases_of o.spans.items) o.steps o.every (marks_in o) new lines k (either f g)
place-joined o r new lines place cell from k extreme f g m e e2 l h join line low high s t =
    let q : k ≡ place = omega arith in
    let s2 = subst (λ z. StandsAt o z f) q s in
    let t2 = subst (λ z. StandsAt r z g) q t in
    subst (λ z. IsStanding o.spans.items (bases_of o.spans.items) o.steps o.every (marks_in o) new lines z (either f g)) (sym q)
    (standing-here o.spans.items (bases_of o.spans.items) o.steps o.every (marks_in o) o.cells.items new (lines_in o) lines place cell f g e
    (λ a. join a (extreme-of o r place from extreme g m e2 l h t2))
    (λ n b a. line n b a (λ more d. line-of o r place from more g m e2 d t2)) s2)

pub place-kept : (o r : Fold) (new : List Extreme) (lines : List (List (Option Kept))) (place cell k : ℕ) (f : ℕ → Option Sample) → IsMergeable o r → is_within (spans_of r) place ≡ true
    → cell ≡ cell_of o.spans.items (bases_of o.spans.items) place
    → ((c : ℕ) → c ≢ cell → get_or new c unmet ≡ get_or o.cells.items c unmet)
    → ((line : ℕ) → get_or (marks_in o) cell None ≢ Some line → get_or lines line [] ≡ get_or (lines_in o) line [])
    → is_within (spans_of o) k ≡ true → (k < place) ⊎ (place + 1 ≤ k) ⊎ (is_within (spans_of r) k ≡ false) → StandsAt o k f → IsStanding o.spans.items (bases_of o.spans.items) o.steps o.every (marks_in o) new lines k f
place-kept o r new lines place cell k f m w e others line wk od s =
    standing-elsewhere o.spans.items (bases_of o.spans.items) (probes_of o) o.steps o.every (marks_in o) o.cells.items new (lines_in o) lines place cell k (length (probes_of o)) f
    o.rising (laid-out o.spans.items o.rising) o.marked (m.inside place w) wk (apart-from k place (spans_of r) w od) e others line s

pub same-width : (o r : Fold) (cell from line more : ℕ) → IsMergeable o r → get_or (marks_in o) cell None ≡ Some line → get_or (marks_in r) from None ≡ Some more
    → length (get_or (lines_in r) more []) ≡ length (get_or (lines_in o) line [])
same-width o r cell from line more m h k =
    line-width r from more k ∙ ap (λ n. n / r.every + 1) m.steps_are ∙ ap (λ n. o.steps / n + 1) m.every_is ∙ sym (line-width o cell line h)

-- the other fold has samples of a place that is sampled here
pub more-there : (o r : Fold) (place cell from line : ℕ) → IsMergeable o r → is_within (spans_of r) place ≡ true → cell ≡ cell_in o place → from ≡ cell_in r place
    → get_or (marks_in o) cell None ≡ Some line → (more : ℕ) × (get_or (marks_in r) from None ≡ Some more)
more-there o r place cell from line m w e e2 q =
    let s = m.sampled_too place w (λ n. let a = sym q ∙ ap (λ z. get_or (marks_in o) z None) e ∙ n in cc) in
    elim (some-or-none (line_in r place)) [
      | inl n ↦ absurd (s n)
      | inr l ↦ (l.0, ap (λ z. get_or (marks_in r) z None) e2 ∙ l.1)
    ]

-- the cell that is found of a fold's own spans
pub cell-found : (fold : Fold) (spans : List (ℕ × ℕ)) (place cell : ℕ) → spans ≡ fold.spans.items → cell ≡ cell_of spans (bases_of spans) place → cell ≡ cell_in fold place
cell-found fold spans place cell s e = e ∙ ap (λ z. cell_of z (bases_of z) place) s

pub cell-filled : (fold : Fold) (spans : List (ℕ × ℕ)) (cell : ℕ) → spans ≡ fold.spans.items → cell < get_or (bases_of spans) (length spans) 0 → cell < length fold.cells.items
cell-filled fold spans cell s h = subst (λ n. cell < n) (sym fold.filled) (subst (λ z. cell < get_or (bases_of z) (length z) 0) s h)
