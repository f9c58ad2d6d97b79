-- The strands of a layout in two halves: its stations, and its sections.
use Rattle.std.specs.Prelude.{◌≡◌, ℕ, ◌+◌, ◌-◌, ◌<◌, ◌≤◌, ◌⊎◌, Bool, true, false, List, ◌++◌}
use Rattle.std.specs.Prelude.{length, slice_index_or, slice_set, take, drop, refl, ◌≢◌}
use Rattle.std.proofs.Common.{sym, ◌∙◌, ap, subst, arith, inl, inr, get_or-set_other}
use Rattle.std.proofs.Common.{get_or-set_same, length-set}
use Rattle.std.proofs.lemmas.Bool.{cases_lt, cases_eq}
use Rattle.std.proofs.lemmas.List.{get_or_default, get_or-drop, get_or-take, get_or_append_left, get_or-append_right}
use Rattle.std.proofs.lemmas.List.{length-drop, length-take-le, take-append-le, take_all}
use Rattle.case_model.specs.Meaning.{Meaning}
use Rattle.envelope.specs.Folds.{IsSameFold}
use Rattle.regions.specs.declared.shapes.Layout.{Layout}
use Rattle.regions.specs.Sides.{is_section}
use Rattle.regionrun.specs.declared.one_strand.Strand.{Strand}
use Rattle.regionrun.specs.Engine.{AreAt, AreAtRest, AreEachAtRest, AreSameFolds, AreSameStrands}
use Rattle.regionrun.specs.Engine.{IsAtRest, IsStrandAt, none}
use Rattle.regionrun.specs.Right.{IsSameStrand, region_count}
use Rattle.regionrun.proofs.Turning.{same-itself, same-on}
use Rattle.schedule.specs.Nets.{regions_of}

-- ---- where the sections begin

-- strands below this number are stations, and the others are sections
pub record IsCutAt (layout : Layout) (first : ℕ) : Type 0 where
  pub few : first ≤ length layout.shapes
  pub below : (x : ℕ) → x < first → is_section layout x ≡ false
  pub others : (x : ℕ) → first ≤ x → x < length layout.shapes → is_section layout x ≡ true

-- ---- the halves as they are made

at-start : {S : Type 0} (strand_of entered_of : S → ℕ) (law : Meaning) (layout : Layout) (x : ℕ)
    (section : Bool) (strand : Strand S)
    → is_section layout x ≡ section
    → IsStrandAt strand_of entered_of law layout x 0 strand
    → IsAtRest strand_of entered_of law layout section 0 strand
at-start strand_of entered_of law layout x section strand kind at = record {
  kind = ap (is_section layout) at.number_is ∙ kind;
  at = subst (λ z. IsStrandAt strand_of entered_of law layout z 0 strand) (sym at.number_is) at;
  lending = record {
    computed = λ b computed. let e : 0 ≡ b + 1 = sym at.computed_is ∙ computed in
        absurd (omega arith);
  };
}

pub stations-start : {S : Type 0} (strand_of entered_of : S → ℕ) (law : Meaning) (layout : Layout)
    (first : ℕ) (strands : List (Strand S))
    → IsCutAt layout first → AreAt strand_of entered_of law layout none strands
    → AreAtRest strand_of entered_of law layout false 0 0 (take first strands)
stations-start {S} strand_of entered_of law layout first strands cut all =
    let count : length (take first strands) ≡ first =
    length-take-le first strands (omega (arith, cut.few, all.each)) in
    record {
      all = λ x there kind. (
        omega arith,
        elim (cases_lt x first) [
          | inl l ↦ omega arith
          | inr l ↦ let e : true ≡ false = sym (cut.others x l there) ∙ kind in cc
        ],
      );
      number_is = λ i d below.
          let n : i ≡ 0 + i = omega arith in
          ap (λ (s : Strand S). s.frontier.number) (get_or-take first strands i d (omega arith))
          ∙ (all.strand i d (omega (arith, cut.few))).number_is ∙ n;
      rest = record {
        each = λ i d below.
            subst (IsAtRest strand_of entered_of law layout false 0)
            (sym (get_or-take first strands i d (omega arith)))
            (at-start strand_of entered_of law layout i false (slice_index_or strands i d)
            (cut.below i (omega arith)) (all.strand i d (omega (arith, cut.few))));
      };
    }

pub sections-start : {S : Type 0} (strand_of entered_of : S → ℕ) (law : Meaning) (layout : Layout)
    (first : ℕ) (strands : List (Strand S))
    → IsCutAt layout first → AreAt strand_of entered_of law layout none strands
    → AreAtRest strand_of entered_of law layout true 0 first (drop first strands)
sections-start {S} strand_of entered_of law layout first strands cut all =
    let whole : length strands ≡ length layout.shapes = all.each in
    let count : length (drop first strands) ≡ length strands - first =
    length-drop first strands in
    record {
      all = λ x there kind. (
        elim (cases_lt x first) [
          | inl l ↦ let e : false ≡ true = sym (cut.below x l) ∙ kind in cc
          | inr l ↦ l
        ],
        omega (arith, cut.few),
      );
      number_is = λ i d below.
          ap (λ (s : Strand S). s.frontier.number) (get_or-drop first strands i d)
          ∙ (all.strand (first + i) d (omega arith)).number_is;
      rest = record {
        each = λ i d below.
            subst (IsAtRest strand_of entered_of law layout true 0)
            (sym (get_or-drop first strands i d))
            (at-start strand_of entered_of law layout (first + i) true
            (slice_index_or strands (first + i) d)
            (cut.others (first + i) (omega arith) (omega arith))
            (all.strand (first + i) d (omega arith)));
      };
    }

-- ---- a half after its turn

pub moved : {S : Type 0} (strand_of entered_of : S → ℕ) (law : Meaning) (layout : Layout)
    (section : Bool) (c m first : ℕ) (old new : List (Strand S))
    → length new ≡ length old → AreAtRest strand_of entered_of law layout section c first old
    → AreSameStrands old new → AreEachAtRest strand_of entered_of law layout section m new
    → AreAtRest strand_of entered_of law layout section m first new
moved strand_of entered_of law layout section c m first old new count at same rest =
    record {
      all = λ x there kind.
          let bounds = at.all x there kind in
          (bounds.0, subst (λ n. x < first + n) (sym count) bounds.1);
      number_is = λ i d below.
          let inside : i < length old = omega arith in
          (same.each i d inside).number_is ∙ at.number_is i d inside;
      rest = rest;
    }

pub strands-on : {S : Type 0} (one two three : List (Strand S)) → length two ≡ length one
    → AreSameStrands one two → AreSameStrands two three → AreSameStrands one three
strands-on one two three count a b = record {
  each = λ i d below. same-on (slice_index_or one i d).frontier (slice_index_or two i d).frontier
      (slice_index_or three i d).frontier (a.each i d below)
      (b.each i d (subst (λ n. i < n) (sym count) below));
}

pub strands-same : {S : Type 0} (strands : List (Strand S)) → AreSameStrands strands strands
strands-same strands = record {
  each = λ i d below. same-itself (slice_index_or strands i d).frontier;
}

-- ---- one strand after another

-- an item that is good is put behind those that are
pub done-more : {X : Type 0} (P : X → Type 0) (x : ℕ) (xs : List X) (new : X) → x < length xs
    → ((i : ℕ) (d : X) → i < x → P (slice_index_or xs i d)) → P new
    → (i : ℕ) (d : X) → i < x + 1 → P (slice_index_or (slice_set xs x new) i d)
done-more P x xs new inside done good i d below = elim (cases_eq i x) [
  | inl e ↦
      subst (λ k. P (slice_index_or (slice_set xs x new) k d)) (sym e)
      (subst P (sym (get_or-set_same xs x new d inside)) good)
  | inr n ↦ subst P (sym (get_or-set_other xs x i new d n)) (done i d (next-below i x n below))
]
  where
    next-below : (i x : ℕ) → i ≢ x → i < x + 1 → i < x
    next-below i x n l = grind (arith, n, l)

-- and those behind it stay as they are
pub rest-less : {X : Type 0} (P : X → Type 0) (x : ℕ) (xs : List X) (new : X)
    → ((i : ℕ) (d : X) → x ≤ i → i < length xs → P (slice_index_or xs i d))
    → (i : ℕ) (d : X) → x + 1 ≤ i → i < length (slice_set xs x new)
    → P (slice_index_or (slice_set xs x new) i d)
rest-less P x xs new rest i d low high =
    subst P (sym (get_or-set_other xs x i new d (λ e. absurd (omega arith))))
    (rest i d (omega arith) (omega (arith, length-set xs x new)))

set-same : {S : Type 0} (strands : List (Strand S)) (x : ℕ) (d0 new : Strand S)
    → IsSameStrand (slice_index_or strands x d0).frontier new.frontier
    → x < length strands → (y : ℕ) (d : Strand S) → (y ≡ x) ⊎ (y ≢ x)
    → IsSameStrand (slice_index_or strands y d).frontier
    (slice_index_or (slice_set strands x new) y d).frontier
set-same {S} strands x d0 new same inside y d (inl e) =
    subst (λ (k : ℕ). IsSameStrand (slice_index_or strands k d).frontier
    (slice_index_or (slice_set strands x new) k d).frontier) (sym e)
    (subst (λ (s : Strand S). IsSameStrand (slice_index_or strands x d).frontier s.frontier)
    (sym (get_or-set_same strands x new d inside))
    (subst (λ (s : Strand S). IsSameStrand s.frontier new.frontier)
    (get_or_default strands x d0 d inside) same))
set-same {S} strands x d0 new same inside y d (inr ne) =
    subst (λ (s : Strand S). IsSameStrand (slice_index_or strands y d).frontier s.frontier)
    (sym (get_or-set_other strands x y new d ne))
    (same-itself (slice_index_or strands y d).frontier)

pub strands-set : {S : Type 0} (strands : List (Strand S)) (x : ℕ) (d0 new : Strand S)
    → IsSameStrand (slice_index_or strands x d0).frontier new.frontier
    → x < length strands → AreSameStrands strands (slice_set strands x new)
strands-set strands x d0 new same inside = record {
  each = λ y d below. set-same strands x d0 new same inside y d (cases_eq y x);
}

-- ---- both halves together

kinds-count : (section : Bool) (n windows : ℕ) (kind : Bool) → kind ≡ section
    → n ≡ regions_of section windows → n ≡ regions_of kind windows
kinds-count section n windows kind e h = h ∙ ap (λ z. regions_of z windows) (sym e)

done-at : {S : Type 0} (strand_of entered_of : S → ℕ) (law : Meaning) (layout : Layout)
    (section : Bool) (x c : ℕ) (strand : Strand S)
    → c ≡ regions_of section layout.windows → strand.frontier.number ≡ x
    → IsAtRest strand_of entered_of law layout section c strand
    → IsStrandAt strand_of entered_of law layout x (region_count layout x) strand
done-at strand_of entered_of law layout section x c strand count number rest =
    let kind : is_section layout x ≡ section = ap (is_section layout) (sym number) ∙ rest.kind in
    subst (λ z. IsStrandAt strand_of entered_of law layout x z strand)
    (kinds-count section c layout.windows (is_section layout x) kind count)
    (subst (λ z. IsStrandAt strand_of entered_of law layout z c strand) number rest.at)

pub all-done : {S : Type 0} (strand_of entered_of : S → ℕ) (law : Meaning) (layout : Layout)
    (first : ℕ) (stations sections : List (Strand S))
    → length stations ≡ first → length stations + length sections ≡ length layout.shapes
    → length (stations ++ sections) ≡ length layout.shapes
    → AreAtRest strand_of entered_of law layout false layout.windows 0 stations
    → AreAtRest strand_of entered_of law layout true (layout.windows + 1) first sections
    → AreAt strand_of entered_of law layout (region_count layout) (stations ++ sections)
all-done strand_of entered_of law layout first stations sections few whole size low high = record {
  each = size;
  strand = λ x d below. elim (cases_lt x (length stations)) [
    | inl l ↦
        subst (IsStrandAt strand_of entered_of law layout x (region_count layout x))
        (sym (get_or_append_left stations sections d x l))
        (done-at strand_of entered_of law layout false x layout.windows
        (slice_index_or stations x d) refl
        (let n : 0 + x ≡ x = omega arith in low.number_is x d l ∙ n) (low.rest.each x d l))
    | inr l ↦
        let i = x - first in
        let inside : i < length sections = omega arith in
        let again : first + i ≡ x = omega arith in
        subst (IsStrandAt strand_of entered_of law layout x (region_count layout x))
        (sym (get_or-append_right stations sections first x d few (omega arith)))
        (done-at strand_of entered_of law layout true x (layout.windows + 1)
        (slice_index_or sections i d) refl (high.number_is i d inside ∙ again)
        (high.rest.each i d inside))
  ];
}

pub all-folds : {S : Type 0} (first : ℕ) (old low high : List (Strand S))
    → length low ≡ first → first ≤ length old → length (low ++ high) ≡ length old
    → AreSameStrands (take first old) low → AreSameStrands (drop first old) high
    → AreSameFolds old (low ++ high)
all-folds {S} first old low high few within size one other = record {
  each = size;
  fold = λ x d below. elim (cases_lt x first) [
    | inl l ↦
        let count : length (take first old) ≡ first = length-take-le first old within in
        let same : IsSameFold (slice_index_or (take first old) x d).frontier.fold
        (slice_index_or low x d).frontier.fold =
        (one.each x d (omega arith)).fold_is in
        subst (λ (s : Strand S). IsSameFold s.frontier.fold
        (slice_index_or (low ++ high) x d).frontier.fold) (get_or-take first old x d l)
        (subst (λ (s : Strand S). IsSameFold (slice_index_or (take first old) x d).frontier.fold
        s.frontier.fold) (sym (get_or_append_left low high d x (omega arith))) same)
    | inr l ↦
        let i = x - first in
        let count : length (drop first old) ≡ length old - first = length-drop first old in
        let again : first + i ≡ x = omega arith in
        let same : IsSameFold (slice_index_or (drop first old) i d).frontier.fold
        (slice_index_or high i d).frontier.fold =
        (other.each i d (omega arith)).fold_is in
        let is : slice_index_or (drop first old) i d ≡ slice_index_or old x d =
        get_or-drop first old i d ∙ ap (λ z. slice_index_or old z d) again in
        subst (λ (s : Strand S). IsSameFold s.frontier.fold
        (slice_index_or (low ++ high) x d).frontier.fold) is
        (subst (λ (s : Strand S). IsSameFold (slice_index_or (drop first old) i d).frontier.fold
        s.frontier.fold) (sym (get_or-append_right low high first x d few l)) same)
  ];
}

-- a list of which every item is written
pub all-written : {X : Type 0} (n : ℕ) (xs ws : List X) → n ≡ length xs → length ws ≡ length xs
    → take n (ws ++ drop (length ws) xs) ≡ ws
all-written n xs ws e f =
    take-append-le n ws (drop (length ws) xs) (omega arith) ∙ take_all n ws (omega arith)
