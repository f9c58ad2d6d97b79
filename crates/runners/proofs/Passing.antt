-- The blocks of all sides, taken in one after another.
use Rattle.std.specs.Prelude.{◌≡◌, ℕ, ◌+◌, ◌<◌, ◌≤◌, ◌⊎◌, ◌||◌, ◌==◌, Bool, true, false, List}
use Rattle.std.specs.Prelude.{is_some, length, slice_index_or, slice_set, Some}
use Rattle.std.proofs.Common.{◌∙◌, ap, sym, subst, refl, arith, length-set, inl, inr, eq-eqb}
use Rattle.std.proofs.lemmas.List.{get_or_default}
use Rattle.case_model.specs.Meaning.{Meaning}
use Rattle.endhistory.specs.Seats.{reading}
use Rattle.endhistory.specs.Steps.{passed_view}
use Rattle.endhistory.specs.declared.history.History.{History}
use Rattle.endhistory.specs.declared.history.Reader.{Reader}
use Rattle.regions.specs.Needs.{needs_of}
use Rattle.regions.specs.Sides.{is_section, sides_of}
use Rattle.regions.specs.declared.shapes.Layout.{Layout}
use Rattle.regionrun.specs.Right.{IsRight, IsSameStrand, has_loaded, region_count}
use Rattle.regionrun.specs.declared.frontiers.Frontier.{Frontier}
use Rattle.runners.specs.Blocks.{ArePassed, AreToTake, IsToTake}
use Rattle.runners.specs.Ends.{AreReadersAt, IsReaderAt}
use Rattle.runners.proofs.Listed.{set-behind, set-next}
use Rattle.regionrun.proofs.Turning.{some-of}
use Rattle.runners.proofs.Needing.{needs-below}
use Rattle.schedule.proofs.Sound.{needs-low, needs-next}
use Rattle.schedule.specs.Nets.{needed_of}

pub none-passed : (readers : List Reader) → ArePassed 0 readers readers
none-passed readers = record {
  each = refl;
  passed = λ j d e below. absurd (omega arith);
  rest = λ j d behind. refl;
}

pub one-passed : (side : ℕ) (old now : List Reader) (d0 new : Reader) → side < length now
    → ArePassed side old now
    → reading new.seat ≡ passed_view (reading (slice_index_or now side d0).seat)
    → ArePassed (side + 1) old (slice_set now side new)
one-passed side old now d0 new inside have passed = record {
  each = length-set now side new ∙ have.each;
  passed = λ j d e below.
      set-next (λ i r. (k : Reader) → reading r.seat
      ≡ passed_view (reading (slice_index_or old i k).seat))
      side now new inside
      (λ k. passed ∙ ap (λ (r : Reader). passed_view (reading r.seat))
      (get_or_default now side d0 k inside ∙ have.rest side k (omega arith)))
      (λ i m l k. have.passed i k m l) j e below d;
  rest = λ j d behind. set-behind side j now new d (omega arith) ∙ have.rest j d (omega arith);
}

-- the first readers of a strand have come one block further
pub on-passed : (law : Meaning) (layout : Layout) (histories : List History) (x side : ℕ)
    (old now : List Reader) (d0 new : Reader) → side < length now → ArePassed side old now
    → ((b j : ℕ) (d : Reader) → j < side
    → IsReaderAt law layout histories x j b (slice_index_or old j d)
    → IsReaderAt law layout histories x j (b + 1) (slice_index_or now j d))
    → ((b : ℕ) → IsReaderAt law layout histories x side b (slice_index_or now side d0)
    → IsReaderAt law layout histories x side (b + 1) new)
    → (b j : ℕ) (d : Reader) → j < side + 1
    → IsReaderAt law layout histories x j b (slice_index_or old j d)
    → IsReaderAt law layout histories x j (b + 1) (slice_index_or (slice_set now side new) j d)
on-passed law layout histories x side old now d0 new inside have all one b j d below =
    set-next (λ i r. (k : Reader)
    → IsReaderAt law layout histories x i b (slice_index_or old i k)
    → IsReaderAt law layout histories x i (b + 1) r)
    side now new inside
    (λ k at. one b (subst (IsReaderAt law layout histories x side b)
    (sym (get_or_default now side d0 k inside ∙ have.rest side k (omega arith))) at))
    (λ i m l k at. subst (λ (r : Reader). IsReaderAt law layout histories x i (b + 1) r)
    (get_or_default now i k m (omega arith)) (all b i k l at)) j d below d

-- what is known of the next side's block
pub to-take : (law : Meaning) (layout : Layout) (histories : List History)
    (first now : Frontier) (side : ℕ) (old new : List Reader) (d : Reader)
    → AreToTake law layout histories first old → IsSameStrand first now
    → now.computed ≡ first.computed → ArePassed side old new → side < length new
    → IsToTake law layout histories now side (slice_index_or new side d)
to-take law layout histories first now side old new d take same computed passed inside =
    let below : side < length old = subst (λ (k : ℕ). side < k) passed.each inside in
    let there : side < sides_of layout law.mesh first.number =
    subst (λ (k : ℕ). side < k) take.at.each below in
    let was : slice_index_or new side d ≡ slice_index_or old side d =
    passed.rest side d (omega arith) in
    record {
      side_there = subst (λ (k : ℕ). side < sides_of layout law.mesh k) (sym same.number_is) there;
      block = take.block;
      needed = subst (λ (k : ℕ). needs_of (is_section layout k) now.computed ≡ Some take.block)
          (sym same.number_is)
          (subst (λ (k : ℕ). needs_of (is_section layout first.number) k ≡ Some take.block)
          (sym computed) take.needed);
      few = take.few;
      at = subst (λ (k : ℕ). IsReaderAt law layout histories k side take.block
          (slice_index_or new side d)) (sym same.number_is)
          (subst (λ (r : Reader). IsReaderAt law layout histories first.number side take.block r)
          (sym was) (take.at.reader side d there));
      seen = subst (λ (r : Reader). take.block < (reading r.seat).seen) (sym was)
          (take.seen side d below);
    }

-- one side more is loaded
pub one-loaded : (law : Meaning) (layout : Layout) (old new : Frontier) (side : ℕ)
    (first now : List Reader) (histories : List History) (start : Frontier)
    → IsRight law layout old → AreToTake law layout histories start first
    → IsSameStrand start old → ArePassed side first now → side < length now
    → ((c : ℕ) → c < old.sides → has_loaded new c ≡ (has_loaded old c || (c == side)))
    → ((c : ℕ) → c < side → has_loaded old c ≡ true)
    → (c : ℕ) → c < side + 1 → has_loaded new c ≡ true
one-loaded law layout old new side first now histories start right take same passed inside loaded
    before c below =
    let all : length now ≡ sides_of layout law.mesh start.number = passed.each ∙ take.at.each in
    let own : sides_of layout law.mesh start.number ≡ old.sides =
    ap (sides_of layout law.mesh) (sym same.number_is) ∙ sym right.sides_are in
    loaded c (omega arith) ∙ elim (before-or-at c side below) [
      | inl l ↦ rw (before c l) refl
      | inr e ↦ or_right (has_loaded old c) (c == side) (eq-eqb c side e)
    ]
  where
    before-or-at : (c side : ℕ) → c < side + 1 → (c < side) ⊎ (c ≡ side)
    before-or-at c side below = grind (arith, below)

    or_right : (a b : Bool) → b ≡ true → (a || b) ≡ true
    or_right true b e = refl
    or_right false b e = e

-- all sides are loaded
pub all-sides : (law : Meaning) (layout : Layout) (start new : Frontier) (side c : ℕ)
    (first : List Reader) (histories : List History) → IsRight law layout new
    → AreToTake law layout histories start first → IsSameStrand start new → length first ≤ side
    → c < new.sides → c < side
all-sides law layout start new side c first histories right take same whole below =
    let each : length first ≡ sides_of layout law.mesh start.number = take.at.each in
    let own : sides_of layout law.mesh start.number ≡ new.sides =
    ap (sides_of layout law.mesh) (sym same.number_is) ∙ sym right.sides_are in
    omega arith

-- a strand whose number is the same has the same readers
pub same-strand : (law : Meaning) (layout : Layout) (histories : List History)
    (x y side b : ℕ) (old new : Reader) → x ≡ y
    → (IsReaderAt law layout histories x side b old
    → IsReaderAt law layout histories x side (b + 1) new)
    → IsReaderAt law layout histories y side b old
    → IsReaderAt law layout histories y side (b + 1) new
same-strand law layout histories x y side b old new same on at =
    subst (λ (k : ℕ). IsReaderAt law layout histories k side (b + 1) new) same
    (on (subst (λ (k : ℕ). IsReaderAt law layout histories k side b old) (sym same) at))

-- all readers of a strand have come one block further
pub all-passed : (law : Meaning) (layout : Layout) (histories : List History) (x b n : ℕ)
    (old new : List Reader) → ArePassed n old new → n ≡ length old
    → ((b j : ℕ) (d : Reader) → j < n
    → IsReaderAt law layout histories x j b (slice_index_or old j d)
    → IsReaderAt law layout histories x j (b + 1) (slice_index_or new j d))
    → AreReadersAt law layout histories x b old → AreReadersAt law layout histories x (b + 1) new
all-passed law layout histories x b n old new passed whole on at = record {
  each = passed.each ∙ at.each;
  reader = λ j d there.
      on b j d (subst (λ (k : ℕ). j < k) (sym (whole ∙ at.each)) there) (at.reader j d there);
}

-- ---- where a region needs blocks

pub all-to-take : (law : Meaning) (layout : Layout) (histories : List History)
    (frontier : Frontier) (first readers : List Reader) → first ≡ readers
    → AreReadersAt law layout histories frontier.number
    (needed_of (is_section layout frontier.number) frontier.computed) readers
    → is_some (needs_of (is_section layout frontier.number) frontier.computed) ≡ true
    → frontier.computed < region_count layout frontier.number
    → ((b j : ℕ) (d : Reader)
    → needs_of (is_section layout frontier.number) frontier.computed ≡ Some b
    → j < length readers → b < (reading (slice_index_or readers j d).seat).seen)
    → AreToTake law layout histories frontier first
all-to-take law layout histories frontier first readers is at some more seen =
    let kind = is_section layout frontier.number in
    let m : ℕ = frontier.computed in
    let s = some-of (needs_of kind m) some in
    subst (AreToTake law layout histories frontier) (sym is)
    record {
      block = s.0;
      needed = s.1;
      few = needs-below kind layout.windows m s.0 more s.1;
      at = subst (λ (k : ℕ). AreReadersAt law layout histories frontier.number k readers)
          (needs-low kind m s.0 s.1) at;
      seen = λ j d below. seen s.0 j d s.1 below;
    }

pub all-on : (law : Meaning) (layout : Layout) (histories : List History) (x m : ℕ)
    (first old last new : List Reader) → first ≡ old → new ≡ last
    → is_some (needs_of (is_section layout x) m) ≡ true
    → ((b : ℕ) → AreReadersAt law layout histories x b first
    → AreReadersAt law layout histories x (b + 1) last)
    → AreReadersAt law layout histories x (needed_of (is_section layout x) m) old
    → AreReadersAt law layout histories x (needed_of (is_section layout x) (m + 1)) new
all-on law layout histories x m first old last new first_is last_is some on at =
    let kind = is_section layout x in
    let s = some-of (needs_of kind m) some in
    subst (AreReadersAt law layout histories x (needed_of kind (m + 1))) (sym last_is)
    (subst (λ (k : ℕ). AreReadersAt law layout histories x k last)
    (sym (needs-next kind m s.0 s.1))
    (on s.0 (subst (AreReadersAt law layout histories x s.0) (sym first_is)
    (subst (λ (k : ℕ). AreReadersAt law layout histories x k old) (needs-low kind m s.0 s.1)
    at))))
