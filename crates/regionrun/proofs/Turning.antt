-- Turns: what the strands beside one have handed to it, and what it has when it is fed.
use Rattle.std.specs.Prelude.{◌≡◌, ℕ, zero, suc, ◌+◌, ◌-◌, ◌<◌, ◌≤◌, ◌==◌, Bool, true, false}
use Rattle.std.specs.Prelude.{◌||◌, not, if◌then◌else◌, List, length, slice_index_or, Option, Some}
use Rattle.std.specs.Prelude.{None, is_some, refl}
use Rattle.std.proofs.Common.{sym, ◌∙◌, ap, subst, arith, inl, inr, eq-eqb}
use Rattle.std.proofs.lemmas.Bool.{or_right}
use Rattle.case_model.specs.Meaning.{Meaning}
use Rattle.case_model.specs.declared.points.Point.{Point}
use Rattle.regions.specs.declared.shapes.Layout.{Layout}
use Rattle.regions.specs.Needs.{needs_of}
use Rattle.regions.specs.Sides.{back_of, is_section, side_of, sides_of}
use Rattle.regionrun.specs.declared.frontiers.Frontier.{Frontier}
use Rattle.regionrun.specs.declared.one_strand.Strand.{Strand}
use Rattle.regionrun.specs.Engine.{AreBeside, IsCourse}
use Rattle.regionrun.specs.Bodies.{HasOutgoing, IsComputed}
use Rattle.regionrun.specs.Handed.{ArePointsFor}
use Rattle.regionrun.specs.Lawful.{IsLawful}
use Rattle.regionrun.specs.Neighbours.{IsNeighbour}
use Rattle.regionrun.proofs.Keeping.{right-outgoing, right-sides}
use Rattle.regionrun.specs.Right.{IsGiven, IsRight, IsSameStrand, has_loaded}
use Rattle.strands.proofs.Handing.{before-or-at}
use Rattle.schedule.specs.Nets.{Net}

-- ---- the sides of a plan

pub plan-has-strand : (law : Meaning) (layout : Layout) (net : Net) (x : ℕ)
    → IsCourse law layout net
    → x < length layout.shapes → x < net.strands
plan-has-strand law layout net x course there =
    subst (λ n. x < n) (sym course.planned.strands_are) there

pub plan-has-side : (law : Meaning) (layout : Layout) (net : Net) (x c : ℕ)
    → IsCourse law layout net
    → x < length layout.shapes → c < sides_of layout law.mesh x → c < net.sides x
plan-has-side law layout net x c course there side =
    subst (λ n. c < n) (sym (course.planned.sides_are x there)) side

-- the neighbour of strand x at side c, and which of its sides the strand is, as a plan has them
pub record IsLinked (net : Net) (x c y back : ℕ) : Type 0 where
  pub strand : y ≡ net.side x c
  pub side : back ≡ net.back x c

linked-is : (law : Meaning) (layout : Layout) (net : Net) (x c y back : ℕ)
    → IsCourse law layout net
    → x < length layout.shapes → c < sides_of layout law.mesh x → IsLinked net x c y back
    → y ≡ side_of layout law.mesh x c
linked-is law layout net x c y back course there side link =
    link.strand ∙ course.planned.side_is x c there side

linked-back : (law : Meaning) (layout : Layout) (net : Net) (x c y back : ℕ)
    → IsCourse law layout net
    → x < length layout.shapes → c < sides_of layout law.mesh x → IsLinked net x c y back
    → back ≡ back_of layout law.mesh x c
linked-back law layout net x c y back course there side link =
    link.side ∙ course.planned.back_is x c there side

-- ---- the neighbour

-- it stands among the strands beside
pub neighbour-there : {S : Type 0} (strand_of entered_of : S → ℕ) (law : Meaning)
    (layout : Layout) (net : Net) (section : Bool) (r first : ℕ) (strands : List (Strand S))
    (x c y back : ℕ)
    → IsCourse law layout net
    → AreBeside strand_of entered_of law layout section r first strands
    → is_section layout x ≡ section → x < length layout.shapes → c < sides_of layout law.mesh x
    → IsLinked net x c y back → (first ≤ y) × (y < first + length strands)
neighbour-there strand_of entered_of law layout net section r first strands x c y back course beside
    kind there side link =
    let both = course.lawful.sides in
    let e = linked-is law layout net x c y back course there side link in
    subst (λ z. (first ≤ z) × (z < first + length strands)) (sym e)
    (beside.all (side_of layout law.mesh x c) (both.inside x c there side)
    (both.kinds x c there side ∙ ap not kind))

neighbour-at : {S : Type 0} (strand_of entered_of : S → ℕ) (law : Meaning)
    (layout : Layout) (net : Net) (section : Bool) (r first : ℕ) (strands : List (Strand S))
    (x c y back i : ℕ) (d : Strand S)
    → IsCourse law layout net
    → AreBeside strand_of entered_of law layout section r first strands
    → is_section layout x ≡ section → x < length layout.shapes → c < sides_of layout law.mesh x
    → IsLinked net x c y back → i ≡ y - first
    → IsNeighbour law layout section r x c back (slice_index_or strands i d).frontier
neighbour-at strand_of entered_of law layout net section r first strands x c y back i d course
    beside kind there side link index =
    let both = course.lawful.sides in
    let bounds = neighbour-there strand_of entered_of law layout net section r first strands x c y
    back course beside kind there side link in
    let low : first ≤ y = bounds.0 in
    let high : y < first + length strands = bounds.1 in
    let inside : i < length strands = omega arith in
    let again : first + i ≡ y = omega arith in
    let rest = beside.rest.each i d inside in
    let number : (slice_index_or strands i d).frontier.number ≡ side_of layout law.mesh x c =
    beside.number_is i d inside ∙ again
    ∙ linked-is law layout net x c y back course there side link in
    let same = linked-back law layout net x c y back course there side link in
    record {
      number_is = number;
      back_is = same;
      below = subst (λ z. back < z) (sym rest.at.right.sides_are)
          (subst (λ z. back < sides_of layout law.mesh z) (sym number)
          (subst (λ z. z < sides_of layout law.mesh (side_of layout law.mesh x c)) (sym same)
          (both.index x c there side)));
      right = rest.at.right;
      computed_is = rest.at.computed_is;
      lending = rest.lending;
    }

pub neighbour-is : {S : Type 0} (strand_of entered_of : S → ℕ) (law : Meaning)
    (layout : Layout) (net : Net) (section : Bool) (r first : ℕ) (strands : List (Strand S))
    (x c y back : ℕ) (d : Strand S)
    → IsCourse law layout net
    → AreBeside strand_of entered_of law layout section r first strands
    → is_section layout x ≡ section → x < length layout.shapes → c < sides_of layout law.mesh x
    → IsLinked net x c y back → d ≡ slice_index_or strands (y - first) d
    → IsNeighbour law layout section r x c back d.frontier
neighbour-is {S} strand_of entered_of law layout net section r first strands x c y back d course
    beside kind there side link is =
    let i : ℕ = y - first in
    subst (λ (s : Strand S). IsNeighbour law layout section r x c back s.frontier) (sym is)
    (neighbour-at strand_of entered_of law layout net section r first strands x c y back i d
    course beside kind there side link refl)

-- ---- what it has handed on

-- the block that a region needs is the last that the strands beside have written
needed-is : (section : Bool) (r b : ℕ) → needs_of section r ≡ Some b
    → (if section then r else r + 1) ≡ b + 1
needed-is true zero b need = cc
needed-is true (suc m) b need = let e : m ≡ b = cc in omega arith
needed-is false r b need = let e : r ≡ b = cc in omega arith

pub some-of : (o : Option ℕ) → is_some o ≡ true → (b : ℕ) × (o ≡ Some b)
some-of (Some b) e = (b, refl)
some-of None e = cc

-- so that is the region of theirs that was computed last
pub needed-last : (law : Meaning) (layout : Layout) (section : Bool) (r x c back b : ℕ)
    (frontier : Frontier) → IsNeighbour law layout section r x c back frontier
    → needs_of section r ≡ Some b → frontier.computed ≡ b + 1
needed-last law layout section r x c back b frontier is need =
    is.computed_is ∙ needed-is section r b need

one-needed : (section : Bool) (r a b : ℕ) → needs_of section r ≡ Some a
    → needs_of section r ≡ Some b → a ≡ b
one-needed section r a b one other =
    let e = needed-is section r a one in
    let f = needed-is section r b other in
    omega arith

-- what it lends the strand is what the strand needs
pub handed-points : (law : Meaning) (layout : Layout) (section : Bool) (r x c back a b : ℕ)
    (frontier : Frontier) (tells : ℕ → Point → Type 0) → IsLawful layout law.mesh
    → IsNeighbour law layout section r x c back frontier → needs_of section r ≡ Some a
    → needs_of section r ≡ Some b
    → (IsComputed law layout.window a frontier.body
    → HasOutgoing law layout.window a back frontier.body tells)
    → ArePointsFor law layout (side_of layout law.mesh x c) (back_of layout law.mesh x c) b tells
handed-points law layout section r x c back a b frontier tells lawful is first need lends =
    let same : a ≡ b = one-needed section r a b first need in
    let e : frontier.computed ≡ a + 1 =
    needed-last law layout section r x c back a frontier is first in
    let there : HasOutgoing law frontier.window a back frontier.body tells =
    subst (λ (w : ℕ). HasOutgoing law w a back frontier.body tells) (sym is.right.window_is)
    (lends (is.lending.computed a e)) in
    let here : ArePointsFor law layout frontier.number back b tells =
    subst (λ (n : ℕ). ArePointsFor law layout frontier.number back n tells) same
    (right-outgoing law layout frontier.computed a back frontier tells lawful is.right
    (subst (λ (n : ℕ). back < n)
    (right-sides law layout frontier.computed frontier is.right) is.below) there) in
    subst (λ y. ArePointsFor law layout y (back_of layout law.mesh x c) b tells) is.number_is
    (subst (λ z. ArePointsFor law layout frontier.number z b tells) is.back_is here)

-- ---- feeding a strand

-- the strand while it is fed, as it was at the start of its turn
pub record IsFeeding (law : Meaning) (layout : Layout) (start now : Frontier) : Type 0 where
  pub right : IsRight law layout now
  pub same : IsSameStrand start now
  pub computed : now.computed ≡ start.computed

pub feeding : (law : Meaning) (layout : Layout) (section : Bool) (r c : ℕ) (start now : Frontier)
    (tells : ℕ → Point → Type 0)
    → is_section layout start.number ≡ section → start.computed ≡ r
    → is_some (needs_of section r) ≡ true → IsFeeding law layout start now → c < start.sides
    → ((b : ℕ) → needs_of section r ≡ Some b → ArePointsFor law layout
    (side_of layout law.mesh now.number c) (back_of layout law.mesh now.number c) b tells)
    → IsGiven law layout now c tells
feeding law layout section r c start now tells kind computed some f side handed =
    let need = some-of (needs_of section r) some in
    record {
      right = f.right;
      side = subst (λ k. c < k) f.right.sides_are (subst (λ k. c < k) (sym f.same.sides_are) side);
      block = need.0;
      needed = ap (λ k. needs_of (is_section layout k) now.computed) f.same.number_is
          ∙ ap (λ k. needs_of k now.computed) kind
          ∙ ap (needs_of section) (f.computed ∙ computed) ∙ need.1;
      handed = handed need.0 need.1;
    }

-- one block more is loaded
pub one-loaded : (old new : Frontier) (side : ℕ)
    → ((c : ℕ) → c < old.sides → has_loaded new c ≡ (has_loaded old c || (c == side)))
    → ((c : ℕ) → c < side → has_loaded old c ≡ true) → side < old.sides
    → (c : ℕ) → c < side + 1 → has_loaded new c ≡ true
one-loaded old new side loaded before there c below =
    loaded c (omega arith) ∙ elim (before-or-at c side below) [
      | inl l ↦ rw (before c l) refl
      | inr e ↦ or_right (has_loaded old c) (c == side) (eq-eqb c side e)
    ]

-- both blocks of a strand with two sides are loaded
pub both-loaded : (old between new : Frontier)
    → ((c : ℕ) → c < old.sides → has_loaded between c ≡ (has_loaded old c || (c == 0)))
    → ((c : ℕ) → c < between.sides → has_loaded new c ≡ (has_loaded between c || (c == 1)))
    → old.sides ≡ 2 → between.sides ≡ 2 → (c : ℕ) → c < 2 → has_loaded new c ≡ true
both-loaded old between new one other two still =
    one-loaded between new 1 other
    (one-loaded old between 0 one (λ c l. absurd (omega arith)) (omega arith)) (omega arith)

-- a strand is the same as one that is the same as it
pub same-on : (one two three : Frontier) → IsSameStrand one two → IsSameStrand two three
    → IsSameStrand one three
same-on one two three a b = record {
  number_is = b.number_is ∙ a.number_is;
  window_is = b.window_is ∙ a.window_is;
  windows_are = b.windows_are ∙ a.windows_are;
  sides_are = b.sides_are ∙ a.sides_are;
  fold_is = record {
    spans_are = b.fold_is.spans_are ∙ a.fold_is.spans_are;
    probes_are = b.fold_is.probes_are ∙ a.fold_is.probes_are;
    steps_are = b.fold_is.steps_are ∙ a.fold_is.steps_are;
    every_is = b.fold_is.every_is ∙ a.fold_is.every_is;
  };
}

pub same-itself : (one : Frontier) → IsSameStrand one one
same-itself one = record {
  number_is = refl;
  window_is = refl;
  windows_are = refl;
  sides_are = refl;
  fold_is = record { spans_are = refl; probes_are = refl; steps_are = refl; every_is = refl };
}
