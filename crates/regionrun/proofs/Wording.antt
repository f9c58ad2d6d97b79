-- Blocks as words: the words of a block's points, and the points of its words.
use Rattle.std.specs.Prelude.{◌≡◌, ℕ, ◌+◌, ◌*◌, ◌==◌, List, length, slice_index_or}
use Rattle.std.proofs.Common.{◌∙◌, ap, subst, arith, inl, inr}
use Rattle.case_model.specs.declared.points.Point.{Point}
use Rattle.case_model.specs.Meaning.{IsMeaning, Meaning}
use Rattle.case_model.specs.Range.{IsPoint}
use Rattle.case_model.specs.Rows.{row}
use Rattle.case_model.specs.Words.{words_of}
use Rattle.case_model.proofs.RowLaws.{row-good}
use Rattle.regions.specs.declared.shapes.Layout.{Layout}
use Rattle.regions.specs.declared.shapes.Spot.{Spot}
use Rattle.regions.specs.declared.shapes.Spot.TheVariants.{AtNode, Inside}
use Rattle.regions.specs.Blocks.{block_spot, block_step}
use Rattle.regions.specs.Sides.{back_of, side_of}
use Rattle.regionrun.specs.Bodies.{HasOutgoing}
use Rattle.regionrun.specs.Handed.{ArePointsFor, AreWordsOf, IsBlockFor, IsWritten, block_point}
use Rattle.regionrun.specs.Handed.{point_on, quad, words_have, words_tell}
use Rattle.regionrun.specs.Right.{IsGiven, IsWanted}
use Rattle.regionrun.specs.declared.bodies.Body.{Body}
use Rattle.regionrun.specs.declared.bodies.Body.TheVariants.{OfNode, OfSeam, OfSection}
use Rattle.regionrun.specs.declared.frontiers.Frontier.{Frontier}
use Rattle.strands.proofs.Handing.{before-or-at}
use Rattle.strands.specs.Beside.{inner_side}
use Rattle.strands.specs.Blocks.{HasPoints, section_side}
use Rattle.strands.specs.Hubs.{spokes_of}
use Rattle.strands.specs.Spokes.{spoke_inner}
use Rattle.strands.specs.Stations.{half}

-- ---- the points of a block are in range

on-ranged : (law : Meaning) (s : ℕ) (spot : Spot) → IsMeaning law → IsPoint (point_on (row law s) spot)
on-ranged law s (AtNode node) meaning = tt
on-ranged law s (Inside pipe place) meaning = (row-good law meaning s).points pipe place

block-ranged : (law : Meaning) (layout : Layout) (y c b j : ℕ) → IsMeaning law
    → IsPoint (block_point law layout y c b j)
unfolding block_point
block-ranged law layout y c b j meaning =
    on-ranged law (block_step layout y b j) (block_spot layout law.mesh y c j) meaning

-- words that are wanted are a block that is given
pub given-of : (law : Meaning) (layout : Layout) (frontier : Frontier) (side : ℕ)
    (words : List ℕ) → IsMeaning law → IsWanted law layout frontier side words
    → IsGiven law layout frontier side (words_tell words)
given-of law layout frontier side words meaning wanted =
    let x : ℕ = frontier.number in
    let y = side_of layout law.mesh x side in
    let back = back_of layout law.mesh x side in
    record {
      right = wanted.right;
      side = wanted.side;
      block = wanted.block;
      needed = wanted.needed;
      handed = record {
        each = λ j below. (
          block-ranged law layout y back wanted.block j meaning,
          wanted.handed.points.each j below,
        );
      };
    }

-- the words of one point more are written
pub words-more : (index : ℕ) (tells : ℕ → Point → Type 0) (point : Point)
    (old new : List ℕ) → ((p : Point) → tells index p → point ≡ p)
    → IsWritten index point old new → AreWordsOf index tells old
    → AreWordsOf (index + 1) tells new
words-more index tells point old new read written before = record {
  each = λ j p below told. elim (before-or-at j index below) [
    | inl l ↦ written.beside j (λ e. absurd (omega arith)) ∙ before.each j p l told
    | inr e ↦
        let here : tells index p = subst (λ (k : ℕ). tells k p) e told in
        ap (quad new) e ∙ written.here ∙ ap words_of (read p here)
  ];
}

-- ---- the words of a block

-- a block whose points have these words is that block as words
pub words-for : (law : Meaning) (layout : Layout) (y c b : ℕ) (words : List ℕ)
    → length words ≡ 4 * layout.window → ArePointsFor law layout y c b (words_have words)
    → IsBlockFor law layout y c b words
words-for law layout y c b words size has = record {
  each = size;
  points = record { each = λ j below. has.each j below };
}

-- what is said of the points of a block that is handed on is said of their words
points-told : (count : ℕ) (point : ℕ → Point) (tells : ℕ → Point → Type 0) (words : List ℕ)
    → AreWordsOf count tells words → HasPoints count point tells
    → HasPoints count point (words_have words)
points-told count point tells words are has = record {
  each = λ j below. are.each j (point j) below (has.each j below);
}

pub words-outgoing : (law : Meaning) (w m side : ℕ) (body : Body) (tells : ℕ → Point → Type 0)
    (words : List ℕ) → AreWordsOf w tells words → HasOutgoing law w m side body tells
    → HasOutgoing law w m side body (words_have words)
words-outgoing law w m side (OfSection section) tells words are has =
    points-told w (section_side law section.stretch (side == 0) (m * w)) tells words are has
words-outgoing law w m side (OfSeam seam) tells words are has =
    points-told w (inner_side law seam.stretch (side == 1) (half w) w (m * w)) tells words are has
words-outgoing law w m side (OfNode hub) tells words are has = λ d.
    points-told w (spoke_inner law w (m * w) (slice_index_or (spokes_of hub) side d)) tells words
    are (has d)
