-- The words of blocks.
use Rattle.std.proofs.Common.{◌≡◌, ℕ, ◌+◌, ◌*◌, ◌<◌, ◌≤◌, ◌∙◌, ap, sym, refl, subst, arith, List, [], length}
use Rattle.std.proofs.Math.Nat.{mul-le-mul_left}
use Rattle.std.proofs.lemmas.List.FromFn.{get_or-map-range_with_len, length-map-range_with_len}
use Rattle.case_model.specs.Meaning.{Meaning}
use Rattle.case_model.specs.Words.{words_of}
use Rattle.case_model.specs.declared.points.Point.{Point}
use Rattle.case_model.specs.declared.points.Point.TheVariants.{Good, Bad}
use Rattle.endhistory.specs.Blocks.{AreWide, block}
use Rattle.regions.specs.Sides.{sides_of}
use Rattle.regions.specs.declared.shapes.Layout.{Layout}
use Rattle.regionrun.specs.Handed.{IsBlock, IsBlockFor, block_point, part, quad}
use Rattle.histories.specs.Blocks.{block_width, block_words, blocks_of_strand, side_words}
use Rattle.histories.proofs.Joined.{joined, joined-length, part-joined, part-quad}

four-words : (p : Point) → length (words_of p) ≡ 4
four-words (Good h qu qd v) = refl
four-words Bad = refl

-- ---- the words for one side

side-length : (law : Meaning) (layout : Layout) (y b c : ℕ)
    → length (side_words law layout y b c) ≡ 4 * layout.window
unfolding side_words
side-length law layout y b c =
    joined-length 4 layout.window (λ j. words_of (block_point law layout y c b j))
    (λ j. four-words (block_point law layout y c b j))

side-is : (law : Meaning) (layout : Layout) (y b c : ℕ)
    → IsBlockFor law layout y c b (side_words law layout y b c)
unfolding side_words
side-is law layout y b c =
    let words : ℕ → List ℕ = λ j. words_of (block_point law layout y c b j) in
    let size = side-length law layout y b c in
    record {
      each = size;
      points = record {
        each = λ j below.
            let room : 4 * (j + 1) ≤ 4 * layout.window = omega arith in
            sym (part-quad j (side_words law layout y b c) (omega (arith, size)))
            ∙ part-joined 4 layout.window j words
            (λ k. four-words (block_point law layout y c b k)) below;
      };
    }

side-only : (law : Meaning) (layout : Layout) (y b c : ℕ) (words : List ℕ)
    → IsBlockFor law layout y c b words → words ≡ side_words law layout y b c
unfolding side_words
side-only law layout y b c words is =
    joined 4 layout.window words (λ j. words_of (block_point law layout y c b j)) is.each
    (λ j below. part-quad j words (omega (arith, is.each)) ∙ is.points.each j below)

-- ---- the words of a block

block-length : (law : Meaning) (layout : Layout) (y b : ℕ)
    → length (block_words law layout y b) ≡ block_width layout law.mesh y
unfolding block_words
block-length law layout y b =
    joined-length (4 * layout.window) (sides_of layout law.mesh y) (side_words law layout y b)
    (side-length law layout y b)

pub block-is : (law : Meaning) (layout : Layout) (y b : ℕ)
    → IsBlock law layout y b (block_words law layout y b)
unfolding block_words
block-is law layout y b = record {
  each = block-length law layout y b;
  parts = λ c below.
      subst (IsBlockFor law layout y c b)
      (sym (part-joined (4 * layout.window) (sides_of layout law.mesh y) c
      (side_words law layout y b) (side-length law layout y b) below))
      (side-is law layout y b c);
}

pub block-only : (law : Meaning) (layout : Layout) (y b : ℕ) (words : List ℕ)
    → IsBlock law layout y b words → words ≡ block_words law layout y b
unfolding block_words
block-only law layout y b words is =
    joined (4 * layout.window) (sides_of layout law.mesh y) words (side_words law layout y b)
    is.each
    (λ c below. side-only law layout y b c (part (4 * layout.window) c words) (is.parts c below))

-- ---- the blocks of a strand

pub blocks-count : (law : Meaning) (layout : Layout) (y : ℕ)
    → length (blocks_of_strand law layout y) ≡ layout.windows
unfolding blocks_of_strand
blocks-count law layout y = length-map-range_with_len (block_words law layout y) 0 layout.windows

pub blocks-each : (law : Meaning) (layout : Layout) (y b : ℕ) → b < layout.windows
    → block (blocks_of_strand law layout y) b ≡ block_words law layout y b
unfolding blocks_of_strand
blocks-each law layout y b below =
    get_or-map-range_with_len (block_words law layout y) 0 layout.windows b b [] below (omega arith)

pub blocks-wide : (law : Meaning) (layout : Layout) (y : ℕ)
    → AreWide (block_width layout law.mesh y) (blocks_of_strand law layout y)
blocks-wide law layout y b below =
    ap (length {A = ℕ})
    (blocks-each law layout y b (omega (arith, below, blocks-count law layout y)))
    ∙ block-length law layout y b
