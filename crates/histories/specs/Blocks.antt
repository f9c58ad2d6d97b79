-- The blocks of a strand as lists of words, and the sizes of the history that hands them on.
use Rattle.std.specs.Prelude.{ℕ, ◌*◌, List, map}
use Rattle.std.specs.List.{flat_map, range_with_len}
use Rattle.case_model.specs.Meaning.{Meaning}
use Rattle.case_model.specs.Words.{words_of}
use Rattle.case_model.specs.declared.meshes.Mesh.{Mesh}
use Rattle.endhistory.specs.Blocks.{Blocks, sizes_of}
use Rattle.endhistory.specs.declared.views.Sizes.{Sizes}
use Rattle.regions.specs.Sides.{sides_of}
use Rattle.regions.specs.declared.shapes.Layout.{Layout}
use Rattle.regionrun.specs.Handed.{block_point}

-- the words of block b of strand y for its side c: those of its points, in order
unfoldable pub side_words : Meaning → Layout → ℕ → ℕ → ℕ → List ℕ
side_words law layout y b c =
    flat_map (λ j. words_of (block_point law layout y c b j)) (range_with_len 0 layout.window)

-- the words of block b of strand y: those for all its sides, one after another
unfoldable pub block_words : Meaning → Layout → ℕ → ℕ → List ℕ
block_words law layout y b =
    flat_map (side_words law layout y b) (range_with_len 0 (sides_of layout law.mesh y))

-- the blocks of strand y, in order: one for each window
unfoldable pub blocks_of_strand : Meaning → Layout → ℕ → Blocks
blocks_of_strand law layout y = map (block_words law layout y) (range_with_len 0 layout.windows)

-- how many words a block of strand y has: four for each of the window's points of each side
abbrev pub block_width : Layout → Mesh → ℕ → ℕ
block_width layout mesh y = 4 * layout.window * sides_of layout mesh y

-- the sizes of the history of strand y: it has a reader for each side of the strand
abbrev pub sizes_at : Layout → Mesh → ℕ → ℕ → Sizes
sizes_at layout mesh slots y =
    sizes_of slots (block_width layout mesh y) (sides_of layout mesh y)
