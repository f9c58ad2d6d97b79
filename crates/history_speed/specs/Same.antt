-- Blocks that are all the same, and a seat that stands before block n of them.
use Rattle.std.specs.Prelude.{◌≡◌, ℕ, replicate}
use Rattle.atomic_table.specs.Seated.{TableId}
use Rattle.endhistory.specs.declared.views.Sizes.{Sizes}
use Rattle.endhistory.specs.Blocks.{Blocks}
use Rattle.endhistory.specs.Seats.{Place, IsAt, blocks_of, writing, reading}

-- `count` blocks of `width` words that are 7
abbrev pub same_blocks : ℕ → ℕ → Blocks
same_blocks count width = replicate count (replicate width 7)

abbrev pub StandsToWrite : TableId → Sizes → ℕ → ℕ → Place → Type 0
StandsToWrite id z count n s =
    IsAt id z s × (blocks_of s ≡ same_blocks count z.width) × ((writing s).next ≡ n)

abbrev pub StandsToRead : TableId → Sizes → ℕ → ℕ → Place → Type 0
StandsToRead id z count n s =
    IsAt id z s × (blocks_of s ≡ same_blocks count z.width) × ((reading s).next ≡ n)
    × ((reading s).taken ≡ 0)
