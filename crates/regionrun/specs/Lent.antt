-- The blocks that strands at rest lend, by the kind of the strand.
use Rattle.std.specs.Prelude.{ℕ}
use Rattle.case_model.specs.declared.points.Point.{Point}
use Rattle.regionrun.specs.declared.lent.Lent.{Lent}
use Rattle.regionrun.specs.declared.lent.Lent.TheVariants.{BySection, ByStation}
use Rattle.strands.specs.Beside.{station_tells}
use Rattle.strands.specs.Blocks.{section_tells}

-- which point has a number
abbrev pub lent_tells : Lent → ℕ → Point → Type 0
lent_tells (BySection block) = section_tells block
lent_tells (ByStation block) = station_tells block

-- how many points there are
abbrev pub lent_size : Lent → ℕ
lent_size (BySection block) = block.window
lent_size (ByStation block) = block.window
