-- What blocks tell of two points at one distance from the station.
use Rattle.std.specs.Prelude.{◌==◌}
use Rattle.std.proofs.Common.{◌≡◌, ℕ, ◌+◌, ◌-◌, ◌*◌, ◌/◌, ◌<◌, ◌∙◌, ap, sym, arith}
use Rattle.case_model.specs.declared.points.Point.{Point}
use Rattle.fronts.specs.Stretches.{count_of, kept}
use Rattle.strands.specs.Beside.{beside, station_tells}
use Rattle.strands.specs.Blocks.{from_end, section_tells, station_step}
use Rattle.strands.specs.declared.handed.SectionBlock.{SectionBlock}
use Rattle.strands.specs.declared.handed.StationBlock.{StationBlock}
use Rattle.strands.proofs.Loading.{step-first, step-second}

pub section-read : (block : SectionBlock) (i j step : ℕ) (own told : Point) → j / 2 ≡ i → step ≡ block.start + (j + 1) / 2
    → own ≡ kept block.stretch.now step (from_end (block.left == 1) (count_of block.stretch.now - 1) (i + 1))
    → section_tells block j told → own ≡ told
unfolding section_tells
section-read block i j step own told half at is tells =
    let place = λ (z : ℕ). from_end (block.left == 1) (count_of block.stretch.now - 1) (z + 1) in
    is ∙ ap (λ z. kept block.stretch.now step (place z)) (sym half)
    ∙ ap (λ z. kept block.stretch.now z (place (j / 2))) at ∙ tells

pub station-read : (block : StationBlock) (i j step : ℕ) (own told : Point) → j / 2 ≡ i → step ≡ block.start + station_step block.window j
    → own ≡ kept block.stretch.now step (beside (block.right == 1) block.at i)
    → station_tells block j told → own ≡ told
unfolding station_tells
station-read block i j step own told half at is tells =
    let place = beside (block.right == 1) block.at in
    is ∙ ap (λ z. kept block.stretch.now step (place z)) (sym half)
    ∙ ap (λ z. kept block.stretch.now z (place (j / 2))) at ∙ tells

pub earlier-step : (w s i : ℕ) → 2 * i + 1 < w → s + (w - 1 - i) ≡ s + station_step w (2 * i)
earlier-step w s i h =
    let e : s + (w - 1 - i) ≡ s + (w - i) - 1 = omega arith in
    e ∙ step-first w s i h

pub later-step : (w s i : ℕ) → 2 * i + 1 < w → s + (w - 1 - i) + 1 ≡ s + station_step w (2 * i + 1)
later-step w s i h =
    let e : s + (w - 1 - i) + 1 ≡ s + (w - i) = omega arith in
    e ∙ step-second w s i h
