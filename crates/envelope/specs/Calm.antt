-- Points without a cavity, as a fold takes them in.
use Rattle.std.specs.Prelude.{◌≡◌, ◌≢◌, ℕ, ◌≤◌, ℤ, pos, ◌≤ℤ◌, Option, Some, None}
use Rattle.std.specs.Prelude.{List, slice_index_or}
use Rattle.case_model.specs.declared.points.Point.{Point}
use Rattle.case_model.specs.Samples.{Sample, point_sample}
use Rattle.envelope.specs.Extremes.{AgreeAlong, HasExtreme, either, unmet}
use Rattle.envelope.specs.declared.extremes.Extreme.{Extreme}

-- at this step a head with a volume is no new extreme, and no extreme stands first at a later step
pub record IsSettled (step : ℕ) (h v : ℤ) (e : Extreme) : Type 0 where
  pub low : e.min ≤ℤ h
  pub high : h ≤ℤ e.max
  pub full : v ≤ℤ e.volume
  pub high_first : e.max_step ≤ step
  pub low_first : e.min_step ≤ step
  pub full_first : e.volume_step ≤ step

-- no extreme stands first at a later step
pub record IsEarly (step : ℕ) (e : Extreme) : Type 0 where
  pub high_first : e.max_step ≤ step
  pub low_first : e.min_step ≤ step
  pub full_first : e.volume_step ≤ step

-- besides, the volume is below 0 just where nothing is taken
pub record IsPlain (step : ℕ) (e : Extreme) : Type 0 where
  pub early : IsEarly step e
  pub taken : pos 0 ≤ℤ e.volume → e.min ≤ℤ e.max
  pub filled : e.min ≤ℤ e.max → pos 0 ≤ℤ e.volume

-- the same of each of these cells
abbrev pub ArePlain : ℕ → List Extreme → Type 0
ArePlain step cells = (c : ℕ) → IsPlain step (slice_index_or cells c unmet)

-- besides, this volume is no new greatest one
pub record IsReady (step : ℕ) (v : ℤ) (e : Extreme) : Type 0 where
  pub plain : IsPlain step e
  pub full : e.min ≤ℤ e.max → v ≤ℤ e.volume

-- an extreme after a sample of a head and a volume at a step
pub record IsJoined (step : ℕ) (h v : ℤ) (old new : Extreme) : Type 0 where
  pub here : (x : Sample) → x.h ≡ h → x.v ≡ v
      → (f g : ℕ → Option Sample) (last : ℕ) → step ≤ last → AgreeAlong f g
      → g step ≡ Some x → ((s : ℕ) → s ≢ step → g s ≡ None)
      → HasExtreme f last old → HasExtreme (either f g) last new
  pub plain : (last : ℕ) → step ≤ last → pos 0 ≤ℤ v → IsPlain last old → IsPlain last new

-- an extreme after the sample of a point at a step
abbrev pub Joins : Extreme → Extreme → ℕ → Point → Type 0
Joins old new step point =
    (f g : ℕ → Option Sample) (last : ℕ) → step ≤ last → AgreeAlong f g
    → g step ≡ point_sample point → ((s : ℕ) → s ≢ step → g s ≡ None)
    → HasExtreme f last old → HasExtreme (either f g) last new
