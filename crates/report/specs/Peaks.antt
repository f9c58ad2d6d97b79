-- The greatest and the least head over the places of all pipes.
use Rattle.std.specs.Prelude.{◌≡◌, ◌<◌, ◌⊎◌, ◌&&◌, ◌||◌, not, nat_lt, Bool, ◌<ℤ◌, int_lt, List}
use Rattle.std.specs.Prelude.{slice_index_or}
use Rattle.std.specs.List.{filter, list_any}
use Rattle.case_model.specs.declared.cases.ProbeAt.{ProbeAt}
use Rattle.case_model.specs.declared.cases.ProbeAt.TheVariants.{OnPipe}
use Rattle.case_model.specs.declared.meshes.Mesh.{Mesh}
use Rattle.envelope.specs.declared.extremes.Extreme.{Extreme}
use Rattle.report.specs.Places.{IsOnPipe, IsBefore, pipe_places}

-- a greatest head passes another where it is greater, or as great and stands at an earlier step
unfoldable pub is_above : Extreme → Extreme → Bool
is_above a b = int_lt b.max a.max || (not (int_lt a.max b.max) && nat_lt a.max_step b.max_step)

-- a least head passes another where it is less, or as small and stands at an earlier step
unfoldable pub is_below : Extreme → Extreme → Bool
is_below a b = int_lt a.min b.min || (not (int_lt b.min a.min) && nat_lt a.min_step b.min_step)

-- no place of these passes this one
abbrev pub is_unpassed : (Extreme → Extreme → Bool) → (ProbeAt → Extreme) → List ProbeAt → ProbeAt
    → Bool
is_unpassed passes extremes places at =
    not (list_any (λ other. passes (extremes other) (extremes at)) places)

-- the first place of these that no other passes
abbrev pub first_unpassed : (Extreme → Extreme → Bool) → (ProbeAt → Extreme) → List ProbeAt
    → ProbeAt
first_unpassed passes extremes places =
    slice_index_or (filter (is_unpassed passes extremes places) places) 0 (OnPipe 0 0)

-- the place of a pipe with the greatest head, and that with the least; of equal heads that of the
-- least step, and of equal steps the first place
unfoldable pub highest : (ProbeAt → Extreme) → Mesh → ProbeAt
highest extremes mesh = first_unpassed is_above extremes (pipe_places mesh)

unfoldable pub lowest : (ProbeAt → Extreme) → Mesh → ProbeAt
lowest extremes mesh = first_unpassed is_below extremes (pipe_places mesh)

-- of two extremes with their places the first has the greater head, or as great a one at an earlier
-- step, or at the same step and its place comes first
abbrev pub StandsAbove : (ProbeAt → Extreme) → ProbeAt → ProbeAt → Type 0
StandsAbove extremes at other =
    ((extremes other).max <ℤ (extremes at).max)
    ⊎ (((extremes other).max ≡ (extremes at).max)
    × (((extremes at).max_step < (extremes other).max_step)
    ⊎ (((extremes at).max_step ≡ (extremes other).max_step) × IsBefore at other)))

-- the same of the least heads
abbrev pub StandsBelow : (ProbeAt → Extreme) → ProbeAt → ProbeAt → Type 0
StandsBelow extremes at other =
    ((extremes at).min <ℤ (extremes other).min)
    ⊎ (((extremes at).min ≡ (extremes other).min)
    × (((extremes at).min_step < (extremes other).min_step)
    ⊎ (((extremes at).min_step ≡ (extremes other).min_step) × IsBefore at other)))

-- the place stands above every other place of a pipe
pub record IsHighest (extremes : ProbeAt → Extreme) (mesh : Mesh) (at : ProbeAt) : Type 0 where
  pub there : IsOnPipe mesh at
  pub most : (other : ProbeAt) → IsOnPipe mesh other → (other ≡ at) ⊎ StandsAbove extremes at other

-- the place stands below every other place of a pipe
pub record IsLowest (extremes : ProbeAt → Extreme) (mesh : Mesh) (at : ProbeAt) : Type 0 where
  pub there : IsOnPipe mesh at
  pub least : (other : ProbeAt) → IsOnPipe mesh other → (other ≡ at) ⊎ StandsBelow extremes at other
