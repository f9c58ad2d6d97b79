-- Points of a block that are laid into a stretch all at once.
use Rattle.std.specs.Prelude.{◌≡◌, ℕ, ◌+◌, ◌-◌, ◌*◌, ◌<◌, ◌≤◌, ◌⊎◌, Bool, if◌then◌else◌}
use Rattle.case_model.specs.declared.points.Point.{Point}
use Rattle.fronts.specs.declared.stretches.Stretch.{Stretch}
use Rattle.fronts.specs.Stretches.{is_even, kept}

-- of so many places from the lowest on, number i from below, or from above
abbrev pub in_turn : Bool → ℕ → ℕ → ℕ → ℕ
in_turn up lowest count i = lowest + (if up then i else count - 1 - i)

-- two points of a block at each of so many places in turn: the earlier one at the first place for
-- the even steps, or for the odd ones, at the next place for the others, and so on
pub record AreLaid (up even : Bool) (lowest count : ℕ) (tells : ℕ → Point → Type 0)
    (old new : Stretch) : Type 0 where
  pub earlier : (t i : ℕ) (point : Point) → i < count → is_even (t + i) ≡ even
      → tells (2 * i) point → kept new t (in_turn up lowest count i) ≡ point
  pub later : (t i : ℕ) (point : Point) → i < count → is_even (t + i + 1) ≡ even
      → tells (2 * i + 1) point → kept new t (in_turn up lowest count i) ≡ point
  pub rest : (t x : ℕ) → (x < lowest) ⊎ (lowest + count ≤ x) → kept new t x ≡ kept old t x
