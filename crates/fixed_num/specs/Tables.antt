-- Integer roots, and the value of a table of points between its points.
use Rattle.std.specs.Prelude.{◌≡◌, ℕ, ◌+◌, ◌-◌, ◌*◌, ◌<◌, ◌≤◌, if◌then◌else◌}
use Rattle.std.specs.Prelude.{ℤ, pos, ◌+ℤ◌, ◌-ℤ◌, ◌*ℤ◌, ◌≤ℤ◌, ◌<ℤ◌, int_lt, unsigned_abs}
use Rattle.std.specs.Prelude.{List, [], ◌∷◌, length, slice_index_or}
use Rattle.fixed_num.specs.Rounding.{rnd}

-- x is the greatest whole number whose square is at most n
pub record IsRoot (n x : ℤ) : Type 0 where
  pub low : pos 0 ≤ℤ x
  pub below : unsigned_abs x * unsigned_abs x ≤ unsigned_abs n
  pub above : unsigned_abs n < (unsigned_abs x + 1) * (unsigned_abs x + 1)

-- a point of a table by its place, counted from 0
abbrev pub entry_at : List (ℤ × ℤ) → ℕ → ℤ × ℤ
entry_at points k = slice_index_or points k (pos 0, pos 0)

-- the first numbers strictly rise
abbrev pub Rises : List (ℤ × ℤ) → Type 0
Rises points =
    (k : ℕ) → k + 1 < length points
    → ((entry_at points k).0 +ℤ pos 1) ≤ℤ (entry_at points (k + 1)).0

-- the value at t on the line from one point to the next
unfoldable pub on_line : ℤ × ℤ → ℤ × ℤ → ℤ → ℤ
on_line from to t = from.1 +ℤ rnd ((to.1 -ℤ from.1) *ℤ (t -ℤ from.0)) (to.0 -ℤ from.0)

-- the value of a table at t: constant before its first point and after its last, else on the line
-- between the two points beside it
unfoldable pub interp : List (ℤ × ℤ) → ℤ → ℤ
interp [] t = pos 0
interp (last ∷ []) t = last.1
interp (from ∷ to ∷ points) t =
    if int_lt t to.0
    then (if int_lt t from.0 then from.1 else on_line from to t)
    else interp (to ∷ points) t

-- x is the value of a table at t
pub record IsInterpolated (points : List (ℤ × ℤ)) (t x : ℤ) : Type 0 where
  pub before : t ≤ℤ (entry_at points 0).0 → x ≡ (entry_at points 0).1
  pub after : (entry_at points (length points - 1)).0 ≤ℤ t
      → x ≡ (entry_at points (length points - 1)).1
  pub between : (k : ℕ) → k + 1 < length points
      → (entry_at points k).0 ≤ℤ t → t <ℤ (entry_at points (k + 1)).0
      → x ≡ on_line (entry_at points k) (entry_at points (k + 1)) t

-- a number within these limits
pub record IsBetween (least most x : ℤ) : Type 0 where
  pub low : least ≤ℤ x
  pub high : x ≤ℤ most
