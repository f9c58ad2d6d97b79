use Rattle.std.specs.Prelude.{◌≡◌, ◌≢◌, ℕ, ℤ, pos, ◌+ℤ◌, ◌-ℤ◌, List, [], ◌∷◌, unsigned_abs, Option}
use Rattle.std.specs.Prelude.{Some, None}
use Rattle.case_model.specs.declared.points.Point.{Point}
use Rattle.case_model.specs.declared.points.Point.TheVariants.{Good, Bad}
use Rattle.case_model.specs.Range.{IsPoint, point_of}

-- the word of a head or a flow: the number plus 10^13
abbrev pub shifted : ℤ → ℕ
shifted n = unsigned_abs (n +ℤ pos 10_000_000_000_000)

-- the four words of a point: head, both flows, volume; for Bad four zeros
abbrev pub words_of : Point → List ℕ
words_of (Good h qu qd v) = shifted h ∷ shifted qu ∷ shifted qd ∷ unsigned_abs v ∷ []
words_of Bad = 0 ∷ 0 ∷ 0 ∷ 0 ∷ []

-- the Good point of these words, or Bad where no Good point has them
unfoldable pub point_with : ℕ → ℕ → ℕ → ℕ → Point
point_with head up down volume =
    point_of (pos head -ℤ pos 10_000_000_000_000) (pos up -ℤ pos 10_000_000_000_000)
    (pos down -ℤ pos 10_000_000_000_000) (pos volume)

-- a point in range has these words, or none is told and no such point has them
abbrev pub TellsPoint : List ℕ → Option Point → Type 0
TellsPoint words (Some p) = IsPoint p × (words_of p ≡ words)
TellsPoint words None = (p : Point) → IsPoint p → words_of p ≢ words
