-- Runs of inner places of a pipe without cavities, friction taken explicitly: what they are
-- computed with, and values that stand for the characteristics between them.
use Rattle.std.specs.Prelude.{◌≡◌, ◌≤◌, ◌<◌, ◌+◌, ◌*◌, ◌%◌, ℕ, ℤ, pos, negsuc}
use Rattle.std.specs.Prelude.{◌-ℤ◌, ◌≤ℤ◌, unsigned_abs}
use Rattle.std.specs.Prelude.{Some}
use Rattle.fixed_num.specs.Rounding.{rnd}
use Rattle.case_model.specs.declared.cases.Friction.TheVariants.{Explicit}
use Rattle.case_model.specs.declared.points.Point.{Point}
use Rattle.case_model.specs.declared.spots.Spot.{Spot}
use Rattle.case_model.specs.declared.meshes.CavityRule.{CavityRule}
use Rattle.case_model.specs.Runs.{calm_point}
use Rattle.charline.specs.Characteristics.{arrive_plus, arrive_minus}
use Rattle.charline.specs.Characteristics.{impedance_head, friction_head, driven_flow}
use Rattle.charline.specs.Interior.{inner_point}

-- a friction in units of 2^-80 of 1e12 s2/m5, less than two units too low; the numerals are 5^24
-- and 2^56, since 10^24 / 2^80 is 5^24 / 2^56
pub record IsScaled (r scaled : ℕ) : Type 0 where
  pub below : scaled * 59_604_644_775_390_625 ≤ r * 72_057_594_037_927_936
  pub above : r * 72_057_594_037_927_936 < (scaled + 2) * 59_604_644_775_390_625

-- the inverse of an impedance in 1e-6 s/m2, in 1e-16 m2/s
pub record IsInverse (b : ℕ) (inverse : ℤ) : Type 0 where
  pub value : inverse ≡ rnd (pos 10_000_000_000_000_000_000_000) (pos b)
  pub low : pos 1_000_000_000 ≤ℤ inverse
  pub high : inverse ≤ℤ pos 100_000_000_000_000_000

-- an impedance in 1e-6 s/m2, a friction in 1e-12 s2/m5 and the same scaled, a difference of heads
-- that drives no more than the greatest flow through twice the impedance, a flow in 1e-9 m3/s up to
-- which 64 bits suffice, a head in 1e-6 m, and twice the impedance
pub record IsPrepared (b r : ℕ) (most : ℤ) (scaled few : ℕ) (top twice : ℤ) : Type 0 where
  pub low : 100_000 ≤ b
  pub high : b ≤ 10_000_000_000_000
  pub friction : r ≤ 7_000_000_000_000_000_000
  pub some : pos 0 ≤ℤ most
  pub difference : unsigned_abs most ≤ 4_611_686_018
  pub flow : unsigned_abs most ≤ 2_000 * b
  pub scaling : IsScaled r scaled
  pub slow : few < 2_147_483_648
  pub product : b * few < 4_611_686_018_427_387_904
  pub head : unsigned_abs top ≤ 100_000_000_000
  pub divisor : twice ≡ pos (2 * b)

-- a value that is that of the characteristic C+ of a point, or out of the range of characteristics
pub record IsPlus (b r : ℕ) (from : Point) (c : ℤ) : Type 0 where
  pub size : unsigned_abs c ≤ 2_000_000_000_000_000_000
  pub value : unsigned_abs c ≤ 10_000_000_000_000
      → arrive_plus Explicit (pos b) (pos r) from ≡ Some (record { c = c; b = pos b })

-- the same of C-
pub record IsMinus (b r : ℕ) (from : Point) (c : ℤ) : Type 0 where
  pub size : unsigned_abs c ≤ 2_000_000_000_000_000_000
  pub value : unsigned_abs c ≤ 10_000_000_000_000
      → arrive_minus Explicit (pos b) (pos r) from ≡ Some (record { c = c; b = pos b })

-- a number that lies at least 128 units from a tie of 2^16 of them, where a half and 128 units are
-- added to it
pub record IsFarFromTie (near : ℤ) : Type 0 where
  pub up : (n : ℕ) → near ≡ pos n → 256 ≤ n % 65_536
  pub down : (n : ℕ) → near ≡ negsuc n → n % 65_536 < 65_280

-- the head that a flow stands for less that which friction takes from it, or one out of the range
-- of characteristics
abbrev pub IsRise : ℕ → ℕ → ℤ → ℤ → Type 0
IsRise b r q rise =
    unsigned_abs rise ≤ 100_000_000_000_000
    → rise ≡ impedance_head (pos b) q -ℤ friction_head (pos r) q

-- a place at this head, from `top` on, with the flow that a difference of characteristics drives
-- through twice this impedance, the difference up to `most`
pub record IsDriven (b : ℕ) (top most head difference : ℤ) (next : Spot) : Type 0 where
  pub at : next.h ≡ head
  pub flow : next.q ≡ driven_flow difference (pos (2 * b))
  pub above : top ≤ℤ head
  pub near : unsigned_abs difference ≤ unsigned_abs most

-- a place without a cavity is that of the interior law between each two points with these
-- characteristics and for each vapour head up to `top`, where it had no cavity before
abbrev pub IsCalmSpot : ℕ → ℕ → ℤ → ℤ → ℤ → Spot → Type 0
IsCalmSpot b r top plus minus next =
    (rule : CavityRule) (left right : Point) (own : Spot) → rule.hv ≤ℤ top
    → IsPlus b r left plus → IsMinus b r right minus
    → calm_point next
    ≡ inner_point Explicit rule (pos b) (pos r) left (calm_point own) right
