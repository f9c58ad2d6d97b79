-- The discrete vapour cavity: its volume grows by the difference of the flows on its two sides.
-- After Wylie and Streeter, Fluid Transients in Systems: column separation.
use Rattle.std.specs.Prelude.{◌≤◌, ℤ, pos, ◌+ℤ◌, ◌-ℤ◌, ◌*ℤ◌, ◌≤ℤ◌, unsigned_abs}
use Rattle.fixed_num.specs.Rounding.{rnd}
use Rattle.case_model.specs.declared.meshes.CavityRule.{CavityRule}

-- what a cavity is computed with, within its limits: time step in 1e-6 s, weight in tenths, vapour
-- head in 1e-6 m
pub record IsRule (rule : CavityRule) : Type 0 where
  pub least_dt : pos 1 ≤ℤ rule.dt
  pub most_dt : rule.dt ≤ℤ pos 1_000_000
  pub least_weight : pos 5 ≤ℤ rule.psi
  pub most_weight : rule.psi ≤ℤ pos 10
  pub head : unsigned_abs rule.hv ≤ 100_000_000_000

-- the volume in 1e-9 m3 that a cavity has one time step later, by its volume, its growth before and
-- its growth now in 1e-9 m3/s; it may be negative
unfoldable pub cavity_volume : CavityRule → ℤ → ℤ → ℤ → ℤ
cavity_volume rule volume before now =
    volume +ℤ rnd (rule.dt *ℤ ((rule.psi *ℤ now) +ℤ ((pos 10 -ℤ rule.psi) *ℤ before)))
    (pos 10_000_000)
