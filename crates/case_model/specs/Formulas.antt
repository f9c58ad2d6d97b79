-- Courant division of a pipe: its reaches, impedance, friction and elevations, in whole numbers
-- with one rounding rule. After Wylie and Streeter, Fluid Transients in Systems: method of
-- characteristics for complex systems, wave speed adjustment.
use Rattle.std.specs.Prelude.{ℕ, ℤ, pos, ◌+ℤ◌, ◌-ℤ◌, ◌*ℤ◌, unsigned_abs, int_le, if◌then◌else◌}
use Rattle.fixed_num.specs.Rounding.{rnd}
use Rattle.case_model.specs.declared.cases.Pipe.{Pipe}

-- the area in 1e-6 m2 of a diameter in 1e-3 m, with 355/452 for pi/4
unfoldable pub area : ℤ → ℤ
area diameter = rnd (diameter *ℤ diameter *ℤ pos 355) (pos 452)

-- the nearest number of reaches that a wave of this speed (1e-3 m/s) passes in one time step
-- (1e-6 s) each, on this length (1e-3 m)
unfoldable pub nearest_reaches : ℤ → ℤ → ℤ → ℤ
nearest_reaches length speed dt = rnd (length *ℤ pos 1_000_000) (speed *ℤ dt)

-- the wave speed in 1e-3 m/s at which a wave passes one of n reaches in one time step
unfoldable pub adjusted_speed : ℤ → ℤ → ℤ → ℤ
adjusted_speed length dt n = rnd (length *ℤ pos 1_000_000) (n *ℤ dt)

-- the characteristic impedance a/(g*A) in 1e-6 s/m2, of length, time step, reaches and area
unfoldable pub impedance : ℤ → ℤ → ℤ → ℤ → ℤ
impedance length dt n area =
    rnd (length *ℤ pos 100_000_000_000_000_000_000) (n *ℤ dt *ℤ pos 980_665 *ℤ area)

-- the friction f*dx/(2*g*D*A^2) of one reach in 1e-12 s2/m5, of friction factor, length, reaches,
-- diameter and area
unfoldable pub resistance : ℤ → ℤ → ℤ → ℤ → ℤ → ℤ
resistance friction length n diameter area =
    rnd (friction *ℤ length *ℤ pos 100_000_000_000_000_000_000_000)
    (pos 2 *ℤ pos 980_665 *ℤ n *ℤ diameter *ℤ (area *ℤ area))

-- a number, or one more than the most where it is over that
abbrev pub cut : ℤ → ℤ → ℤ
cut most x = if int_le x most then x else most +ℤ pos 1

-- the count of reaches of a pipe at a time step
unfoldable pub reach_count : ℤ → Pipe → ℕ
reach_count dt p = unsigned_abs (nearest_reaches p.length p.speed dt)

-- the impedance of a pipe in n reaches
abbrev pub b_of : ℤ → ℕ → Pipe → ℤ
b_of dt n p = impedance p.length dt (pos n) (area p.diameter)

-- the friction of one of n reaches of a pipe
abbrev pub r_of : ℕ → Pipe → ℤ
r_of n p = resistance p.friction p.length (pos n) p.diameter (area p.diameter)

-- the elevation of place i of n reaches between two elevations
unfoldable pub elevation_between : ℤ → ℤ → ℕ → ℕ → ℤ
elevation_between first last i n = first +ℤ rnd ((last -ℤ first) *ℤ pos i) (pos n)
