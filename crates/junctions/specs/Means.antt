-- Means of heads by weights.
use Rattle.std.specs.Prelude.{ℤ, pos, negsuc, ◌+◌, ◌*◌}

-- twice a number, less one where it is below 0
abbrev pub twice_down : ℤ → ℤ
twice_down (pos n) = pos (2 * n)
twice_down (negsuc n) = negsuc (2 * n + 2)
