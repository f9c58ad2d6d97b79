use Rattle.std.proofs.Common.{◌≡◌, ◌∙◌, ℕ, ◌<◌, ◌^◌, pos, ◌-ℤ◌, arith, to_z, of_z}
use Rattle.std.specs.Int.{w128}
use Rattle.std.proofs.lemmas.Int.{ints}
use Rattle.case_model.specs.Words.{point_with}
use Rattle.case_model.proofs.WordLaws.{same_numbers}
use Rattle.case_model.proofs.words.good_point.Goals as goal

-- a word less 10^13, in 128 bits
less_shift : (w : ℕ) → w < 2 ^ 64 → to_z w128 (of_z w128 (to_z w128 w -ℤ pos 10_000_000_000_000)) ≡ pos w -ℤ pos 10_000_000_000_000
less_shift w h = omega (arith, ints)

widened : (w : ℕ) → w < 2 ^ 64 → to_z w128 w ≡ pos w
widened w h = omega (arith, ints)

pub returns : goal.returns
unfolding point_with
returns c =
    c.point_of.ensures.value
    ∙ same_numbers _ _ _ _ _ _ _ _ (less_shift c.args.head (omega arith)) (less_shift c.args.up (omega arith)) (less_shift c.args.down (omega arith)) (widened c.args.volume (omega arith))
