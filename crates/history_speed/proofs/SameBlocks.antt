-- Blocks that are all the same.
use Rattle.std.proofs.Common.{◌≡◌, ℕ, ◌<◌, List, [], length, replicate, ap, ◌∙◌, subst}
use Rattle.std.proofs.lemmas.List.{length-replicate, get_or-replicate}
use Rattle.endhistory.specs.Blocks.{block, AreWide}
use Rattle.history_speed.specs.Same.{same_blocks}

module _ (count width : ℕ) where
  pub same_length : length (same_blocks count width) ≡ count
  same_length = length-replicate count (replicate width 7)

  pub same_at : (b : ℕ) → b < count → block (same_blocks count width) b ≡ replicate width 7
  same_at b l = get_or-replicate count b (replicate width 7) [] l

  pub same_wide : AreWide width (same_blocks count width)
  same_wide b l = ap (λ (xs : List ℕ). length xs) (same_at b (subst (λ (n : ℕ). b < n) same_length l)) ∙ length-replicate width 7
