-- The blocks of a counting tag.
use Rattle.std.proofs.Common.{◌≡◌, ℕ, ◌+◌, ◌*◌, ◌<◌, List, [], length, get_or, sym, ap, ◌∙◌, subst, arith}
use Rattle.std.proofs.lemmas.List.{ext_get_or}
use Rattle.std.proofs.lemmas.List.FromFn.{get_or-map-range_with_len, length-map-range_with_len}
use Rattle.endhistory.specs.Blocks.{block, AreWide, count_block, count_blocks}

module _ (base width count : ℕ) where
  pub counted_length : length (count_blocks base width count) ≡ count
  counted_length = length-map-range_with_len (count_block base width) 0 count

  pub counted_at : (b : ℕ) → b < count → block (count_blocks base width count) b ≡ count_block base width b
  counted_at b l = get_or-map-range_with_len (count_block base width) 0 count b b [] l (omega arith)

  pub counted_wide : AreWide width (count_blocks base width count)
  counted_wide b l = ap (λ (xs : List ℕ). length xs) (counted_at b (subst (λ (n : ℕ). b < n) counted_length l)) ∙ length-map-range_with_len (λ (i : ℕ). base + b * width + i) 0 width

  -- a list of the width that counts on from the block's first word is the block
  pub counted_block : (b : ℕ) (words : List ℕ) → b < count → length words ≡ width → ((i : ℕ) → i < width → get_or words i 0 ≡ base + b * width + i) → words ≡ block (count_blocks base width count) b
  counted_block b words l wide each =
      ext_get_or 0 words (count_block base width b) (wide ∙ sym (length-map-range_with_len (λ (i : ℕ). base + b * width + i) 0 width))
      (λ i m. each i (subst (λ (n : ℕ). i < n) wide m) ∙ sym (get_or-map-range_with_len (λ (i : ℕ). base + b * width + i) 0 width i i 0 (subst (λ (n : ℕ). i < n) wide m) (omega arith)))
      ∙ sym (counted_at b l)
