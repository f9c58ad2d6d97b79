-- A text cut at its first mark.
use Rattle.std.proofs.Common.{ℕ, ◌+◌, ◌-◌, ◌<◌, ◌≡◌, Bool, List, [], ◌∷◌, length, take, drop, arith}
use Rattle.std.specs.List.{position_or_len, slice_split}
use Rattle.std.proofs.lemmas.List.{take_rest, length-drop}
use Rattle.std.proofs.lemmas.List.Splits.{slice_split_first, slice_split_none}
use Rattle.std.proofs.lemmas.List.Sums.{fails_before_first}

-- where there is no mark, the text is the one part
pub parts_none : (p : ℕ → Bool) (bytes : List ℕ) (at : ℕ) → at ≡ position_or_len p bytes → at ≡ length bytes → slice_split p bytes ≡ bytes ∷ []
parts_none p bytes at e h = slice_split_none p bytes (λ k d l. fails_before_first p bytes k d (omega arith))

-- else the first part stands before the mark, and the others are those of the text behind it
pub parts_first : (p : ℕ → Bool) (bytes : List ℕ) (at : ℕ) → at ≡ position_or_len p bytes → at < length bytes →
    slice_split p bytes ≡ take at bytes ∷ slice_split p (take (length bytes - (at + 1)) (drop (at + 1) bytes))
parts_first p bytes at e h = rw (take_rest bytes (at + 1), e) (slice_split_first p bytes 0 (omega arith))

pub shorter : (bytes : List ℕ) (at : ℕ) → at < length bytes → length (take (length bytes - (at + 1)) (drop (at + 1) bytes)) < length bytes
shorter bytes at h = rw (take_rest bytes (at + 1)) (omega (arith, length-drop (at + 1) bytes))
