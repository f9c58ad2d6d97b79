-- Two reads one behind the other.
use Rattle.std.proofs.Common.{◌≡◌, ℕ, ◌+◌, ◌-◌, min, ◌<◌, ◌≤◌, arith, length-append, length-drop, List, [], ◌∷◌, ◌++◌, length, take, drop, Option, None, Some, IfSome, sym, ◌∙◌, ap, append_assoc, append-nil}
use Rattle.std.proofs.lemmas.Fn.{FoldsTo-push}
use Rattle.std.proofs.lemmas.List.{drop-drop, length-take, nil_from_length, take-append-drop}
use Rattle.std.proofs.lemmas.List.Folds.{concat-append}
use Rattle.std.specs.List.{concat}
use Rattle.surge_io.proofs.Appending.{take-rest}
use Rattle.surge_io.specs.Bytes.{HasRead, Takes}
use Rattle.surge_io.specs.Readings.{GivesSome, HasTaken, HasTakenAll, Loses}

-- what was taken first, and then the first `n` bytes that a read put into its buffer
pub HasRead-more : (before mid now : Option (List ℕ)) (taken buffer : List ℕ) (n : ℕ) → HasRead before mid taken → IfSome mid (λ bytes. Takes n buffer now bytes) → HasRead before now (taken ++ take n buffer)
HasRead-more None mid now taken buffer n first next = tt
HasRead-more (Some bytes) mid now taken buffer n first next =
    let takes : Takes n buffer now first.0 = rw first.1 at next in
    let parts : take n buffer ++ drop n first.0 ≡ first.0 = ap (λ l. l ++ drop n first.0) takes.front ∙ take-append-drop n first.0 in
    (drop n first.0, takes.rest, first.2 ∙ ap (λ l. taken ++ l) (sym parts) ∙ sym (append_assoc taken (take n buffer) (drop n first.0)))

-- what was taken first, and then nothing
pub HasRead-still : (before mid now : Option (List ℕ)) (taken : List ℕ) → HasRead before mid taken → now ≡ mid → HasRead before now taken
HasRead-still before mid now taken first same = rw same first

-- what was taken first, and then the bytes of one more read
pub HasTaken-more : {S : Type 0} (gives : S → ℕ → Option (List ℕ) → S → Type 0) (before mid now : S) (taken piece : List ℕ) (room : ℕ)
    → HasTaken gives before taken mid → 0 < length piece → gives mid room (Some piece) now → HasTaken gives before (taken ++ piece) now
HasTaken-more gives before mid now taken piece room first some next = (
  first.0 ++ piece ∷ [],
  FoldsTo-push (GivesSome gives) before first.0 mid piece now first.1 (room, some, next),
  ap (λ l. l ++ piece) first.2 ∙ sym (concat-append first.0 (piece ∷ []) ∙ ap (λ l. concat first.0 ++ l) (append-nil piece)),
)

-- what was taken first is all where a read with room gave none
pub met_end : {S : Type 0} (gives : S → ℕ → Option (List ℕ) → S → Type 0) (before mid now : S) (taken buffer : List ℕ) (room n : ℕ)
    → HasTaken gives before taken mid → gives mid room (Some (take n buffer)) now → 0 < room → n ≡ 0 → HasTakenAll gives before taken now
met_end gives before mid now taken buffer room n first next some none =
    (mid, first, (room, some, rw none at next))

-- what was taken first, and then some bytes of a read that asked for no more than one byte past the limit
pub one_more : {S : Type 0} (gives : S → ℕ → Option (List ℕ) → S → Type 0) (before mid now : S) (taken piece buffer : List ℕ) (wanted limit n : ℕ)
    → HasTaken gives before taken mid → length taken ≤ limit → length taken + wanted ≤ limit + 1 → length buffer ≡ length (take wanted piece) → n ≤ length (take wanted piece) → (n ≡ 0 → ⊥)
    → gives mid (length (take wanted piece)) (Some (take n buffer)) now
    → (length (taken ++ take n buffer) ≤ limit + 1) × HasTaken gives before (taken ++ take n buffer) now
one_more gives before mid now taken piece buffer wanted limit n first few room same within some next =
    let size : length (take n buffer) ≡ n = omega (arith, length-take n buffer, same, within) in (
      omega (arith, length-append taken (take n buffer), size, within, length-take wanted piece, room),
      HasTaken-more gives before mid now taken (take n buffer) (length (take wanted piece)) first (omega (arith, size, some)) next,
    )

-- a source in memory has lost what a read put into its buffer of the bytes behind the first `at`
pub lost : (at n piece : ℕ) (bytes into buffer : List ℕ) → n ≡ min piece (min (length into) (length (take (length bytes - at) (drop at bytes))))
    → take n buffer ≡ take n (take (length bytes - at) (drop at bytes)) → length buffer ≡ length into → 1 ≤ piece
    → Loses (Some (drop at bytes)) (Some (drop (at + n) bytes)) (length into) (Some (take n buffer))
lost at n piece bytes into buffer count front size some =
    let same = take-rest at bytes in
    let counted : n ≡ min piece (min (length into) (length (drop at bytes))) = rw same at count in
    let parts : drop at bytes ≡ take n (drop at bytes) ++ drop (at + n) bytes = sym (ap (λ l. take n (drop at bytes) ++ l) (sym (drop-drop n at bytes)) ∙ take-append-drop n (drop at bytes)) in (
      parts ∙ ap (λ l. l ++ drop (at + n) bytes) (sym (front ∙ ap (take n) same)),
      λ none room. nil_from_length (drop (at + n) bytes) (omega (arith, counted, ap length none, length-take n buffer, size, room, some, length-drop (at + n) bytes, length-drop at bytes)),
    )
