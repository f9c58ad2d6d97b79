-- Lines of plain fields read back as their fields.
use Rattle.std.proofs.Common.{ℕ, ◌-◌, ◌≡◌, ◌==◌, Bool, true, false, List, [], ◌∷◌, ◌++◌, length, map, append_assoc, refl, ap, ◌∙◌, arith}
use Rattle.std.specs.List.{All, filter, flat_map, slice_split, join_with_byte, before_first, position_or_len}
use Rattle.std.proofs.lemmas.Bool.{lt-ltb}
use Rattle.std.proofs.lemmas.List.{take_all}
use Rattle.std.proofs.lemmas.List.Elements.{All-append, All-cons, All-nil, All-head, All-tail}
use Rattle.std.proofs.lemmas.List.Splits.{slice_split_none, slice_split_at}
use Rattle.std.proofs.lemmas.List.Sums.{position_or_len_is}
use Rattle.case_lines.specs.Texts.{text_lines, without_return, without_comment, is_blank, is_some, parts_of, fields_of}
use Rattle.case_lines.proofs.LinesCut.{lines_more, lines_none}
use Rattle.case_lines.specs.Texts.{lines_of}
use Rattle.surge_io.specs.Fields.{line_of}
use Rattle.round_trip.specs.Plain.{is_plain_byte, is_plain, IsPlainLine}
use Rattle.round_trip.proofs.Tests.{plain_byte, none_passes, all_of_plain}

abbrev ArePlain : List (List ℕ) → Type 0
ArePlain fields = All (λ f. is_plain f ≡ true) fields

plain_head : (f : List ℕ) (fs : List (List ℕ)) → ArePlain (f ∷ fs) → is_plain f ≡ true
plain_head f fs h = All-head (λ (x : List ℕ). is_plain x ≡ true) f fs h

plain_tail : (f : List ℕ) (fs : List (List ℕ)) → ArePlain (f ∷ fs) → ArePlain fs
plain_tail f fs h = All-tail (λ (x : List ℕ). is_plain x ≡ true) f fs h

-- a test that neither plain bytes nor the blank between fields pass
pub record IsOutside (p : ℕ → Bool) : Type 0 where
  pub blank : p 32 ≡ false
  pub plain : (b : ℕ) → is_plain_byte b ≡ true → p b ≡ false

none_in : (p : ℕ → Bool) → ((b : ℕ) → is_plain_byte b ≡ true → p b ≡ false) → (f : List ℕ) → is_plain f ≡ true → All (λ b. p b ≡ false) f
none_in p w f h = none_passes p is_plain_byte w f (all_of_plain f h)

none_joined : (p : ℕ → Bool) → IsOutside p → (fs : List (List ℕ)) → ArePlain fs → All (λ b. p b ≡ false) (join_with_byte 32 fs)
none_joined p o [] h = All-nil (λ (b : ℕ). p b ≡ false)
none_joined p o (f ∷ []) h = none_in p o.plain f (plain_head f [] h)
none_joined p o (f ∷ g ∷ fs) h =
    All-append (λ (b : ℕ). p b ≡ false) f (32 ∷ join_with_byte 32 (g ∷ fs)) (none_in p o.plain f (plain_head f (g ∷ fs) h))
    (All-cons (λ (b : ℕ). p b ≡ false) 32 (join_with_byte 32 (g ∷ fs)) o.blank (none_joined p o (g ∷ fs) (plain_tail f (g ∷ fs) h)))

no_end : IsOutside (λ b. b == 10)
no_end = record { blank = refl; plain = λ b h. (plain_byte b h).first }

no_return : IsOutside (λ b. b == 13)
no_return = record { blank = refl; plain = λ b h. (plain_byte b h).second }

no_comment : IsOutside (λ b. b == 35)
no_comment = record { blank = refl; plain = λ b h. (plain_byte b h).third }

no_blank : (b : ℕ) → is_plain_byte b ≡ true → is_blank b ≡ false
no_blank b h = (plain_byte b h).fourth

without_none : (line : List ℕ) → All (λ b. (b == 13) ≡ false) line → without_return line ≡ line
without_none [] h = refl
without_none (x ∷ xs) h = rw (h (length (x ∷ xs) - 1) 0 (omega arith)) refl

before_none : (p : ℕ → Bool) (xs : List ℕ) → All (λ b. p b ≡ false) xs → before_first p xs ≡ xs
before_none p xs h =
    let e : position_or_len p xs ≡ length xs = position_or_len_is p xs (length xs) 0 (omega arith) (λ k l. h k 0 l) (λ l. absurd (omega arith)) in
    rw e (take_all (length xs) xs (omega arith))

parts_joined : (f : List ℕ) (fs : List (List ℕ)) → ArePlain (f ∷ fs) → slice_split is_blank (join_with_byte 32 (f ∷ fs)) ≡ f ∷ fs
parts_joined f [] h = slice_split_none is_blank f (none_in is_blank no_blank f (plain_head f [] h))
parts_joined f (g ∷ fs) h =
    slice_split_at is_blank f 32 (join_with_byte 32 (g ∷ fs)) (none_in is_blank no_blank f (plain_head f (g ∷ fs) h)) refl
    ∙ ap (λ l. f ∷ l) (parts_joined g fs (plain_tail f (g ∷ fs) h))

some_plain : (f : List ℕ) → is_plain f ≡ true → is_some f ≡ true
some_plain [] h = absurd (grind arith)
some_plain (b ∷ bs) h = lt-ltb 0 (length (b ∷ bs)) (omega arith)

all_kept : (fs : List (List ℕ)) → ArePlain fs → filter is_some fs ≡ fs
all_kept [] h = refl
all_kept (f ∷ fs) h = rw (some_plain f (plain_head f fs h)) (ap (λ l. f ∷ l) (all_kept fs (plain_tail f fs h)))

parts_back : (fields : List (List ℕ)) → IsPlainLine fields → parts_of (join_with_byte 32 fields) ≡ fields
unfolding parts_of
parts_back [] h = absurd (omega (arith, h.some))
parts_back (f ∷ fs) h = ap (filter is_some) (parts_joined f fs h.plain) ∙ all_kept (f ∷ fs) h.plain

-- a line of plain fields has just these fields
pub fields_back : (fields : List (List ℕ)) → IsPlainLine fields → fields_of (join_with_byte 32 fields) ≡ fields
unfolding fields_of
fields_back fields h =
    let line = join_with_byte 32 fields in
    ap (λ l. parts_of (without_comment l)) (without_none line (none_joined (λ b. b == 13) no_return fields h.plain))
    ∙ ap parts_of (before_none (λ b. b == 35) line (none_joined (λ b. b == 35) no_comment fields h.plain))
    ∙ parts_back fields h

cut_back : (fields : List (List ℕ)) (rest : List ℕ) → IsPlainLine fields → slice_split (λ b. b == 10) (line_of fields ++ rest) ≡ join_with_byte 32 fields ∷ slice_split (λ b. b == 10) rest
cut_back fields rest h =
    ap (slice_split (λ b. b == 10)) (append_assoc (join_with_byte 32 fields) (10 ∷ []) rest)
    ∙ slice_split_at (λ b. b == 10) (join_with_byte 32 fields) 10 rest (none_joined (λ b. b == 10) no_end fields h.plain) refl

-- a text of lines of plain fields has just these lines
pub texts_back : (lines : List (List (List ℕ))) → All IsPlainLine lines → lines_of (flat_map line_of lines) ≡ lines
unfolding lines_of
texts_back [] h = ap (map fields_of) lines_none
texts_back (l ∷ ls) h =
    let plain = All-head IsPlainLine l ls h in
    ap (map fields_of) (lines_more (line_of l ++ flat_map line_of ls) (join_with_byte 32 l) (flat_map line_of ls) (cut_back l (flat_map line_of ls) plain))
    ∙ ap (λ f. f ∷ map fields_of (text_lines (flat_map line_of ls))) (fields_back l plain)
    ∙ ap (λ more. l ∷ more) (texts_back ls (All-tail IsPlainLine l ls h))
