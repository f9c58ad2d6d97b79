-- Slots lie apart, and within the table.
use Rattle.std.proofs.Common.{◌≡◌, ◌≢◌, ℕ, suc, ◌+◌, ◌*◌, ◌%◌, ◌<◌, ◌≤◌, List, length, get_or, set, sym, ◌∙◌, subst, mul-le-mul_right, suc-mul, lt_of_not-le, mod-lt, arith}
use mathlib.Core.Logic.{dite}
use native.Mathlib.Decide.{dec_le, ℕ_discrete}
use Rattle.std.proofs.lemmas.List.{get_or-set_other, get_or-set_same}
use Rattle.endhistory.specs.declared.views.Sizes.{Sizes}
use Rattle.endhistory.specs.Blocks.{Blocks, data_word, word_count}
use Rattle.endhistory.specs.Rule.{IsStored}

further : (x y n : ℕ) → x < y → x * n + n ≤ y * n
further x y n h = let a : suc x * n ≤ y * n = mul-le-mul_right n h in omega (arith, suc-mul x n)

apart : (a b w i j : ℕ) → i < w → j < w → a ≢ b → a * w + i ≢ b * w + j
apart a b w i j l m other e = dite (dec_le b a)
    (λ le. dite (dec_le a b) (λ ge. other (omega arith)) (λ lt. let f = further b a w (lt_of_not-le lt) in omega arith))
    (λ lt. let f = further a b w (lt_of_not-le lt) in omega arith)

-- a list of numbers that rises where one of them is set
pub risen : (known : List ℕ) (r n : ℕ) → r < length known → get_or known r 0 ≤ n → (k : ℕ) → get_or known k 0 ≤ get_or (set known r n) k 0
risen known r n l le k = dite (ℕ_discrete k r)
    (λ e. subst (λ (j : ℕ). get_or known j 0 ≤ get_or (set known r n) j 0) (sym e) (subst (λ (x : ℕ). get_or known r 0 ≤ x) (sym (get_or-set_same known r n 0 l)) le))
    (λ other. omega (arith, get_or-set_other known r k n 0 other))

module _ (z : Sizes) where
  pub slot_apart : (c d i j : ℕ) → i < z.width → j < z.width → c % z.slots ≢ d % z.slots → data_word z c i ≢ data_word z d j
  slot_apart c d i j l m other e = let f = apart (c % z.slots) (d % z.slots) z.width i j l m other in f (omega arith)

  pub data_inside : (c i : ℕ) → 0 < z.slots → i < z.width → data_word z c i < word_count z
  data_inside c i some l = let f = further (c % z.slots) z.slots z.width (mod-lt c some) in omega arith

  pub data_past : (c i k : ℕ) → k < 1 + z.readers → data_word z c i ≢ k
  data_past c i k l e = omega arith

  -- a slot whose words did not change is stored as before
  pub same_slot : (blocks : Blocks) (words words' : List ℕ) (c n : ℕ) → ((i : ℕ) → i < n → get_or words' (data_word z c i) 0 ≡ get_or words (data_word z c i) 0)
      → IsStored z blocks words c n → IsStored z blocks words' c n
  same_slot blocks words words' c n same s i l = same i l ∙ s i l

  -- a count that is set leaves all slots
  pub set_count : (blocks : Blocks) (words : List ℕ) (k x c n : ℕ) → k < 1 + z.readers → IsStored z blocks words c n → IsStored z blocks (set words k x) c n
  set_count blocks words k x c n l = same_slot blocks words (set words k x) c n (λ i _. get_or-set_other words k (data_word z c i) x 0 (data_past c i k l))
