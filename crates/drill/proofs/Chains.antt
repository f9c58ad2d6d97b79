-- One line more, and five fields more.
use Rattle.std.proofs.Common.{◌≡◌, ◌∙◌, ℕ, zero, suc, ◌+◌, List, [], ◌∷◌, ◌++◌, refl, ap, sym, append_assoc, append-nil, arith}
use Rattle.std.specs.List.{flat_map, range_with_len}
use Rattle.surge_io.specs.Fields.{fields_text}
use Rattle.drill.specs.Network.{drawn, junction_text, junctions_text, next, pipe_text, pipes_text}

lines_cut : (f : ℕ → List ℕ) (a n : ℕ) → flat_map f (range_with_len a n) ++ f (a + n) ≡ flat_map f (range_with_len a (n + 1))
lines_cut f a zero = let e : a + zero ≡ a = omega arith in rw e (sym (append-nil (f a)))
lines_cut f a (suc n) =
    let e : suc n + 1 ≡ suc (n + 1) = omega arith in
    let d : a + suc n ≡ (a + 1) + n = omega arith in
    rw (e, d) (append_assoc (f a) (flat_map f (range_with_len (a + 1) n)) (f ((a + 1) + n)) ∙ ap (λ l. f a ++ l) (lines_cut f (a + 1) n))

lines_next : (f : ℕ → List ℕ) (n : ℕ) → flat_map f (range_with_len 1 n) ++ f (n + 1) ≡ flat_map f (range_with_len 1 (n + 1))
lines_next f n = let e : 1 + n ≡ n + 1 = omega arith in ap (λ k. flat_map f (range_with_len 1 n) ++ f k) (sym e) ∙ lines_cut f 1 n

-- a text with the first junctions, and with one more
pub one_junction : (before : List ℕ) (n : ℕ) → (before ++ junctions_text n) ++ junction_text (n + 1) ≡ before ++ junctions_text (n + 1)
unfolding junctions_text
one_junction before n = append_assoc before (flat_map junction_text (range_with_len 1 n)) (junction_text (n + 1)) ∙ ap (λ l. before ++ l) (lines_next junction_text n)

pub drawn_next : (number n : ℕ) → next (drawn number n) ≡ drawn number (n + 1)
unfolding drawn
drawn_next number n = let e : n + 1 ≡ suc n = omega arith in rw e refl

-- a text with the first pipes, and with one more
pub one_pipe : (before : List ℕ) (number n x : ℕ) → x ≡ drawn number (n + 1) → (before ++ pipes_text number n) ++ pipe_text (n + 1) x ≡ before ++ pipes_text number (n + 1)
unfolding pipes_text
one_pipe before number n x e =
    rw e (append_assoc before (flat_map (λ k. pipe_text k (drawn number k)) (range_with_len 1 n)) (pipe_text (n + 1) (drawn number (n + 1)))
    ∙ ap (λ l. before ++ l) (lines_next (λ k. pipe_text k (drawn number k)) n))

-- a text with no junction and with no pipe
pub no_junction : (before : List ℕ) → before ≡ before ++ junctions_text 0
unfolding junctions_text
no_junction before = sym (append-nil before)

pub no_pipe : (before : List ℕ) (number : ℕ) → before ≡ before ++ pipes_text number 0
unfolding pipes_text
no_pipe before number = sym (append-nil before)

pub none_drawn : (number : ℕ) → number ≡ drawn number 0
unfolding drawn
none_drawn number = refl

-- five fields behind a text
pub five_fields : (before a b c d e : List ℕ) → ((((before ++ 32 ∷ a) ++ 32 ∷ b) ++ 32 ∷ c) ++ 32 ∷ d) ++ 32 ∷ e ≡ before ++ fields_text (a ∷ b ∷ c ∷ d ∷ e ∷ [])
five_fields before a b c d e =
    append_assoc (((before ++ 32 ∷ a) ++ 32 ∷ b) ++ 32 ∷ c) (32 ∷ d) (32 ∷ e)
    ∙ append_assoc ((before ++ 32 ∷ a) ++ 32 ∷ b) (32 ∷ c) (32 ∷ (d ++ 32 ∷ e))
    ∙ append_assoc (before ++ 32 ∷ a) (32 ∷ b) (32 ∷ (c ++ 32 ∷ (d ++ 32 ∷ e)))
    ∙ append_assoc before (32 ∷ a) (32 ∷ (b ++ 32 ∷ (c ++ 32 ∷ (d ++ 32 ∷ e))))
    ∙ ap (λ l. before ++ 32 ∷ (a ++ 32 ∷ (b ++ 32 ∷ (c ++ 32 ∷ (d ++ 32 ∷ l))))) (sym (append-nil e))
