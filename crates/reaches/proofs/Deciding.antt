-- What is decided of a pipe: it can be divided exactly where it breaks no rule.
use Rattle.std.proofs.Common.{◌≡◌, ℕ, ◌+◌, ◌≤◌, ◌==◌, ◌&&◌, ◌||◌, not, Bool, true, false, ℤ, pos, List, [], ◌∷◌, ◌++◌, length, get_or, Result, Ok, Err, MatchResult, inl, inr, refl, ap, subst, sym, ◌∙◌, arith}
use Rattle.std.proofs.lemmas.Int.{ints}
use Rattle.std.proofs.lemmas.Bool.{cases_lt}
use Rattle.std.proofs.lemmas.List.{get_or_append_left, get_or-append-add, length-append, get_or_past}
use Rattle.case_model.specs.declared.cases.Case.{Case}
use Rattle.case_model.specs.declared.cases.Pipe.{Pipe}
use Rattle.case_model.specs.Formulas.{cut, reach_count, b_of, r_of}
use Rattle.case_model.specs.Limits.{IsWithin}
use Rattle.case_model.specs.Parts.{no_pipe, pipe_at}
use Rattle.case_model.specs.Division.{is_count, is_adjusted, are_accepted, has_coefficients, is_divided, divides}
use Rattle.case_model.specs.Refusals.{breaks_pipe}
use Rattle.reaches.specs.declared.pipes.Division.{Division}
use Rattle.reaches.specs.Decided.{IsInReaches, IsDecided, IsDivision, AreDecidedTo, AreDecided}
use Rattle.reaches.proofs.Divided.{are_kept}
use Rattle.reaches.proofs.Sizes.{and_false, accepted_as_cut}

none : (p q r s : Bool) → ((p && false) || (q && false) || (r && false) || (s && false)) ≡ true → ⊥
none p q r s h =
    let e : ((p && false) || (q && false) || (r && false) || (s && false)) ≡ false = rw (and_false p, and_false q, and_false r, and_false s) refl in
    let f : false ≡ true = sym e ∙ h in cc

broken_pipe : (n : ℕ) (a b c d : Bool) → (((n == 11) && a) || ((n == 12) && not b) || ((n == 13) && b && not c) || ((n == 15) && b && not d)) ≡ true → (not a && b && c && d) ≡ false
broken_pipe n true b c d h = refl
broken_pipe n false false c d h = refl
broken_pipe n false true false d h = refl
broken_pipe n false true true false h = refl
broken_pipe n false true true true h = absurd (none (n == 11) (n == 12) ((n == 13) && true) ((n == 15) && true) h)

pub refused : (dt tolerance : ℤ) (p : Pipe) (n : ℕ) → breaks_pipe dt tolerance p n ≡ true → is_divided dt tolerance p ≡ false
unfolding breaks_pipe
refused dt tolerance p n h =
    let m = reach_count dt p in broken_pipe n (p.first == p.last) (is_count m) (is_adjusted dt tolerance m p) (has_coefficients dt m p) h

pub unbroken : (dt tolerance : ℤ) (p : Pipe) (n : ℕ) → is_divided dt tolerance p ≡ true → breaks_pipe dt tolerance p n ≡ true → ⊥
unbroken dt tolerance p n d h = let e : false ≡ true = sym (refused dt tolerance p n h) ∙ d in cc

-- a pipe in reaches, from its coefficients as they are cut
pub in_reaches : (dt : ℤ) (n : ℕ) (p : Pipe) (x y : ℤ) → n ≤ 65_536 → x ≡ cut (pos 10_000_000_000_000) (b_of dt n p) → y ≡ cut (pos 100_000_000_000_000_000_000) (r_of n p) → are_accepted x y ≡ true
    → IsInReaches dt n p (record { reaches = n; b = x; r = y })
unfolding has_coefficients
in_reaches dt n p x y few e f h =
    let t : are_accepted (b_of dt n p) (r_of n p) ≡ true = sym (accepted_as_cut x y (b_of dt n p) (r_of n p) e f) ∙ h in
    let k = are_kept (b_of dt n p) (r_of n p) t in
    record {
      accepted = t;
      reaches = refl;
      b = e ∙ k.b_cut;
      r = f ∙ k.r_cut;
      few = few;
      b_in = subst (IsWithin (pos 0) (pos 10_000_000_000_000)) (sym (e ∙ k.b_cut)) (record { low = (let l = k.b_low in omega (arith, ints)); high = k.b_high });
    }

pub not_in_reaches : (dt : ℤ) (n : ℕ) (p : Pipe) (x y : ℤ) → x ≡ cut (pos 10_000_000_000_000) (b_of dt n p) → y ≡ cut (pos 100_000_000_000_000_000_000) (r_of n p) → are_accepted x y ≡ false
    → has_coefficients dt n p ≡ false
unfolding has_coefficients
not_in_reaches dt n p x y e f h = sym (accepted_as_cut x y (b_of dt n p) (r_of n p) e f) ∙ h

-- what is decided of a pipe, and of one that the case does not have
found_in : (case : Case) (p : ℕ) (o : Result Division ℕ) → IsDecided case p o → MatchResult o (IsDivision case p) (λ n. divides case p ≡ false)
unfolding divides
found_in case p (Ok d) h = h
found_in case p (Err n) h = refused case.dt case.tolerance (pipe_at case p) n h.0

found_past : (case : Case) (p : ℕ) → length case.pipes ≤ p → divides case p ≡ false
unfolding divides
found_past case p h = rw (get_or_past case.pipes p no_pipe h) refl

pub found_at : (case : Case) (xs : List (Result Division ℕ)) (p : ℕ) (o : Result Division ℕ) → AreDecided case xs → o ≡ get_or xs p (Err 0) → MatchResult o (IsDivision case p) (λ n. divides case p ≡ false)
found_at case xs p o h e = elim (cases_lt p (length case.pipes)) [
  | inl l ↦ found_in case p o (subst (IsDecided case p) (sym e) (h.found p l))
  | inr m ↦ subst (λ (r : Result Division ℕ). MatchResult r (IsDivision case p) (λ n. divides case p ≡ false)) (sym (e ∙ get_or_past xs p (Err 0) (let n = h.each in omega arith))) (found_past case p m)
]

-- what is decided of one pipe more
pub decided_more : (case : Case) (n : ℕ) (xs ys : List (Result Division ℕ)) (x : Result Division ℕ) → AreDecidedTo case n xs → ys ≡ xs ++ x ∷ [] → IsDecided case n x → AreDecidedTo case (n + 1) ys
decided_more case n xs ys x h e d = subst (AreDecidedTo case (n + 1)) (sym e) (record {
  each = length-append xs (x ∷ []) ∙ ap (λ m. m + 1) h.each;
  found = λ p l. elim (cases_lt p n) [
    | inl b ↦ let k = h.each in subst (IsDecided case p) (sym (get_or_append_left xs (x ∷ []) (Err 0) p (omega arith))) (h.found p b)
    | inr m ↦ let k = h.each in let same : length xs + 0 ≡ p = omega arith in
        let at : get_or (xs ++ x ∷ []) p (Err 0) ≡ x = ap (λ i. get_or (xs ++ x ∷ []) i (Err 0)) (sym same) ∙ get_or-append-add xs (x ∷ []) 0 (Err 0) in
        subst (IsDecided case p) (sym at) (subst (λ i. IsDecided case i x) (omega arith) d)
  ];
})
