-- Samples in a line, and the lines of cells.
use Rattle.std.proofs.Common.{◌≡◌, ◌≢◌, ◌∙◌, ℕ, ◌+◌, ◌*◌, ◌/◌, ◌%◌, ◌-◌, ◌<◌, ◌≤◌, ◌⊎◌, inl, inr, refl, sym, ap, subst, true, List, [], length, get_or, set, Option, Some, None, arith, mul-div_cancel}
use Rattle.std.proofs.lemmas.List.{get_or-set_same, get_or-set_other, length-set}
use Rattle.std.proofs.lemmas.List.{get_or_read}
use Rattle.std.proofs.Math.Nat.{mul-mod_left, mod-eq-sub-div-mul, div-mul-le_self}
use Rattle.case_model.specs.Samples.{Sample}
use Rattle.envelope.specs.Cells.{is_within, cell_of, span_of, first_of_span, IsRising, IsLaidOut}
use Rattle.envelope.specs.Extremes.{either, AgreeAlong}
use Rattle.envelope.specs.Lines.{told, HasSamples, IsMarked}
use Rattle.envelope.specs.declared.samples.Sample.{Sample as Kept}
use Rattle.envelope.proofs.Placed.{placed}
use Rattle.std.proofs.lemmas.Bool.{cases_eq}
use Rattle.fixed_num.proofs.Between.{le_or_more}
use Rattle.std.specs.Option.{option_or}

pub alone : {X : Type 0} (a b : Option X) → b ≡ None → option_or a b ≡ a
alone (Some x) b h = refl
alone None b h = h

second-known : {X : Type 0} (a b : Option X) (x : X) → ((y z : X) → a ≡ Some y → b ≡ Some z → y ≡ z) → b ≡ Some x → option_or a b ≡ Some x
second-known None b x h e = e
second-known (Some y) b x h e = ap (λ z. Some z) (h y x refl e)

same-factor : (i j m : ℕ) → 1 ≤ m → i * m ≡ j * m → i ≡ j
same-factor i j m p e = let q : 0 < m = omega arith in sym (mul-div_cancel i q) ∙ ap (λ n. n / m) e ∙ mul-div_cancel j q

kept-at : (f g : ℕ → Option Sample) (last every : ℕ) (line : List (Option Kept)) (at step : ℕ) (s : Kept) (j : ℕ) → 1 ≤ every → at < length line → at * every ≡ step → AgreeAlong f g
    → g step ≡ told (Some s) → ((u : ℕ) → u ≢ step → g u ≡ None) → HasSamples f last every line
    → (j ≡ at) ⊎ (j ≢ at) → j < length line → j * every ≤ last → told (get_or (set line at (Some s)) j None) ≡ either f g (j * every)
kept-at f g last every line at step s j p l e a gs gn h (inl w) b c =
    rw (w, get_or-set_same line at (Some s) None l, e) (sym (second-known (f step) (g step) _ (a step) gs))
kept-at f g last every line at step s j p l e a gs gn h (inr w) b c =
    let n : j * every ≢ step = λ q. w (same-factor j at every p (q ∙ sym e)) in
    rw (get_or-set_other line at j (Some s) None w) (h j b c ∙ sym (alone (f (j * every)) (g (j * every)) (gn (j * every) n)))

pub kept-sample : (f g : ℕ → Option Sample) (last every : ℕ) (line : List (Option Kept)) (at step : ℕ) (s : Kept) → 1 ≤ every → at < length line → at * every ≡ step → AgreeAlong f g
    → g step ≡ told (Some s) → ((u : ℕ) → u ≢ step → g u ≡ None) → HasSamples f last every line → HasSamples (either f g) last every (set line at (Some s))
kept-sample f g last every line at step s p l e a gs gn h =
    λ j b c. kept-at f g last every line at step s j p l e a gs gn h (cases_eq j at) (subst (λ n. j < n) (length-set line at (Some s)) b) c

pub not-sampled : (f g : ℕ → Option Sample) (last every : ℕ) (line : List (Option Kept)) (step : ℕ) → step % every ≢ 0
    → ((u : ℕ) → u ≢ step → g u ≡ None) → HasSamples f last every line → HasSamples (either f g) last every line
not-sampled f g last every line step m gn h =
    λ j b c. h j b c ∙ sym (alone (f (j * every)) (g (j * every)) (gn (j * every) (λ q. m (ap (λ n. n % every) (sym q) ∙ mul-mod_left j every))))

-- two places don't share a cell
cells-in-order : (spans : List (ℕ × ℕ)) (bases : List ℕ) (k l : ℕ) → IsRising spans → IsLaidOut spans bases → is_within spans k ≡ true → is_within spans l ≡ true → span_of spans k < span_of spans l
    → cell_of spans bases k < cell_of spans bases l
unfolding cell_of
cells-in-order spans bases k l r o wk wl h =
    let p = placed spans k r wk in
    let q = placed spans l r wl in
    let low = p.low in
    let high = p.high in
    let there = q.there in
    let a = o.apart (span_of spans k) (span_of spans l) h (omega arith) in
    omega arith

same-span : (spans : List (ℕ × ℕ)) (bases : List ℕ) (k l : ℕ) → IsRising spans → is_within spans k ≡ true → is_within spans l ≡ true → span_of spans k ≡ span_of spans l
    → cell_of spans bases k ≡ cell_of spans bases l → k ≡ l
unfolding cell_of
same-span spans bases k l r wk wl h e =
    let p : first_of_span spans (span_of spans k) ≤ k = (placed spans k r wk).low in
    let q : first_of_span spans (span_of spans k) ≤ l = rw h (placed spans l r wl).low in
    let d : get_or bases (span_of spans k) 0 + (k - first_of_span spans (span_of spans k)) ≡ get_or bases (span_of spans k) 0 + (l - first_of_span spans (span_of spans k))
    = e ∙ ap (λ i. get_or bases i 0 + (l - first_of_span spans i)) (sym h) in
    omega arith

pub one-place : (spans : List (ℕ × ℕ)) (bases : List ℕ) (k l : ℕ) → IsRising spans → IsLaidOut spans bases → is_within spans k ≡ true → is_within spans l ≡ true
    → cell_of spans bases k ≡ cell_of spans bases l → k ≡ l
one-place spans bases k l r o wk wl e = elim (le_or_more (span_of spans k) (span_of spans l)) [
  | inl a ↦ elim (le_or_more (span_of spans l) (span_of spans k)) [
    | inl b ↦ same-span spans bases k l r wk wl (omega arith) e
    | inr b ↦ let c = cells-in-order spans bases k l r o wk wl b in absurd (omega arith)
  ]
  | inr a ↦ let c = cells-in-order spans bases l k r o wl wk a in absurd (omega arith)
]

pub marked-more : (spans : List (ℕ × ℕ)) (bases probes : List ℕ) (n c : ℕ) (marks : List (Option ℕ)) → IsMarked spans bases probes n marks → c ≡ cell_of spans bases (get_or probes n 0) → c < length marks
    → IsMarked spans bases probes (n + 1) (set marks c (Some n))
marked-more spans bases probes n c marks h e l = record {
  own = λ d line q. elim (cases_eq d c) [
    | inl w ↦
        let k : Some n ≡ Some line = sym (get_or-set_same marks c (Some n) None l) ∙ ap (λ i. get_or (set marks c (Some n)) i None) (sym w) ∙ q in
        let m : n ≡ line = cc in
        (omega arith, ap (λ i. cell_of spans bases (get_or probes i 0)) (sym m) ∙ sym e ∙ sym w)
    | inr w ↦
        let k = h.own d line (sym (get_or-set_other marks c d (Some n) None w) ∙ q) in
        let b : line < n = k.0 in
        (omega arith, k.1)
  ];
  each = λ p b. elim (cases_eq (cell_of spans bases (get_or probes p 0)) c) [
    | inl w ↦ λ q.
        let k : Some n ≡ None = sym (get_or-set_same marks c (Some n) None l) ∙ ap (λ i. get_or (set marks c (Some n)) i None) (sym w) ∙ q in cc
    | inr w ↦ λ q. elim (cases_eq p n) [
      | inl v ↦ w (ap (λ i. cell_of spans bases (get_or probes i 0)) v ∙ sym e)
      | inr v ↦ h.each p (omega arith) (sym (get_or-set_other marks c (cell_of spans bases (get_or probes p 0)) (Some n) None w) ∙ q)
    ]
  ];
}

pub whole-steps : (step every : ℕ) → step % every ≡ 0 → step / every * every ≡ step
whole-steps step every h = let e = mod-eq-sub-div-mul step every in let l = div-mul-le_self step every in omega arith

pub set-here : (samples : List (List (Option Kept))) (line : ℕ) (new old : List (Option Kept)) (at : ℕ) (s : Option Kept) → line < length samples → old ≡ get_or samples line old → new ≡ set old at s
    → get_or (set samples line new) line [] ≡ set (get_or samples line []) at s
set-here samples line new old at s l e h = get_or-set_same samples line new [] l ∙ h ∙ ap (λ xs. set xs at s) (get_or_read samples line old l e [])
