-- The samples of points without a cavity, one point more.
use Rattle.std.proofs.Common.{◌≡◌, ◌≢◌, ◌∙◌, ℕ, ◌+◌, ◌<◌, refl, sym, ap, subst, inl, inr, List, [], length, get_or, Option, Some, None, arith}
use Rattle.case_model.specs.declared.spots.Spot.{Spot}
use Rattle.case_model.specs.Runs.{calm_at, calm_point}
use Rattle.case_model.specs.Samples.{Sample, point_sample}
use Rattle.case_model.proofs.Running.{calm_spot}
use Rattle.envelope.specs.Extremes.{either, AgreeAlong}
use Rattle.envelope.specs.Lines.{AreSameWidths, HasRoom, HasSamples}
use Rattle.envelope.specs.declared.samples.Sample.{Sample as Kept}
use Rattle.std.proofs.lemmas.Bool.{cases_eq}

-- the first so many of these points are kept in the lines of the cells from `first` on
pub record HaveKept (spots : List Spot) (marks : List (Option ℕ)) (first count step every : ℕ) (old new : List (List (Option Kept))) : Type 0 where
  pub here : (i line last : ℕ) (f g : ℕ → Option Sample) → i < count → AgreeAlong f g → get_or marks (first + i) None ≡ Some line
      → g step ≡ point_sample (calm_at spots i) → ((s : ℕ) → s ≢ step → g s ≡ None)
      → HasSamples f last every (get_or old line []) → HasSamples (either f g) last every (get_or new line [])
  pub others : (l : ℕ) → ((i : ℕ) → i < count → get_or marks (first + i) None ≢ Some l) → get_or new l [] ≡ get_or old l []
  pub same : AreSameWidths old new

pub none-kept : (spots : List Spot) (marks : List (Option ℕ)) (first step every : ℕ) (lines : List (List (Option Kept))) → HaveKept spots marks first 0 step every lines lines
none-kept spots marks first step every lines = record {
  here = λ i line last f g h. absurd (omega arith);
  others = λ l h. refl;
  same = record { lines = refl; widths = λ l. refl };
}

pub room-still : (marks more : List (Option ℕ)) (old new : List (List (Option Kept))) (cell j : ℕ) → HasRoom marks old cell j → AreSameWidths old new → more ≡ marks → HasRoom more new cell j
room-still marks more old new cell j h s e line q =
    let r = h line (ap (λ m. get_or m cell None) (sym e) ∙ q) in
    (subst (λ n. line < n) (sym s.lines) r.0, subst (λ n. j < n) (sym (s.widths line)) r.1)

-- what keeping one point does
pub record IsKeptIn (marks : List (Option ℕ)) (cell step every : ℕ) (spot : Spot) (old new : List (List (Option Kept))) : Type 0 where
  pub here : (line last : ℕ) (f g : ℕ → Option Sample) → AgreeAlong f g → get_or marks cell None ≡ Some line
      → g step ≡ point_sample (calm_point spot) → ((s : ℕ) → s ≢ step → g s ≡ None)
      → HasSamples f last every (get_or old line []) → HasSamples (either f g) last every (get_or new line [])
  pub others : (l : ℕ) → get_or marks cell None ≢ Some l → get_or new l [] ≡ get_or old l []
  pub same : AreSameWidths old new

pub kept-more : (spots : List Spot) (marks : List (Option ℕ)) (first i step every : ℕ) (old mid new : List (List (Option Kept))) (spot : Spot) → i < length spots → spot ≡ get_or spots i spot
    → ((c d line : ℕ) → get_or marks c None ≡ Some line → get_or marks d None ≡ Some line → c ≡ d)
    → HaveKept spots marks first i step every old mid → IsKeptIn marks (first + i) step every spot mid new
    → HaveKept spots marks first (i + 1) step every old new
kept-more spots marks first i step every old mid new spot l e own h k = record {
  here = λ j line last f g b a m gs gn p. elim (cases_eq j i) [
    | inl w ↦
        let m' : get_or marks (first + i) None ≡ Some line = ap (λ z. get_or marks (first + z) None) (sym w) ∙ m in
        k.here line last f g a m' (gs ∙ ap (λ z. point_sample (calm_at spots z)) w ∙ ap point_sample (calm_spot spots i spot l ∙ ap calm_point (sym e))) gn
        (subst (λ xs. HasSamples f last every xs)
        (sym (h.others line (λ x y z. let q = own (first + x) (first + i) line z m' in absurd (omega arith)))) p)
    | inr w ↦
        subst (λ xs. HasSamples (either f g) last every xs)
        (sym (k.others line (λ z. w (let q = own (first + j) (first + i) line m z in omega arith))))
        (h.here j line last f g (omega arith) a m gs gn p)
  ];
  others = λ z n. k.others z (n i (omega arith)) ∙ h.others z (λ x b. n x (omega arith));
  same = record { lines = k.same.lines ∙ h.same.lines; widths = λ z. k.same.widths z ∙ h.same.widths z };
}
