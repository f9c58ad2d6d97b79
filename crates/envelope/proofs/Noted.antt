-- What a fold stands for after one noting.
use Rattle.std.proofs.Common.{◌≡◌, ◌≢◌, ◌∙◌, ℕ, ◌<◌, ◌≤◌, ◌⊎◌, inl, inr, refl, sym, ap, subst, Bool, true, false, List, Option, Some, None, arith, eq-eqb, ne_eqb}
use Rattle.std.specs.Prelude.{◌==◌, ◌&&◌, if◌then◌else◌}
use Rattle.std.proofs.Math.Bool.{and-false}
use Rattle.case_model.specs.Samples.{Sample}
use Rattle.envelope.specs.Cells.{is_within, bases_of}
use Rattle.envelope.specs.Extremes.{either, AgreeAlong}
use Rattle.envelope.specs.Changes.{IsKeptAt, IsSameLayout}
use Rattle.envelope.specs.Folds.{spans_of, steps_of}
use Rattle.envelope.specs.Layout.{StandsAt, IsHeld, marks_in, lines_in}
use Rattle.envelope.specs.Faults.{HasFault}
use Rattle.envelope.specs.Notings.{Noting, Noted, only, noted, union, Agree, column, taken, is_bad_noting}
use Rattle.envelope.specs.declared.folds.Fold.{Fold}
use Rattle.envelope.proofs.FirstBad.{first-alone, second-alone}
use Rattle.envelope.proofs.Sampled.{alone}
use Rattle.envelope.proofs.Standing.{same-standing}
use Rattle.std.proofs.lemmas.Bool.{cases_eq}
use Rattle.std.specs.Option.{option_or}

pub only-here : (step place : ℕ) (x : Noting) → only step place x step place ≡ Some x
only-here step place x = rw (eq-eqb step step refl, eq-eqb place place refl) refl

pub only-then : (step place : ℕ) (x : Noting) (s k : ℕ) → s ≢ step → only step place x s k ≡ None
only-then step place x s k h = rw (ne_eqb s step h) refl

pub only-there : (step place : ℕ) (x : Noting) (s k : ℕ) → k ≢ place → only step place x s k ≡ None
only-there step place x s k h = rw (ne_eqb k place h, and-false) refl

same-twice : {X : Type 0} (a : Option X) → a ≡ option_or a a
same-twice None = refl
same-twice (Some x) = refl

taken-twice : (x : Noting) → taken (Some x) ≡ option_or (taken (Some x)) (taken (Some x))
taken-twice x = same-twice (taken (Some x))

pub taken-either : (a b : Option Noting) → ((x y : Noting) → a ≡ Some x → b ≡ Some y → x ≡ y) → option_or (taken a) (taken b) ≡ taken (option_or a b)
taken-either None b h = refl
taken-either (Some x) None h = alone (taken (Some x)) None refl
taken-either (Some x) (Some y) h = ap (λ z. option_or (taken (Some x)) (taken (Some z))) (sym (h x y refl refl)) ∙ sym (taken-twice x)

taken-agrees : (a b : Option Noting) → ((x y : Noting) → a ≡ Some x → b ≡ Some y → x ≡ y) → (s t : Sample) → taken a ≡ Some s → taken b ≡ Some t → s ≡ t
taken-agrees None b h s t p q = cc
taken-agrees (Some x) None h s t p q = cc
taken-agrees (Some x) (Some y) h s t p q = let e = ap (λ z. taken (Some z)) (h x y refl refl) in cc

pub columns-agree : (map more : Noted) (k : ℕ) → Agree map more → AgreeAlong (column map k) (column more k)
columns-agree map more k h = λ s. taken-agrees (map s k) (more s k) (h s k)

-- with nothing taken of a place more, what is taken of it is the same
pub nothing-more : (a b : Option Noting) → ((x y : Noting) → a ≡ Some x → b ≡ Some y → x ≡ y) → taken b ≡ None → taken a ≡ taken (option_or a b)
nothing-more a b h e = sym (alone (taken a) (taken b) e) ∙ taken-either a b h

pub fault-kept : (spans : List (ℕ × ℕ)) (last : ℕ) (map more : Noted) (a : Option (ℕ × ℕ)) → Agree map more → HasFault spans last map a → HasFault spans last more None → HasFault spans last (union map more) a
fault-kept spans last map more None g p q = second-alone spans last map more None g p q
fault-kept spans last map more (Some a) g p q = first-alone spans last map more a p q

good-if : (b : Bool) (x : Noting) → is_bad_noting (Some x) ≡ false → is_bad_noting (if b then Some x else None) ≡ false
good-if true x h = h
good-if false x h = refl

none-bad : (a : Option Noting) → a ≡ None → is_bad_noting a ≡ true → ⊥
none-bad None e h = cc
none-bad (Some x) e h = cc

untaken-if : (b : Bool) (x : Noting) → taken (Some x) ≡ None → taken (if b then Some x else None) ≡ None
untaken-if true x h = h
untaken-if false x h = refl

pub taken-only : (step place : ℕ) (x : Noting) (s k : ℕ) → taken (Some x) ≡ None → taken (only step place x s k) ≡ None
taken-only step place x s k h = untaken-if ((s == step) && (k == place)) x h

only-good : (step place : ℕ) (x : Noting) (s k : ℕ) → is_bad_noting (Some x) ≡ false → is_bad_noting (only step place x s k) ≡ false
only-good step place x s k h = good-if ((s == step) && (k == place)) x h

pub good-only : (spans : List (ℕ × ℕ)) (last step place : ℕ) (x : Noting) → is_bad_noting (Some x) ≡ false → HasFault spans last (only step place x) None
good-only spans last step place x h = λ s k l w. only-good step place x s k h

pub bad-only : (spans : List (ℕ × ℕ)) (last step place : ℕ) (x : Noting) → step ≤ last → is_within spans place ≡ true → is_bad_noting (Some x) ≡ true → HasFault spans last (only step place x) (Some (step, place))
bad-only spans last step place x l w h = record {
  within = l;
  inside = w;
  bad = ap is_bad_noting (only-here step place x) ∙ h;
  least = λ s k m v b. elim (cases_eq s step) [
    | inl e ↦ elim (cases_eq k place) [
      | inl f ↦ inr (sym e, omega arith)
      | inr f ↦ absurd (none-bad (only step place x s k) (only-there step place x s k f) b)
    ]
    | inr e ↦ absurd (none-bad (only step place x s k) (only-then step place x s k e) b)
  ];
}

pub past-only : (last step place : ℕ) (x : Noting) (s k : ℕ) → last < step → s ≤ last → only step place x s k ≡ None
past-only last step place x s k h l = only-then step place x s k (λ e. omega arith)

pub past-good : (spans : List (ℕ × ℕ)) (last step place : ℕ) (x : Noting) → last < step → HasFault spans last (only step place x) None
past-good spans last step place x h = λ s k l w. ap is_bad_noting (past-only last step place x s k h l)

-- what isn't taken changes no extreme and no sample
pub places-kept : (fold : Fold) (map more : Noted) → Agree map more → ((s k : ℕ) → s ≤ steps_of fold → taken (more s k) ≡ None)
    → ((k : ℕ) → is_within (spans_of fold) k ≡ true → StandsAt fold k (column map k)) → (k : ℕ) → is_within (spans_of fold) k ≡ true → StandsAt fold k (column (union map more) k)
places-kept fold map more g h p k w =
    same-standing fold.spans.items (bases_of fold.spans.items) fold.steps fold.every (marks_in fold) fold.cells.items (lines_in fold) k (column map k) (column (union map more) k)
    (λ s l. nothing-more (map s k) (more s k) (g s k) (h s k l)) (p k w)

pub noted-past : (fold : Fold) (map : Noted) (step place : ℕ) (x : Noting) → steps_of fold < step → Agree map (only step place x) → IsHeld fold map → IsHeld fold (noted map step place x)
noted-past fold map step place x h g p = record {
  places = places-kept fold map (only step place x) g (λ s k l. ap taken (past-only (steps_of fold) step place x s k h l)) p.places;
  first_fault = fault-kept (spans_of fold) (steps_of fold) map (only step place x) fold.fault g p.first_fault (past-good (spans_of fold) (steps_of fold) step place x h);
}

place-noted : (old new : Fold) (step place : ℕ) (s : Sample) (map : Noted) (x : Noting) (k : ℕ) → IsKeptAt old new step place s → taken (Some x) ≡ Some s → Agree map (only step place x)
    → ((k : ℕ) → is_within (spans_of old) k ≡ true → StandsAt old k (column map k)) → is_within (spans_of old) k ≡ true → (k ≡ place) ⊎ (k ≢ place)
    → StandsAt new k (column (noted map step place x) k)
place-noted old new step place s map x k n t g p w (inl e) =
    subst (λ i. StandsAt new i (column (noted map step place x) i)) (sym e)
    (same-standing new.spans.items (bases_of new.spans.items) new.steps new.every (marks_in new) new.cells.items (lines_in new) place (either (column map place) (column (only step place x) place)) (column (noted map step place x) place)
    (λ u l. taken-either (map u place) (only step place x u place) (g u place))
    (n.here (column map place) (column (only step place x) place) (columns-agree map (only step place x) place g)
    (ap taken (only-here step place x) ∙ t) (λ u h. ap taken (only-then step place x u place h)) (p place (subst (λ i. is_within (spans_of old) i ≡ true) e w))))
place-noted old new step place s map x k n t g p w (inr e) =
    same-standing new.spans.items (bases_of new.spans.items) new.steps new.every (marks_in new) new.cells.items (lines_in new) k (column map k) (column (noted map step place x) k)
    (λ u l. nothing-more (map u k) (only step place x u k) (g u k) (ap taken (only-there step place x u k e)))
    (n.others k w e (column map k) (p k w))

pub same-fault : (old new : Fold) (m : Noted) → IsSameLayout old new → HasFault (spans_of old) (steps_of old) m old.fault → HasFault (spans_of new) (steps_of new) m new.fault
same-fault old new m l h = subst (λ sp. HasFault sp (steps_of new) m new.fault) (sym l.same.spans_are)
    (subst (λ n. HasFault (spans_of old) n m new.fault) (sym l.same.steps_are) (subst (λ f. HasFault (spans_of old) (steps_of old) m f) (sym l.fault_is) h))

pub noted-good : (old new : Fold) (step place : ℕ) (s : Sample) (map : Noted) (x : Noting) → IsKeptAt old new step place s → taken (Some x) ≡ Some s → is_bad_noting (Some x) ≡ false
    → Agree map (only step place x) → IsHeld old map → IsHeld new (noted map step place x)
noted-good old new step place s map x n t b g p = record {
  places = λ k w. place-noted old new step place s map x k n t g p.places (subst (λ sp. is_within sp k ≡ true) n.layout.same.spans_are w) (cases_eq k place);
  first_fault = same-fault old new (noted map step place x) n.layout (fault-kept (spans_of old) (steps_of old) map (only step place x) old.fault g p.first_fault (good-only (spans_of old) (steps_of old) step place x b));
}
