-- A run of places without cavities, one place more.
use Rattle.std.proofs.Common.{◌≡◌, ◌≢◌, ℕ, ◌+◌, ◌<◌, inl, inr, refl, ◌∙◌, ap, sym, subst, arith, List, map, length, set, get_or}
use Rattle.std.proofs.lemmas.Bool.{cases_eq}
use Rattle.std.proofs.lemmas.List.{get_or-map, get_or-set_other, get_or-set_same, length-map, length-set, map-set}
use Rattle.case_model.specs.declared.points.Point.TheVariants.{Bad}
use Rattle.case_model.specs.declared.spots.Spot.{Spot}
use Rattle.case_model.specs.Meaning.{Meaning}
use Rattle.case_model.specs.Runs.{IsCalmRun, calm_at, calm_point}

pub calm-set : (spots : List Spot) (k : ℕ) (x : Spot) → k < length spots
    → calm_at (set spots k x) k ≡ calm_point x
calm-set spots k x h =
    ap (λ ps. get_or ps k Bad) (map-set calm_point spots k x)
    ∙ get_or-set_same (map calm_point spots) k (calm_point x) Bad (omega (arith, length-map spots calm_point, h))

pub calm-beside : (spots : List Spot) (k j : ℕ) (x : Spot) → j ≢ k
    → calm_at (set spots k x) j ≡ calm_at spots j
calm-beside spots k j x n =
    ap (λ ps. get_or ps j Bad) (map-set calm_point spots k x)
    ∙ get_or-set_other (map calm_point spots) k j (calm_point x) Bad n

-- a spot of the list is at its place
pub calm_spot : (spots : List Spot) (k : ℕ) (d : Spot) → k < length spots
    → calm_at spots k ≡ calm_point (get_or spots k d)
calm_spot spots k d h = get_or-map calm_point spots k d Bad h

pub nothing_done : (law : Meaning) (p first : ℕ) (before now : List Spot)
    → IsCalmRun law p first before 0 now now
nothing_done law p first before now = record { each = refl; made = λ k h. absurd (omega (arith, h)); rest = λ k h. refl }

pub one_more : (law : Meaning) (p first : ℕ) (before : List Spot) (k : ℕ) (old new : List Spot)
    (x : Spot) → k < length new
    → calm_point x
    ≡ law.inner p (first + k) (calm_at before k) (calm_at before (k + 1)) (calm_at before (k + 2))
    → IsCalmRun law p first before k old new
    → IsCalmRun law p first before (k + 1) old (set new k x)
one_more law p first before k old new x l e h = record {
  each = length-set new k x ∙ h.each;
  made = λ j b. elim (cases_eq j k) [
    | inl s ↦ subst (λ i. calm_at (set new k x) i
        ≡ law.inner p (first + i) (calm_at before i) (calm_at before (i + 1)) (calm_at before (i + 2)))
        (sym s) (calm-set new k x l ∙ e)
    | inr n ↦ calm-beside new k j x n ∙ h.made j (omega (arith, b, n))
  ];
  rest = λ j b. calm-beside new k j x (λ s. absurd (omega (arith, s, b))) ∙ h.rest j (omega (arith, b));
}
