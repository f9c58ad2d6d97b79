-- The start of a seam: its own point alone, kept and noted.
use Rattle.std.proofs.Common.{◌≡◌, ℕ, ◌+◌, ◌-◌, ◌*◌, ◌<◌, ◌≤◌, inl, inr, ◌∙◌, ap, sym, refl}
use Rattle.std.proofs.Common.{arith, Bool, true, false}
use Rattle.std.specs.Prelude.{◌^◌, length}
use Rattle.std.proofs.lemmas.Bool.{le-ltb, lt-ltb}
use Rattle.case_model.specs.Meaning.{Meaning}
use Rattle.case_model.specs.Mesh.{IsNumbered, base_of, reaches}
use Rattle.case_model.specs.Rows.{Row}
use Rattle.case_model.proofs.RowLaws.{row-start}
use Rattle.fronts.specs.Fronts.{Holds, Puts, spot}
use Rattle.fronts.specs.Stretches.{IsStretchOf, count_of, kept}
use Rattle.fronts.specs.declared.stretches.Stretch.{Stretch}
use Rattle.strands.specs.Seams.{is_loaded, open_front, open_since}
use Rattle.strands.specs.Sections.{IsLine}
use Rattle.strands.specs.Stations.{half, seam_front, seam_since}
use Rattle.envelope.proofs.Lined.{where-stands}

-- ---- what is loaded

loaded-left : (left right : Bool) (c x : ℕ) → x < c → is_loaded left right c x ≡ left
loaded-left left right c x h = rw (lt-ltb x c h) refl

loaded-right : (left right : Bool) (c x : ℕ) → c < x → is_loaded left right c x ≡ right
loaded-right left right c x h = rw (le-ltb x c (omega arith), lt-ltb c x h) refl

loaded-own : (left right : Bool) (c x : ℕ) → x ≡ c → is_loaded left right c x ≡ true
loaded-own left right c x h = rw (le-ltb x c (omega arith), le-ltb c x (omega arith)) refl

front-in : (left right : Bool) (w s x : ℕ) → is_loaded left right (half w) x ≡ true
    → open_front left right w s x ≡ seam_front w s 0 x
front-in left right w s x e = rw e refl

since-in : (left right : Bool) (w s x : ℕ) → is_loaded left right (half w) x ≡ true
    → open_since left right w s x ≡ seam_since w s x
since-in left right w s x e = rw e refl

front-out : (left right : Bool) (w s x : ℕ) → is_loaded left right (half w) x ≡ false
    → open_front left right w s x ≡ s
front-out left right w s x e = rw e refl

since-out : (left right : Bool) (w s x : ℕ) → is_loaded left right (half w) x ≡ false
    → open_since left right w s x ≡ s + 1
since-out left right w s x e = rw e refl

-- ---- the start

-- of the seam's own point alone
pub puts-start : (w place count : ℕ) → place ≡ half w
    → Puts 0 place count (λ x. 1) (λ x. 0) (open_since false false w 0) (open_front false false w 0)
puts-start w place count e = record {
  here = front-in false false w 0 place (loaded-own false false (half w) place e) ∙ omega arith;
  kept = λ t f l. absurd (omega arith);
  beside = λ x b k. elim (where-stands x (half w)) [
    | inl a ↦
        let g = since-out false false w 0 x (loaded-left false false (half w) x a) in
        (front-out false false w 0 x (loaded-left false false (half w) x a), omega arith)
    | inr a ↦ elim a [
      | inl c ↦ absurd (k (c ∙ sym e))
      | inr c ↦
          let g = since-out false false w 0 x (loaded-right false false (half w) x c) in
          (front-out false false w 0 x (loaded-right false false (half w) x c), omega arith)
    ]
  ];
}

pub holds-nothing : (law : Meaning) (stretch : Stretch) → Holds law (λ x. 1) (λ x. 0) stretch
holds-nothing law stretch = record { cell = λ t x b a f g. absurd (omega arith) }

pub start-is : (law : Meaning) (stretch : Stretch) (pipe place at : ℕ) → stretch.pipe ≡ pipe
    → stretch.first + at ≡ place
    → law.start_point pipe place ≡ spot law stretch 0 at
start-is law stretch pipe place at e f =
    ap (λ p. law.start_point p place) (sym e) ∙ ap (law.start_point stretch.pipe) (sym f)
    ∙ sym (ap (λ (r : Row). r.point stretch.pipe (stretch.first + at)) (row-start law))

pub own-kept : (law : Meaning) (w : ℕ) (stretch : Stretch) (left right : Bool) (at : ℕ)
    → count_of stretch ≡ 2 * half w + 1 → at ≡ half w
    → Holds law (open_since left right w 0) (open_front left right w 0) stretch
    → kept stretch 0 at ≡ spot law stretch 0 at
own-kept law w stretch left right at size e h =
    let f = front-in left right w 0 at (loaded-own left right (half w) at e) in
    let g = since-in left right w 0 at (loaded-own left right (half w) at e) in
    h.cell 0 at (omega arith) (omega arith) (omega arith) (omega arith)

pub started-line : (law : Meaning) (w pipe place number : ℕ) (stretch : Stretch)
    → IsStretchOf pipe (place - half w) (number - half w) (2 * half w + 1) stretch → 1 ≤ w
    → pipe < length law.mesh.pipes → IsNumbered law.mesh → reaches law.mesh pipe < 2 ^ 32
    → half w ≤ place → place + half w ≤ reaches law.mesh pipe
    → number ≡ base_of law.mesh pipe + place → number + half w + 1 < 2 ^ 32 → IsLine law stretch
unfolding count_of
started-line law w pipe place number stretch h a b numbered c low high e few = record {
  on_mesh = record {
    pipe = rw (h.pipe_is) b;
    fits = rw (h.pipe_is, h.first_is, h.count_is) (omega arith);
    small = rw (h.pipe_is) c;
  };
  numbered = numbered;
  number_is = rw (h.pipe_is, h.first_is, h.number_is) (omega arith);
  long = rw (h.count_is) (omega arith);
  few = rw (h.number_is, h.count_is) (omega arith);
}
