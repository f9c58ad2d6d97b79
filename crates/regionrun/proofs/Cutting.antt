-- In a layout the stations stand before the sections.
use Rattle.std.specs.Prelude.{◌≡◌, ℕ, ◌-◌, ◌<◌, ◌≤◌, Bool, true, false, All, List, [], ◌∷◌, ◌++◌}
use Rattle.std.specs.Prelude.{length, map, slice_index_or, refl}
use Rattle.std.specs.List.{flat_map, range_with_len}
use Rattle.std.proofs.Common.{sym, ◌∙◌, ap, subst, arith, inl, inr, length-append}
use Rattle.std.proofs.lemmas.Bool.{cases_lt}
use Rattle.std.proofs.lemmas.List.{get_or_append_left, get_or-append_right}
use Rattle.std.proofs.lemmas.List.Concat.{flat_map-cons}
use Rattle.std.proofs.lemmas.List.Elements.{All-append, All-map}
use Rattle.case_model.specs.declared.meshes.Mesh.{Mesh}
use Rattle.regions.specs.Cuts.{window_of}
use Rattle.regions.specs.LaidOut.{IsLaidOut}
use Rattle.regions.specs.Layouts.{layout_of, seam_shape, seams_of, section_shape, sections_at}
use Rattle.regions.specs.Layouts.{sections_of, shapes_of}
use Rattle.regions.specs.Sides.{is_section, is_section_shape}
use Rattle.regions.specs.declared.shapes.Layout.{Layout}
use Rattle.regions.specs.declared.shapes.Shape.{Shape}
use Rattle.regions.specs.declared.shapes.Shape.TheVariants.{OfNode}
use Rattle.regionrun.proofs.Halving.{IsCutAt}

all-flat : {X A : Type 0} (P : A → Type 0) (f : X → List A) (xs : List X)
    → ((x : X) → All P (f x)) → All P (flat_map f xs)
all-flat P f [] each = λ k d h. absurd (omega arith)
all-flat P f (x ∷ xs) each =
    subst (All P) (sym (flat_map-cons f x xs))
    (All-append P (f x) (flat_map f xs) (each x) (all-flat P f xs each))

-- shapes of this kind alone
abbrev are : Bool → List Shape → Type 0
are section shapes = All (λ (shape : Shape). is_section_shape shape ≡ section) shapes

seams-are : (mesh : Mesh) (w p : ℕ) → are false (seams_of mesh w p)
seams-are mesh w p =
    All-map (λ (shape : Shape). is_section_shape shape ≡ false) (seam_shape mesh w p)
    (range_with_len 0 (sections_at mesh w p - 1)) (λ k d h. refl)

sections-are : (mesh : Mesh) (w p : ℕ) → are true (sections_of mesh w p)
sections-are mesh w p =
    All-map (λ (shape : Shape). is_section_shape shape ≡ true) (section_shape mesh w p)
    (range_with_len 0 (sections_at mesh w p)) (λ k d h. refl)

nodes-are : (n : ℕ) → are false (map OfNode (range_with_len 0 n))
nodes-are n =
    All-map (λ (shape : Shape). is_section_shape shape ≡ false) OfNode (range_with_len 0 n)
    (λ k d h. refl)

-- behind one that is a section there are sections
behind : (front back : List Shape) → are false front → are true back → (x y : ℕ) → x ≤ y
    → y < length (front ++ back)
    → is_section_shape (slice_index_or (front ++ back) x (OfNode 0)) ≡ true
    → is_section_shape (slice_index_or (front ++ back) y (OfNode 0)) ≡ true
behind front back low high x y le below is = elim (cases_lt y (length front)) [
  | inl l ↦
      let e : is_section_shape (slice_index_or (front ++ back) x (OfNode 0)) ≡ false =
      ap is_section_shape (get_or_append_left front back (OfNode 0) x (omega arith))
      ∙ low x (OfNode 0) (omega arith) in
      let n : true ≡ false = sym is ∙ e in cc
  | inr l ↦
      ap is_section_shape
      (get_or-append_right front back (length front) y (OfNode 0) refl l)
      ∙ high (y - length front) (OfNode 0) (omega (arith, length-append front back))
]

shapes-cut : (mesh : Mesh) (w x y : ℕ) → x ≤ y → y < length (shapes_of mesh w)
    → is_section_shape (slice_index_or (shapes_of mesh w) x (OfNode 0)) ≡ true
    → is_section_shape (slice_index_or (shapes_of mesh w) y (OfNode 0)) ≡ true
unfolding shapes_of
shapes-cut mesh w x y le below is =
    behind
    (map OfNode (range_with_len 0 (length mesh.ends))
    ++ flat_map (seams_of mesh w) (range_with_len 0 (length mesh.pipes)))
    (flat_map (sections_of mesh w) (range_with_len 0 (length mesh.pipes)))
    (All-append (λ (shape : Shape). is_section_shape shape ≡ false)
    (map OfNode (range_with_len 0 (length mesh.ends)))
    (flat_map (seams_of mesh w) (range_with_len 0 (length mesh.pipes)))
    (nodes-are (length mesh.ends))
    (all-flat (λ (shape : Shape). is_section_shape shape ≡ false) (seams_of mesh w)
    (range_with_len 0 (length mesh.pipes)) (seams-are mesh w)))
    (all-flat (λ (shape : Shape). is_section_shape shape ≡ true) (sections_of mesh w)
    (range_with_len 0 (length mesh.pipes)) (sections-are mesh w))
    x y le below is

shapes-of : (steps wish : ℕ) (mesh : Mesh)
    → (layout_of steps mesh wish).shapes ≡ shapes_of mesh (window_of mesh wish)
unfolding layout_of
shapes-of steps wish mesh = refl

sections-last : (layout : Layout) (mesh : Mesh) (x y : ℕ) → IsLaidOut layout mesh → x ≤ y
    → y < length layout.shapes → is_section layout x ≡ true → is_section layout y ≡ true
sections-last layout mesh x y laid le below is =
    let w = window_of mesh laid.cut.wish in
    let shapes : layout.shapes ≡ shapes_of mesh w =
    ap (λ (l : Layout). l.shapes) laid.cut.layout_is
    ∙ shapes-of laid.case.steps laid.cut.wish mesh in
    subst (λ (s : List Shape). is_section_shape (slice_index_or s y (OfNode 0)) ≡ true) (sym shapes)
    (shapes-cut mesh w x y le (subst (λ (s : List Shape). y < length s) shapes below)
    (subst (λ (s : List Shape). is_section_shape (slice_index_or s x (OfNode 0)) ≡ true) shapes is))

-- where the first section stands the stations end
pub cut-at : (layout : Layout) (mesh : Mesh) (first : ℕ) → IsLaidOut layout mesh
    → first ≤ length layout.shapes
    → ((x : ℕ) → x < first → is_section layout x ≡ false)
    → (first < length layout.shapes → is_section layout first ≡ true)
    → IsCutAt layout first
cut-at layout mesh first laid few below there = record {
  few = few;
  below = below;
  others = λ x low high. sections-last layout mesh first x laid low high (there (omega arith));
}
