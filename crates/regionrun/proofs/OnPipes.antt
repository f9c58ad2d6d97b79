-- The strands of sections and seams: their stretches are what the layout has there.
use Rattle.std.proofs.Common.{◌≡◌, ℕ, zero, suc, ◌+◌, ◌-◌, ◌*◌, ◌/◌, ◌<◌, ◌≤◌, ◌==◌, length, List}
use Rattle.std.proofs.Common.{[], ◌∷◌, refl, ap, sym, subst, ◌∙◌, arith}
use Rattle.case_model.specs.Mesh.{base_of}
use Rattle.case_model.specs.declared.meshes.Mesh.{Mesh}
use Rattle.envelope.specs.Cells.{AreInOneSpan}
use Rattle.envelope.specs.Folds.{spans_of}
use Rattle.envelope.specs.declared.folds.Fold.{Fold}
use Rattle.fronts.specs.Fronts.{loaded, risen, tent}
use Rattle.fronts.specs.Stretches.{AreSamePlaces, IsStretchOf, count_of}
use Rattle.fronts.specs.declared.stretches.Stretch.{Stretch}
use Rattle.regions.specs.Sides.{shape_at}
use Rattle.regions.specs.declared.shapes.Layout.{Layout}
use Rattle.regions.specs.declared.shapes.Shape.{Shape}
use Rattle.regions.specs.declared.shapes.Shape.TheVariants.{OfNode, OfSeam, OfSection}
use Rattle.regionrun.proofs.Handing.{section-lawful, seam-lawful}
use Rattle.regionrun.proofs.Seams.{IsOverSeam, seam-stands}
use Rattle.regionrun.proofs.Tents.{IsOverSection, owned-first, owned-later_section}
use Rattle.regionrun.specs.Bodies.{section_marks}
use Rattle.regionrun.specs.Handed.{HasSection, HasStation}
use Rattle.regionrun.specs.Lawful.{IsLawful}
use Rattle.regionrun.specs.Owned.{owned}
use Rattle.regionrun.specs.Places.{IsSeamStretch, IsSectionStretch}
use Rattle.regionrun.specs.Right.{strand_spans}
use Rattle.strands.specs.Marks.{is_between, or_marked}
use Rattle.strands.specs.Sections.{NotesInside}
use Rattle.strands.specs.Stations.{NotesTriangles, half}

-- ---- a section

pub record OverSection (layout : Layout) (mesh : Mesh) (x : ℕ) (stretch : Stretch) : Type 0 where
  pub pipe : ℕ
  pub place : ℕ
  pub n : ℕ
  pub left : ℕ
  pub right : ℕ
  pub over : IsOverSection layout mesh x pipe place n left right stretch

section-by : (layout : Layout) (mesh : Mesh) (x : ℕ) (shape : Shape) (stretch : Stretch)
    → x < length layout.shapes → shape_at layout x ≡ shape → IsSectionStretch mesh shape stretch
    → OverSection layout mesh x stretch
section-by layout mesh x (OfNode node) stretch there is places = absurd places
section-by layout mesh x (OfSeam p place l r) stretch there is places = absurd places
section-by layout mesh x (OfSection p place n l r) stretch there is places = record {
  pipe = p;
  place = place;
  n = n;
  left = l;
  right = r;
  over = record { there = there; shape = is; over = places };
}

pub over-section : (layout : Layout) (mesh : Mesh) (x : ℕ) (stretch : Stretch)
    → x < length layout.shapes → IsSectionStretch mesh (shape_at layout x) stretch
    → OverSection layout mesh x stretch
over-section layout mesh x stretch there places =
    section-by layout mesh x (shape_at layout x) stretch there refl places

pub has-section : (layout : Layout) (mesh : Mesh) (x : ℕ) (stretch : Stretch) → IsLawful layout mesh
    → x < length layout.shapes → IsSectionStretch mesh (shape_at layout x) stretch
    → HasSection layout x stretch
has-section layout mesh x stretch lawful there places =
    let o = over-section layout mesh x stretch there places in
    section-lawful layout mesh x o.pipe o.place o.n o.left o.right
    (base_of mesh o.pipe + o.place) stretch lawful there o.over.shape o.over.over

-- ---- a seam

pub record OverSeam (layout : Layout) (mesh : Mesh) (x : ℕ) (stretch : Stretch) : Type 0 where
  pub pipe : ℕ
  pub place : ℕ
  pub left : ℕ
  pub right : ℕ
  pub over : IsOverSeam layout mesh x pipe place left right stretch

seam-by : (layout : Layout) (mesh : Mesh) (x : ℕ) (shape : Shape) (stretch : Stretch)
    → x < length layout.shapes → shape_at layout x ≡ shape
    → IsSeamStretch mesh layout.window shape stretch
    → OverSeam layout mesh x stretch
seam-by layout mesh x (OfNode node) stretch there is places = absurd places
seam-by layout mesh x (OfSection p place n l r) stretch there is places = absurd places
seam-by layout mesh x (OfSeam p place l r) stretch there is places = record {
  pipe = p;
  place = place;
  left = l;
  right = r;
  over = record { there = there; shape = is; over = places };
}

pub over-seam : (layout : Layout) (mesh : Mesh) (x : ℕ) (stretch : Stretch)
    → x < length layout.shapes
    → IsSeamStretch mesh layout.window (shape_at layout x) stretch
    → OverSeam layout mesh x stretch
over-seam layout mesh x stretch there places =
    seam-by layout mesh x (shape_at layout x) stretch there refl places

seam-room : (layout : Layout) (mesh : Mesh) (x : ℕ) (stretch : Stretch) → IsLawful layout mesh
    → (o : OverSeam layout mesh x stretch) → half layout.window ≤ o.place
seam-room layout mesh x stretch lawful o =
    (seam-stands layout mesh x o.pipe o.place o.left o.right lawful o.over.there o.over.shape).1

pub has-station : (layout : Layout) (mesh : Mesh) (x c : ℕ) (stretch : Stretch)
    → IsLawful layout mesh → x < length layout.shapes → c < 2
    → IsSeamStretch mesh layout.window (shape_at layout x) stretch
    → HasStation layout mesh x c (c == 1) (half layout.window) stretch
has-station layout mesh x c stretch lawful there side places =
    let o = over-seam layout mesh x stretch there places in
    seam-lawful layout mesh x c o.pipe o.place o.left o.right
    (base_of mesh o.pipe + o.place - half layout.window) stretch lawful there o.over.shape side
    o.over.over

-- ---- the same places

same-stretch : (p first number count : ℕ) (old new : Stretch) → AreSamePlaces old new
    → IsStretchOf p first number count old → IsStretchOf p first number count new
same-stretch p first number count old new same is = record {
  pipe_is = same.pipe_is ∙ is.pipe_is;
  first_is = same.first_is ∙ is.first_is;
  number_is = same.number_is ∙ is.number_is;
  count_is = same.count_is ∙ is.count_is;
}

pub same-section : (mesh : Mesh) (shape : Shape) (old new : Stretch) → AreSamePlaces old new
    → IsSectionStretch mesh shape old → IsSectionStretch mesh shape new
same-section mesh (OfNode node) old new same is = absurd is
same-section mesh (OfSeam p place l r) old new same is = absurd is
same-section mesh (OfSection p place n l r) old new same is =
    same-stretch p place (base_of mesh p + place) (n + 1) old new same is

pub same-seam : (mesh : Mesh) (w : ℕ) (shape : Shape) (old new : Stretch) → AreSamePlaces old new
    → IsSeamStretch mesh w shape old → IsSeamStretch mesh w shape new
same-seam mesh w (OfNode node) old new same is = absurd is
same-seam mesh w (OfSection p place n l r) old new same is = absurd is
same-seam mesh w (OfSeam p place l r) old new same is =
    same-stretch p (place - half w) (base_of mesh p + place - half w) (2 * half w + 1) old new
    same is

-- ---- what is noted and owned

in-span : (spans : List (ℕ × ℕ)) (first count low many : ℕ) → spans ≡ ((first, count) ∷ [])
    → first ≤ low → low + many ≤ first + count → AreInOneSpan spans low many
in-span spans first count low many e a b =
    subst (λ (z : List (ℕ × ℕ)). AreInOneSpan z low many) (sym e)
    (0, record { there = omega arith; low = a; high = b })

section-spans : (mesh : Mesh) (w p place n l r : ℕ) → strand_spans mesh w (OfSection p place n l r)
    ≡ ((base_of mesh p + place + 1, n - 1) ∷ [])
unfolding strand_spans
section-spans mesh w p place n l r = refl

seam-spans : (mesh : Mesh) (w p place l r : ℕ) → strand_spans mesh w (OfSeam p place l r)
    ≡ ((base_of mesh p + place - (w - 1) / 2, 2 * ((w - 1) / 2) + 1) ∷ [])
unfolding strand_spans
seam-spans mesh w p place l r = refl

pub section-noted : (layout : Layout) (mesh : Mesh) (x : ℕ) (stretch : Stretch) (fold : Fold)
    → IsLawful layout mesh
    → x < length layout.shapes → IsSectionStretch mesh (shape_at layout x) stretch
    → spans_of fold ≡ strand_spans mesh layout.window (shape_at layout x)
    → NotesInside stretch fold
section-noted layout mesh x stretch fold lawful there places spans =
    let o = over-section layout mesh x stretch there places in
    let number = o.over.over.number_is in
    let count = o.over.over.count_is in
    let long = (has-section layout mesh x stretch lawful there places).long in
    let some = lawful.whole.some in
    in-span (spans_of fold) (base_of mesh o.pipe + o.place + 1) (o.n - 1)
    (stretch.number + 1) (count_of stretch - 2)
    (spans ∙ ap (strand_spans mesh layout.window) o.over.shape
    ∙ section-spans mesh layout.window o.pipe o.place o.n o.left o.right)
    (omega arith) (omega arith)

pub seam-noted : (layout : Layout) (mesh : Mesh) (x : ℕ) (stretch : Stretch) (fold : Fold)
    → IsLawful layout mesh
    → x < length layout.shapes
    → IsSeamStretch mesh layout.window (shape_at layout x) stretch
    → spans_of fold ≡ strand_spans mesh layout.window (shape_at layout x)
    → NotesTriangles layout.window stretch fold
seam-noted layout mesh x stretch fold lawful there places spans =
    let w : ℕ = layout.window in
    let o = over-seam layout mesh x stretch there places in
    let number = o.over.over.number_is in
    let count = o.over.over.count_is in
    let room = seam-room layout mesh x stretch lawful o in
    in-span (spans_of fold) (base_of mesh o.pipe + o.place - (w - 1) / 2) (2 * ((w - 1) / 2) + 1)
    (stretch.number + (half w - (w - 1) / 2)) (2 * ((w - 1) / 2) + 1)
    (spans ∙ ap (strand_spans mesh w) o.over.shape
    ∙ seam-spans mesh w o.pipe o.place o.left o.right)
    (omega arith) (omega arith)

pub section-owned : (layout : Layout) (mesh : Mesh) (x m : ℕ) (stretch : Stretch)
    → IsLawful layout mesh
    → (o : OverSection layout mesh x stretch) → m ≤ layout.windows → (s k : ℕ)
    → s ≤ layout.windows * layout.window
    → owned mesh layout.window x (m + 1) s k
    ≡ or_marked (owned mesh layout.window x m) (section_marks layout.window stretch m) s k
section-owned layout mesh x zero stretch lawful o few s k end =
    let count = o.over.over.count_is in
    let n : o.n ≡ count_of stretch - 1 = omega arith in
    subst (λ (z : ℕ). owned mesh layout.window x 1 s k
    ≡ or_marked (owned mesh layout.window x 0) (is_between stretch (risen z 0) (tent 0 z)) s k) n
    (owned-first layout mesh x o.pipe o.place o.n o.left o.right stretch lawful o.over s k end)
section-owned layout mesh x (suc m) stretch lawful o few s k end =
    let w : ℕ = layout.window in
    let count = o.over.over.count_is in
    let n : o.n ≡ count_of stretch - 1 = omega arith in
    let one : m + 1 ≡ suc m = omega arith in
    let two : m + 2 ≡ suc m + 1 = omega arith in
    ap (λ (c : ℕ). owned mesh w x c s k) (sym two)
    ∙ subst (λ (z : ℕ). owned mesh w x (m + 2) s k
    ≡ or_marked (owned mesh w x (m + 1))
    (is_between stretch (loaded (m * w) w z) (tent (m * w + w) z)) s k) n
    (owned-later_section layout mesh x m o.pipe o.place o.n o.left o.right stretch lawful o.over
    (omega arith) s k end)
    ∙ ap (λ (c : ℕ). or_marked (owned mesh w x c) (section_marks w stretch (suc m)) s k) one
