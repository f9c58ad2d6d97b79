-- Strands by kind: the places of a body are those of its strand's shape, and what it takes in,
-- is computed to and hands on is what the layout says of that strand.
use Rattle.std.proofs.Common.{◌≡◌, ℕ, zero, suc, ◌+◌, ◌-◌, ◌*◌, ◌<◌, ◌≤◌, ◌==◌, true, false, length}
use Rattle.std.proofs.Common.{refl, ap, sym, subst, ◌∙◌, arith, Some}
use Rattle.case_model.specs.declared.points.Point.{Point}
use Rattle.case_model.specs.Meaning.{Meaning}
use Rattle.case_model.specs.declared.meshes.Mesh.{Mesh}
use Rattle.envelope.specs.Folds.{spans_of}
use Rattle.envelope.specs.declared.folds.Fold.{Fold}
use Rattle.regions.specs.Needs.{needs_of}
use Rattle.regions.specs.Sides.{back_of, is_section, is_section_shape, shape_at, side_of, sides_in}
use Rattle.regions.specs.Sides.{sides_of}
use Rattle.regions.specs.declared.shapes.Layout.{Layout}
use Rattle.regions.specs.declared.shapes.Shape.{Shape}
use Rattle.regionrun.proofs.AtNodes.{AreAtEnds, hub-fits, hub-incoming, hub-noted, hub-outgoing}
use Rattle.regionrun.proofs.AtNodes.{hub-owned, hub-placed, hub-sides, over-hub}
use Rattle.regionrun.proofs.Handing.{section-has, section-lends, station-has, station-lends}
use Rattle.regionrun.proofs.OnPipes.{has-section, has-station, over-seam, over-section}
use Rattle.regionrun.proofs.OnPipes.{same-seam, same-section, seam-noted, section-noted}
use Rattle.regionrun.proofs.OnPipes.{section-owned}
use Rattle.regionrun.proofs.Seams.{owned-seam}
use Rattle.regionrun.specs.Bodies.{FitsWindow, HasIncoming, HasOutgoing, IsBodyAt, IsBodyOf}
use Rattle.regionrun.specs.Bodies.{IsComputed, IsNoting, IsOpen, IsSameBody, IsSectionAfter}
use Rattle.regionrun.specs.Bodies.{body_marks, is_section_body, side_count}
use Rattle.regionrun.specs.Handed.{ArePointsFor}
use Rattle.regionrun.specs.Lawful.{IsLawful}
use Rattle.regionrun.specs.Owned.{owned}
use Rattle.regionrun.specs.Places.{IsNodeOf, IsSeamStretch, IsSectionStretch}
use Rattle.regionrun.specs.Right.{strand_spans}
use Rattle.regionrun.specs.declared.bodies.Body.{Body}
use Rattle.regionrun.specs.declared.bodies.Body.TheVariants.{OfNode, OfSeam, OfSection}
use Rattle.schedule.specs.Nets.{regions_of}
use Rattle.strands.specs.Hubs.{IsHubAt}
use Rattle.strands.specs.Marks.{or_marked}
use Rattle.strands.specs.Seams.{IsSeamAt}
use Rattle.strands.specs.Stations.{half}
use Rattle.strands.specs.Tents.{IsSectionAt}
use Rattle.strands.specs.declared.tents.Section.{Section}

-- ---- any strand

-- the places of a body are those of a strand of this shape
abbrev pub IsPlaced : Mesh → ℕ → Shape → Body → Type 0
IsPlaced mesh w shape (OfSection section) = IsSectionStretch mesh shape section.stretch
IsPlaced mesh w shape (OfSeam seam) = IsSeamStretch mesh w shape seam.stretch
IsPlaced mesh w shape (OfNode hub) = IsNodeOf shape hub.node × AreAtEnds mesh w hub

pub body-placed : (law : Meaning) (w c : ℕ) (shape : Shape) (body : Body)
    → IsBodyOf law.mesh w shape body → IsBodyAt law w body c → IsPlaced law.mesh w shape body
body-placed law w c shape (OfSection section) places at = places
body-placed law w c shape (OfSeam seam) places at = places
body-placed law w c shape (OfNode hub) places at = (places, hub-placed law w (c * w) hub at)

-- the kind of the body is that of its strand
pub body-kind : (layout : Layout) (mesh : Mesh) (x : ℕ) (body : Body)
    → x < length layout.shapes → IsPlaced mesh layout.window (shape_at layout x) body
    → is_section layout x ≡ is_section_body body
body-kind layout mesh x (OfSection section) there places =
    ap is_section_shape (over-section layout mesh x section.stretch there places).over.shape
body-kind layout mesh x (OfSeam seam) there places =
    ap is_section_shape (over-seam layout mesh x seam.stretch there places).over.shape
body-kind layout mesh x (OfNode hub) there places =
    ap is_section_shape (over-hub layout mesh x hub there places.0 places.1).shape

-- and it has as many sides
pub body-sides : (layout : Layout) (mesh : Mesh) (x : ℕ) (body : Body)
    → x < length layout.shapes → IsPlaced mesh layout.window (shape_at layout x) body
    → sides_of layout mesh x ≡ side_count body
unfolding sides_of
body-sides layout mesh x (OfSection section) there places =
    ap (sides_in mesh) (over-section layout mesh x section.stretch there places).over.shape
body-sides layout mesh x (OfSeam seam) there places =
    ap (sides_in mesh) (over-seam layout mesh x seam.stretch there places).over.shape
body-sides layout mesh x (OfNode hub) there places =
    let over = over-hub layout mesh x hub there places.0 places.1 in
    ap (sides_in mesh) over.shape ∙ hub-sides layout mesh x hub over

pub body-fits : (layout : Layout) (mesh : Mesh) (x : ℕ) (body : Body) → IsLawful layout mesh
    → x < length layout.shapes → IsPlaced mesh layout.window (shape_at layout x) body
    → FitsWindow layout.window body
body-fits layout mesh x (OfSection section) lawful there places =
    (has-section layout mesh x section.stretch lawful there places).long
body-fits layout mesh x (OfSeam seam) lawful there places =
    (lawful.whole.some, (over-seam layout mesh x seam.stretch there places).over.over.count_is)
body-fits layout mesh x (OfNode hub) lawful there places =
    hub-fits layout mesh x hub lawful (over-hub layout mesh x hub there places.0 places.1)

-- ---- blocks

need-section : (m b : ℕ) → needs_of true m ≡ Some b → b ≡ m - 1
need-section zero b e = cc
need-section (suc m) b e = let f : m ≡ b = cc in omega arith

need-station : (m b : ℕ) → needs_of false m ≡ Some b → b ≡ m
need-station m b e = cc

-- the block that is handed to a strand has the points that its next region needs
pub body-incoming : (law : Meaning) (layout : Layout) (x m b side : ℕ) (body : Body)
    (tells : ℕ → Point → Type 0) → IsLawful layout law.mesh
    → x < length layout.shapes → IsPlaced law.mesh layout.window (shape_at layout x) body
    → side < side_count body → needs_of (is_section_body body) m ≡ Some b
    → ArePointsFor law layout (side_of layout law.mesh x side) (back_of layout law.mesh x side) b
    tells
    → HasIncoming law layout.window m side body tells
body-incoming law layout x m b side (OfSection section) tells lawful there places here need h =
    section-has law layout x side (m - 1) section.stretch tells lawful.sides there
    (has-section layout law.mesh x section.stretch lawful there places) here
    (subst (λ (z : ℕ). ArePointsFor law layout (side_of layout law.mesh x side)
    (back_of layout law.mesh x side) z tells) (need-section m b need) h)
body-incoming law layout x m b side (OfSeam seam) tells lawful there places here need h =
    station-has law layout x side m (side == 1) (half layout.window) seam.stretch tells
    (has-station layout law.mesh x side seam.stretch lawful there here places)
    (subst (λ (z : ℕ). ArePointsFor law layout (side_of layout law.mesh x side)
    (back_of layout law.mesh x side) z tells) (need-station m b need) h)
body-incoming law layout x m b side (OfNode hub) tells lawful there places here need h =
    hub-incoming law layout x m side hub tells lawful
    (over-hub layout law.mesh x hub there places.0 places.1) here
    (subst (λ (z : ℕ). ArePointsFor law layout (side_of layout law.mesh x side)
    (back_of layout law.mesh x side) z tells) (need-station m b need) h)

-- what a strand hands on is its block
pub body-outgoing : (law : Meaning) (layout : Layout) (x m side : ℕ) (body : Body)
    (tells : ℕ → Point → Type 0) → IsLawful layout law.mesh
    → x < length layout.shapes → IsPlaced law.mesh layout.window (shape_at layout x) body
    → side < side_count body
    → HasOutgoing law layout.window m side body tells
    → ArePointsFor law layout x side m tells
body-outgoing law layout x m side (OfSection section) tells lawful there places here h =
    section-lends law layout x side m section.stretch tells
    (has-section layout law.mesh x section.stretch lawful there places) here h
body-outgoing law layout x m side (OfSeam seam) tells lawful there places here h =
    station-lends law layout x side m (side == 1) (half layout.window) seam.stretch tells
    (has-station layout law.mesh x side seam.stretch lawful there here places) h
body-outgoing law layout x m side (OfNode hub) tells lawful there places here h =
    hub-outgoing law layout x m side hub tells lawful
    (over-hub layout law.mesh x hub there places.0 places.1) here h

-- ---- regions

section-open : (law : Meaning) (w c : ℕ) (section : Section) → 1 ≤ c
    → IsSectionAfter law w section c → IsSectionAt law w ((c - 1) * w) section
section-open law w zero section some h = absurd (omega arith)
section-open law w (suc m) section some h =
    let e : m ≡ suc m - 1 = omega arith in
    subst (λ (z : ℕ). IsSectionAt law w (z * w) section) e h

section-shut : (law : Meaning) (w c : ℕ) (section : Section) → 1 ≤ c
    → IsSectionAt law w ((c - 1) * w) section → IsSectionAfter law w section c
section-shut law w zero section some h = absurd (omega arith)
section-shut law w (suc m) section some h =
    let e : suc m - 1 ≡ m = omega arith in
    subst (λ (z : ℕ). IsSectionAt law w (z * w) section) e h

-- where the next region needs blocks
pub body-open : (law : Meaning) (w c : ℕ) (body : Body) → (is_section_body body ≡ true → 1 ≤ c)
    → IsBodyAt law w body c → IsOpen law w c body
body-open law w c (OfSection section) some h = section-open law w c section (some refl) h
body-open law w c (OfSeam seam) some h = h
body-open law w c (OfNode hub) some h = h

pub body-shut : (law : Meaning) (w c : ℕ) (body : Body) → (is_section_body body ≡ true → 1 ≤ c)
    → IsOpen law w c body → IsBodyAt law w body c
body-shut law w c (OfSection section) some h = section-shut law w c section (some refl) h
body-shut law w c (OfSeam seam) some h = h
body-shut law w c (OfNode hub) some h = h

-- one region more
pub body-later : (law : Meaning) (w c : ℕ) (body : Body) → IsComputed law w c body
    → IsBodyAt law w body (c + 1)
body-later law w c (OfSection section) h =
    let e : suc c ≡ c + 1 = omega arith in
    subst (IsSectionAfter law w section) e h.0
body-later law w c (OfSeam seam) h =
    let e : c * w + w ≡ (c + 1) * w = omega arith in
    subst (λ (z : ℕ). IsSeamAt law w z seam) e h.1
body-later law w c (OfNode hub) h =
    let e : c * w + w ≡ (c + 1) * w = omega arith in
    subst (λ (z : ℕ). IsHubAt law w z hub) e h.1

-- ---- the same places

pub same-body : (mesh : Mesh) (w : ℕ) (shape : Shape) (old new : Body) → IsSameBody old new
    → IsBodyOf mesh w shape old → IsBodyOf mesh w shape new
same-body mesh w shape (OfSection old) (OfSection new) same is =
    same-section mesh shape old.stretch new.stretch same is
same-body mesh w shape (OfSection old) (OfSeam new) same is = absurd same
same-body mesh w shape (OfSeam old) (OfSection new) same is = absurd same
same-body mesh w shape (OfSeam old) (OfSeam new) same is =
    same-seam mesh w shape old.stretch new.stretch same is
same-body mesh w shape (OfSection old) (OfNode new) same is = absurd same
same-body mesh w shape (OfSeam old) (OfNode new) same is = absurd same
same-body mesh w shape (OfNode old) (OfSection new) same is = absurd same
same-body mesh w shape (OfNode old) (OfSeam new) same is = absurd same
same-body mesh w shape (OfNode old) (OfNode new) same is =
    subst (IsNodeOf shape) (sym same.node_is) is

pub same-kind : (old new : Body) → IsSameBody old new → is_section_body new ≡ is_section_body old
same-kind (OfSection old) (OfSection new) same = refl
same-kind (OfSection old) (OfSeam new) same = absurd same
same-kind (OfSeam old) (OfSection new) same = absurd same
same-kind (OfSeam old) (OfSeam new) same = refl
same-kind (OfSection old) (OfNode new) same = absurd same
same-kind (OfSeam old) (OfNode new) same = absurd same
same-kind (OfNode old) (OfSection new) same = absurd same
same-kind (OfNode old) (OfSeam new) same = absurd same
same-kind (OfNode old) (OfNode new) same = refl

pub same-sides : (old new : Body) → IsSameBody old new → side_count old ≡ side_count new
same-sides (OfSection old) (OfSection new) same = refl
same-sides (OfSection old) (OfSeam new) same = absurd same
same-sides (OfSeam old) (OfSection new) same = absurd same
same-sides (OfSeam old) (OfSeam new) same = refl
same-sides (OfSection old) (OfNode new) same = absurd same
same-sides (OfSeam old) (OfNode new) same = absurd same
same-sides (OfNode old) (OfSection new) same = absurd same
same-sides (OfNode old) (OfSeam new) same = absurd same
same-sides (OfNode old) (OfNode new) same = sym same.each

-- ---- what is noted

pub body-noted : (layout : Layout) (mesh : Mesh) (x : ℕ) (body : Body) (fold : Fold)
    → IsLawful layout mesh
    → x < length layout.shapes → IsPlaced mesh layout.window (shape_at layout x) body
    → spans_of fold ≡ strand_spans mesh layout.window (shape_at layout x)
    → IsNoting layout.window fold body
body-noted layout mesh x (OfSection section) fold lawful there places spans =
    section-noted layout mesh x section.stretch fold lawful there places spans
body-noted layout mesh x (OfSeam seam) fold lawful there places spans =
    seam-noted layout mesh x seam.stretch fold lawful there places spans
body-noted layout mesh x (OfNode hub) fold lawful there places spans =
    hub-noted layout mesh x hub fold lawful
    (over-hub layout mesh x hub there places.0 places.1) spans

pub body-owned : (layout : Layout) (mesh : Mesh) (x m : ℕ) (body : Body) → IsLawful layout mesh
    → x < length layout.shapes → IsPlaced mesh layout.window (shape_at layout x) body
    → m < regions_of (is_section_body body) layout.windows → (s k : ℕ)
    → s ≤ layout.windows * layout.window
    → owned mesh layout.window x (m + 1) s k
    ≡ or_marked (owned mesh layout.window x m) (body_marks layout.window body m) s k
body-owned layout mesh x m (OfSection section) lawful there places few =
    section-owned layout mesh x m section.stretch lawful
    (over-section layout mesh x section.stretch there places) (omega arith)
body-owned layout mesh x m (OfSeam seam) lawful there places few =
    let o = over-seam layout mesh x seam.stretch there places in
    owned-seam layout mesh x m o.pipe o.place o.left o.right seam.stretch lawful o.over few
body-owned layout mesh x m (OfNode hub) lawful there places few =
    hub-owned layout mesh x m hub lawful (over-hub layout mesh x hub there places.0 places.1) few
