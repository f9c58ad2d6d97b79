-- What the regions of a node own: the node itself, and what lies between two fronts of the
-- stretches at its pipe ends.
use Rattle.std.proofs.Common.{◌≡◌, ℕ, ◌+◌, ◌-◌, ◌*◌, ◌<◌, ◌≤◌, ◌⊎◌, inl, inr, Bool, true, false}
use Rattle.std.proofs.Common.{length, ap, sym, subst, ◌∙◌, arith}
use Rattle.std.specs.Prelude.{if◌then◌else◌}
use Rattle.case_model.specs.declared.cases.ProbeAt.{ProbeAt}
use Rattle.case_model.specs.declared.cases.ProbeAt.TheVariants.{OnPipe, OnNode}
use Rattle.case_model.specs.declared.meshes.End.{End}
use Rattle.case_model.specs.declared.meshes.Mesh.{Mesh}
use Rattle.case_model.specs.Mesh.{base_of, ends_of, reaches}
use Rattle.case_model.specs.PlaceNumbers.{IsOn, number_of, place_at}
use Rattle.fronts.specs.Bands.{from_place}
use Rattle.fronts.specs.Fronts.{fan}
use Rattle.fronts.specs.Stretches.{count_of}
use Rattle.fronts.specs.declared.stretches.Stretch.{Stretch}
use Rattle.regions.specs.declared.shapes.Layout.{Layout}
use Rattle.regions.specs.declared.shapes.Shape.{Shape}
use Rattle.regions.specs.declared.shapes.Shape.TheVariants.{OfNode}
use Rattle.regions.specs.Regions.{InShape, InStation}
use Rattle.regions.specs.Sides.{back_in, back_of, end_at, is_section_shape, shape_at}
use Rattle.regions.specs.Touching.{IsStanding, station_pipe, station_place}
use Rattle.strands.specs.Marks.{Marks, is_between, or_marked}
use Rattle.strands.specs.Stations.{half}
use Rattle.regionrun.specs.Lawful.{IsLawful}
use Rattle.regionrun.specs.Owned.{AreOfRegion, end_place, owned, spot_of}
use Rattle.regionrun.proofs.Beside.{IsBeside, IsStation, fan-stations, stations-fan}
use Rattle.regionrun.proofs.Owning.{owned-next}
use Rattle.regionrun.proofs.Seams.{fan-in, fan-only}
use Rattle.regionrun.proofs.Spots.{between-parts, node-below, node-is, place-below}
use Rattle.regionrun.proofs.Spots.{place-is}
use Rattle.regions.proofs.Joining.{sides-from}
use Rattle.strands.proofs.Marking.{between-in}

-- a stretch from a pipe's end inward, with the end at its place `at`
pub record IsOverSpoke (mesh : Mesh) (w : ℕ) (e : End) (at : ℕ) (stretch : Stretch) : Type 0 where
  pub at_is : at ≡ (if e.at_last then half w else 0)
  pub first_is : stretch.first + at ≡ end_place mesh e
  pub number_is : stretch.number ≡ base_of mesh e.pipe + stretch.first
  pub count_is : count_of stretch ≡ half w + 1

-- the steps and places of region m of a node with such stretches at its so many ends
abbrev pub spoke_marks : ℕ → ℕ → ℕ → Stretch → Marks
spoke_marks w m at stretch =
    is_between stretch (λ y. fan (m * w) w 0 (from_place at y))
    (λ y. fan (m * w) w w (from_place at y))

pub record AreOfNode (w m node count : ℕ) (spoke : ℕ → Stretch) (at : ℕ
    → ℕ) (marks : Marks) : Type 0 where
  pub node_in : (s k : ℕ) → k ≡ node → m * w < s → s ≤ m * w + w → marks s k ≡ true
  pub spoke_in : (j s k : ℕ) → j < count → spoke_marks w m (at j) (spoke j) s k ≡ true
      → marks s k ≡ true
  pub only : (s k : ℕ) → marks s k ≡ true
      → ((k ≡ node) × (m * w < s) × (s ≤ m * w + w))
      ⊎ ((j : ℕ) × (j < count) × (spoke_marks w m (at j) (spoke j) s k ≡ true))

-- a node's strand, and the stretches at its ends
pub record IsOverNode (layout : Layout) (mesh : Mesh) (x node : ℕ) (spoke : ℕ → Stretch) (at : ℕ
    → ℕ) : Type 0 where
  pub there : x < length layout.shapes
  pub shape : shape_at layout x ≡ OfNode node
  pub each : (j : ℕ) → j < length (ends_of mesh node)
      → IsOverSpoke mesh layout.window (end_at mesh node j) (at j) (spoke j)

-- ---- places of a spoke

record IsSpokePlace (first at far end i : ℕ) : Type 0 where
  low : first ≤ i
  high : i < first + (far + 1)
  away : from_place end i ≡ from_place at (i - first)

spoke-place : (last : Bool) (first at far n i : ℕ) → at ≡ (if last then far else 0)
    → first + at ≡ (if last then n else 0) → i ≤ n
    → from_place (if last then n else 0) i ≤ far
    → IsSpokePlace first at far (if last then n else 0) i
spoke-place true first at far n i a b c d =
    record { low = omega arith; high = omega arith; away = omega arith }
spoke-place false first at far n i a b c d =
    record { low = omega arith; high = omega arith; away = omega arith }

spoke-inside : (last : Bool) (first at far n y : ℕ) → at ≡ (if last then far else 0)
    → first + at ≡ (if last then n else 0) → far ≤ n → y < far + 1
    → (first + y ≤ n) × (from_place at y ≡ from_place (if last then n else 0) (first + y))
spoke-inside true first at far n y a b c d = (omega arith, omega arith)
spoke-inside false first at far n y a b c d = (omega arith, omega arith)

pub at-most : (last : Bool) (far : ℕ) → (if last then far else 0) ≤ far
at-most true far = omega arith
at-most false far = omega arith

-- ---- on the mesh

pub node-stands : (layout : Layout) (mesh : Mesh) (x node : ℕ) → IsLawful layout mesh
    → x < length layout.shapes → shape_at layout x ≡ OfNode node
    → IsStanding mesh layout.window x (OfNode node)
node-stands layout mesh x node lawful h e =
    subst (IsStanding mesh layout.window x) e (lawful.touching.stands x h)

pub node-station : (layout : Layout) (x node : ℕ) → x < length layout.shapes
    → shape_at layout x ≡ OfNode node → IsStation layout x
node-station layout x node h e = record { there = h; kind = ap is_section_shape e }

back-at : (layout : Layout) (mesh : Mesh) (x c node : ℕ) → shape_at layout x ≡ OfNode node
    → back_of layout mesh x c ≡ back_in layout mesh c (OfNode node)
unfolding back_of
back-at layout mesh x c node e = ap (back_in layout mesh c) e

side-at : (last : Bool) (back at n i : ℕ) → back ≡ (if last then 1 else 0)
    → at ≡ (if last then n else 0) → i ≤ n → ((back ≡ 0) × (at ≤ i)) ⊎ ((back ≡ 1) × (i ≤ at))
side-at true back at n i a b h = inr (a, omega arith)
side-at false back at n i a b h = inl (a, omega arith)

-- each place of a pipe lies at the side of its end
pub node-beside : (layout : Layout) (mesh : Mesh) (x c node i : ℕ) → shape_at layout x ≡ OfNode node
    → c < length (ends_of mesh node)
    → i ≤ reaches mesh (end_at mesh node c).pipe
    → IsBeside layout mesh x c (end_at mesh node c).pipe i
node-beside layout mesh x c node i e h l =
    let z = sides-from layout mesh x _ e in
    record {
      index = omega arith;
      pipe = ap (station_pipe mesh c) e;
      side = side-at (end_at mesh node c).at_last (back_of layout mesh x c)
          (station_place mesh c (shape_at layout x)) (reaches mesh (end_at mesh node c).pipe) i
          (back-at layout mesh x c node e) (ap (station_place mesh c) e) l;
    }

inside : (layout : Layout) (mesh : Mesh) (x m s k node : ℕ) (spoke : ℕ → Stretch) (at : ℕ
    → ℕ) (marks : Marks) (here : ProbeAt) → IsLawful layout mesh
    → IsOverNode layout mesh x node spoke at
    → AreOfNode layout.window m node (length (ends_of mesh node)) spoke at marks
    → IsOn mesh here → number_of mesh here ≡ k → InShape layout x m s (OfNode node) (spot_of here)
    → marks s k ≡ true
inside layout mesh x m s k node spoke at marks (OnNode other) lawful over of on e r =
    let a = r.2.after in
    let b = r.2.before in
    let same : node ≡ other = r.0 in
    of.node_in s k (omega arith) (omega arith) (omega arith)
inside layout mesh x m s k node spoke at marks (OnPipe p i) lawful over of on e r =
    let w : ℕ = layout.window in
    let f = stations-fan layout mesh x m p i s lawful
    (node-station layout x node over.there over.shape) r in
    let c : ℕ = f.c in
    let end = end_at mesh node c in
    let z = sides-from layout mesh x _ over.shape in
    let index : c < length (ends_of mesh node) = let l = f.beside.index in omega arith in
    let pipe : end.pipe ≡ p = sym (ap (station_pipe mesh c) over.shape) ∙ f.beside.pipe in
    let base : base_of mesh end.pipe ≡ base_of mesh p = ap (base_of mesh) pipe in
    let fits : i ≤ reaches mesh end.pipe = subst (λ (q : ℕ). i ≤ reaches mesh q) (sym pipe) on.1 in
    let place : station_place mesh c (shape_at layout x) ≡ end_place mesh end =
    ap (station_place mesh c) over.shape in
    let ov = over.each c index in
    let b = fan-in w m (from_place (end_place mesh end) i) s lawful.whole.some
    (subst (λ (u : ℕ). InStation w m (from_place u i) s) place f.at) in
    let sp = spoke-place end.at_last (spoke c).first (at c) (half w) (reaches mesh end.pipe) i
    ov.at_is ov.first_is fits b.0 in
    let low = sp.low in
    let high = sp.high in
    let number = ov.number_is in
    let count = ov.count_is in
    let y : i - (spoke c).first ≡ k - (spoke c).number = omega arith in
    let d : from_place (end_place mesh end) i ≡ from_place (at c) (k - (spoke c).number) =
    sp.away ∙ ap (from_place (at c)) y in
    of.spoke_in c s k index
    (between-in (spoke c) (λ u. fan (m * w) w 0 (from_place (at c) u))
    (λ u. fan (m * w) w w (from_place (at c) u)) s k (omega arith) (omega arith)
    (subst (λ (u : ℕ). fan (m * w) w 0 u < s) d b.2)
    (subst (λ (u : ℕ). s ≤ fan (m * w) w w u) d b.3))

-- where a mark of a spoke stands
record IsOfSpoke (layout : Layout) (mesh : Mesh) (x m node s k : ℕ) : Type 0 where
  below : k < mesh.places
  after : 1 ≤ s
  region : InShape layout x m s (OfNode node) (spot_of (place_at mesh k))

of-spoke : (layout : Layout) (mesh : Mesh) (x m node j s k : ℕ) (spoke : ℕ → Stretch) (at : ℕ → ℕ)
    → IsLawful layout mesh → IsOverNode layout mesh x node spoke at
    → m < layout.windows → j < length (ends_of mesh node)
    → spoke_marks layout.window m (at j) (spoke j) s k ≡ true → IsOfSpoke layout mesh x m node s k
of-spoke layout mesh x m node j s k spoke at lawful over few l h =
    let w : ℕ = layout.window in
    let end = end_at mesh node j in
    let ov = over.each j l in
    let long = lawful.touching.ends node j
    ((node-stands layout mesh x node lawful over.there over.shape).1) l in
    let room : half w ≤ reaches mesh end.pipe = let a = long.long in let some = lawful.whole.some in
    omega arith in
    let b = between-parts (spoke j) (λ u. fan (m * w) w 0 (from_place (at j) u))
    (λ u. fan (m * w) w w (from_place (at j) u)) s k h in
    let e = b.number in
    let t = b.there in
    let after = b.after in
    let number = ov.number_is in
    let count = ov.count_is in
    let i : ℕ = (spoke j).first + b.place in
    let sp = spoke-inside end.at_last (spoke j).first (at j) (half w) (reaches mesh end.pipe)
    b.place ov.at_is ov.first_is room (omega arith) in
    let at_most = at-most end.at_last (half w) in
    let at_is = ov.at_is in
    let z = place-is layout mesh end.pipe i k lawful long.there sp.0 (omega arith) in
    let s_in = fan-only w m (from_place (at j) b.place) s lawful.whole.some (omega arith) b.after
    b.before in
    record {
      below = place-below layout mesh end.pipe i k lawful long.there sp.0 (omega arith);
      after = omega arith;
      region = subst (λ (here : ProbeAt). InShape layout x m s (OfNode node) (spot_of here)) (sym z)
          (fan-stations layout mesh x m end.pipe i s lawful
          (node-station layout x node over.there over.shape)
          (record {
            c = j;
            beside = node-beside layout mesh x j node i over.shape l sp.0;
            few = few;
            at = subst (λ (u : ℕ). InStation w m (from_place u i) s)
                (sym (ap (station_place mesh j) over.shape))
                (subst (λ (u : ℕ). InStation w m u s) sp.1 s_in);
          }));
    }

of-node : (layout : Layout) (mesh : Mesh) (x m node s k : ℕ) → IsLawful layout mesh
    → node < length mesh.ends
    → m < layout.windows → k ≡ node → m * layout.window < s → s ≤ m * layout.window + layout.window
    → IsOfSpoke layout mesh x m node s k
of-node layout mesh x m node s k lawful h few e a b =
    let l : k < length mesh.ends = omega arith in
    record {
      below = node-below layout mesh k lawful l;
      after = omega arith;
      region = subst (λ (here : ProbeAt). InShape layout x m s (OfNode node) (spot_of here))
          (sym (node-is layout mesh k lawful l))
          (sym e, few, record { after = omega arith; before = omega arith });
    }

of-either : (layout : Layout) (mesh : Mesh) (x m node s k : ℕ) (spoke : ℕ → Stretch) (at : ℕ
    → ℕ) (marks : Marks) → IsLawful layout mesh → IsOverNode layout mesh x node spoke at
    → AreOfNode layout.window m node (length (ends_of mesh node)) spoke at marks
    → m < layout.windows → marks s k ≡ true → IsOfSpoke layout mesh x m node s k
of-either layout mesh x m node s k spoke at marks lawful over of few h = elim (of.only s k h) [
  | inl a ↦ of-node layout mesh x m node s k lawful
      ((node-stands layout mesh x node lawful over.there over.shape).1) few a.0 a.1 a.2
  | inr a ↦ of-spoke layout mesh x m node a.0 s k spoke at lawful over few a.1 a.2
]

pub node-marks : (layout : Layout) (mesh : Mesh) (x m node : ℕ) (spoke : ℕ → Stretch) (at : ℕ
    → ℕ) (marks : Marks) → IsLawful layout mesh
    → IsOverNode layout mesh x node spoke at
    → AreOfNode layout.window m node (length (ends_of mesh node)) spoke at marks
    → m < layout.windows
    → AreOfRegion layout mesh x m marks
node-marks layout mesh x m node spoke at marks lawful over of few = record {
  inside = λ s k h some end r. inside layout mesh x m s k node spoke at marks (place_at mesh k)
      lawful over of (lawful.told.on k h) (lawful.told.number k h)
      (subst (λ (z : Shape). InShape layout x m s z (spot_of (place_at mesh k))) over.shape r);
  there = λ s k h. (of-either layout mesh x m node s k spoke at marks lawful over of few h).below;
  later = λ s k h. (of-either layout mesh x m node s k spoke at marks lawful over of few h).after;
  only = λ s k h. subst (λ (u : Shape). InShape layout x m s u (spot_of (place_at mesh k)))
      (sym over.shape) (of-either layout mesh x m node s k spoke at marks lawful over of few
      h).region;
}

-- a region of a node
pub owned-node : (layout : Layout) (mesh : Mesh) (x m node : ℕ) (spoke : ℕ → Stretch) (at : ℕ
    → ℕ) (marks : Marks) → IsLawful layout mesh
    → IsOverNode layout mesh x node spoke at
    → AreOfNode layout.window m node (length (ends_of mesh node)) spoke at marks
    → m < layout.windows
    → (s k : ℕ) → s ≤ layout.windows * layout.window
    → owned mesh layout.window x (m + 1) s k ≡ or_marked (owned mesh layout.window x m) marks s k
owned-node layout mesh x m node spoke at marks lawful over of few =
    owned-next layout mesh x m marks lawful over.there
    (node-marks layout mesh x m node spoke at marks lawful over of few)
