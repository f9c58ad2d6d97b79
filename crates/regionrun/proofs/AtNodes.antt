-- The strand of a node: its spokes are the stretches that the layout has at the node's ends.
use Rattle.std.proofs.Common.{◌≡◌, ℕ, suc, ◌+◌, ◌-◌, ◌*◌, ◌/◌, ◌<◌, ◌≤◌, ◌==◌, Bool, true, false}
use Rattle.std.proofs.Common.{not, length, List, ◌∷◌, map, refl, ap, sym, subst, ◌∙◌, arith}
use Rattle.std.proofs.Common.{eq-eqb, inl}
use Rattle.std.specs.Prelude.{if◌then◌else◌, nat_le, nat_lt, slice_index_or}
use Rattle.std.proofs.lemmas.Bool.{and_parts, eqb-true, le-leb, leb-true, lt-ltb, ltb-true}
use Rattle.std.proofs.lemmas.List.{get_or-map, length-map}
use Rattle.case_model.specs.Joints.{no_end}
use Rattle.case_model.specs.declared.points.Point.{Point}
use Rattle.case_model.specs.Meaning.{Meaning}
use Rattle.case_model.specs.Mesh.{base_of, ends_of, reaches}
use Rattle.case_model.specs.declared.meshes.End.{End}
use Rattle.case_model.specs.declared.meshes.Mesh.{Mesh}
use Rattle.envelope.specs.Cells.{AreInOneSpan, is_within, no_span}
use Rattle.envelope.specs.Folds.{spans_of}
use Rattle.envelope.specs.declared.folds.Fold.{Fold}
use Rattle.fronts.specs.Stretches.{IsStretchOf, count_of}
use Rattle.fronts.specs.declared.stretches.Stretch.{Stretch}
use Rattle.regions.specs.Sides.{back_of, end_at, shape_at, side_of}
use Rattle.regions.specs.declared.shapes.Layout.{Layout}
use Rattle.regions.specs.declared.shapes.Shape.{Shape}
use Rattle.regions.specs.declared.shapes.Shape.TheVariants.{OfNode, OfSeam, OfSection}
use Rattle.regionrun.proofs.Begun.{of-list}
use Rattle.regionrun.proofs.Flags.{some-of}
use Rattle.regionrun.proofs.Handing.{spoke-lawful, station-has, station-lends}
use Rattle.regionrun.proofs.Nodes.{AreOfNode, IsOverSpoke, node-stands, owned-node}
use Rattle.regionrun.proofs.Spanned.{node-within}
use Rattle.regionrun.specs.Handed.{HasStation, ArePointsFor}
use Rattle.regionrun.specs.Lawful.{IsLawful}
use Rattle.regionrun.specs.Owned.{owned}
use Rattle.regionrun.specs.Places.{IsNodeOf}
use Rattle.regionrun.specs.Right.{end_span, strand_spans}
use Rattle.strands.specs.Hubs.{HasInner, HasOuter, IsForWindow, IsHubAt, NotesHub, hub_marks}
use Rattle.strands.specs.Hubs.{is_passed, spokes_of}
use Rattle.strands.specs.Marks.{or_marked}
use Rattle.strands.specs.Spokes.{end_place, nearer_low}
use Rattle.strands.specs.Stations.{half}
use Rattle.strands.specs.declared.hubs.Hub.{Hub}
use Rattle.strands.specs.declared.spokes.Spoke.{Spoke}

-- ---- the places of a spoke

-- a spoke at this end
pub record IsAtEnd (mesh : Mesh) (w : ℕ) (e : End) (spoke : Spoke) : Type 0 where
  pub pipe_is : spoke.stretch.pipe ≡ e.pipe
  pub last_is : spoke.last ≡ e.at_last
  pub over : IsOverSpoke mesh w e (end_place spoke.last (half w)) spoke.stretch

-- the spokes of a hub are at the ends of its node
pub record AreAtEnds (mesh : Mesh) (w : ℕ) (hub : Hub) : Type 0 where
  pub each : length (spokes_of hub) ≡ length (ends_of mesh hub.node)
  pub ends : (i : ℕ) (d : Spoke) → i < length (spokes_of hub)
      → IsAtEnd mesh w (end_at mesh hub.node i) (slice_index_or (spokes_of hub) i d)

end-if : (last : Bool) (n : ℕ) → end_place last n ≡ (if last then n else 0)
end-if true n = refl
end-if false n = refl

-- a hub that is computed has such spokes
pub hub-placed : (law : Meaning) (w s : ℕ) (hub : Hub) → IsHubAt law w s hub
    → AreAtEnds law.mesh w hub
hub-placed law w s hub at = record {
  each = at.on_mesh.each;
  ends = λ i d h.
      let spoke = slice_index_or (spokes_of hub) i d in
      let is = (at.spokes i d h).on_pipe in
      let end : End = record { pipe = spoke.stretch.pipe; at_last = spoke.last } in
      let here : IsAtEnd law.mesh w end spoke = record {
        pipe_is = refl;
        last_is = refl;
        over = record {
          at_is = end-if spoke.last (half w);
          first_is = is.end_is ∙ end-if spoke.last (reaches law.mesh spoke.stretch.pipe);
          number_is = is.line.number_is;
          count_is = is.size;
        };
      } in
      subst (λ (e : End). IsAtEnd law.mesh w e spoke)
      (sym ((at.on_mesh.ends i d h).end_is no_end)) here;
}

-- ---- the strand of a node

-- strand x, of the node of a hub
pub record OverHub (layout : Layout) (mesh : Mesh) (x : ℕ) (hub : Hub) : Type 0 where
  pub there : x < length layout.shapes
  pub shape : shape_at layout x ≡ OfNode hub.node
  pub ends : AreAtEnds mesh layout.window hub

node-by : (layout : Layout) (mesh : Mesh) (x : ℕ) (shape : Shape) (hub : Hub)
    → x < length layout.shapes → shape_at layout x ≡ shape → IsNodeOf shape hub.node
    → AreAtEnds mesh layout.window hub → OverHub layout mesh x hub
node-by layout mesh x (OfSection p place n l r) hub there is same ends = absurd same
node-by layout mesh x (OfSeam p place l r) hub there is same ends = absurd same
node-by layout mesh x (OfNode node) hub there is same ends = record {
  there = there;
  shape = is ∙ ap OfNode (sym same);
  ends = ends;
}

pub over-hub : (layout : Layout) (mesh : Mesh) (x : ℕ) (hub : Hub) → x < length layout.shapes
    → IsNodeOf (shape_at layout x) hub.node → AreAtEnds mesh layout.window hub
    → OverHub layout mesh x hub
over-hub layout mesh x hub there same ends =
    node-by layout mesh x (shape_at layout x) hub there refl same ends

pub hub-sides : (layout : Layout) (mesh : Mesh) (x : ℕ) (hub : Hub) → OverHub layout mesh x hub
    → length (ends_of mesh hub.node) ≡ length (spokes_of hub)
hub-sides layout mesh x hub over = sym over.ends.each

pub hub-fits : (layout : Layout) (mesh : Mesh) (x : ℕ) (hub : Hub) → IsLawful layout mesh
    → OverHub layout mesh x hub → IsForWindow layout.window hub
hub-fits layout mesh x hub lawful over =
    λ i d h. (lawful.whole.some, (over.ends.ends i d h).over.count_is)

-- ---- blocks

spoke-first : (last : Bool) (first far n : ℕ) → first + end_place last far ≡ (if last then n else 0)
    → first ≡ (if last then n - far else 0)
spoke-first true first far n e = omega arith
spoke-first false first far n e = omega arith

end-last : (last other : Bool) (n : ℕ) → last ≡ other
    → ◌≡◌ {A = ℕ} (if last then n else 0) (if other then n else 0)
end-last last other n e = ap (λ (b : Bool). if b then n else 0) e

hub-station : (layout : Layout) (mesh : Mesh) (x side : ℕ) (hub : Hub) (d : Spoke)
    → IsLawful layout mesh → OverHub layout mesh x hub → side < length (spokes_of hub)
    → HasStation layout mesh x side (not (slice_index_or (spokes_of hub) side d).last)
    (end_place (slice_index_or (spokes_of hub) side d).last (half layout.window))
    (slice_index_or (spokes_of hub) side d).stretch
hub-station layout mesh x side hub d lawful over here =
    let w : ℕ = layout.window in
    let spoke = slice_index_or (spokes_of hub) side d in
    let end = end_at mesh hub.node side in
    let at = over.ends.ends side d here in
    let n : ℕ = reaches mesh end.pipe in
    let same : (if end.at_last then n else 0) ≡ (if spoke.last then n else 0) =
    end-last end.at_last spoke.last n (sym at.last_is) in
    let is : IsStretchOf end.pipe (if spoke.last then n - half w else 0) spoke.stretch.number
    (half w + 1) spoke.stretch = record {
      pipe_is = at.pipe_is;
      first_is = spoke-first spoke.last spoke.stretch.first (half w) n (at.over.first_is ∙ same);
      number_is = refl;
      count_is = at.over.count_is;
    } in
    subst (λ (z : ℕ). HasStation layout mesh x side (not spoke.last) z spoke.stretch)
    (sym (end-if spoke.last (half w)))
    (spoke-lawful layout mesh x side hub.node spoke.stretch.number spoke.last spoke.stretch lawful
    over.there over.shape (let e = over.ends.each in omega arith) (sym at.last_is) is)

pub hub-incoming : (law : Meaning) (layout : Layout) (x m side : ℕ) (hub : Hub)
    (tells : ℕ → Point → Type 0)
    → IsLawful layout law.mesh → OverHub layout law.mesh x hub → side < length (spokes_of hub)
    → ArePointsFor law layout (side_of layout law.mesh x side) (back_of layout law.mesh x side) m
    tells
    → HasOuter law layout.window (m * layout.window) side hub tells
hub-incoming law layout x m side hub tells lawful over here h = λ d.
    let spoke = slice_index_or (spokes_of hub) side d in
    station-has law layout x side m (not spoke.last) (end_place spoke.last (half layout.window))
    spoke.stretch tells (hub-station layout law.mesh x side hub d lawful over here) h

pub hub-outgoing : (law : Meaning) (layout : Layout) (x m side : ℕ) (hub : Hub)
    (tells : ℕ → Point → Type 0)
    → IsLawful layout law.mesh → OverHub layout law.mesh x hub → side < length (spokes_of hub)
    → HasInner law layout.window (m * layout.window) side hub tells
    → ArePointsFor law layout x side m tells
hub-outgoing law layout x m side hub tells lawful over here has =
    let d = some-of side (spokes_of hub) here in
    let spoke = slice_index_or (spokes_of hub) side d in
    station-lends law layout x side m (not spoke.last) (end_place spoke.last (half layout.window))
    spoke.stretch tells (hub-station layout law.mesh x side hub d lawful over here) (has d)

-- ---- what is noted

in-nth : (spans : List (ℕ × ℕ)) (i low many : ℕ) (span : ℕ × ℕ) → i < length spans
    → slice_index_or spans i no_span ≡ span → span.0 ≤ low → low + many ≤ span.0 + span.1
    → AreInOneSpan spans low many
in-nth spans i low many span there e a b = (
  i,
  record {
    there = there;
    low = subst (λ (z : ℕ × ℕ). z.0 ≤ low) (sym e) a;
    high = subst (λ (z : ℕ × ℕ). low + many ≤ z.0 + z.1) (sym e) b;
  },
)

-- the span of an end has the places of the spoke there but the farthest
record IsSpanned (low many : ℕ) (span : ℕ × ℕ) : Type 0 where
  low_in : span.0 ≤ low
  high_in : low + many ≤ span.0 + span.1

spoke-spanned : (last : Bool) (w base first number count n : ℕ) → 1 ≤ w
    → first + end_place last (half w) ≡ (if last then n else 0) → number ≡ base + first
    → count ≡ half w + 1
    → IsSpanned (number + nearer_low last) (count - 1)
    (if last then (base + n - (w - 1) / 2, (w - 1) / 2 + 1) else (base, (w - 1) / 2 + 1))
spoke-spanned true w base first number count n some e f g =
    record { low_in = omega arith; high_in = omega arith }
spoke-spanned false w base first number count n some e f g =
    record { low_in = omega arith; high_in = omega arith }

node-spans : (mesh : Mesh) (w node : ℕ) → strand_spans mesh w (OfNode node)
    ≡ ((node, 1) ∷ map (end_span mesh w) (ends_of mesh node))
unfolding strand_spans
node-spans mesh w node = refl

pub hub-noted : (layout : Layout) (mesh : Mesh) (x : ℕ) (hub : Hub) (fold : Fold)
    → IsLawful layout mesh → OverHub layout mesh x hub
    → spans_of fold ≡ strand_spans mesh layout.window (shape_at layout x)
    → NotesHub hub fold
hub-noted layout mesh x hub fold lawful over spans =
    let w : ℕ = layout.window in
    let ends = ends_of mesh hub.node in
    let all : List (ℕ × ℕ) = (hub.node, 1) ∷ map (end_span mesh w) ends in
    let is : spans_of fold ≡ all =
    spans ∙ ap (strand_spans mesh w) over.shape ∙ node-spans mesh w hub.node in
    record {
      node = ap (λ (z : List (ℕ × ℕ)). is_within z hub.node) is
          ∙ node-within mesh w hub.node hub.node (inl refl);
      spokes = λ i d h.
          let spoke = slice_index_or (spokes_of hub) i d in
          let end = end_at mesh hub.node i in
          let at = over.ends.ends i d h in
          let l : i < length ends = let e = over.ends.each in omega arith in
          let size = length-map ends (end_span mesh w) in
          let n : ℕ = reaches mesh end.pipe in
          let in_span : IsSpanned (spoke.stretch.number + nearer_low spoke.last)
          (count_of spoke.stretch - 1) (end_span mesh w end) =
          subst (λ (b : Bool). IsSpanned (spoke.stretch.number + nearer_low spoke.last)
          (count_of spoke.stretch - 1) (if b
          then (base_of mesh end.pipe + n - (w - 1) / 2, (w - 1) / 2 + 1)
          else (base_of mesh end.pipe, (w - 1) / 2 + 1))) at.last_is
          (spoke-spanned spoke.last w (base_of mesh end.pipe) spoke.stretch.first
          spoke.stretch.number (count_of spoke.stretch) n lawful.whole.some
          (at.over.first_is ∙ end-last end.at_last spoke.last n (sym at.last_is))
          at.over.number_is at.over.count_is) in
          subst (λ (z : List (ℕ × ℕ)). AreInOneSpan z
          (spoke.stretch.number + nearer_low spoke.last) (count_of spoke.stretch - 1)) (sym is)
          (in-nth all (suc i) (spoke.stretch.number + nearer_low spoke.last)
          (count_of spoke.stretch - 1) (end_span mesh w end) (omega arith)
          (get_or-map (end_span mesh w) ends i no_end no_span l) in_span.low_in in_span.high_in);
    }

-- ---- what is owned

passed-here : (w m node s k : ℕ) → k ≡ node → m * w < s → s ≤ m * w + w
    → is_passed (m * w) 0 w node s k ≡ true
passed-here w m node s k e a b =
    rw (eq-eqb k node e, lt-ltb (m * w + 0) s (omega arith), le-leb s (m * w + w) b) refl

passed-only : (w m node s k : ℕ) → is_passed (m * w) 0 w node s k ≡ true
    → (k ≡ node) × (m * w < s) × (s ≤ m * w + w)
passed-only w m node s k h =
    let t = and_parts (k == node) _ h in
    let u = and_parts (nat_lt (m * w + 0) s) (nat_le s (m * w + w)) t.1 in
    let a : m * w + 0 < s = ltb-true (m * w + 0) s u.0 in
    let b : s ≤ m * w + w = leb-true s (m * w + w) u.1 in
    (eqb-true k node t.0, omega arith, b)

pub hub-owned : (layout : Layout) (mesh : Mesh) (x m : ℕ) (hub : Hub) → IsLawful layout mesh
    → OverHub layout mesh x hub → m < layout.windows → (s k : ℕ)
    → s ≤ layout.windows * layout.window
    → owned mesh layout.window x (m + 1) s k
    ≡ or_marked (owned mesh layout.window x m)
    (hub_marks layout.window (m * layout.window) 0 layout.window hub) s k
hub-owned layout mesh x m hub lawful over few =
    let w : ℕ = layout.window in
    let there = (node-stands layout mesh x hub.node lawful over.there over.shape).1 in
    let some : 0 < length (spokes_of hub) =
    let a = lawful.limited.some_ends hub.node there in let b = over.ends.each in omega arith in
    let d = some-of 0 (spokes_of hub) some in
    let stretch : Spoke → Stretch = λ spoke. spoke.stretch in
    let at : Spoke → ℕ = λ spoke. end_place spoke.last (half w) in
    owned-node layout mesh x m hub.node (λ j. stretch (slice_index_or (spokes_of hub) j d))
    (λ j. at (slice_index_or (spokes_of hub) j d))
    (hub_marks w (m * w) 0 w hub) lawful
    (record {
      there = over.there;
      shape = over.shape;
      each = λ j h. (over.ends.ends j d (let e = over.ends.each in omega arith)).over;
    })
    (subst (λ (count : ℕ). AreOfNode w m hub.node count
    (λ j. stretch (slice_index_or (spokes_of hub) j d))
    (λ j. at (slice_index_or (spokes_of hub) j d)) (hub_marks w (m * w) 0 w hub)) over.ends.each
    (of-list stretch at d (spokes_of hub) w m hub.node (is_passed (m * w) 0 w hub.node)
    (passed-here w m hub.node) (passed-only w m hub.node)))
    few
