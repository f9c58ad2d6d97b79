-- What a region needs is enough for its points.
use Rattle.std.proofs.Common.{◌≡◌, ℕ, zero, suc, ◌+◌, ◌-◌, ◌*◌, ◌<◌, ◌≤◌, inl, inr, not, Bool, true, false, length, ap, subst, sym, ◌∙◌, add-one, arith}
use Rattle.std.specs.Prelude.{if◌then◌else◌}
use Rattle.std.proofs.lemmas.Bool.{cases_lt}
use Rattle.std.proofs.lemmas.List.Elements.{All-from_recursion}
use Rattle.case_model.specs.declared.meshes.End.{End}
use Rattle.case_model.specs.declared.meshes.Mesh.{Mesh}
use Rattle.case_model.specs.Mesh.{reaches, ends_of, next_to, IsMesh}
use Rattle.regions.specs.declared.shapes.Layout.{Layout}
use Rattle.regions.specs.declared.shapes.Shape.{Shape}
use Rattle.regions.specs.declared.shapes.Shape.TheVariants.{OfNode}
use Rattle.regions.specs.declared.shapes.Spot.{Spot}
use Rattle.regions.specs.declared.shapes.Spot.TheVariants.{AtNode, Inside}
use Rattle.regions.specs.Blocks.{InStationBlock, section_point, station_point, section_index, station_index, side_spot, block_spot, block_step}
use Rattle.regions.specs.Cuts.{sections, cut}
use Rattle.regions.specs.Layouts.{sections_at, section_number, station_number, section_shape, layout_of}
use Rattle.regions.specs.Needs.{needs_of, Reads, Source, AreEnough}
use Rattle.regions.specs.Needs.Source.{AtStart, InOwn, InBlock}
use Rattle.regions.specs.Regions.{InStation, InStationBy, InStations, InShape, InRegion}
use Rattle.case_model.specs.Joints.{no_end}
use Rattle.regions.specs.Sides.{end_at, shape_at, is_section, sides_of, side_of, back_of, AreMutual, IsWired}
use Rattle.regions.proofs.Blocking.{sections-in-order, stations-in-order}
use Rattle.regions.proofs.Cutting.{sections-some, cut-next, cut-last, reaches-long}
use Rattle.regions.proofs.Joining.{over-mutual, side-from, sides-from, back-from}
use Rattle.regions.proofs.Placing.{StationSource, station-reads, SectionSource, section-reads}
use Rattle.regions.proofs.Placing.StationSource.{FromStart, FromStation, FromSection}
use Rattle.regions.proofs.Placing.SectionSource.{FromRow0, FromRegion, FromLeft, FromRight}
use Rattle.regions.proofs.Reading.{IsSectionAt, count_at, first_at, number_at, spot_at, shape-of, there-of, kind-of, count-of, left-side, right-side, by-side, by-own, section-spot, station-spot, section-step, station-step}
use Rattle.regions.proofs.Strands.{node-inside, shape-node, shape-seam, shape-section, strand}
use Rattle.regions.proofs.Strands.Strand.{IsNode, IsSeam, IsSection}
use Rattle.regions.proofs.Whole.{IsFitted, fitted}

long-of : (layout : Layout) (mesh : Mesh) (p j : ℕ) → IsFitted layout mesh → IsSectionAt layout mesh p j → (layout.window ≤ count_at layout mesh p j) × (2 ≤ count_at layout mesh p j)
long-of layout mesh p j fit is =
    let long = reaches-long layout.window (reaches mesh p) j (fit.good.long p is.pipe) (fit.pipes p is.pipe) in
    (omega arith, omega arith)

-- ---- of a station, along the section at its side

station-lift : (layout : Layout) (mesh : Mesh) (p j b y m e t : ℕ) → IsFitted layout mesh → AreMutual layout mesh → IsSectionAt layout mesh p j → b < 2 → side_of layout mesh (number_at layout mesh p j) b ≡ y
    → m < layout.windows → e ≤ count_at layout mesh p j → StationSource layout.window m e t → Source layout mesh y m (spot_at layout mesh p j b e) t
station-lift layout mesh p j b y m e t fit joined is two at some far (FromStart z) = AtStart z
station-lift layout mesh p j b y m e t fit joined is two at some far (FromStation r l s) = InOwn r l (by-side layout mesh p j b y r e t fit is two at far (omega arith) s)
station-lift layout mesh p j b y m e t fit joined is two at some far (FromSection k s st) =
    let w : ℕ = layout.window in
    let z : ℕ = number_at layout mesh p j in
    let c : ℕ = back_of layout mesh z b in
    let i : ℕ = section_index e k in
    let h = there-of layout mesh p j fit is in
    let l : b < sides_of layout mesh z = let q = count-of layout mesh p j fit is in omega arith in
    let kind = kind-of layout mesh p j fit is in
    let station : is_section layout y ≡ false = ap (is_section layout) (sym at) ∙ joined.kinds z b h l ∙ ap not kind in
    let inside : c < sides_of layout mesh y = subst (λ (x : ℕ). c < sides_of layout mesh x) at (joined.index z b h l) in
    let again : side_of layout mesh y c ≡ z = ap (λ (x : ℕ). side_of layout mesh x c) (sym at) ∙ joined.again z b h l in
    let twice : back_of layout mesh y c ≡ b = ap (λ (x : ℕ). back_of layout mesh x c) (sym at) ∙ joined.twice z b h l in
    let point = (sections-in-order w).found e k s in
    InBlock c m i inside (ap (λ (x : Bool). needs_of x m) station) some ((sections-in-order w).there e k s)
    (ap (λ (x : ℕ). block_spot layout mesh x (back_of layout mesh y c) i) again ∙ ap (λ (x : ℕ). block_spot layout mesh z x i) twice
    ∙ section-spot layout mesh z b i kind ∙ ap (side_spot b (section_point i).0) (shape-of layout mesh p j fit is) ∙ ap (λ (x : ℕ × ℕ). spot_at layout mesh p j b x.0) point)
    (ap (λ (x : ℕ). block_step layout x m i) again ∙ section-step layout z m i kind ∙ ap (λ (x : ℕ × ℕ). m * w + x.1) point ∙ st)

-- ---- of a section

station-block-at : (layout : Layout) (mesh : Mesh) (p j side d m b k t : ℕ) → IsFitted layout mesh → AreMutual layout mesh → IsSectionAt layout mesh p j → side < 2
    → m ≤ layout.windows → m ≡ suc b → InStationBlock layout.window d k → b * layout.window + k ≡ t → Source layout mesh (number_at layout mesh p j) m (spot_at layout mesh p j side d) t
station-block-at layout mesh p j side d m b k t fit joined is two some e s st =
    let w : ℕ = layout.window in
    let x : ℕ = number_at layout mesh p j in
    let y : ℕ = side_of layout mesh x side in
    let c : ℕ = back_of layout mesh x side in
    let i : ℕ = station_index w d k in
    let h = there-of layout mesh p j fit is in
    let l : side < sides_of layout mesh x = let q = count-of layout mesh p j fit is in omega arith in
    let kind = kind-of layout mesh p j fit is in
    let station : is_section layout y ≡ false = joined.kinds x side h l ∙ ap not kind in
    let point = (stations-in-order w).found d k s in
    InBlock side b i l (ap (λ (z : Bool). needs_of z m) kind ∙ ap (needs_of true) e) (omega arith) ((stations-in-order w).there d k s)
    (station-spot layout mesh y c i station
    ∙ ap (λ (z : ℕ). side_spot z (station_point w i).0 (shape_at layout (side_of layout mesh y c))) (joined.twice x side h l)
    ∙ ap (λ (z : ℕ). side_spot side (station_point w i).0 (shape_at layout z)) (joined.again x side h l)
    ∙ ap (side_spot side (station_point w i).0) (shape-of layout mesh p j fit is)
    ∙ ap (λ (z : ℕ × ℕ). spot_at layout mesh p j side z.0) point)
    (station-step layout y b i station ∙ ap (λ (z : ℕ × ℕ). b * w + z.1) point ∙ st)

section-lift : (layout : Layout) (mesh : Mesh) (p j m e t : ℕ) → IsFitted layout mesh → AreMutual layout mesh → IsSectionAt layout mesh p j
    → m ≤ layout.windows → e ≤ count_at layout mesh p j → SectionSource layout.window (count_at layout mesh p j) m e t
    → Source layout mesh (number_at layout mesh p j) m (Inside p (first_at layout mesh p j + e)) t
section-lift layout mesh p j m e t fit joined is some far (FromRow0 z) = AtStart z
section-lift layout mesh p j m e t fit joined is some far (FromRegion r l lo hi s) = InOwn r l (by-own layout mesh p j r e t fit is lo hi (omega arith) s)
section-lift layout mesh p j m e t fit joined is some far (FromLeft b k z s st) = station-block-at layout mesh p j 0 e m b k t fit joined is (omega arith) some z s st
section-lift layout mesh p j m e t fit joined is some far (FromRight b k z s st) =
    let n : ℕ = count_at layout mesh p j in
    let a : ℕ = first_at layout mesh p j in
    let back : a + n - (n - e) ≡ a + e = omega arith in
    subst (λ (x : ℕ). Source layout mesh (number_at layout mesh p j) m (Inside p x) t) back (station-block-at layout mesh p j 1 (n - e) m b k t fit joined is (omega arith) some z s st)

-- ---- an inner place

-- of a section's region
of-section : (layout : Layout) (mesh : Mesh) (p q j x m i near t : ℕ) → IsFitted layout mesh → AreMutual layout mesh → IsSectionAt layout mesh q j → x ≡ number_at layout mesh q j
    → i ≤ near + 1 → near ≤ i + 1 → InShape layout x m (t + 1) (section_shape mesh layout.window q j) (Inside p i) → Source layout mesh x m (Inside p near) t
of-section layout mesh p q j x m i near t fit joined is e lo hi s =
    let w : ℕ = layout.window in
    let a : ℕ = first_at layout mesh q j in
    let n : ℕ = count_at layout mesh q j in
    let long = long-of layout mesh q j fit is in
    let wide = long.0 in
    let low = s.1 in
    let high = s.2 in
    let source = section-reads w n m (i - a) (near - a) t fit.some wide (omega arith) (omega arith) (omega arith) (omega arith) (omega arith) s.4 in
    let back : a + (near - a) ≡ near = omega arith in
    subst (λ (y : ℕ). Source layout mesh y m (Inside p near) t) (sym e)
    (subst (λ (r : ℕ). Source layout mesh (number_at layout mesh q j) m (Inside r near) t) s.0
    (subst (λ (r : ℕ). Source layout mesh (number_at layout mesh q j) m (Inside q r) t) back (section-lift layout mesh q j m (near - a) t fit joined is s.3 (omega arith) source)))

-- at a seam, across to the section on the other side
before-first : (layout : Layout) (mesh : Mesh) (p j x m near t : ℕ) → IsFitted layout mesh → AreMutual layout mesh → IsSectionAt layout mesh p j → station_number mesh layout.window p j ≡ x → m < layout.windows
    → near + 1 ≡ first_at layout mesh p j → InStation layout.window m 0 (t + 1) → Source layout mesh x m (Inside p near) t
before-first layout mesh p zero x m near t fit joined is at some e s = absurd (omega arith)
before-first layout mesh p (suc j) x m near t fit joined is at some e s =
    let w : ℕ = layout.window in
    let i = is.index in
    let before : IsSectionAt layout mesh p j = record { pipe = is.pipe; index = omega arith } in
    let long = long-of layout mesh p j fit before in
    let wide = long.1 in
    let one : station_number mesh w p (j + 1) ≡ x = ap (station_number mesh w p) (add-one j) ∙ at in
    let back : first_at layout mesh p j + count_at layout mesh p j - 1 ≡ near = omega arith in
    subst (λ (r : ℕ). Source layout mesh x m (Inside p r) t) back
    (station-lift layout mesh p j 1 x m 1 t fit joined before (omega arith) (right-side layout mesh p j fit before ∙ one) some (omega arith) (station-reads w m 0 1 t fit.some s (omega arith) (omega arith)))

behind-last : (layout : Layout) (mesh : Mesh) (p j x m near t : ℕ) → IsFitted layout mesh → AreMutual layout mesh → IsSectionAt layout mesh p j → station_number mesh layout.window p (j + 1) ≡ x → m < layout.windows
    → near ≡ first_at layout mesh p j + count_at layout mesh p j + 1 → first_at layout mesh p j + count_at layout mesh p j < reaches mesh p
    → InStation layout.window m 0 (t + 1) → Source layout mesh x m (Inside p near) t
behind-last layout mesh p j x m near t fit joined is at some e end s =
    let w : ℕ = layout.window in
    let i = is.index in
    let next = cut-next w (reaches mesh p) j in
    let index : j + 1 < sections_at mesh w p = elim (cases_lt (j + 1) (sections_at mesh w p)) [
      | inl l ↦ l
      | inr l ↦
          let same : j + 1 ≡ sections_at mesh w p = omega arith in
          let whole = ap (cut w (reaches mesh p)) same ∙ cut-last w (reaches mesh p) in
          absurd (omega arith)
    ] in
    let after : IsSectionAt layout mesh p (j + 1) = record { pipe = is.pipe; index = index } in
    let long = long-of layout mesh p (j + 1) fit after in
    let wide = long.1 in
    let back : first_at layout mesh p (j + 1) + 1 ≡ near = omega arith in
    subst (λ (r : ℕ). Source layout mesh x m (Inside p r) t) back
    (station-lift layout mesh p (j + 1) 0 x m 1 t fit joined after (omega arith) (left-side layout mesh p (j + 1) fit after ∙ at) some (omega arith) (station-reads w m 0 1 t fit.some s (omega arith) (omega arith)))

-- of a station's region, along its right section and along its left one
along-right : (layout : Layout) (mesh : Mesh) (p j x m i near t : ℕ) → IsFitted layout mesh → AreMutual layout mesh → IsSectionAt layout mesh p j → station_number mesh layout.window p j ≡ x → m < layout.windows
    → 0 < i → i ≤ near + 1 → near ≤ i + 1 → first_at layout mesh p j ≤ i → InStation layout.window m (i - first_at layout mesh p j) (t + 1) → Source layout mesh x m (Inside p near) t
along-right layout mesh p j x m i near t fit joined is at some pos lo hi low s =
    let w : ℕ = layout.window in
    let a : ℕ = first_at layout mesh p j in
    let long = long-of layout mesh p j fit is in
    let wide = long.0 in
    let after = s.after in
    let before = s.before in
    elim (cases_lt near a) [
      | inr l ↦
          let back : a + (near - a) ≡ near = omega arith in
          subst (λ (r : ℕ). Source layout mesh x m (Inside p r) t) back
          (station-lift layout mesh p j 0 x m (near - a) t fit joined is (omega arith) (left-side layout mesh p j fit is ∙ at) some (omega arith) (station-reads w m (i - a) (near - a) t fit.some s (omega arith) (omega arith)))
      | inl l ↦ before-first layout mesh p j x m near t fit joined is at some (omega arith) (let z : i - a ≡ 0 = omega arith in subst (λ (d : ℕ). InStation w m d (t + 1)) z s)
    ]

along-left : (layout : Layout) (mesh : Mesh) (p j x m i near t : ℕ) → IsFitted layout mesh → AreMutual layout mesh → IsSectionAt layout mesh p j → station_number mesh layout.window p (j + 1) ≡ x → m < layout.windows
    → i < reaches mesh p → i ≤ near + 1 → near ≤ i + 1 → i ≤ first_at layout mesh p j + count_at layout mesh p j → InStation layout.window m (first_at layout mesh p j + count_at layout mesh p j - i) (t + 1)
    → Source layout mesh x m (Inside p near) t
along-left layout mesh p j x m i near t fit joined is at some pos lo hi high s =
    let w : ℕ = layout.window in
    let a : ℕ = first_at layout mesh p j in
    let n : ℕ = count_at layout mesh p j in
    let long = long-of layout mesh p j fit is in
    let wide = long.0 in
    let after = s.after in
    let before = s.before in
    elim (cases_lt (a + n) near) [
      | inr l ↦
          let back : a + n - (a + n - near) ≡ near = omega arith in
          subst (λ (r : ℕ). Source layout mesh x m (Inside p r) t) back
          (station-lift layout mesh p j 1 x m (a + n - near) t fit joined is (omega arith) (right-side layout mesh p j fit is ∙ at) some (omega arith) (station-reads w m (a + n - i) (a + n - near) t fit.some s (omega arith) (omega arith)))
      | inl l ↦ behind-last layout mesh p j x m near t fit joined is at some (omega arith) (omega arith) (let z : a + n - i ≡ 0 = omega arith in subst (λ (d : ℕ). InStation w m d (t + 1)) z s)
    ]

of-station : (layout : Layout) (mesh : Mesh) (p q j x m i near t : ℕ) → IsFitted layout mesh → AreMutual layout mesh → IsSectionAt layout mesh q j → m < layout.windows
    → 0 < i → i < reaches mesh p → i ≤ near + 1 → near ≤ i + 1 → InStationBy layout.window x m p i (t + 1) (section_shape mesh layout.window q j) → Source layout mesh x m (Inside p near) t
of-station layout mesh p q j x m i near t fit joined is some pos end lo hi s =
    let last : i < reaches mesh q = subst (λ (r : ℕ). i < reaches mesh r) (sym s.0) end in
    subst (λ (r : ℕ). Source layout mesh x m (Inside r near) t) s.0 (elim s.3 [
      | inl o ↦ along-right layout mesh q j x m i near t fit joined is o.0 some pos lo hi s.1 o.1
      | inr o ↦ along-left layout mesh q j x m i near t fit joined is o.0 some last lo hi s.2 o.1
    ])

of-stations : (layout : Layout) (mesh : Mesh) (p x m i near t : ℕ) → IsFitted layout mesh → AreMutual layout mesh → 0 < i → i < reaches mesh p → i ≤ near + 1 → near ≤ i + 1
    → InStations layout x m p i (t + 1) → Source layout mesh x m (Inside p near) t
of-stations layout mesh p x m i near t fit joined pos end lo hi st =
    let w : ℕ = layout.window in
    elim (strand layout mesh w st.section fit.over st.there) [
      | IsNode b ↦ absurd (subst (InStationBy w x m p i (t + 1)) (shape-node layout mesh w st.section fit.over b) st.by)
      | IsSeam q j l b e ↦ absurd (subst (InStationBy w x m p i (t + 1)) (shape-seam layout mesh w q j st.section fit.over l b e) st.by)
      | IsSection q j l b e ↦ of-station layout mesh p q j x m i near t fit joined (record { pipe = l; index = b }) st.region pos end lo hi
          (subst (InStationBy w x m p i (t + 1)) (ap (shape_at layout) e ∙ shape-section layout mesh w q j fit.over l b) st.by)
    ]

of-place : (layout : Layout) (mesh : Mesh) (p x m i near t : ℕ) → IsFitted layout mesh → AreMutual layout mesh → x < length layout.shapes → 0 < i → i < reaches mesh p → i ≤ near + 1 → near ≤ i + 1
    → InRegion layout x m (Inside p i) (t + 1) → Source layout mesh x m (Inside p near) t
of-place layout mesh p x m i near t fit joined h pos end lo hi r =
    let w : ℕ = layout.window in
    elim (strand layout mesh w x fit.over h) [
      | IsNode b ↦ of-stations layout mesh p x m i near t fit joined pos end lo hi (subst (λ (q : Shape). InShape layout x m (t + 1) q (Inside p i)) (shape-node layout mesh w x fit.over b) r)
      | IsSeam q j l b e ↦ of-stations layout mesh p x m i near t fit joined pos end lo hi (subst (λ (s : Shape). InShape layout x m (t + 1) s (Inside p i)) (shape-seam layout mesh w q j x fit.over l b e) r)
      | IsSection q j l b e ↦ of-section layout mesh p q j x m i near t fit joined (record { pipe = l; index = b }) e lo hi
          (subst (λ (s : Shape). InShape layout x m (t + 1) s (Inside p i)) (ap (shape_at layout) e ∙ shape-section layout mesh w q j fit.over l b) r)
    ]

-- ---- a node

-- the place beside an end of a pipe
node-near : (layout : Layout) (mesh : Mesh) (x m t p : ℕ) (last : Bool) → IsFitted layout mesh → AreMutual layout mesh → p < length mesh.pipes
    → side_of layout mesh (section_number mesh layout.window p (if last then sections_at mesh layout.window p - 1 else 0)) (if last then 1 else 0) ≡ x
    → m < layout.windows → InStation layout.window m 0 (t + 1) → Source layout mesh x m (Inside p (if last then reaches mesh p - 1 else 1)) t
node-near layout mesh x m t p false fit joined h at some s =
    let w : ℕ = layout.window in
    let z = sections-some w (reaches mesh p) in
    let is : IsSectionAt layout mesh p 0 = record { pipe = h; index = omega arith } in
    let long = long-of layout mesh p 0 fit is in
    let wide = long.1 in
    station-lift layout mesh p 0 0 x m 1 t fit joined is (omega arith) at some (omega arith) (station-reads w m 0 1 t fit.some s (omega arith) (omega arith))
node-near layout mesh x m t p true fit joined h at some s =
    let w : ℕ = layout.window in
    let j : ℕ = sections w (reaches mesh p) - 1 in
    let z = sections-some w (reaches mesh p) in
    let is : IsSectionAt layout mesh p j = record { pipe = h; index = omega arith } in
    let long = long-of layout mesh p j fit is in
    let wide = long.1 in
    let same : j + 1 ≡ sections w (reaches mesh p) = omega arith in
    let next = cut-next w (reaches mesh p) j in
    let whole = ap (cut w (reaches mesh p)) same ∙ cut-last w (reaches mesh p) in
    let back : first_at layout mesh p j + count_at layout mesh p j - 1 ≡ reaches mesh p - 1 = omega arith in
    subst (λ (r : ℕ). Source layout mesh x m (Inside p r) t) back
    (station-lift layout mesh p j 1 x m 1 t fit joined is (omega arith) at some (omega arith) (station-reads w m 0 1 t fit.some s (omega arith) (omega arith)))

of-node : (layout : Layout) (mesh : Mesh) (k x m t : ℕ) (near : Spot) → IsFitted layout mesh → AreMutual layout mesh → x < length mesh.ends → Reads mesh (AtNode k) near
    → InShape layout x m (t + 1) (OfNode x) (AtNode k) → Source layout mesh x m near t
of-node layout mesh k x m t (AtNode l) fit joined h e s = elim (station-reads layout.window m 0 0 t fit.some s.2 (omega arith) (omega arith)) [
  | FromStart z ↦ AtStart z
  | FromStation r q o ↦ InOwn r q (subst (λ (y : Shape). InShape layout x r t y (AtNode l)) (sym (shape-node layout mesh layout.window x fit.over h)) (s.0 ∙ e, (let a = s.1 in omega arith), o))
  | FromSection q o z ↦ let a = o.away in absurd (omega arith)
]
of-node layout mesh k x m t (Inside q i) fit joined h reads s =
    let w : ℕ = layout.window in
    let c : ℕ = reads.0 in
    let shape = shape-node layout mesh w x fit.over h in
    let b : c < length (ends_of mesh x) = subst (λ (z : ℕ). c < length (ends_of mesh z)) (sym s.0) reads.1 in
    let l : c < sides_of layout mesh x = subst (λ (z : ℕ). c < z) (sym (sides-from layout mesh x _ shape)) b in
    let there = node-inside layout mesh w x fit.over h in
    let side = side-from layout mesh w x c _ fit.over shape in
    let back = back-from layout mesh x c _ shape in
    let e : End = end_at mesh x c in
    let same : e ≡ end_at mesh k c = ap (λ (z : ℕ). end_at mesh z c) s.0 in
    let pipe : e.pipe ≡ q = ap (λ (z : End). z.pipe) same ∙ reads.2 in
    let place : next_to mesh e ≡ i = ap (next_to mesh) same ∙ reads.3 in
    let inside = All-from_recursion (λ (z : End). z.pipe < length mesh.pipes) (ends_of mesh x) (fit.good.pipes x h) c no_end b in
    let again = ap (λ (z : ℕ). side_of layout mesh z (back_of layout mesh x c)) (sym side) ∙ joined.again x c there l in
    subst (λ (z : ℕ). Source layout mesh x m (Inside z i) t) pipe (subst (λ (z : ℕ). Source layout mesh x m (Inside e.pipe z) t) place
    (node-near layout mesh x m t e.pipe e.at_last fit joined inside (ap (side_of layout mesh _) (sym back) ∙ again) s.1 s.2))

any-spot : (layout : Layout) (mesh : Mesh) (x m t : ℕ) (spot near : Spot) → IsFitted layout mesh → AreMutual layout mesh → x < length layout.shapes → Reads mesh spot near
    → InRegion layout x m spot (t + 1) → Source layout mesh x m near t
any-spot layout mesh x m t (Inside p i) (Inside q j) fit joined h reads r =
    subst (λ (z : ℕ). Source layout mesh x m (Inside z j) t) (sym reads.0) (of-place layout mesh p x m i j t fit joined h reads.1 reads.2 reads.3 reads.4 r)
any-spot layout mesh x m t (Inside p i) (AtNode k) fit joined h reads r = absurd reads
any-spot layout mesh x m t (AtNode k) near fit joined h reads r =
    let w : ℕ = layout.window in
    elim (strand layout mesh w x fit.over h) [
      | IsNode b ↦ of-node layout mesh k x m t near fit joined b reads (subst (λ (q : Shape). InShape layout x m (t + 1) q (AtNode k)) (shape-node layout mesh w x fit.over b) r)
      | IsSeam q j l b e ↦ absurd (subst (λ (s : Shape). InShape layout x m (t + 1) s (AtNode k)) (shape-seam layout mesh w q j x fit.over l b e) r)
      | IsSection q j l b e ↦ absurd (subst (λ (s : Shape). InShape layout x m (t + 1) s (AtNode k)) (ap (shape_at layout) e ∙ shape-section layout mesh w q j fit.over l b) r)
    ]

pub enough : (steps wish : ℕ) (mesh : Mesh) → IsMesh mesh → IsWired mesh → 1 ≤ wish → AreEnough (layout_of steps mesh wish) mesh
enough steps wish mesh good wired some =
    let layout = layout_of steps mesh wish in
    let fit = fitted steps wish mesh good some in
    λ x m t spot near h reads r. any-spot layout mesh x m t spot near fit (over-mutual layout mesh layout.window fit.over good wired) h reads r
