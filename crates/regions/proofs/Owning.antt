-- To lie in a region is to have it as owner.
use Rattle.std.proofs.Common.{◌≡◌, ℕ, zero, suc, ◌+◌, ◌-◌, ◌*◌, ◌/◌, ◌<◌, ◌≤◌, ◌⊎◌, inl, inr, true, false, length, get_or, refl, ap, subst, sym, ◌∙◌, add-one, arith}
use Rattle.std.specs.Prelude.{nat_le}
use Rattle.std.specs.List.{position_or_len, range_with_len}
use Rattle.std.proofs.lemmas.Bool.{cases_lt}
use Rattle.std.proofs.lemmas.Bool.Decides.{nat_tests}
use Rattle.std.proofs.lemmas.List.FromFn.{get_or-range_with_len, length-range_with_len}
use Rattle.std.proofs.lemmas.List.Sums.{fails_before_first, passes_at_first, position_or_len_is}
use Rattle.std.proofs.Math.Nat.{lt_of_mul-lt-mul_right}
use Rattle.case_model.specs.declared.meshes.Mesh.{Mesh}
use Rattle.case_model.specs.Mesh.{reaches, end_node, IsMesh}
use Rattle.regions.specs.declared.parts.Part.{Part}
use Rattle.regions.specs.declared.parts.Part.TheVariants.{Own, Left, Right}
use Rattle.regions.specs.declared.shapes.Layout.{Layout}
use Rattle.regions.specs.declared.shapes.Shape.{Shape}
use Rattle.regions.specs.declared.shapes.Shape.TheVariants.{OfNode, OfSeam}
use Rattle.regions.specs.declared.shapes.Spot.{Spot}
use Rattle.regions.specs.declared.shapes.Spot.TheVariants.{AtNode, Inside}
use Rattle.regions.specs.Cuts.{sections, section_reaches, cut}
use Rattle.regions.specs.Layouts.{sections_at, section_number, station_number, section_shape, layout_of}
use Rattle.regions.specs.Regions.{InStation, InSection, InStationBy, InStations, InShape, InRegion, part_of, section_of, Owner, owner_by, place_owner, owner_of, HasSpot, IsPartition}
use Rattle.regions.specs.Sides.{shape_at}
use Rattle.regions.proofs.Cutting.{sections-some, cut-next, cut-more, cut-last, reaches-long}
use Rattle.regions.proofs.Parting.{window_is, window_of_step, left_part, right_part, section_part, somewhere}
use Rattle.regions.proofs.Parting.Somewhere.{InOwn, InLeft, InRight}
use Rattle.regions.proofs.Standing.{station-first, station-last, station-seam}
use Rattle.regions.proofs.Strands.{shape-node, shape-seam, shape-section, strand, seam-inside, section-inside, node-inside}
use Rattle.regions.proofs.Strands.Strand.{IsNode, IsSeam, IsSection}
use Rattle.regions.proofs.Whole.{IsFitted, fitted}
use Rattle.case_model.proofs.ListFacts.{passes}

-- ---- the section of a place

le_true : (a b : ℕ) → a ≤ b → nat_le a b ≡ true
le_true a b h = grind (arith, nat_tests)

le_false : (a b : ℕ) → b < a → nat_le a b ≡ false
le_false a b h = grind (arith, nat_tests)

true_le : (a b : ℕ) → nat_le a b ≡ true → a ≤ b
true_le a b h = grind (arith, nat_tests)

false_le : (a b : ℕ) → nat_le a b ≡ false → b < a
false_le a b h = grind (arith, nat_tests)

range-at : (n i : ℕ) → i < n → get_or (range_with_len 0 n) i 0 ≡ i
range-at n i h = get_or-range_with_len 0 n i 0 h ∙ omega arith

pub record IsSectionOf (mesh : Mesh) (w p i j : ℕ) : Type 0 where
  pub there : j < sections_at mesh w p
  pub low : cut w (reaches mesh p) j ≤ i
  pub high : i ≤ cut w (reaches mesh p) (j + 1)

low-at : (mesh : Mesh) (w p i : ℕ) (j : ℕ) → j ≤ section_of mesh w p i → j < sections_at mesh w p → cut w (reaches mesh p) j ≤ i
unfolding section_of
low-at mesh w p i zero l h = omega arith
low-at mesh w p i (suc j) l h =
    let n = reaches mesh p in
    let test = λ (j : ℕ). nat_le i (cut w n (j + 1)) in
    let f = fails_before_first test (range_with_len 0 (sections_at mesh w p)) j 0 (omega arith) in
    let g : nat_le i (cut w n (j + 1)) ≡ false = subst (λ (k : ℕ). test k ≡ false) (range-at (sections_at mesh w p) j (omega arith)) f in
    let k = false_le i (cut w n (j + 1)) g in
    let e : cut w n (j + 1) ≡ cut w n (suc j) = ap (cut w n) (add-one j) in
    omega arith

pub section-placed : (mesh : Mesh) (w p i : ℕ) → i ≤ reaches mesh p → IsSectionOf mesh w p i (section_of mesh w p i)
unfolding section_of
section-placed mesh w p i h =
    let n = reaches mesh p in
    let s = sections_at mesh w p in
    let test = λ (j : ℕ). nat_le i (cut w n (j + 1)) in
    let xs = range_with_len 0 s in
    let some = sections-some w n in
    let len = length-range_with_len 0 s in
    let last : test (s - 1) ≡ true = le_true i (cut w n (s - 1 + 1)) (let e : s - 1 + 1 ≡ s = omega arith in rw e (let l = cut-last w n in omega arith)) in
    let t = passes test xs (s - 1) 0 (omega arith) (rw (range-at s (s - 1) (omega arith)) last) in
    let there : position_or_len test xs < s = omega arith in
    let a = passes_at_first test xs 0 t in
    record {
      there = there;
      low = low-at mesh w p i (section_of mesh w p i) (omega arith) there;
      high = true_le i (cut w n (position_or_len test xs + 1)) (subst (λ (k : ℕ). test k ≡ true) (range-at s (position_or_len test xs) there) a);
    }

pub only-section : (mesh : Mesh) (w p i j : ℕ) → IsSectionOf mesh w p i j → (j ≡ 0) ⊎ (cut w (reaches mesh p) j < i) → section_of mesh w p i ≡ j
unfolding section_of
only-section mesh w p i j is first =
    let n = reaches mesh p in
    let s = sections_at mesh w p in
    let test = λ (j : ℕ). nat_le i (cut w n (j + 1)) in
    let len = length-range_with_len 0 s in
    let th = is.there in
    position_or_len_is test (range_with_len 0 s) j 0 (omega arith)
    (λ k h. rw (range-at s k (omega arith)) (elim first [
      | inl z ↦ absurd (omega arith)
      | inr b ↦ let m = cut-more w n (k + 1) j (omega arith) in le_false i (cut w n (k + 1)) (omega arith)
    ]))
    (λ h. rw (range-at s j th) (le_true i (cut w n (j + 1)) is.high))

-- ---- from the owner to the region

region-of_own : (w n r i t windows : ℕ) → InSection w n r i t → t ≤ windows * w → r ≤ windows
region-of_own w n zero i t windows s h = omega arith
region-of_own w n (suc m) i t windows s h = let a = s.after in lt_of_mul-lt-mul_right w {m = m} {n = windows} (omega arith)

region-of_station : (w m d t windows : ℕ) → InStation w m d t → t ≤ windows * w → m < windows
region-of_station w m d t windows s h = let a = s.after in lt_of_mul-lt-mul_right w {m = m} {n = windows} (omega arith)

-- what a station's shape is
pub data StationShape (layout : Layout) (mesh : Mesh) (x : ℕ) : Type 0 where
  Node : (k : ℕ) → shape_at layout x ≡ OfNode k → StationShape layout mesh x
  Seam : (p i left right : ℕ) → shape_at layout x ≡ OfSeam p i left right → StationShape layout mesh x

pub station-shape : (layout : Layout) (mesh : Mesh) (p c : ℕ) → IsFitted layout mesh → p < length mesh.pipes → c ≤ sections_at mesh layout.window p
    → StationShape layout mesh (station_number mesh layout.window p c)
station-shape layout mesh p c fit h b =
    let w : ℕ = layout.window in
    let some = sections-some w (reaches mesh p) in
    elim (cases_lt 0 c) [
      | inr z ↦ Node (end_node mesh p false) (ap (shape_at layout) (station-first mesh w p c (omega arith)) ∙ shape-node layout mesh w (end_node mesh p false) fit.over (fit.good.found p false h))
      | inl z ↦ elim (cases_lt c (sections_at mesh w p)) [
        | inr l ↦ Node (end_node mesh p true) (ap (shape_at layout) (station-last mesh w p c (omega arith) (omega arith)) ∙ shape-node layout mesh w (end_node mesh p true) fit.over (fit.good.found p true h))
        | inl l ↦ Seam _ _ _ _ (shape-seam layout mesh w p (c - 1) (station_number mesh w p c) fit.over h (omega arith) (station-seam mesh w p c (omega arith) (λ e. absurd (omega arith))))
      ]
    ]

pub station-there : (layout : Layout) (mesh : Mesh) (p c : ℕ) → IsFitted layout mesh → p < length mesh.pipes → c ≤ sections_at mesh layout.window p → station_number mesh layout.window p c < length layout.shapes
station-there layout mesh p c fit h b =
    let w : ℕ = layout.window in
    let some = sections-some w (reaches mesh p) in
    elim (cases_lt 0 c) [
      | inr z ↦ subst (λ (x : ℕ). x < length layout.shapes) (sym (station-first mesh w p c (omega arith))) (node-inside layout mesh w (end_node mesh p false) fit.over (fit.good.found p false h))
      | inl z ↦ elim (cases_lt c (sections_at mesh w p)) [
        | inr l ↦ subst (λ (x : ℕ). x < length layout.shapes) (sym (station-last mesh w p c (omega arith) (omega arith))) (node-inside layout mesh w (end_node mesh p true) fit.over (fit.good.found p true h))
        | inl l ↦ subst (λ (x : ℕ). x < length layout.shapes) (sym (station-seam mesh w p c (omega arith) (λ e. absurd (omega arith)))) (seam-inside layout mesh w p (c - 1) fit.over h (omega arith))
      ]
    ]

-- a station is no section
pub station-in : (layout : Layout) (mesh : Mesh) (x m p i t : ℕ) → StationShape layout mesh x → InStations layout x m p i t → InRegion layout x m (Inside p i) t
station-in layout mesh x m p i t (Node k e) s = subst (λ (q : Shape). InShape layout x m t q (Inside p i)) (sym e) s
station-in layout mesh x m p i t (Seam q j left right e) s = subst (λ (q : Shape). InShape layout x m t q (Inside p i)) (sym e) s

-- what the owner has is in the region
abbrev IsOwned : Layout → Spot → ℕ → Owner → Type 0
IsOwned layout spot t o = (o.strand < length layout.shapes) × InRegion layout o.strand o.region spot t

place-owned : (layout : Layout) (mesh : Mesh) (p i t j : ℕ) → IsFitted layout mesh → p < length mesh.pipes → 1 ≤ t → t ≤ layout.windows * layout.window → IsSectionOf mesh layout.window p i j
    → IsOwned layout (Inside p i) t (place_owner mesh layout.window p i t j)
place-owned layout mesh p i t j fit h some end is =
    let w : ℕ = layout.window in
    let total : ℕ = reaches mesh p in
    let n : ℕ = section_reaches w total j in
    let a : ℕ = cut w total j in
    let y : ℕ = section_number mesh w p j in
    let next = cut-next w total j in
    let low = is.low in
    let high = is.high in
    let long = reaches-long w total j (fit.good.long p h) (fit.pipes p h) in
    let shape = shape-section layout mesh w p j fit.over h is.there in
    let inside = section-inside layout mesh w p j fit.over h is.there in
    let of = λ (part : Part) (e : part_of w n (i - a) t ≡ part) (o : IsOwned layout (Inside p i) t (owner_by mesh w p j part)). subst (λ (q : Part). IsOwned layout (Inside p i) t (owner_by mesh w p j q)) (sym e) o in
    elim (somewhere w n (i - a) t fit.some (omega arith) (omega arith) some) [
      | InOwn r s lo hi f ↦ of (Own r) f (inside, subst (λ (q : Shape). InShape layout y r t q (Inside p i)) (sym shape) (refl, omega arith, omega arith, region-of_own w n r (i - a) t layout.windows s end, s))
      | InLeft m s f ↦ of (Left m) f (
        station-there layout mesh p j fit h (let th = is.there in omega arith),
        station-in layout mesh (station_number mesh w p j) m p i t (station-shape layout mesh p j fit h (let th = is.there in omega arith))
            (record {
              region = region-of_station w m (i - a) t layout.windows s end;
              section = y;
              there = inside;
              by = subst (InStationBy w (station_number mesh w p j) m p i t) (sym shape) (refl, low, omega arith, inl (refl, s));
            }),
      )
      | InRight m s f ↦ of (Right m) f (
        station-there layout mesh p (j + 1) fit h (let th = is.there in omega arith),
        station-in layout mesh (station_number mesh w p (j + 1)) m p i t (station-shape layout mesh p (j + 1) fit h (let th = is.there in omega arith))
            (record {
              region = region-of_station w m (n - (i - a)) t layout.windows s end;
              section = y;
              there = inside;
              by = subst (InStationBy w (station_number mesh w p (j + 1)) m p i t) (sym shape) (refl, low, omega arith, inr (refl, (let e : n - (i - a) ≡ a + n - i = omega arith in subst (λ (d : ℕ). InStation w m d t) e s)));
            }),
      )
    ]

pub spot-owned : (layout : Layout) (mesh : Mesh) (spot : Spot) (t : ℕ) → IsFitted layout mesh → HasSpot mesh spot → 1 ≤ t → t ≤ layout.windows * layout.window
    → IsOwned layout spot t (owner_of mesh layout.window spot t)
unfolding owner_of
spot-owned layout mesh (AtNode k) t fit h some end =
    let w : ℕ = layout.window in
    let s = window_of_step w t fit.some some in
    let lo = s.low in
    let hi = s.high in
    let is : InStation w ((t - 1) / w) 0 t = record { after = omega arith; before = omega arith } in
    (node-inside layout mesh w k fit.over h, subst (λ (q : Shape). InShape layout k ((t - 1) / w) t q (AtNode k)) (sym (shape-node layout mesh w k fit.over h)) (refl, region-of_station w ((t - 1) / w) 0 t layout.windows is end, is))
spot-owned layout mesh (Inside p i) t fit h some end = place-owned layout mesh p i t (section_of mesh layout.window p i) fit h.0 some end (section-placed mesh layout.window p i h.1)

-- ---- from the region to the owner

abbrev own : ℕ → ℕ → Owner
own x m = record { strand = x; region = m }

owner-is : (x y m r : ℕ) → x ≡ y → m ≡ r → own x m ≡ own y r
owner-is x y m r s e = ap (λ (z : ℕ). record { strand = z; region = m }) s ∙ ap (λ (z : ℕ). record { strand = y; region = z }) e

-- by the section that has the place
by-section : (mesh : Mesh) (w p i t j : ℕ) (part : Part) → section_of mesh w p i ≡ j → part_of w (section_reaches w (reaches mesh p) j) (i - cut w (reaches mesh p) j) t ≡ part
    → owner_of mesh w (Inside p i) t ≡ owner_by mesh w p j part
unfolding owner_of
by-section mesh w p i t j part e f = ap (place_owner mesh w p i t) e ∙ ap (owner_by mesh w p j) f

-- of a section
section-owner : (layout : Layout) (mesh : Mesh) (p i t j r : ℕ) → IsFitted layout mesh → p < length mesh.pipes → j < sections_at mesh layout.window p
    → cut layout.window (reaches mesh p) j < i → i < cut layout.window (reaches mesh p) j + section_reaches layout.window (reaches mesh p) j
    → InSection layout.window (section_reaches layout.window (reaches mesh p) j) r (i - cut layout.window (reaches mesh p) j) t
    → owner_of mesh layout.window (Inside p i) t ≡ record { strand = section_number mesh layout.window p j; region = r }
section-owner layout mesh p i t j r fit h b low high s =
    let w : ℕ = layout.window in
    let next = cut-next w (reaches mesh p) j in
    by-section mesh w p i t j (Own r) (only-section mesh w p i j (record { there = b; low = omega arith; high = omega arith }) (inr low))
    (section_part w (section_reaches w (reaches mesh p) j) r (i - cut w (reaches mesh p) j) t fit.some (omega arith) s)

-- of a station: as the left one of its section, or as the right one
left-owner : (layout : Layout) (mesh : Mesh) (p i t j m : ℕ) → IsFitted layout mesh → p < length mesh.pipes → j < sections_at mesh layout.window p
    → cut layout.window (reaches mesh p) j ≤ i → i ≤ cut layout.window (reaches mesh p) j + section_reaches layout.window (reaches mesh p) j
    → InStation layout.window m (i - cut layout.window (reaches mesh p) j) t
    → owner_of mesh layout.window (Inside p i) t ≡ record { strand = station_number mesh layout.window p j; region = m }
left-owner layout mesh p i t zero m fit h b low high s =
    let w : ℕ = layout.window in
    let long = reaches-long w (reaches mesh p) 0 (fit.good.long p h) (fit.pipes p h) in
    let next = cut-next w (reaches mesh p) 0 in
    by-section mesh w p i t 0 (Left m) (only-section mesh w p i 0 (record { there = b; low = low; high = omega arith }) (inl refl))
    (left_part w (section_reaches w (reaches mesh p) 0) m (i - 0) t fit.some (omega arith) (omega arith) s)
left-owner layout mesh p i t (suc j) m fit h b low high s =
    let w : ℕ = layout.window in
    let total : ℕ = reaches mesh p in
    let long = reaches-long w total j (fit.good.long p h) (fit.pipes p h) in
    let longer = reaches-long w total (suc j) (fit.good.long p h) (fit.pipes p h) in
    let before = cut-next w total j in
    let next = cut-next w total (suc j) in
    let one : cut w total (j + 1) ≡ cut w total (suc j) = ap (cut w total) (add-one j) in
    elim (cases_lt (cut w total (suc j)) i) [
      | inl l ↦ by-section mesh w p i t (suc j) (Left m) (only-section mesh w p i (suc j) (record { there = b; low = low; high = omega arith }) (inr l))
          (left_part w (section_reaches w total (suc j)) m (i - cut w total (suc j)) t fit.some (omega arith) (omega arith) s)
      | inr l ↦
          let n : ℕ = section_reaches w total j in
          let zero_left : i - cut w total (suc j) ≡ n - (i - cut w total j) = omega arith in
          by-section mesh w p i t j (Right m) (only-section mesh w p i j (record { there = omega arith; low = omega arith; high = omega arith }) (inr (omega arith)))
          (right_part w n m (i - cut w total j) t fit.some (omega arith) (omega arith) (subst (λ (d : ℕ). InStation w m d t) zero_left s))
          ∙ ap (λ (c : ℕ). record { strand = station_number mesh w p c; region = m }) (add-one j)
    ]

right-owner : (layout : Layout) (mesh : Mesh) (p i t j m : ℕ) → IsFitted layout mesh → p < length mesh.pipes → j < sections_at mesh layout.window p
    → cut layout.window (reaches mesh p) j ≤ i → i ≤ cut layout.window (reaches mesh p) j + section_reaches layout.window (reaches mesh p) j
    → InStation layout.window m (cut layout.window (reaches mesh p) j + section_reaches layout.window (reaches mesh p) j - i) t
    → owner_of mesh layout.window (Inside p i) t ≡ record { strand = station_number mesh layout.window p (j + 1); region = m }
right-owner layout mesh p i t j m fit h b low high s =
    let w : ℕ = layout.window in
    let total : ℕ = reaches mesh p in
    let n : ℕ = section_reaches w total j in
    let a : ℕ = cut w total j in
    let long = reaches-long w total j (fit.good.long p h) (fit.pipes p h) in
    let next = cut-next w total j in
    let x = s.after in
    let y = s.before in
    let e : a + n - i ≡ n - (i - a) = omega arith in
    by-section mesh w p i t j (Right m) (only-section mesh w p i j (record { there = b; low = low; high = omega arith }) (inr (omega arith)))
    (right_part w n m (i - a) t fit.some (omega arith) (omega arith) (subst (λ (d : ℕ). InStation w m d t) e s))

-- by a section's shape
by-shape : (layout : Layout) (mesh : Mesh) (x m p i t q j : ℕ) → IsFitted layout mesh → q < length mesh.pipes → j < sections_at mesh layout.window q
    → InStationBy layout.window x m p i t (section_shape mesh layout.window q j) → owner_of mesh layout.window (Inside p i) t ≡ record { strand = x; region = m }
by-shape layout mesh x m p i t q j fit l b st =
    let w : ℕ = layout.window in
    subst (λ (r : ℕ). owner_of mesh w (Inside r i) t ≡ record { strand = x; region = m }) st.0 (elim st.3 [
      | inl s ↦ left-owner layout mesh q i t j m fit l b st.1 st.2 s.1 ∙ ap (λ (y : ℕ). record { strand = y; region = m }) s.0
      | inr s ↦ right-owner layout mesh q i t j m fit l b st.1 st.2 s.1 ∙ ap (λ (y : ℕ). record { strand = y; region = m }) s.0
    ])

of-section : (layout : Layout) (mesh : Mesh) (p i t x m q j : ℕ) → IsFitted layout mesh → q < length mesh.pipes → j < sections_at mesh layout.window q → x ≡ section_number mesh layout.window q j
    → InShape layout x m t (section_shape mesh layout.window q j) (Inside p i) → owner_of mesh layout.window (Inside p i) t ≡ record { strand = x; region = m }
of-section layout mesh p i t x m q j fit l b e s =
    let w : ℕ = layout.window in
    subst (λ (r : ℕ). owner_of mesh w (Inside r i) t ≡ record { strand = x; region = m }) s.0
    (section-owner layout mesh q i t j m fit l b s.1 s.2 s.4 ∙ ap (λ (y : ℕ). record { strand = y; region = m }) (sym e))

-- what a strand's region has is owned by it
stations-owner : (layout : Layout) (mesh : Mesh) (x m p i t : ℕ) → IsFitted layout mesh → InStations layout x m p i t → owner_of mesh layout.window (Inside p i) t ≡ record { strand = x; region = m }
stations-owner layout mesh x m p i t fit st =
    let w : ℕ = layout.window in
    elim (strand layout mesh w st.section fit.over st.there) [
      | IsNode b ↦ absurd (subst (InStationBy w x m p i t) (shape-node layout mesh w st.section fit.over b) st.by)
      | IsSeam q j l b e ↦ absurd (subst (InStationBy w x m p i t) (shape-seam layout mesh w q j st.section fit.over l b e) st.by)
      | IsSection q j l b e ↦ by-shape layout mesh x m p i t q j fit l b (subst (InStationBy w x m p i t) (ap (shape_at layout) e ∙ shape-section layout mesh w q j fit.over l b) st.by)
    ]

pub region-owner : (layout : Layout) (mesh : Mesh) (spot : Spot) (t x m : ℕ) → IsFitted layout mesh → HasSpot mesh spot → x < length layout.shapes → InRegion layout x m spot t
    → owner_of mesh layout.window spot t ≡ record { strand = x; region = m }
unfolding owner_of
region-owner layout mesh (AtNode k) t x m fit h l r =
    let w : ℕ = layout.window in
    elim (strand layout mesh w x fit.over l) [
      | IsNode b ↦
          let s = subst (λ (q : Shape). InShape layout x m t q (AtNode k)) (shape-node layout mesh w x fit.over b) r in
          let a = s.2.after in
          let z = s.2.before in
          owner-is k x ((t - 1) / w) m (sym s.0) (window_is w m t fit.some (omega arith) (omega arith))
      | IsSeam q j n b e ↦ absurd (subst (λ (q : Shape). InShape layout x m t q (AtNode k)) (shape-seam layout mesh w q j x fit.over n b e) r)
      | IsSection q j n b e ↦ absurd (subst (λ (q : Shape). InShape layout x m t q (AtNode k)) (ap (shape_at layout) e ∙ shape-section layout mesh w q j fit.over n b) r)
    ]
region-owner layout mesh (Inside p i) t x m fit h l r =
    let w : ℕ = layout.window in
    elim (strand layout mesh w x fit.over l) [
      | IsNode b ↦ stations-owner layout mesh x m p i t fit (subst (λ (q : Shape). InShape layout x m t q (Inside p i)) (shape-node layout mesh w x fit.over b) r)
      | IsSeam q j n b e ↦ stations-owner layout mesh x m p i t fit (subst (λ (q : Shape). InShape layout x m t q (Inside p i)) (shape-seam layout mesh w q j x fit.over n b e) r)
      | IsSection q j n b e ↦ of-section layout mesh p i t x m q j fit n b e (subst (λ (q : Shape). InShape layout x m t q (Inside p i)) (ap (shape_at layout) e ∙ shape-section layout mesh w q j fit.over n b) r)
    ]

-- ---- the ends of pipes

first-owner : (layout : Layout) (mesh : Mesh) (p t : ℕ) → IsFitted layout mesh → p < length mesh.pipes → 1 ≤ t
    → owner_of mesh layout.window (Inside p 0) t ≡ owner_of mesh layout.window (AtNode (end_node mesh p false)) t
unfolding owner_of
first-owner layout mesh p t fit h some =
    let w : ℕ = layout.window in
    let s = window_of_step w t fit.some some in
    let lo = s.low in
    let hi = s.high in
    let z = sections-some w (reaches mesh p) in
    left-owner layout mesh p 0 t 0 ((t - 1) / w) fit h (omega arith) (omega arith) (omega arith) (record { after = omega arith; before = omega arith })
    ∙ ap (λ (x : ℕ). record { strand = x; region = (t - 1) / w }) (station-first mesh w p 0 refl)

last-owner : (layout : Layout) (mesh : Mesh) (p t : ℕ) → IsFitted layout mesh → p < length mesh.pipes → 1 ≤ t
    → owner_of mesh layout.window (Inside p (reaches mesh p)) t ≡ owner_of mesh layout.window (AtNode (end_node mesh p true)) t
unfolding owner_of
last-owner layout mesh p t fit h some =
    let w : ℕ = layout.window in
    let total : ℕ = reaches mesh p in
    let s = window_of_step w t fit.some some in
    let lo = s.low in
    let hi = s.high in
    let z = sections-some w total in
    let j : ℕ = sections w total - 1 in
    let next = cut-next w total j in
    let same : j + 1 ≡ sections w total = omega arith in
    let end : cut w total (j + 1) ≡ total = ap (cut w total) same ∙ cut-last w total in
    right-owner layout mesh p total t j ((t - 1) / w) fit h (omega arith) (omega arith) (omega arith) (record { after = omega arith; before = omega arith })
    ∙ ap (λ (x : ℕ). record { strand = x; region = (t - 1) / w }) (station-last mesh w p (j + 1) (omega arith) same)

pub partition : (steps wish : ℕ) (mesh : Mesh) → IsMesh mesh → 1 ≤ wish → IsPartition (layout_of steps mesh wish) mesh
partition steps wish mesh good some =
    let layout = layout_of steps mesh wish in
    let fit = fitted steps wish mesh good some in
    record {
      owned = λ spot t x m h b r. region-owner layout mesh spot t x m fit h b r;
      there = λ spot t h l e. (spot-owned layout mesh spot t fit h l e).0;
      inside = λ spot t h l e. (spot-owned layout mesh spot t fit h l e).1;
      first = λ p t h l. first-owner layout mesh p t fit h l;
      last = λ p t h l. last-owner layout mesh p t fit h l;
    }
