-- In one section: where the points of blocks lie, and what the points of regions read.
use Rattle.std.proofs.Common.{◌≡◌, ℕ, zero, suc, ◌+◌, ◌-◌, ◌*◌, ◌<◌, ◌≤◌, ◌⊎◌, inl, inr, refl, ap, subst, sym, arith}
use Rattle.std.proofs.lemmas.Bool.{cases_lt, cases_order}
use Rattle.std.proofs.Math.Nat.{mul-le-mul_left}
use Rattle.regions.specs.Blocks.{InSectionBlock, InStationBlock}
use Rattle.regions.specs.Regions.{height, InStation, InSection}
use Rattle.regions.proofs.Parting.{somewhere}
use Rattle.regions.proofs.Parting.Somewhere.{InOwn, InLeft, InRight}

-- a later window begins where an earlier one has ended
apart : (q m w : ℕ) → q < m → (q + 1) * w ≤ m * w
apart q m w h = let k : q + 1 ≤ m = omega arith in omega (arith, mul-le-mul_left w k)

-- ---- the points of blocks

pub station-block : (w m d k : ℕ) → InStationBlock w d k → InStation w m d (m * w + k)
station-block w m d k h = let a = h.after in record { after = omega arith; before = elim h.near [ inl e ↦ omega arith | inr e ↦ omega arith ] }

mirror-height : (n i : ℕ) → i ≤ n → height n (n - i) ≡ height n i
mirror-height n i h = omega arith

mirror : (w n r i t : ℕ) → i ≤ n → InSection w n r i t → InSection w n r (n - i) t
mirror w n zero i t h s = let a = s.1 in (s.0, omega arith)
mirror w n (suc m) i t h s =
    let a = s.after in
    let b = s.before in
    let back : n - (n - i) ≡ i = omega arith in
    record {
      after = omega arith;
      before = omega arith;
      left = λ k x. s.right k x;
      right = λ k x. s.left k (subst (λ (d : ℕ). InStation w k d t) back x);
    }

-- a point of a section's block is at step 0 or in one of its regions
pub data SectionPoint (w n m i t : ℕ) : Type 0 where
  PointAtStart : t ≡ 0 → SectionPoint w n m i t
  PointIn : (r : ℕ) → r ≤ m → 0 < i → i < n → InSection w n r i t → SectionPoint w n m i t

own-low : (w n r m i t : ℕ) → InSection w n r i t → t ≤ m * w + height n i → r ≤ m
own-low w n zero m i t s h = omega arith
own-low w n (suc q) m i t s h = elim (cases_lt q m) [
  | inl l ↦ omega arith
  | inr l ↦ let a = s.after in let g = mul-le-mul_left w l in absurd (omega arith)
]

block-height : (w n d k : ℕ) → w ≤ n → 2 ≤ n → InSectionBlock w d k → (k ≤ height n d) × (d < n)
block-height w n d k wn two h =
    let a = h.away in
    let f = h.fits in
    elim h.near [ inl e ↦ (omega arith, omega arith) | inr e ↦ (omega arith, omega arith) ]

no-left : (w n q m d k : ℕ) → InSectionBlock w d k → InStation w q d (m * w + k) → ⊥
no-left w n q m d k h s =
    let a = s.after in
    let b = s.before in
    let aw = h.away in
    elim (cases_lt q m) [
      | inl l ↦ let g = apart q m w l in elim h.near [ inl e ↦ omega arith | inr e ↦ omega arith ]
      | inr l ↦ let g = mul-le-mul_left w l in elim h.near [ inl e ↦ omega arith | inr e ↦ omega arith ]
    ]

no-right : (w n q m d k : ℕ) → w ≤ n → 2 ≤ n → InSectionBlock w d k → InStation w q (n - d) (m * w + k) → ⊥
no-right w n q m d k wn two h s =
    let a = s.after in
    let b = s.before in
    let aw = h.away in
    let f = h.fits in
    elim (cases_lt q m) [
      | inl l ↦ let g = apart q m w l in elim h.near [ inl e ↦ omega arith | inr e ↦ omega arith ]
      | inr l ↦ let g = mul-le-mul_left w l in elim h.near [ inl e ↦ omega arith | inr e ↦ omega arith ]
    ]

pub section-block : (w n m d k : ℕ) → 0 < w → w ≤ n → 2 ≤ n → InSectionBlock w d k → SectionPoint w n m d (m * w + k)
section-block w n m d k p wn two h =
    let b = block-height w n d k wn two h in
    let low = b.0 in
    let high = b.1 in
    elim (cases_lt 0 (m * w + k)) [
      | inr z ↦ PointAtStart (omega arith)
      | inl z ↦ elim (somewhere w n d (m * w + k) p wn (omega arith) z) [
        | InOwn r s lo hi f ↦ PointIn r (own-low w n r m d (m * w + k) s (omega arith)) lo hi s
        | InLeft q s f ↦ absurd (no-left w n q m d k h s)
        | InRight q s f ↦ absurd (no-right w n q m d k wn two h s)
      ]
    ]

pub section-block_right : (w n m d k : ℕ) → 0 < w → w ≤ n → 2 ≤ n → InSectionBlock w d k → SectionPoint w n m (n - d) (m * w + k)
section-block_right w n m d k p wn two h = elim (section-block w n m d k p wn two h) [
  | PointAtStart e ↦ PointAtStart e
  | PointIn r l lo hi s ↦ PointIn r l (omega arith) (omega arith) (mirror w n r d (m * w + k) (omega arith) s)
]

near_of : (k d : ℕ) → d ≤ k + 1 → k ≤ d → (k + 1 ≡ d) ⊎ (k ≡ d)
near_of k d a b = grind arith

-- ---- what a point at distance d from a station reads at distance e

pub data StationSource (w m e t : ℕ) : Type 0 where
  FromStart : t ≡ 0 → StationSource w m e t
  FromStation : (r : ℕ) → r ≤ m → InStation w r e t → StationSource w m e t
  FromSection : (k : ℕ) → InSectionBlock w e k → m * w + k ≡ t → StationSource w m e t

column-source : (w m d t : ℕ) → 0 < w → InStation w m d (t + 1) → d ≤ 1 → StationSource w m 0 t
column-source w zero d t p s h =
    let a = s.after in
    let b = s.before in
    elim (cases_lt 0 t) [
      | inl l ↦ FromStation 0 (omega arith) (record { after = omega arith; before = omega arith })
      | inr l ↦ FromStart (omega arith)
    ]
column-source w (suc m) d t p s h =
    let a = s.after in
    let b = s.before in
    elim (cases_lt (suc m * w) t) [
      | inl l ↦ FromStation (suc m) (omega arith) (record { after = omega arith; before = omega arith })
      | inr l ↦ FromStation m (omega arith) (record { after = omega arith; before = omega arith })
    ]

pub station-reads : (w m d e t : ℕ) → 0 < w → InStation w m d (t + 1) → d ≤ e + 1 → e ≤ d + 1 → StationSource w m e t
station-reads w m d zero t p s h k = column-source w m d t p s h
station-reads w m d (suc e) t p s h k =
    let a = s.after in
    let b = s.before in
    elim (cases_lt (m * w + suc e) t) [
      | inl l ↦ FromStation m (omega arith) (record { after = omega arith; before = omega arith })
      | inr l ↦ FromSection (t - m * w) (record { away = omega arith; near = near_of (t - m * w) (suc e) (omega arith) (omega arith); fits = omega arith }) (omega arith)
    ]

-- ---- what place i of a section reads at place j beside it

pub data SectionSource (w n m j t : ℕ) : Type 0 where
  FromRow0 : t ≡ 0 → SectionSource w n m j t
  FromRegion : (r : ℕ) → r ≤ m → 0 < j → j < n → InSection w n r j t → SectionSource w n m j t
  FromLeft : (b k : ℕ) → m ≡ suc b → InStationBlock w j k → b * w + k ≡ t → SectionSource w n m j t
  FromRight : (b k : ℕ) → m ≡ suc b → InStationBlock w (n - j) k → b * w + k ≡ t → SectionSource w n m j t

-- a point of a station's triangle beside a point of a section's region is of the window's end
front : (w n m q i j t : ℕ) → 0 < w → w ≤ n → 0 < i → i < n → i ≤ j + 1 → j ≤ i + 1 → m * w + height n i < t + 1 → t + 1 ≤ (m + 1) * w + height n i
    → (InStation w m i (t + 1) → ⊥) → InStation w q j t → (q ≡ m) × InStationBlock w j (t - m * w) × (m * w + (t - m * w) ≡ t)
front w n m q i j t p wn lo hi near far low high none s =
    let a = s.after in
    let b = s.before in
    elim (cases_order q m) [
      | inl e ↦
          let z : m * w ≡ q * w = ap (λ (x : ℕ). x * w) (sym e) in
          let y : (m + 1) * w ≡ (q + 1) * w = ap (λ (x : ℕ). (x + 1) * w) (sym e) in
          elim (cases_lt (t + j + 1) ((m + 1) * w)) [
            | inl l ↦ absurd (none (record { after = omega arith; before = omega arith }))
            | inr l ↦ (e, record { near = near_of (t - m * w + j) w (omega arith) (omega arith); after = omega arith }, omega arith)
          ]
      | inr o ↦ elim o [
        | inl l ↦ let g = apart q m w l in absurd (omega arith)
        | inr l ↦ let g = apart m q w l in absurd (omega arith)
      ]
    ]

pub section-reads : (w n m i j t : ℕ) → 0 < w → w ≤ n → 0 < i → i < n → i ≤ j + 1 → j ≤ i + 1 → j ≤ n → InSection w n m i (t + 1) → SectionSource w n m j t
section-reads w n zero i j t p wn lo hi near far h s = elim (cases_lt 0 t) [
  | inr z ↦ FromRow0 (omega arith)
  | inl z ↦ let a = s.1 in FromRegion 0 (omega arith) (omega arith) (omega arith) (z, omega arith)
]
section-reads w n (suc m) i j t p wn lo hi near far h s =
    let a = s.after in
    let b = s.before in
    elim (cases_lt 0 t) [
      | inr z ↦ FromRow0 (omega arith)
      | inl z ↦ elim (somewhere w n j t p wn h z) [
        | InOwn r o x y f ↦ FromRegion r (own-low w n r (suc m) j t o (omega arith)) x y o
        | InLeft q o f ↦
            let g = front w n m q i j t p wn lo hi near far a b (s.left m) o in
            FromLeft m (t - m * w) refl g.1 g.2
        | InRight q o f ↦
            let back : n - (n - i) ≡ i = omega arith in
            let same : height n (n - i) ≡ height n i = mirror-height n i (omega arith) in
            let g = front w n m q (n - i) (n - j) t p wn (omega arith) (omega arith) (omega arith) (omega arith) (omega arith) (omega arith) (s.right m) o in
            FromRight m (t - m * w) refl g.1 g.2
      ]
    ]
