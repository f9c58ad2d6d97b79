-- The spokes of a node: the fronts around its end, and the steps of its triangle.
use Rattle.std.proofs.Common.{◌≡◌, ℕ, ◌+◌, ◌-◌, ◌/◌, ◌<◌, ◌≤◌, ◌⊎◌, inl, inr, ◌∙◌, ap, sym, subst}
use Rattle.std.proofs.Common.{refl, arith, Bool, true, false, List, min}
use Rattle.std.specs.Prelude.{◌≢◌, not}
use Rattle.std.proofs.lemmas.Bool.{lt-ltb, le-leb, le-ltb}
use Rattle.case_model.specs.declared.points.Point.{Point}
use Rattle.case_model.specs.Meaning.{Meaning}
use Rattle.case_model.specs.Mesh.{reaches}
use Rattle.case_model.specs.Rows.{Row}
use Rattle.case_model.specs.declared.meshes.End.{End}
use Rattle.case_model.proofs.RowLaws.{row-start}
use Rattle.envelope.specs.Cells.{AreInOneSpan}
use Rattle.fronts.specs.Bands.{from_place}
use Rattle.fronts.specs.Fronts.{Holds, Puts, Raises, spot}
use Rattle.fronts.specs.Stretches.{AreSamePlaces, count_of, kept}
use Rattle.fronts.specs.declared.stretches.Stretch.{Stretch}
use Rattle.fronts.proofs.Raising.{same-spot}
use Rattle.strands.proofs.Starting.{holds-nothing}
use Rattle.strands.proofs.Loading.{with, with-here, with-there}
use Rattle.strands.proofs.Marking.{same-numbered}
use Rattle.strands.specs.Beside.{HasBeside, IsTriangle, taken_front, taken_since}
use Rattle.strands.specs.Spokes.{IsNewSpoke, IsSameSpoke, IsSpoke, IsSpokeAfter, IsSpokeAt}
use Rattle.strands.specs.Spokes.{end_place, inner_low, nearer_low, open_front, open_since, run_low}
use Rattle.strands.specs.Spokes.{spoke_front, spoke_since}
use Rattle.strands.specs.declared.spokes.Spoke.{Spoke}
use Rattle.strands.specs.Stations.{half}

-- ---- a step of the end and of the places beside it

pub raises-inner : (last : Bool) (n step most : ℕ) (since front later : ℕ → ℕ) → most < n
    → Raises step (λ x. x) (run_low last n most) (run_low last n most + most + 1) (n + 1) since
    front later
    → Raises step (λ x. x) (inner_low last n most) (inner_low last n most + most) (n + 1) since
    front
    (with (end_place last n) step later)
raises-inner true n step most since front later a ra = record {
  own = λ x b i j. ra.own x b i (omega arith);
  left = λ x b i j. ra.left x b i (omega arith);
  right = λ x b i j. ra.right x b i (omega arith);
  raised = λ x b i j. with-there n step later x (λ e. omega arith) ∙ ra.raised x b i (omega arith);
  others = λ x b o. elim o [
    | inl c ↦ with-there n step later x (λ e. omega arith) ∙ ra.others x b (inl c)
    | inr c ↦
        let e : x ≡ n = omega arith in
        ap (with n step later) e ∙ with-here n step later
        ∙ sym (ra.own x b (omega arith) (omega arith)).1
  ];
}
raises-inner false n step most since front later a ra = record {
  own = λ x b i j. ra.own x b (omega arith) (omega arith);
  left = λ x b i j. ra.left x b (omega arith) (omega arith);
  right = λ x b i j. ra.right x b (omega arith) (omega arith);
  raised = λ x b i j. with-there 0 step later x (λ e. omega arith) ∙ ra.raised x b (omega arith)
      (omega arith);
  others = λ x b o. elim o [
    | inl c ↦
        let e : x ≡ 0 = omega arith in
        ap (with 0 step later) e ∙ with-here 0 step later
        ∙ sym (ra.own x b (omega arith) (omega arith)).1
    | inr c ↦ with-there 0 step later x (λ e. omega arith) ∙ ra.others x b (inr (omega arith))
  ];
}

-- the end is among the places of the step
pub end-raised : (last : Bool) (n step most : ℕ) (since front later : ℕ → ℕ) → most < n
    → Raises step (λ x. x) (run_low last n most) (run_low last n most + most + 1) (n + 1) since
    front later
    → (since (end_place last n) ≤ step) × (later (end_place last n) ≡ step + 1)
end-raised true n step most since front later a ra = (
  (ra.own n (omega arith) (omega arith) (omega arith)).0,
  ra.raised n (omega arith) (omega arith)
      (omega arith),
)
end-raised false n step most since front later a ra = (
  (ra.own 0 (omega arith) (omega arith) (omega arith)).0,
  ra.raised 0 (omega arith) (omega arith)
      (omega arith),
)

pub puts-end : (place step count : ℕ) (since later : ℕ → ℕ) → since place ≤ step
    → later place ≡ step + 1
    → Puts (step + 1) place count since (with place step later) since later
puts-end place step count since later a e = record {
  here = e;
  kept = λ t f l. let h = with-here place step later in (l, omega arith, omega arith);
  beside = λ x b h. (sym (with-there place step later x h), omega arith);
}

pub low-is : (last : Bool) (n most : ℕ) → most < n → min (inner_low last n most) (end_place last n)
    ≡ run_low last n most
low-is true n most a = omega arith
low-is false n most a = omega arith

pub end-inside : (last : Bool) (n : ℕ) → end_place last n < n + 1
end-inside true n = omega arith
end-inside false n = omega arith

pub low-inside : (last : Bool) (n most : ℕ) → most < n
    → (0 < inner_low last n most) × ((inner_low last n most + most < n + 1) ×
    (run_low last n most + most + 1 ≤ n + 1))
low-inside true n most a = (omega arith, (omega arith, omega arith))
low-inside false n most a = (omega arith, (omega arith, omega arith))

pub raises-spoke : (last : Bool) (w s k most : ℕ) → k < w → most ≡ min k (w - 1 - k)
    → Raises (s + k) (λ x. x) (run_low last (half w) most) (run_low last (half w) most + most + 1)
    (half w + 1)
    (spoke_since last w s) (spoke_front last w s k) (spoke_front last w s (k + 1))
raises-spoke true w s k most a e = record {
  own = λ x h i j. (omega arith, omega arith);
  left = λ x h i j. record { low = omega arith; high = omega arith; near = omega arith };
  right = λ x h i j. record { low = omega arith; high = omega arith; near = omega arith };
  raised = λ x h i j. omega arith;
  others = λ x h b. elim b [ inl c ↦ omega arith | inr c ↦ omega arith ];
}
raises-spoke false w s k most a e = record {
  own = λ x h i j. (omega arith, omega arith);
  left = λ x h i j. record { low = omega arith; high = omega arith; near = omega arith };
  right = λ x h i j. record { low = omega arith; high = omega arith; near = omega arith };
  raised = λ x h i j. omega arith;
  others = λ x h b. elim b [ inl c ↦ omega arith | inr c ↦ omega arith ];
}

-- ---- what a stretch holds, told by other fronts

pub holds-same : (law : Meaning) (since front from later : ℕ → ℕ) (stretch : Stretch)
    → ((x : ℕ) → x < count_of stretch → (front x ≡ later x) × (since x ≤ from x))
    → Holds law since front stretch → Holds law from later stretch
holds-same law since front from later stretch e h = record {
  cell = λ t x b s f g.
      let p = e x b in
      let m : front x ≡ later x = p.0 in
      let l : since x ≤ from x = p.1 in
      h.cell t x b (omega arith) (omega arith) (omega arith);
}

-- ---- the block that is taken in

pub has-beside : (last : Bool) (n count : ℕ) → count ≡ n + 1 → HasBeside (not last)
    (end_place last n) n count
has-beside true n count e = (omega arith, omega arith)
has-beside false n count e = omega arith

taken-open : (last : Bool) (w s x : ℕ) → x < half w + 1
    → (taken_front (not last) (end_place last (half w)) w s (half w) (open_front false last w s) x
    ≡ open_front true last w s x)
    × (taken_since (not last) (end_place last (half w)) s (half w) (open_since false last w s) x
    ≤ open_since true last w s x)
taken-open true w s x h = elim (below x (half w)) [
  | inl a ↦ rw (lt-ltb x (half w) a, le-leb (half w) (x + half w) (omega arith)) (refl, omega arith)
  | inr a ↦ rw (le-ltb x (half w) a) (omega arith, omega arith)
]
  where
    below : (x y : ℕ) → (x < y) ⊎ (y ≤ x)
    below x y = grind arith
taken-open false w s x h = elim (below 0 x) [
  | inl a ↦ rw (lt-ltb 0 x a, le-leb x (0 + half w) (omega arith)) (refl, omega arith)
  | inr a ↦ rw (le-ltb 0 x a) (omega arith, omega arith)
]
  where
    below : (x y : ℕ) → (x < y) ⊎ (y ≤ x)
    below x y = grind arith

pub taken-holds : (law : Meaning) (last : Bool) (w s : ℕ) (stretch : Stretch)
    → count_of stretch ≡ half w + 1
    → Holds law (taken_since (not last) (end_place last (half w)) s (half w)
    (open_since false last w s))
    (taken_front (not last) (end_place last (half w)) w s (half w) (open_front false last w s))
    stretch
    → Holds law (open_since true last w s) (open_front true last w s) stretch
taken-holds law last w s stretch size h =
    holds-same law (taken_since (not last) (end_place last (half w)) s (half w)
    (open_since false last w s))
    (taken_front (not last) (end_place last (half w)) w s (half w) (open_front false last w s))
    (open_since true last w s) (open_front true last w s) stretch
    (λ x b. taken-open last w s x (omega arith)) h

-- ---- the block that is handed on

pub has-triangle : (last : Bool) (n w count : ℕ) → count ≡ n + 1 → n ≡ half w → HasBeside (not last)
    (end_place last n) ((w - 1) / 2) count
has-triangle true n w count e f = (omega arith, omega arith)
has-triangle false n w count e f = omega arith

pub spoke-triangle : (last : Bool) (w s : ℕ) → 1 ≤ w
    → IsTriangle (not last) (end_place last (half w)) w s (spoke_since last w s)
    (spoke_front last w s w)
spoke-triangle true w s a = record { front_is = λ d b. omega arith; since_is = λ d b. omega arith }
spoke-triangle false w s a = record { front_is = λ d b. omega arith; since_is = λ d b. omega arith }

-- ---- after a step

-- the places beside the end are raised, then the end's point is put
pub spoke-holds : (law : Meaning) (last : Bool) (n step most low at : ℕ) (old mid new : Stretch)
    (since front later : ℕ → ℕ) (point : Point)
    → count_of old ≡ n + 1 → most < n → low ≡ inner_low last n most → at ≡ end_place last n
    → AreSamePlaces old mid
    → Raises step (λ x. x) (run_low last n most) (run_low last n most + most + 1) (count_of old)
    since front later
    → point ≡ spot law old (step + 1) (end_place last n)
    → ((since front later : ℕ → ℕ) → Raises step (λ x. x) low (low + most) (count_of old) since
    front later
    → Holds law since front old → Holds law since later mid)
    → ((since front sooner later : ℕ → ℕ) → Puts (step + 1) at (count_of mid) since front sooner
    later
    → point ≡ spot law mid (step + 1) at → Holds law since front mid → Holds law sooner later new)
    → Holds law since front old → Holds law since later new
spoke-holds law last n step most low at old mid new since front later point size a l e same ra p run
    put h =
    let near = with (end_place last n) step later in
    let whole = subst (λ m. Raises step (λ x. x) (run_low last n most)
    (run_low last n most + most + 1) m since front later) size ra in
    let inner = subst (λ z. Raises step (λ x. x) z (z + most) (count_of old) since front near)
    (sym l)
    (subst (λ m. Raises step (λ x. x) (inner_low last n most) (inner_low last n most + most) m since
    front near) (sym size)
    (raises-inner last n step most since front later a whole)) in
    let end = end-raised last n step most since front later a whole in
    let puts = subst (λ z. Puts (step + 1) z (count_of mid) since near since later) (sym e)
    (puts-end (end_place last n) step (count_of mid) since later end.0 end.1) in
    put since near since later puts
    (p ∙ sym (same-spot law old mid (step + 1) (end_place last n) same)
    ∙ ap (spot law mid (step + 1)) (sym e))
    (run since front near inner h)

-- ---- the start

-- a spoke holds its end's point of the step that it is computed up to
pub end-held : (loaded last : Bool) (w s : ℕ) → 1 ≤ w
    → (open_since loaded last w s (end_place last (half w)) ≤ s) ×
    (open_front loaded last w s (end_place last (half w)) ≡ s)
end-held true true w s a = (omega arith, omega arith)
end-held true false w s a = (omega arith, omega arith)
end-held false true w s a = (omega arith, refl)
end-held false false w s a = (omega arith, refl)

pub end-kept : (law : Meaning) (w s at : ℕ) (spoke : Spoke) → IsSpokeAt law w s spoke
    → at ≡ end_place spoke.last (half w)
    → kept spoke.stretch s at ≡ spot law spoke.stretch s at
end-kept law w s at spoke h e =
    let held = end-held spoke.loaded spoke.last w s h.on_pipe.some in
    let low : open_since spoke.loaded spoke.last w s (end_place spoke.last (half w)) ≤ s = held.0 in
    let is : open_front spoke.loaded spoke.last w s (end_place spoke.last (half w)) ≡ s = held.1 in
    let size : count_of spoke.stretch ≡ half w + 1 = h.on_pipe.size in
    let b : end_place spoke.last (half w) < half w + 1 = end-inside spoke.last (half w) in
    subst (λ z. kept spoke.stretch s z ≡ spot law spoke.stretch s z) (sym e)
    (h.holds.cell s (end_place spoke.last (half w)) (omega arith) low (omega arith) (omega arith))

-- ---- a spoke that is made

off-end : (last : Bool) (n x : ℕ) → x ≢ end_place last n → 1 ≤ from_place (end_place last n) x
off-end last n x h = elim (below x (end_place last n)) [
  | inl a ↦ omega arith
  | inr a ↦ elim a [ inl e ↦ absurd (h e) | inr b ↦ omega arith ]
]
  where
    below : (x y : ℕ) → (x < y) ⊎ ((x ≡ y) ⊎ (y < x))
    below x y = grind arith

pub puts-start : (last : Bool) (w count : ℕ)
    → Puts 0 (end_place last (half w)) count (λ x. 1) (λ x. 0) (open_since false last w 0)
    (open_front false last w 0)
puts-start last w count = record {
  here = refl;
  kept = λ t e l. absurd (omega arith);
  beside = λ x b h. let o = off-end last (half w) x h in (refl, omega arith);
}

-- what is said of a spoke goes for one of the same places
pub same-spoke : (law : Meaning) (w : ℕ) (old new : Spoke) → IsSameSpoke old new → IsSpoke law w old
    → IsSpoke law w new
unfolding count_of
same-spoke law w old new h is = record {
  some = is.some;
  line = same-numbered law old.stretch new.stretch h.places is.line;
  size = rw (h.places.count_is) is.size;
  end_is = rw (h.places.first_is, h.places.pipe_is, h.last_is) is.end_is;
}

pub new-spoke : (law : Meaning) (w at place : ℕ) (end : End) (blank : Spoke) (stretch : Stretch)
    (point : Point)
    → blank.stretch.pipe ≡ end.pipe → blank.last ≡ end.at_last → blank.loaded ≡ false
    → IsSpoke law w blank
    → AreSamePlaces blank.stretch stretch
    → at ≡ end_place blank.last (count_of blank.stretch - 1) → place ≡ end_place end.at_last
    (reaches law.mesh end.pipe)
    → point ≡ law.start_point end.pipe place
    → ((since front sooner later : ℕ → ℕ) → Puts 0 at (count_of blank.stretch) since front sooner
    later
    → point ≡ spot law blank.stretch 0 at → Holds law since front blank.stretch
    → Holds law sooner later stretch)
    → IsNewSpoke law w end (record { stretch = stretch; last = blank.last; loaded = blank.loaded })
new-spoke law w at place end blank stretch point pipe last bare is same e f p put =
    let size : count_of blank.stretch ≡ half w + 1 = is.size in
    let n : count_of blank.stretch - 1 ≡ half w = omega arith in
    let at-is : at ≡ end_place blank.last (half w) = e ∙ ap (end_place blank.last) n in
    let now : Spoke = record { stretch = stretch; last = blank.last; loaded = blank.loaded } in
    let where-end : place ≡ blank.stretch.first + at =
    f ∙ ap (λ b. end_place b (reaches law.mesh end.pipe)) (sym last)
    ∙ ap (λ q. end_place blank.last (reaches law.mesh q)) (sym pipe)
    ∙ sym is.end_is ∙ ap (λ z. blank.stretch.first + z) (sym at-is) in
    let point-is : point ≡ spot law blank.stretch 0 at =
    p ∙ ap (law.start_point end.pipe) where-end
    ∙ ap (λ q. law.start_point q (blank.stretch.first + at)) (sym pipe)
    ∙ sym (ap (λ (r : Row). r.point blank.stretch.pipe (blank.stretch.first + at)) (row-start law))
    in
    let puts = subst (λ z. Puts 0 z (count_of blank.stretch) (λ x. 1) (λ x. 0)
    (open_since false blank.last w 0) (open_front false blank.last w 0))
    (sym at-is) (puts-start blank.last w (count_of blank.stretch)) in
    let held = put (λ x. 1) (λ x. 0) (open_since false blank.last w 0)
    (open_front false blank.last w 0) puts point-is
    (holds-nothing law blank.stretch) in
    record {
      at = record {
        on_pipe = same-spoke law w blank now (record { places = same; last_is = refl }) is;
        holds = subst (λ b. Holds law (open_since b blank.last w 0) (open_front b blank.last w 0)
            stretch) (sym bare) held;
      };
      pipe_is = same.pipe_is ∙ pipe;
      last_is = last;
      bare = bare;
    }

-- ---- what the fold has

pub within-spoke : (last : Bool) (n most low number other count : ℕ) (spans : List (ℕ × ℕ))
    → count ≡ n + 1 → most < n
    → low ≡ run_low last n most → other ≡ number → AreInOneSpan spans (number + nearer_low last)
    (count - 1)
    → AreInOneSpan spans (other + low) (low + most + 1 - low)
within-spoke true n most low number other count spans size a e f (i, h) =
    let lo : _ = h.low in
    let hi : _ = h.high in
    (i, record { there = h.there; low = omega arith; high = omega arith })
within-spoke false n most low number other count spans size a e f (i, h) =
    let lo : _ = h.low in
    let hi : _ = h.high in
    (i, record { there = h.there; low = omega arith; high = omega arith })

-- ---- from one window to the next

pub spoke-begins : (law : Meaning) (w s : ℕ) (spoke : Spoke) → spoke.loaded ≡ true
    → IsSpokeAt law w s spoke → IsSpokeAfter law w s 0 spoke
spoke-begins law w s spoke e h = record {
  on_pipe = h.on_pipe;
  holds = subst (λ b. Holds law (open_since b spoke.last w s) (open_front b spoke.last w s)
      spoke.stretch) e h.holds;
}

-- the end alone is held of the window's last step
next-held : (last : Bool) (w s t x : ℕ) → x < half w + 1 → 1 ≤ w → open_since false last w
    (s + w) x ≤ t → t ≤ s + w
    → (spoke_since last w s x ≤ t) ×
    ((t ≤ spoke_front last w s w x) × (spoke_front last w s w x ≤ t + 1))
next-held true w s t x b a c d = (omega arith, (omega arith, omega arith))
next-held false w s t x b a c d = (omega arith, (omega arith, omega arith))

pub spoke-next : (law : Meaning) (w s : ℕ) (spoke : Spoke) → spoke.loaded ≡ false
    → IsSpokeAfter law w s w spoke → IsSpokeAt law w (s + w) spoke
spoke-next law w s spoke e h = record {
  on_pipe = h.on_pipe;
  holds = subst (λ b. Holds law (open_since b spoke.last w (s + w))
      (open_front b spoke.last w (s + w)) spoke.stretch) (sym e)
      (record {
        cell = λ t x b f g i.
            let size : count_of spoke.stretch ≡ half w + 1 = h.on_pipe.size in
            let k = next-held spoke.last w s t x (omega arith) h.on_pipe.some f g in
            h.holds.cell t x b k.0 k.1.0 k.1.1;
      });
}
