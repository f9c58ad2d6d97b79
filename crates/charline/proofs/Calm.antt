-- Runs of places without a cavity: signs of flows, values of characteristics, and where they meet.
use Rattle.std.proofs.Common.{ℕ, ◌*◌, ◌<◌, ◌≤◌, ◌≡◌, ap, sym, subst, refl, ◌∙◌, arith, ℤ, pos, ◌+ℤ◌, ◌-ℤ◌, ◌≤ℤ◌, unsigned_abs, Option, Some, None, IfSome, true, w64, of_z, to_z, FitsSigned}
use Rattle.std.specs.Prelude.{int_le}
use Rattle.std.specs.Int.{w128}
use Rattle.std.proofs.lemmas.Int.{ints, fits_signed_from_abs, to_z-of_z, to_z_pos}
use Rattle.std.proofs.Math.IntN.{+ℤ_comm}
use Rattle.fixed_num.specs.Rounding.{rnd}
use Rattle.case_model.specs.declared.cases.Friction.TheVariants.{Explicit}
use Rattle.case_model.specs.declared.points.Point.{Point}
use Rattle.case_model.specs.declared.points.Point.TheVariants.{Good}
use Rattle.case_model.specs.declared.spots.Spot.{Spot}
use Rattle.case_model.specs.declared.meshes.Arrival.{Arrival}
use Rattle.case_model.specs.declared.meshes.CavityRule.{CavityRule}
use Rattle.case_model.specs.Range.{point_of}
use Rattle.charline.specs.Characteristics.{IsArrival, impedance_head, friction_head, driven_flow, arrive_plus, arrive_minus, in_reach}
use Rattle.charline.specs.Interior.{inner_point, meet, meet_if, meeting_head, meeting_flow, growth}
use Rattle.charline.specs.Runs.{IsPlus, IsMinus, IsRise, IsDriven, IsCalmSpot}
use Rattle.charline.proofs.Factors.{meet_halfway, flow_by_twice}
use Rattle.charline.proofs.Sizes.{fits_wide}

-- a value in range is that of a characteristic
reaches : (c : ℤ) (b : ℕ) → unsigned_abs c ≤ 10000000000000 → b ≤ 10000000000000 → in_reach c (pos b) ≡ Some (record { c = c; b = pos b })
reaches c b h k = grind (arith, ints)

plus_value : (b r : ℕ) (h qu qd v rise : ℤ) → b ≤ 10000000000000 → unsigned_abs h ≤ 100000000000 → IsRise b r qd rise
    → unsigned_abs (h +ℤ rise) ≤ 10000000000000 → arrive_plus Explicit (pos b) (pos r) (Good h qu qd v) ≡ Some (record { c = h +ℤ rise; b = pos b })
unfolding arrive_plus
plus_value b r h qu qd v rise k s value c =
    let near : unsigned_abs rise ≤ 100000000000000 = omega (arith, ints) in
    let e = value near in
    let same : ((h +ℤ impedance_head (pos b) qd) -ℤ friction_head (pos r) qd) ≡ h +ℤ rise = omega (arith, ints) in
    ap (λ (x : ℤ). in_reach x (pos b)) same ∙ reaches (h +ℤ rise) b c k

minus_value : (b r : ℕ) (h qu qd v rise : ℤ) → b ≤ 10000000000000 → unsigned_abs h ≤ 100000000000 → IsRise b r qu rise
    → unsigned_abs (h -ℤ rise) ≤ 10000000000000 → arrive_minus Explicit (pos b) (pos r) (Good h qu qd v) ≡ Some (record { c = h -ℤ rise; b = pos b })
unfolding arrive_minus
minus_value b r h qu qd v rise k s value c =
    let near : unsigned_abs rise ≤ 100000000000000 = omega (arith, ints) in
    let e = value near in
    let same : ((h -ℤ impedance_head (pos b) qu) +ℤ friction_head (pos r) qu) ≡ h -ℤ rise = omega (arith, ints) in
    ap (λ (x : ℤ). in_reach x (pos b)) same ∙ reaches (h -ℤ rise) b c k

pub plus_is : (b r : ℕ) (h qu qd v rise : ℤ) → b ≤ 10000000000000 → unsigned_abs h ≤ 100000000000 → unsigned_abs rise ≤ 1000000000000000000
    → IsRise b r qd rise → IsPlus b r (Good h qu qd v) (h +ℤ rise)
plus_is b r h qu qd v rise k s t value = record {
  size = omega (arith, ints);
  value = plus_value b r h qu qd v rise k s value;
}

pub minus_is : (b r : ℕ) (h qu qd v rise : ℤ) → b ≤ 10000000000000 → unsigned_abs h ≤ 100000000000 → unsigned_abs rise ≤ 1000000000000000000
    → IsRise b r qu rise → IsMinus b r (Good h qu qd v) (h -ℤ rise)
minus_is b r h qu qd v rise k s t value = record {
  size = omega (arith, ints);
  value = minus_value b r h qu qd v rise k s value;
}

-- the same of numbers as they stand in words
pub double : (z : ℤ) → unsigned_abs z ≤ 2000000000000000000 → FitsSigned w64 z
double z h = fits_signed_from_abs w64 z (omega arith)

pub plus_from : (b r : ℕ) (h q rise : ℤ) → unsigned_abs h ≤ 100000000000 → unsigned_abs q ≤ 1000000000000 → b ≤ 10000000000000 → unsigned_abs rise ≤ 1000000000000000000
    → IsRise b r (to_z w64 (of_z w64 q)) rise → IsPlus b r (Good h q q (pos 0)) (to_z w64 (of_z w64 (to_z w64 (of_z w64 h) +ℤ to_z w64 (of_z w64 rise))))
plus_from b r h q rise s l k t value =
    let own : IsRise b r q rise = subst (λ (x : ℤ). IsRise b r x rise) (to_z-of_z w64 q (double q (omega arith))) value in
    let fh = double h (omega arith) in
    let fr = double rise (omega arith) in
    let fs = double (h +ℤ rise) (omega (arith, ints)) in
    rw (to_z-of_z w64 h fh, to_z-of_z w64 rise fr, to_z-of_z w64 (h +ℤ rise) fs) (plus_is b r h q q (pos 0) rise k s t own)

pub minus_from : (b r : ℕ) (h q rise : ℤ) → unsigned_abs h ≤ 100000000000 → unsigned_abs q ≤ 1000000000000 → b ≤ 10000000000000 → unsigned_abs rise ≤ 1000000000000000000
    → IsRise b r (to_z w64 (of_z w64 q)) rise → IsMinus b r (Good h q q (pos 0)) (to_z w64 (of_z w64 (to_z w64 (of_z w64 h) -ℤ to_z w64 (of_z w64 rise))))
minus_from b r h q rise s l k t value =
    let own : IsRise b r q rise = subst (λ (x : ℤ). IsRise b r x rise) (to_z-of_z w64 q (double q (omega arith))) value in
    let fh = double h (omega arith) in
    let fr = double rise (omega arith) in
    let fs = double (h -ℤ rise) (omega (arith, ints)) in
    rw (to_z-of_z w64 h fh, to_z-of_z w64 rise fr, to_z-of_z w64 (h -ℤ rise) fs) (minus_is b r h q q (pos 0) rise k s t own)

-- both values are in range where their half and their difference are
near_half : (x y h : ℤ) → unsigned_abs (x -ℤ y) ≤ 4611686018 → unsigned_abs (x +ℤ y) ≤ 2 * unsigned_abs h → unsigned_abs h ≤ 100000000000 → unsigned_abs x ≤ 10000000000000
near_half x y h d s k = omega (arith, ints)

swapped : (x y : ℤ) → unsigned_abs (y -ℤ x) ≡ unsigned_abs (x -ℤ y)
swapped x y = omega (arith, ints)

-- a head from `top` on and a flow, both in range, at which two values of characteristics meet that
-- are in range and have twice this impedance between them
pub record IsMeeting (b : ℕ) (top plus minus head flow : ℤ) : Type 0 where
  plus_in : unsigned_abs plus ≤ 10000000000000
  minus_in : unsigned_abs minus ≤ 10000000000000
  halfway : head ≡ rnd (plus +ℤ minus) (pos 2)
  driven : flow ≡ driven_flow (plus -ℤ minus) (pos (2 * b))
  above : top ≤ℤ head
  head_in : unsigned_abs head ≤ 100000000000
  flow_in : unsigned_abs flow ≤ 1000000000000

meets : (b : ℕ) (top x y h q : ℤ) → unsigned_abs (x -ℤ y) ≤ 4611686018 → h ≡ rnd (x +ℤ y) (pos 2) → unsigned_abs (x +ℤ y) ≤ 2 * unsigned_abs h
    → top ≤ℤ h → unsigned_abs h ≤ 100000000000 → q ≡ driven_flow (x -ℤ y) (pos (2 * b)) → unsigned_abs q ≤ 1000000000000 → IsMeeting b top x y h q
meets b top x y h q d e s above k f l =
    let n : unsigned_abs (y -ℤ x) ≤ 4611686018 = rw (swapped x y) d in
    let m : unsigned_abs (y +ℤ x) ≤ 2 * unsigned_abs h = rw (+ℤ_comm y x) s in
    record {
      plus_in = near_half x y h d s k;
      minus_in = near_half y x h n m k;
      halfway = e;
      driven = f;
      above = above;
      head_in = k;
      flow_in = l;
    }

-- where two characteristics of the pipe's impedance meet
met_head : (b : ℕ) (plus minus : ℤ) → 0 < b → meeting_head (record { c = plus; b = pos b }) (record { c = minus; b = pos b }) ≡ rnd (plus +ℤ minus) (pos 2)
met_head b plus minus p = meet_halfway (record { c = plus; b = pos b }) (record { c = minus; b = pos b }) refl (omega (arith, ints))

met_flow : (b : ℕ) (plus minus : ℤ) → meeting_flow (record { c = plus; b = pos b }) (record { c = minus; b = pos b }) ≡ driven_flow (plus -ℤ minus) (pos (2 * b))
met_flow b plus minus = flow_by_twice (record { c = plus; b = pos b }) (record { c = minus; b = pos b }) refl

in_range : (h q : ℤ) → unsigned_abs h ≤ 100000000000 → unsigned_abs q ≤ 1000000000000 → point_of h q q (pos 0) ≡ Good h q q (pos 0)
unfolding point_of
in_range h q k l = grind (arith, ints)

meet_calm : (rule : CavityRule) (plus minus : Arrival) (h q g : ℤ) → meeting_head plus minus ≡ h → meeting_flow plus minus ≡ q → rule.hv ≤ℤ h → unsigned_abs h ≤ 100000000000 → unsigned_abs q ≤ 1000000000000
    → meet rule plus minus (pos 0) g ≡ Good h q q (pos 0)
unfolding meet
meet_calm rule plus minus h q g e f above k l =
    let over : int_le rule.hv h ≡ true = grind (arith, ints) in
    rw (e, f, over) (in_range h q k l)

pub calm_law : (b r : ℕ) (top plus minus : ℤ) (next : Spot) → 0 < b → IsMeeting b top plus minus next.h next.q → IsCalmSpot b r top plus minus next
unfolding inner_point
calm_law b r top plus minus next some m = λ rule left right own below ip im.
    let one : Arrival = record { c = plus; b = pos b } in
    let two : Arrival = record { c = minus; b = pos b } in
    let hv : rule.hv ≤ℤ next.h = omega (arith, ints, m.above) in
    sym (ap (λ (a : Option Arrival). meet_if rule a (arrive_minus Explicit (pos b) (pos r) right) (pos 0) (growth own.q own.q)) (ip.value m.plus_in)
    ∙ ap (λ (a : Option Arrival). meet_if rule (Some one) a (pos 0) (growth own.q own.q)) (im.value m.minus_in)
    ∙ meet_calm rule one two next.h next.q (growth own.q own.q) (met_head b plus minus some ∙ sym m.halfway) (met_flow b plus minus ∙ sym m.driven) hv m.head_in m.flow_in)

calm_told : (b r : ℕ) (top most x y h : ℤ) (result : Option Spot) → 0 < b → unsigned_abs most ≤ 4611686018 → h ≡ rnd (x +ℤ y) (pos 2) → unsigned_abs (x +ℤ y) ≤ 2 * unsigned_abs h
    → IfSome result (IsDriven b top most h (x -ℤ y)) → IfSome result (IsCalmSpot b r top x y)
calm_told b r top most x y h None some few e s told = tt
calm_told b r top most x y h (Some next) some few e s told =
    let near = told.near in
    let above : top ≤ℤ next.h = rw told.at told.above in
    let s2 : unsigned_abs (x +ℤ y) ≤ 2 * unsigned_abs next.h = rw told.at s in
    calm_law b r top x y next some (meets b top x y next.h next.q (omega arith) (told.at ∙ e) s2 above next.head told.flow next.flow)

pub calm_from : (b r : ℕ) (top most x y h : ℤ) (result : Option Spot) → 0 < b → unsigned_abs most ≤ 4611686018 → unsigned_abs x ≤ 2000000000000000000 → unsigned_abs y ≤ 2000000000000000000
    → FitsSigned w64 h → h ≡ rnd (to_z w64 (of_z w64 (to_z w64 (of_z w64 x) +ℤ to_z w64 (of_z w64 y)))) (pos 2)
    → unsigned_abs (to_z w64 (of_z w64 (to_z w64 (of_z w64 x) +ℤ to_z w64 (of_z w64 y)))) ≤ 2 * unsigned_abs h
    → IfSome result (IsDriven b top most (to_z w64 (of_z w64 h)) (to_z w64 (of_z w64 (to_z w64 (of_z w64 x) -ℤ to_z w64 (of_z w64 y)))))
    → IfSome result (IsCalmSpot b r top x y)
calm_from b r top most x y h result some few fx fy fh g s told =
    let ex = to_z-of_z w64 x (double x fx) in
    let ey = to_z-of_z w64 y (double y fy) in
    let es = to_z-of_z w64 (x +ℤ y) (fits_signed_from_abs w64 (x +ℤ y) (omega (arith, ints))) in
    let ed = to_z-of_z w64 (x -ℤ y) (fits_signed_from_abs w64 (x -ℤ y) (omega (arith, ints))) in
    let g2 : h ≡ rnd (x +ℤ y) (pos 2) = rw (ex, ey, es) at g in
    let s2 : unsigned_abs (x +ℤ y) ≤ 2 * unsigned_abs h = rw (ex, ey, es) at s in
    let t2 : IfSome result (IsDriven b top most h (x -ℤ y)) = rw (ex, ey, ed, to_z-of_z w64 h fh) at told in
    calm_told b r top most x y h result some few g2 s2 t2

-- a rise by exact products, as it stands in words
pub exact_rise : (b r : ℕ) (q x y rise : ℤ) → b ≤ 10000000000000 → r ≤ 7000000000000000000 → unsigned_abs q ≤ 1000000000000 → unsigned_abs x ≤ 10000000000000000 → unsigned_abs y ≤ 1000000000000000000000 → unsigned_abs rise ≤ 1000000000000000000
    → x ≡ impedance_head (to_z w64 b) (to_z w64 (of_z w64 q)) → y ≡ friction_head (to_z w128 r) (to_z w64 (of_z w64 q))
    → (unsigned_abs rise ≤ 100000000000000 → rise ≡ to_z w128 (of_z w128 (to_z w128 (of_z w128 (to_z w64 (of_z w64 x))) -ℤ to_z w128 (of_z w128 y))))
    → unsigned_abs (to_z w64 (of_z w64 rise)) ≤ 100000000000000 → to_z w64 (of_z w64 rise) ≡ impedance_head (pos b) q -ℤ friction_head (pos r) q
exact_rise b r q x y rise sb sr sq sx sy s ex ey e h =
    let fq = to_z-of_z w64 q (double q (omega arith)) in
    let fx = to_z-of_z w64 x (double x (omega arith)) in
    let wx = to_z-of_z w128 x (fits_wide x (omega arith)) in
    let wy = to_z-of_z w128 y (fits_wide y (omega arith)) in
    let wd = to_z-of_z w128 (x -ℤ y) (fits_wide (x -ℤ y) (omega (arith, ints))) in
    let fr = to_z-of_z w64 rise (double rise (omega arith)) in
    let h2 : unsigned_abs rise ≤ 100000000000000 = rw fr at h in
    let e2 : rise ≡ x -ℤ y = rw (fx, wx, wy, wd) at (e h2) in
    let x2 : x ≡ impedance_head (pos b) q = rw (to_z_pos w64 b (omega arith), fq) at ex in
    let y2 : y ≡ friction_head (pos r) q = rw (to_z_pos w128 r (omega arith), fq) at ey in
    rw fr (e2 ∙ ap (λ (v : ℤ). v -ℤ y) x2 ∙ ap (λ (v : ℤ). impedance_head (pos b) q -ℤ v) y2)

-- what has the value of a characteristic of a point is what leaves each point with the same head and
-- the same flow on that side
pub left_plus : (b r : ℕ) (h qu qd v c : ℤ) (from : Point) (x : Option Arrival) → from ≡ Good h qu qd v → IsPlus b r (Good h qd qd (pos 0)) c
    → IfSome x (λ a. a.c ≡ c) → IfSome x (λ a. a.b ≡ pos b) → IfSome x IsArrival → IfSome x (λ a. arrive_plus Explicit (pos b) (pos r) from ≡ Some a)
unfolding arrive_plus
left_plus b r h qu qd v c from None e p ec eb range = tt
left_plus b r h qu qd v c from (Some a) e p ec eb range =
    ap (arrive_plus Explicit (pos b) (pos r)) e ∙ p.value (subst (λ (z : ℤ). unsigned_abs z ≤ 10000000000000) ec range.value)
    ∙ ap (λ (z : ℤ). Some (record { c = z; b = pos b })) (sym ec) ∙ ap (λ (z : ℤ). Some (record { c = a.c; b = z })) (sym eb)

pub left_minus : (b r : ℕ) (h qu qd v c : ℤ) (from : Point) (x : Option Arrival) → from ≡ Good h qu qd v → IsMinus b r (Good h qu qu (pos 0)) c
    → IfSome x (λ a. a.c ≡ c) → IfSome x (λ a. a.b ≡ pos b) → IfSome x IsArrival → IfSome x (λ a. arrive_minus Explicit (pos b) (pos r) from ≡ Some a)
unfolding arrive_minus
left_minus b r h qu qd v c from None e p ec eb range = tt
left_minus b r h qu qd v c from (Some a) e p ec eb range =
    ap (arrive_minus Explicit (pos b) (pos r)) e ∙ p.value (subst (λ (z : ℤ). unsigned_abs z ≤ 10000000000000) ec range.value)
    ∙ ap (λ (z : ℤ). Some (record { c = z; b = pos b })) (sym ec) ∙ ap (λ (z : ℤ). Some (record { c = a.c; b = z })) (sym eb)
