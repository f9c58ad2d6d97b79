-- What lawful events keep.
use Rattle.std.proofs.Common.{◌≡◌, ◌≢◌, ◌∙◌, ℕ, ◌+◌, ◌*◌, ◌<◌, ◌≤◌, ◌⊎◌, inl, inr, min, Bool, true, false, Option, Some, None, zero, suc, refl, sym, ap, subst, arith}
use Rattle.std.specs.Prelude.{IfSome}
use Rattle.std.proofs.lemmas.Bool.{lt-ltb, le-ltb, ne_eqb, cases_eq, cases_lt}
use Rattle.std.proofs.Common.{eq-eqb}
use Rattle.std.proofs.lemmas.Bool.Decides.{nat_tests}
use Rattle.regions.specs.Needs.{needs_of}
use Rattle.schedule.specs.declared.events.Event.{Event}
use Rattle.schedule.specs.declared.events.Event.TheVariants.{Enter, Leave}
use Rattle.schedule.specs.Nets.{Net, IsNet, HasRegion, regions_of, region_count, needs, writes, needed_of, needed}
use Rattle.schedule.specs.States.{State, raise, after, MayEnter, MayLeave}
use Rattle.schedule.specs.Order.{IsLeast, turn_of, kind_rank}
use Rattle.schedule.specs.Rules.{IsSound}

pub raise-same : (f : ℕ → ℕ) (x n : ℕ) → raise f x n x ≡ f x + n
raise-same f x n = rw (eq-eqb x x refl) refl

pub raise-other : (f : ℕ → ℕ) (x n y : ℕ) → y ≢ x → raise f x n y ≡ f y
raise-other f x n y h = rw (ne_eqb y x h) refl

pub raise-more : (f : ℕ → ℕ) (x n y : ℕ) → f y ≤ raise f x n y
raise-more f x n y = elim (cases_eq y x) [
  | inl e ↦ subst (λ z. f z ≤ raise f x n z) (sym e) (let q = raise-same f x n in omega arith)
  | inr h ↦ let q = raise-other f x n y h in omega arith
]

-- what a region needs lies between what the regions below it need and what it needs too
pub needs-low : (s : Bool) (m b : ℕ) → needs_of s m ≡ Some b → needed_of s m ≡ b
needs-low true zero b e = cc
needs-low true (suc m) b e = let q : m ≡ b = cc in omega arith
needs-low false m b e = let q : m ≡ b = cc in q

pub needs-next : (s : Bool) (m b : ℕ) → needs_of s m ≡ Some b → needed_of s (m + 1) ≡ b + 1
needs-next true zero b e = cc
needs-next true (suc m) b e = let q : m ≡ b = cc in omega arith
needs-next false m b e = let q : m ≡ b = cc in omega arith

if-each : {X : Type 0} (o : Option X) (P : X → Type 0) → ((b : X) → o ≡ Some b → P b) → IfSome o P
if-each None P h = tt
if-each (Some b) P h = h b refl

write-low : (net : Net) (m b : ℕ) → writes net m ≡ Some b → (m ≡ b) × (m < net.windows)
write-low net m b e = elim (cases_lt m net.windows) [
  | inl h ↦ let q : writes net m ≡ Some m = rw (lt-ltb m net.windows h) refl in (cc, h)
  | inr h ↦ let q : writes net m ≡ None = rw (le-ltb m net.windows h) refl in cc
]

-- regions that aren't left come no earlier than the least
left_past : (net : Net) (state : State) (x m y k : ℕ) → IsLeast net state x m → HasRegion net y k → turn_of net y k < turn_of net x m → k < state.left y
left_past net state x m y k p r h = elim (cases_lt k (state.left y)) [
  | inl a ↦ a
  | inr a ↦ elim (p.least y k r a) [ inl b ↦ absurd (omega arith) | inr b ↦ let e : turn_of net x m ≡ turn_of net y k = b.0 in absurd (omega arith) ]
]

pub left_is : (net : Net) (state : State) (x m : ℕ) → IsLeast net state x m → state.left x ≡ m
left_is net state x m p = elim (cases_lt (state.left x) m) [
  | inl a ↦
      let n : m < region_count net x = p.region.number in
      let r : HasRegion net x (state.left x) = record { strand = p.region.strand; number = omega arith } in
      let h = left_past net state x m x (state.left x) p r (omega arith) in
      absurd (omega arith)
  | inr a ↦ let u : state.left x ≤ m = p.unleft in omega arith
]

-- a block that the least region needs is that of an earlier region of the neighbour
needs-turn : (s r : Bool) (m b windows : ℕ) → (s ≡ true → r ≡ false) → (s ≡ false → r ≡ true) → needs_of s m ≡ Some b → m < regions_of s windows
    → (b < regions_of r windows) × (2 * b + kind_rank r < 2 * m + kind_rank s) × (b < windows)
needs-turn true true m b windows f g e h = let q : true ≡ false = f refl in cc
needs-turn true false zero b windows f g e h = cc
needs-turn true false (suc m) b windows f g e h = let q : m ≡ b = cc in (omega arith, omega arith, omega arith)
needs-turn false true m b windows f g e h = let q : m ≡ b = cc in (omega arith, omega arith, omega arith)
needs-turn false false m b windows f g e h = let q : false ≡ true = g refl in cc

-- where all earlier regions of the neighbour are left, it has passed all blocks before the least region's own
passed-turn : (s r : Bool) (m windows count : ℕ) → (s ≡ true → r ≡ false) → (s ≡ false → r ≡ true) → m < windows
    → ((k : ℕ) → k < regions_of r windows → 2 * k + kind_rank r < 2 * m + kind_rank s → k < count) → m ≤ needed_of r count
passed-turn true true m windows count f g h past = let q : true ≡ false = f refl in cc
passed-turn true false zero windows count f g h past = omega arith
passed-turn true false (suc m) windows count f g h past = let q = past m (omega arith) (omega arith) in omega arith
passed-turn false true m windows count f g h past = let q = past m (omega arith) (omega arith) in omega arith
passed-turn false false m windows count f g h past = let q : false ≡ true = g refl in cc

below-min : (b n m p : ℕ) → p ≡ min n m → b < n → b < m → b < p
below-min b n m p e h k = omega arith

least-blocks : (net : Net) (state : State) (x m b j : ℕ) → IsNet net → IsSound net state → IsLeast net state x m → needs net x m ≡ Some b → j < net.sides x
    → (b < state.published (net.side x j)) × (state.passed x j ≤ b)
least-blocks net state x m b j n s p e l =
    let w : x < net.strands = p.region.strand in
    let y = net.side x j in
    let i : net.side x j < net.strands = n.strand x j w l in
    let t = needs-turn (net.is_section x) (net.is_section (net.side x j)) m b net.windows (n.section x j w l) (n.station x j w l) e p.region.number in
    let left : b < state.left (net.side x j) = left_past net state x m (net.side x j) b p (record { strand = i; number = t.0 }) t.1 in (
      below-min b (state.left (net.side x j)) net.windows (state.published (net.side x j)) (s.published (net.side x j) i) left t.2,
      (let q = s.passed x j w l ∙ ap (λ c. needed net x c) (left_is net state x m p) ∙ needs-low (net.is_section x) m b e in omega arith),
    )

least-room : (net : Net) (state : State) (x m j : ℕ) → IsNet net → IsSound net state → IsLeast net state x m → m < net.windows → j < net.sides x
    → m < state.passed (net.side x j) (net.back x j) + net.slots
least-room net state x m j n s p h l =
    let w : x < net.strands = p.region.strand in
    let i : net.side x j < net.strands = n.strand x j w l in
    let q = s.passed (net.side x j) (net.back x j) i (n.index x j w l) in
    let t = passed-turn (net.is_section x) (net.is_section (net.side x j)) m net.windows (state.left (net.side x j)) (n.section x j w l) (n.station x j w l) h
    (λ k a b. left_past net state x m (net.side x j) k p (record { strand = i; number = a }) b) in
    let k : 1 ≤ net.slots = n.some in
    omega arith

pub least_ready : (net : Net) (state : State) (x m : ℕ) → IsNet net → IsSound net state → IsLeast net state x m → MayEnter net state x m ⊎ MayLeave net state x m
least_ready net state x m n s p =
    let w : x < net.strands = p.region.strand in
    let l = left_is net state x m p in
    let low = s.order_low x w in
    let high = s.order_high x w in
    elim (cases_lt m (state.entered x)) [
      | inl a ↦ inr (record { region = p.region; entered = omega arith; left = l })
      | inr a ↦ inl (record {
        region = p.region;
        entered = omega arith;
        left = l;
        blocks = if-each (needs net x m) _ (λ b e j i. least-blocks net state x m b j n s p e i);
        room = if-each (writes net m) _ (λ b e j i. let q = write-low net m b e in let r = least-room net state x m j n s p q.1 i in let z : m ≡ b = q.0 in omega arith);
      })
    ]

pub after-left : (net : Net) (state : State) (e : Event) (y : ℕ) → state.left y ≤ (after net state e).left y
after-left net state (Enter x m) y = omega arith
after-left net state (Leave x m) y = raise-more state.left x 1 y

pub enter_sound : (net : Net) (state : State) (x m : ℕ) → IsNet net → IsSound net state → MayEnter net state x m → IsSound net (after net state (Enter x m))
enter_sound net state x m n s p = grind (arith, nat_tests)

pub leave_sound : (net : Net) (state : State) (x m : ℕ) → IsNet net → IsSound net state → MayLeave net state x m → IsSound net (after net state (Leave x m))
leave_sound net state x m n s p = grind (arith, nat_tests)
