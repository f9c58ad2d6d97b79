-- What every lawful list of events keeps, and what it says of its events.
use Rattle.std.specs.Prelude.{◌≡◌, ◌≢◌, ℕ, ◌+◌, ◌<◌, ◌≤◌, ◌⊎◌, ◌==◌, if◌then◌else◌, List, [], ◌∷◌}
use Rattle.std.specs.List.{range_with_len}
use Rattle.schedule.specs.declared.events.Event.{Event}
use Rattle.schedule.specs.declared.events.Event.TheVariants.{Enter, Leave}
use Rattle.schedule.specs.Nets.{Net, IsNet, region_count, needed, written}
use Rattle.schedule.specs.States.{State, start, after, run, IsLawful, AreLawful, MayEnter, MayLeave}
use Rattle.schedule.specs.Order.{IsLeast, AreAllLeft}

-- counts that fit together: published and passed are those of the regions left, what an entered
-- region needs is published, and what it writes has a slot
pub record IsSound (net : Net) (state : State) : Type 0 where
  pub order_low : (x : ℕ) → x < net.strands → state.left x ≤ state.entered x
  pub order_high : (x : ℕ) → x < net.strands → state.entered x ≤ state.left x + 1
  pub most : (x : ℕ) → x < net.strands → state.entered x ≤ region_count net x
  pub published : (x : ℕ) → x < net.strands → state.published x ≡ written net (state.left x)
  pub passed : (x j : ℕ) → x < net.strands → j < net.sides x
      → state.passed x j ≡ needed net x (state.left x)
  pub read : (x j : ℕ) → x < net.strands → j < net.sides x
      → needed net x (state.entered x) ≤ state.published (net.side x j)
  pub room : (x j : ℕ) → x < net.strands → j < net.sides x
      → written net (state.entered x) ≤ state.passed (net.side x j) (net.back x j) + net.slots

-- what the slots of a strand hold, for strand x and its side j
pub record IsWithinSlots (net : Net) (state : State) (x j : ℕ) : Type 0 where
  -- published less passed is 0 to the count of slots
  pub low : state.passed x j ≤ state.published (net.side x j)
  pub high : state.published (net.side x j) ≤ state.passed x j + net.slots
  -- while a region of x that writes block m is entered and not left, the neighbour has passed block
  -- m less the count of slots
  pub free : (m : ℕ) → state.entered x ≡ m + 1 → state.left x ≡ m → m < net.windows
      → m < state.passed (net.side x j) (net.back x j) + net.slots
  -- of a block b that is published and that x hasn't passed, fewer later blocks are published than
  -- there are slots
  pub kept : (b : ℕ) → b < state.published (net.side x j) → state.passed x j ≤ b
      → state.published (net.side x j) < b + 1 + net.slots

-- the numbers of the regions that a list enters, or leaves, of a strand, in the order of its events
abbrev pub entries : ℕ → List Event → List ℕ
entries x [] = []
entries x (Enter y m ∷ events) = if y == x then m ∷ entries x events else entries x events
entries x (Leave y m ∷ events) = entries x events

abbrev pub leavings : ℕ → List Event → List ℕ
leavings x [] = []
leavings x (Enter y m ∷ events) = leavings x events
leavings x (Leave y m ∷ events) = if y == x then m ∷ leavings x events else leavings x events

-- the regions of each strand are entered, and left, each once at most and in order, and the counts
-- are how many
pub record IsInOrder (net : Net) (events : List Event) (x : ℕ) : Type 0 where
  pub enters : entries x events ≡ range_with_len 0 ((run net start events).entered x)
  pub leaves : leavings x events ≡ range_with_len 0 ((run net start events).left x)

abbrev pub KeepsSlots : Type 0
KeepsSlots = (net : Net) (events : List Event) → IsNet net → AreLawful net start events → (x j : ℕ)
    → x < net.strands → j < net.sides x → IsWithinSlots net (run net start events) x j

abbrev pub KeepsOrder : Type 0
KeepsOrder = (net : Net) (events : List Event) → AreLawful net start events → (x : ℕ)
    → IsInOrder net events x

abbrev pub KeepsCounts : Type 0
KeepsCounts = (net : Net) (events : List Event) → IsNet net → AreLawful net start events
    → IsSound net (run net start events)

-- the least region that isn't left may be entered, or it is entered and may be left
abbrev pub IsAlwaysReady : Type 0
IsAlwaysReady = (net : Net) (events : List Event) → IsNet net → AreLawful net start events
    → (x m : ℕ) → IsLeast net (run net start events) x m
    → MayEnter net (run net start events) x m ⊎ MayLeave net (run net start events) x m

-- until all regions are left some event is lawful
abbrev pub IsNeverStuck : Type 0
IsNeverStuck = (net : Net) (events : List Event) → IsNet net → AreLawful net start events
    → ((e : Event) × IsLawful net (run net start events) e) ⊎ AreAllLeft net (run net start events)

abbrev pub strand_of : Event → ℕ
strand_of (Enter x m) = x
strand_of (Leave x m) = x

-- what is lawful for a strand stays so while events of other strands are taken in
abbrev pub StaysLawful : Type 0
StaysLawful = (net : Net) (state : State) (e other : Event) → strand_of e ≢ strand_of other
    → IsLawful net state e → IsLawful net (after net state other) e
