-- States of the schedule, the events that are lawful in one, and what an event leaves.
use Rattle.std.specs.Prelude.{◌≡◌, ℕ, ◌+◌, ◌<◌, ◌≤◌, ◌==◌, if◌then◌else◌, List, [], ◌∷◌, IfSome}
use Rattle.schedule.specs.declared.events.Event.{Event}
use Rattle.schedule.specs.declared.events.Event.TheVariants.{Enter, Leave}
use Rattle.schedule.specs.Nets.{Net, HasRegion, needs, writes, count_in}

-- of each strand the counts of regions entered and left and of blocks published; of each of its
-- sides the count of blocks passed
pub record State : Type 0 where
  pub entered : ℕ → ℕ
  pub left : ℕ → ℕ
  pub published : ℕ → ℕ
  pub passed : ℕ → ℕ → ℕ

abbrev pub start : State
start = record { entered = λ x. 0; left = λ x. 0; published = λ x. 0; passed = λ x j. 0 }

-- region m of strand x may be entered: all before it are left; each block that it needs is
-- published and not yet passed by x; and each neighbour has passed the block whose slot its own
-- block takes
pub record MayEnter (net : Net) (state : State) (x m : ℕ) : Type 0 where
  pub region : HasRegion net x m
  pub entered : state.entered x ≡ m
  pub left : state.left x ≡ m
  pub blocks : IfSome (needs net x m) (λ b. (j : ℕ) → j < net.sides x
      → (b < state.published (net.side x j)) × (state.passed x j ≤ b))
  pub room : IfSome (writes net m) (λ b. (j : ℕ) → j < net.sides x
      → b < state.passed (net.side x j) (net.back x j) + net.slots)

-- region m of strand x may be left: it is entered, and none after it
pub record MayLeave (net : Net) (state : State) (x m : ℕ) : Type 0 where
  pub region : HasRegion net x m
  pub entered : state.entered x ≡ m + 1
  pub left : state.left x ≡ m

abbrev pub IsLawful : Net → State → Event → Type 0
IsLawful net state (Enter x m) = MayEnter net state x m
IsLawful net state (Leave x m) = MayLeave net state x m

-- counts of which that of strand x is raised
abbrev pub raise : (ℕ → ℕ) → ℕ → ℕ → ℕ → ℕ
raise counts x more y = if y == x then counts y + more else counts y

-- an event's state: entering raises `entered`; leaving raises `left`, `published` where the region
-- writes a block, and `passed` of each side where it needs one
abbrev pub after : Net → State → Event → State
after net state (Enter x m) = record {
  entered = raise state.entered x 1;
  left = state.left;
  published = state.published;
  passed = state.passed;
}
after net state (Leave x m) = record {
  entered = state.entered;
  left = raise state.left x 1;
  published = raise state.published x (count_in (writes net m));
  passed = λ y j. raise (λ z. state.passed z j) x (count_in (needs net x m)) y;
}

-- the state that a list of events leaves
abbrev pub run : Net → State → List Event → State
run net state [] = state
run net state (e ∷ events) = run net (after net state e) events

-- each event is lawful in the state that those before it leave
abbrev pub AreLawful : Net → State → List Event → Type 0
AreLawful net state [] = Unit {0}
AreLawful net state (e ∷ events) = IsLawful net state e × AreLawful net (after net state e) events
