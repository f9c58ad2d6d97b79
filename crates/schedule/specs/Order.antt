-- The order of regions: by region number, sections before stations, then by strand number.
use Rattle.std.specs.Prelude.{◌≡◌, ℕ, ◌+◌, ◌*◌, ◌/◌, ◌%◌, ◌<◌, ◌≤◌, ◌⊎◌, Bool, true, false}
use Rattle.schedule.specs.Nets.{Net, HasRegion}
use Rattle.schedule.specs.States.{State}

-- sections come before stations
abbrev pub kind_rank : Bool → ℕ
kind_rank true = 0
kind_rank false = 1

-- regions of one number and one kind have one turn: the sections' and then the stations'
abbrev pub turn_of : Net → ℕ → ℕ → ℕ
turn_of net x m = 2 * m + kind_rank (net.is_section x)

abbrev pub turn_count : Net → ℕ
turn_count net = 2 * net.windows + 1

-- region m of strand x is region k of strand y or comes before it
abbrev pub IsNoLater : Net → ℕ → ℕ → ℕ → ℕ → Type 0
IsNoLater net x m y k = (turn_of net x m < turn_of net y k)
    ⊎ ((turn_of net x m ≡ turn_of net y k) × (x ≤ y))

-- region m of strand x is the least that isn't left
pub record IsLeast (net : Net) (state : State) (x m : ℕ) : Type 0 where
  pub region : HasRegion net x m
  pub unleft : state.left x ≤ m
  pub least : (y k : ℕ) → HasRegion net y k → state.left y ≤ k → IsNoLater net x m y k

abbrev pub AreAllLeft : Net → State → Type 0
AreAllLeft net state = (y k : ℕ) → HasRegion net y k → k < state.left y

-- of one turn all regions of the strands from `low` on and below `high` are left
pub record AreLeftOf (net : Net) (state : State) (turn low high : ℕ) : Type 0 where
  pub left : (y k : ℕ) → low ≤ y → y < high → turn_of net y k ≡ turn → k < state.left y

-- all regions before a place in the order, a turn and a strand, are left
pub record AreLeftBefore (net : Net) (state : State) (turn strand : ℕ) : Type 0 where
  pub earlier : (y k : ℕ) → HasRegion net y k → turn_of net y k < turn → k < state.left y
  pub same : (y k : ℕ) → y < strand → turn_of net y k ≡ turn → k < state.left y

-- the strand has a region of the turn that isn't left
pub record IsUnleft (net : Net) (state : State) (turn strand : ℕ) : Type 0 where
  pub there : strand < net.strands
  pub kind : kind_rank (net.is_section strand) ≡ turn % 2
  pub unleft : state.left strand ≤ turn / 2

-- all regions before the place are left, and the region at it isn't; past the last turn there is
-- none
pub record IsPlaced (net : Net) (state : State) (turn strand : ℕ) : Type 0 where
  pub before : AreLeftBefore net state turn strand
  pub most : turn ≤ turn_count net
  pub here : turn < turn_count net → IsUnleft net state turn strand
