-- Strands and their sides, and the blocks that their regions need and write.
use Rattle.std.specs.Prelude.{◌≡◌, ℕ, ◌+◌, ◌-◌, ◌<◌, ◌≤◌, min, nat_lt, if◌then◌else◌, Bool, true}
use Rattle.std.specs.Prelude.{false, Option, Some, None}
use Rattle.regions.specs.Needs.{needs_of}

-- strands by number, each a section or a station; the neighbour of a strand at an index of its
-- sides; and `back`, the index of the strand among that neighbour's sides. There are `windows`
-- blocks of each strand, and `slots` of them can stand at a time.
pub record Net : Type 0 where
  pub strands : ℕ
  pub windows : ℕ
  pub slots : ℕ
  pub is_section : ℕ → Bool
  pub sides : ℕ → ℕ
  pub side : ℕ → ℕ → ℕ
  pub back : ℕ → ℕ → ℕ

-- sides are mutual, and lie between a section and a station
pub record IsNet (net : Net) : Type 0 where
  pub some : 1 ≤ net.slots
  pub strand : (x j : ℕ) → x < net.strands → j < net.sides x → net.side x j < net.strands
  pub index : (x j : ℕ) → x < net.strands → j < net.sides x
      → net.back x j < net.sides (net.side x j)
  pub again : (x j : ℕ) → x < net.strands → j < net.sides x
      → net.side (net.side x j) (net.back x j) ≡ x
  pub twice : (x j : ℕ) → x < net.strands → j < net.sides x
      → net.back (net.side x j) (net.back x j) ≡ j
  pub section : (x j : ℕ) → x < net.strands → j < net.sides x → net.is_section x ≡ true
      → net.is_section (net.side x j) ≡ false
  pub station : (x j : ℕ) → x < net.strands → j < net.sides x → net.is_section x ≡ false
      → net.is_section (net.side x j) ≡ true

-- two nets are the same as far as strands and sides go
pub record IsSameNet (a b : Net) : Type 0 where
  pub strands_are : b.strands ≡ a.strands
  pub windows_are : b.windows ≡ a.windows
  pub slots_are : b.slots ≡ a.slots
  pub kind_is : (x : ℕ) → x < a.strands → b.is_section x ≡ a.is_section x
  pub sides_are : (x : ℕ) → x < a.strands → b.sides x ≡ a.sides x
  pub side_is : (x j : ℕ) → x < a.strands → j < a.sides x → b.side x j ≡ a.side x j
  pub back_is : (x j : ℕ) → x < a.strands → j < a.sides x → b.back x j ≡ a.back x j

-- the count of regions: a section has one more
abbrev pub regions_of : Bool → ℕ → ℕ
regions_of true windows = windows + 1
regions_of false windows = windows

abbrev pub region_count : Net → ℕ → ℕ
region_count net x = regions_of (net.is_section x) net.windows

-- the strand is there and has the region
pub record HasRegion (net : Net) (x m : ℕ) : Type 0 where
  pub strand : x < net.strands
  pub number : m < region_count net x

-- the block of each side that a region needs: of a section the one before its own number
abbrev pub needs : Net → ℕ → ℕ → Option ℕ
needs net x m = needs_of (net.is_section x) m

-- the block that a region writes
abbrev pub writes : Net → ℕ → Option ℕ
writes net m = if nat_lt m net.windows then Some m else None

-- how many blocks that is
abbrev pub count_in : Option ℕ → ℕ
count_in (Some b) = 1
count_in None = 0

-- how many blocks the regions below `count` need of each side, and how many they write
abbrev pub needed_of : Bool → ℕ → ℕ
needed_of false count = count
needed_of true count = count - 1

abbrev pub needed : Net → ℕ → ℕ → ℕ
needed net x count = needed_of (net.is_section x) count

abbrev pub written : Net → ℕ → ℕ
written net count = min count net.windows
