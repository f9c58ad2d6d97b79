-- The net and the state of what a plan counts.
use Rattle.std.specs.Prelude.{◌≡◌, ℕ, ◌<◌, ◌^◌, Bool, false, List, [], length, slice_index}
use Rattle.std.specs.Prelude.{slice_index_or}
use Rattle.schedule.specs.declared.links.Link.{Link}
use Rattle.schedule.specs.Nets.{Net, needed, written}
use Rattle.schedule.specs.States.{State}

abbrev pub no_link : Link
no_link = record { strand = 0; back = 0 }

abbrev pub net_over : List Bool → List (List Link) → ℕ → ℕ → Net
net_over kinds links windows slots = record {
  strands = length kinds;
  windows = windows;
  slots = slots;
  is_section = λ x. slice_index_or kinds x false;
  sides = λ x. length (slice_index_or links x []);
  side = λ x j. (slice_index_or (slice_index_or links x []) j no_link).strand;
  back = λ x j. (slice_index_or (slice_index_or links x []) j no_link).back;
}

-- blocks published and passed follow from the regions left
abbrev pub state_over : Net → List ℕ → List ℕ → State
state_over net entered left = record {
  entered = λ x. slice_index entered x;
  left = λ x. slice_index left x;
  published = λ x. written net (slice_index left x);
  passed = λ x j. needed net x (slice_index left x);
}

pub record IsSized (kinds : List Bool) (links : List (List Link)) (windows : ℕ)
    (entered left : List ℕ) : Type 0 where
  pub few : length kinds < 2 ^ 32
  pub short : windows < 2 ^ 62
  pub links_fit : length links ≡ length kinds
  pub entered_fit : length entered ≡ length kinds
  pub left_fit : length left ≡ length kinds
