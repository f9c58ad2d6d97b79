-- The seats that a new board gives.
use Rattle.std.specs.Prelude.{◌≡◌, ℕ, ◌<◌, List, length, slice_index_or}
use Rattle.claimboard.specs.declared.items.Item.{Ghosts}
use Rattle.claimboard.specs.declared.seats.BoardSeat.{BoardSeat}
use Rattle.claimboard.specs.Views.{view, fresh_view}

module _ {T G : Type 0} {g : Ghosts T G} where
  -- seat k has the number k, and has done nothing yet
  abbrev pub AreFresh : G → List (BoardSeat T G g) → Type 0
  AreFresh tag seats = (k : ℕ) (d : BoardSeat T G g) → k < length seats
      → view (slice_index_or seats k d).seat ≡ fresh_view tag k
