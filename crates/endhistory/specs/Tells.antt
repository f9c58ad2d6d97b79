-- What each step on the table tells: the seat's view after it, and what the loaded word is known to
-- be. And how `make` splits the seats.
use Rattle.std.specs.Prelude.{◌≡◌, ℕ, ◌+◌, ◌≤◌, [], length, slice_index}
use Rattle.atomic_table.specs.Table.{Me, Step}
use Rattle.endhistory.specs.declared.views.Sizes.{Sizes}
use Rattle.endhistory.specs.declared.views.Writing.{Writing}
use Rattle.endhistory.specs.declared.views.Reading.{Reading}
use Rattle.endhistory.specs.declared.views.Role.{Role}
use Rattle.endhistory.specs.declared.views.Role.TheVariants.{Unopened, Nobody, AsWriter, AsReader}
use Rattle.endhistory.specs.declared.views.View.{View}
use Rattle.endhistory.specs.Blocks.{Blocks, block}
use Rattle.endhistory.specs.Steps.{checked_view, filled_view, published_view, looked_view}
use Rattle.endhistory.specs.Steps.{taken_view, passed_view}
use Rattle.endhistory.specs.Rule.{start_writing, start_reading}

abbrev pub in_role : View → Role → View
in_role v role = record { sizes = v.sizes; blocks = v.blocks; role = role }

abbrev pub Here : Type 0
Here = Me (Unit {0}) View

-- the seat is as it was, but for the writer's view
abbrev pub Writes : Here → Writing → Here → Type 0
Writes m w m' = m' ≡ (in_role m.0 (AsWriter w), m.1)

-- the seat is as it was, but for the view of reader r
abbrev pub Reads : Here → ℕ → Reading → Here → Type 0
Reads m r y m' = m' ≡ (in_role m.0 (AsReader r y), m.1)

abbrev pub checked : Step (Unit {0}) → Here → ℕ → Here → Type 0
checked st m n m' = (w : Writing) (r : ℕ) → m.0.role ≡ AsWriter w → st.word ≡ 1 + r
    → Writes m (checked_view w r n) m' × (slice_index w.known r ≤ n)

abbrev pub filled : Step (Unit {0}) → Here → ℕ → Here → Type 0
filled st m n m' = (w : Writing) → m.0.role ≡ AsWriter w → Writes m (filled_view w) m'

abbrev pub published : Step (Unit {0}) → Here → ℕ → Here → Type 0
published st m n m' = (w : Writing) → m.0.role ≡ AsWriter w → Writes m (published_view w) m'

abbrev pub looked : Step (Unit {0}) → Here → ℕ → Here → Type 0
looked st m n m' = (r : ℕ) (y : Reading) → m.0.role ≡ AsReader r y
    → Reads m r (looked_view y n) m' × (y.seen ≤ n) × (n ≤ length m.0.blocks)

abbrev pub taken : Step (Unit {0}) → Here → ℕ → Here → Type 0
taken st m n m' = (r : ℕ) (y : Reading) → m.0.role ≡ AsReader r y
    → Reads m r (taken_view y) m' × (n ≡ slice_index (block m.0.blocks y.next) y.taken)

abbrev pub passed : Step (Unit {0}) → Here → ℕ → Here → Type 0
passed st m n m' = (r : ℕ) (y : Reading) → m.0.role ≡ AsReader r y → Reads m r (passed_view y) m'

-- the view of the first seat: it has no role, and no list of blocks yet
abbrev pub first_view : Sizes → View
first_view z = record { sizes = z; blocks = []; role = Unopened }

-- the first split: the writer's seat, with the list of blocks
abbrev pub opened : Blocks → View → View
opened blocks v = record { sizes = v.sizes; blocks = blocks; role = Nobody 0 }

abbrev pub writer_view : Blocks → View → View
writer_view blocks v =
    record { sizes = v.sizes; blocks = blocks; role = AsWriter (start_writing v.sizes) }

-- how many readers have their seats
abbrev pub dealt_of : Role → ℕ
dealt_of Unopened = 0
dealt_of (Nobody readers) = readers
dealt_of (AsWriter w) = 0
dealt_of (AsReader r y) = 0

-- each further split: the seat of the next reader
abbrev pub dealing : View → View
dealing v = in_role v (Nobody (dealt_of v.role + 1))

abbrev pub reader_view : View → View
reader_view v = in_role v (AsReader (dealt_of v.role) start_reading)
