-- What runs of inner places of a pipe are computed with.
use Rattle.std.specs.Prelude.{◌≡◌, ◌<◌, ℕ, ℤ, pos, ◌≤ℤ◌, Bool, true, false, IsTrue, not, List}
use Rattle.std.specs.Prelude.{length, slice_index_or}
use Rattle.case_model.specs.declared.cases.Case.{Case}
use Rattle.case_model.specs.declared.cases.Friction.{Friction}
use Rattle.case_model.specs.declared.cases.Friction.TheVariants.{Explicit, Linear}
use Rattle.case_model.specs.declared.meshes.Mesh.{Mesh}
use Rattle.case_model.specs.Division.{vapour_head}
use Rattle.case_model.specs.Mesh.{reaches}
use Rattle.scheme.specs.declared.prepared.PreparedPipe.{PreparedPipe}
use Rattle.scheme.specs.declared.prepared.PreparedPipe.TheVariants.{Explicit as InWords}
use Rattle.scheme.specs.declared.prepared.PreparedPipe.TheVariants.{Linear as Linearly, Wide}
use Rattle.scheme.specs.Arrivals.{impedance, resistance}

-- the impedance of pipe p, the friction of one of its reaches, and a head that the vapour head of
-- no inner place of it is over
pub record IsOfPipe (case : Case) (mesh : Mesh) (p b r : ℕ) (top : ℤ) : Type 0 where
  pub impeded : pos b ≡ impedance mesh p
  pub resisted : pos r ≡ resistance mesh p
  pub highest : (i : ℕ) → i < reaches mesh p → vapour_head case mesh p i ≤ℤ top

-- friction enters as a loss of head
abbrev pub is_explicit : Friction → Bool
is_explicit Explicit = true
is_explicit Linear = false

-- what runs of pipe p are computed with, by how friction is taken
abbrev pub IsPreparedFor : Case → Mesh → ℕ → PreparedPipe → Type 0
IsPreparedFor case mesh p (InWords x) =
    IsTrue (is_explicit case.friction) × IsOfPipe case mesh p x.b x.r x.top
IsPreparedFor case mesh p Linearly = IsTrue (not (is_explicit case.friction))
IsPreparedFor case mesh p Wide = IsTrue (is_explicit case.friction)

-- a table, of the first pipes of a case, of what runs of each are computed with
abbrev pub ArePrepared : Case → Mesh → List PreparedPipe → Type 0
ArePrepared case mesh table =
    (p : ℕ) → p < length table → IsPreparedFor case mesh p (slice_index_or table p Wide)
