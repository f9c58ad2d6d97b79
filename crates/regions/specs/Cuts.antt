-- How pipes are cut into sections, and time into windows.
use Rattle.std.specs.Prelude.{◌≡◌, ℕ, zero, suc, ◌+◌, ◌-◌, ◌/◌, ◌%◌, ◌<◌, ◌≤◌, ◌⊎◌, min, max}
use Rattle.std.specs.Prelude.{nat_lt, if◌then◌else◌, List, length, fold}
use Rattle.case_model.specs.declared.meshes.TheConstants.{MOST_ENDS}
use Rattle.case_model.specs.declared.meshes.Mesh.{Mesh}
use Rattle.case_model.specs.declared.meshes.PipeMesh.{PipeMesh}
use Rattle.case_model.specs.Mesh.{reaches, ends_of, places_before}

-- the least of the wish and of the counts of reaches of these pipes
abbrev pub least_reaches : ℕ → List PipeMesh → ℕ
least_reaches wish pipes = fold (λ w pipe. min w pipe.reaches) wish pipes

-- how many steps a window has
unfoldable pub window_of : Mesh → ℕ → ℕ
window_of mesh wish = least_reaches wish mesh.pipes

-- so many windows of w steps hold all steps
unfoldable pub windows_of : ℕ → ℕ → ℕ
windows_of w steps = (steps + (w - 1)) / w

-- the count of sections of a pipe with n reaches: each is to have at least w reaches, and 2
unfoldable pub sections : ℕ → ℕ → ℕ
sections w n = max 1 (n / max 2 w)

-- the reaches of section j: all have the same, and the first have one more until none is left over
unfoldable pub section_reaches : ℕ → ℕ → ℕ → ℕ
section_reaches w n j = n / sections w n + (if nat_lt j (n % sections w n) then 1 else 0)

-- the place where section j begins, behind all sections before it
abbrev pub cut : ℕ → ℕ → ℕ → ℕ
cut w n zero = 0
cut w n (suc j) = cut w n j + section_reaches w n j

-- a window is the least of the wish and all counts of reaches
pub record IsWindow (mesh : Mesh) (wish w : ℕ) : Type 0 where
  pub wished : w ≤ wish
  pub pipes : (p : ℕ) → p < length mesh.pipes → w ≤ reaches mesh p
  pub is : (w ≡ wish) ⊎ ((p : ℕ) × (p < length mesh.pipes) × (w ≡ reaches mesh p))

-- a mesh whose counts are within their limits
pub record IsLimited (mesh : Mesh) : Type 0 where
  pub nodes : length mesh.ends ≤ 4_096
  pub pipes : length mesh.pipes ≤ 4_096
  pub places : places_before mesh (length mesh.pipes) ≤ 400_000
  pub some_ends : (k : ℕ) → k < length mesh.ends → 1 ≤ length (ends_of mesh k)
  pub few_ends : (k : ℕ) → k < length mesh.ends → length (ends_of mesh k) ≤ MOST_ENDS
