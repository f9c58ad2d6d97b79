-- The text of a mesh: how each pipe is divided into reaches, and how space and time are cut into
-- regions.
use Rattle.std.specs.Prelude.{◌≡◌, ℕ, ◌+◌, ◌*◌, ◌<◌, ◌≤◌, not, ℤ, pos, unsigned_abs, List, [], ◌∷◌}
use Rattle.std.specs.Prelude.{◌++◌, length, slice_index_or, codes, All}
use Rattle.std.specs.List.{filter, flat_map, range_with_len}
use Rattle.fixed_num.specs.Written.{written}
use Rattle.case_model.specs.Formulas.{adjusted_speed}
use Rattle.case_model.specs.Limits.{IsPipe, IsWithin}
use Rattle.case_model.specs.Mesh.{no_pipe, reaches}
use Rattle.case_model.specs.Parts.{pipe_at}
use Rattle.case_model.specs.declared.cases.Case.{Case}
use Rattle.case_model.specs.declared.meshes.Mesh.{Mesh}
use Rattle.case_model.specs.declared.meshes.PipeMesh.{PipeMesh}
use Rattle.regions.specs.Sides.{is_section_shape}
use Rattle.regions.specs.declared.shapes.Layout.{Layout}
use Rattle.surge_io.specs.Fields.{line_of, count_text}

-- a wave speed in 1e-3 m/s, an impedance in 1e-6 s/m2, the friction of a reach in 1e-12 s2/m5
abbrev pub speed_text : ℤ → List ℕ
speed_text a = written 3 a

abbrev pub impedance_text : ℤ → List ℕ
impedance_text b = written 6 b

abbrev pub friction_text : ℤ → List ℕ
friction_text r = written 12 r

-- a pipe in reaches
abbrev pub division_of : Mesh → ℕ → PipeMesh
division_of mesh p = slice_index_or mesh.pipes p no_pipe

-- the wave speed at which a wave passes one reach of a pipe in one time step
abbrev pub speed_of : Case → Mesh → ℕ → ℤ
speed_of case mesh p = adjusted_speed (pipe_at case p).length case.dt (pos (reaches mesh p))

-- the line of a pipe: its count of reaches, adjusted wave speed, impedance and friction
unfoldable pub division_line : Case → Mesh → ℕ → List ℕ
division_line case mesh p =
    line_of (codes "pipe" ∷ (pipe_at case p).name ∷ count_text (reaches mesh p)
    ∷ codes "speed" ∷ speed_text (speed_of case mesh p)
    ∷ codes "b" ∷ impedance_text (division_of mesh p).b
    ∷ codes "r" ∷ friction_text (division_of mesh p).r ∷ [])

abbrev pub division_lines : Case → Mesh → List ℕ
division_lines case mesh = flat_map (division_line case mesh) (range_with_len 0 (length case.pipes))

-- the stations of a layout, which are nodes and seams, and its sections
abbrev pub stations_of : Layout → ℕ
stations_of layout = length (filter (λ shape. not (is_section_shape shape)) layout.shapes)

abbrev pub sections_of : Layout → ℕ
sections_of layout = length (filter is_section_shape layout.shapes)

-- a station has a region for each window, and a section one more
abbrev pub regions_of : Layout → ℕ
regions_of layout = layout.windows * stations_of layout + (layout.windows + 1) * sections_of layout

-- a layout of so many windows and strands at most
pub record IsCounted (layout : Layout) : Type 0 where
  pub few_windows : layout.windows ≤ 100_000_000
  pub few_strands : length layout.shapes ≤ 1_000_000

-- the line of the window in steps, the strands, and all their regions
unfoldable pub window_line : Layout → List ℕ
window_line layout =
    line_of (codes "window" ∷ count_text layout.window ∷ codes "strands"
    ∷ count_text (length layout.shapes) ∷ codes "regions" ∷ count_text (regions_of layout) ∷ [])

unfoldable pub mesh_text : Case → Mesh → Layout → List ℕ
mesh_text case mesh layout = division_lines case mesh ++ window_line layout

-- what the text of a mesh is written from: a time step, lengths, reaches, frictions and counts
-- within their limits
pub record IsMeshed (case : Case) (mesh : Mesh) (layout : Layout) : Type 0 where
  pub same_pipes : length mesh.pipes ≡ length case.pipes
  pub few_pipes : length case.pipes ≤ 4_096
  pub dt : IsWithin (pos 1) (pos 1_000_000) case.dt
  pub pipes : All IsPipe case.pipes
  pub some_reaches : (p : ℕ) → p < length mesh.pipes → 2 ≤ reaches mesh p
  pub frictions : (p : ℕ) → p < length mesh.pipes
      → unsigned_abs (division_of mesh p).r ≤ 100_000_000_000_000_000_000
  pub counted : IsCounted layout
