-- The layout of a mesh within its limits: its windows, its sections, its numbers.
use Rattle.std.proofs.Common.{◌≡◌, ℕ, ◌+◌, ◌-◌, ◌<◌, ◌≤◌, length, take, ap, subst, sym, ◌∙◌, arith}
use Rattle.std.specs.List.{sum_by}
use Rattle.std.proofs.lemmas.List.{take_more, take_all}
use Rattle.std.proofs.lemmas.List.Sums.{sum_by_push, sum_by-take-le}
use Rattle.std.proofs.lemmas.Nat.{div_below}
use Rattle.case_model.specs.declared.meshes.Mesh.{Mesh}
use Rattle.case_model.specs.declared.meshes.PipeMesh.{PipeMesh}
use Rattle.case_model.specs.Mesh.{no_pipe, reaches, IsMesh}
use Rattle.regions.specs.declared.shapes.TheConstants.{WIDEST_WINDOW}
use Rattle.regions.specs.declared.shapes.Layout.{Layout}
use Rattle.regions.specs.Cuts.{window_of, windows_of, sections, section_reaches, cut, IsLimited}
use Rattle.regions.specs.Layouts.{layout_of}
use Rattle.regions.specs.Regions.{IsLong, IsWhole}
use Rattle.regions.specs.Sides.{shape_at}
use Rattle.regions.proofs.Counting.{few as all-few, few-seams}
use Rattle.regions.proofs.Cutting.{cut-next, cut-more, cut-last, reaches-long}
use Rattle.regions.proofs.Strands.{IsOver, layout-over, layout-windows, length-shapes, shape-node, shape-seam, shape-section, strand}
use Rattle.regions.proofs.Strands.Strand.{IsNode, IsSeam, IsSection}
use Rattle.regions.proofs.Windowed.{window-is, window-some}

-- a pipe has no more reaches than there are places
reaches-few : (mesh : Mesh) (p : ℕ) → IsLimited mesh → p < length mesh.pipes → reaches mesh p ≤ 400000
reaches-few mesh p limits h =
    let f : PipeMesh → ℕ = λ pipe. pipe.reaches + 1 in
    let e : sum_by f (take (p + 1) mesh.pipes) ≡ sum_by f (take p mesh.pipes) + (reaches mesh p + 1) = ap (sum_by f) (take_more mesh.pipes p no_pipe h) ∙ sum_by_push f (take p mesh.pipes) _ in
    let m = sum_by-take-le f mesh.pipes (p + 1) in
    let t : sum_by f (take (length mesh.pipes) mesh.pipes) ≡ sum_by f mesh.pipes = ap (sum_by f) (take_all (length mesh.pipes) mesh.pipes (omega arith)) in
    let l = limits.places in
    omega arith

-- every window of a layout is one of a mesh
pub record IsFitted (layout : Layout) (mesh : Mesh) : Type 0 where
  pub over : IsOver layout mesh layout.window
  pub some : 1 ≤ layout.window
  pub pipes : (p : ℕ) → p < length mesh.pipes → layout.window ≤ reaches mesh p
  pub good : IsMesh mesh

pub fitted : (steps wish : ℕ) (mesh : Mesh) → IsMesh mesh → 1 ≤ wish → IsFitted (layout_of steps mesh wish) mesh
unfolding layout_of
fitted steps wish mesh good some =
    let is = window-is mesh wish in
    record { over = layout-over steps wish mesh; some = window-some mesh wish (window_of mesh wish) good some is; pipes = λ p h. is.pipes p h; good = good }

-- where a section ends
pub cut-end : (w n j : ℕ) → j < sections w n → cut w n j + section_reaches w n j ≤ n
cut-end w n j h = let e = cut-next w n j in let m = cut-more w n (j + 1) (sections w n) (omega arith) in let l = cut-last w n in omega arith

long-at : (layout : Layout) (mesh : Mesh) (y : ℕ) → IsFitted layout mesh → IsLimited mesh → y < length layout.shapes → IsLong layout.window (shape_at layout y)
long-at layout mesh y fit limits h =
    let w : ℕ = layout.window in
    elim (strand layout mesh w y fit.over h) [
      | IsNode b ↦ subst (IsLong w) (sym (shape-node layout mesh w y fit.over b)) tt
      | IsSeam p i m b e ↦ subst (IsLong w) (sym (shape-seam layout mesh w p i y fit.over m b e)) tt
      | IsSection p i m b e ↦ subst (IsLong w) (sym (ap (shape_at layout) e ∙ shape-section layout mesh w p i fit.over m b))
          ((let l = reaches-long w (reaches mesh p) i (fit.good.long p m) (fit.pipes p m) in omega arith), (let c = cut-end w (reaches mesh p) i b in let r = reaches-few mesh p limits m in omega arith))
    ]

windows-few : (w steps : ℕ) → 1 ≤ w → steps ≤ 100000000 → windows_of w steps ≤ 100000000
unfolding windows_of
windows-few w steps some few = let d = div_below (steps + (w - 1)) w (steps + 1) (omega arith) (grind arith) in omega arith

pub whole : (steps wish : ℕ) (mesh : Mesh) → IsMesh mesh → IsLimited mesh → steps ≤ 100000000 → 1 ≤ wish → wish ≤ WIDEST_WINDOW → IsWhole (layout_of steps mesh wish)
whole steps wish mesh good limits few some most =
    let fit = fitted steps wish mesh good some in
    let is = window-is mesh wish in
    let o = layout-over steps wish mesh in
    let e = o.window in
    record {
      some = fit.some;
      few = let l = is.wished in omega arith;
      windows = let l = windows-few (window_of mesh wish) steps (let s = fit.some in omega arith) few in let k = layout-windows steps wish mesh in omega arith;
      strands =
          let l = ap length o.shapes ∙ length-shapes mesh (window_of mesh wish) in
          let a = few-seams mesh (window_of mesh wish) (length mesh.pipes) limits (omega arith) in
          let b = all-few mesh (window_of mesh wish) (length mesh.pipes) limits (omega arith) in
          omega arith;
      long = λ y h. long-at (layout_of steps mesh wish) mesh y fit limits h;
    }
