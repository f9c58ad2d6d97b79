-- The mesh of an accepted case and its layouts are within all limits.
use Rattle.std.proofs.Common.{◌≡◌, ℕ, ◌+◌, ◌*◌, ◌-◌, ◌<◌, ◌≤◌, ◌==◌, Bool, true, false, length, ap, subst, sym, ◌∙◌, refl, arith, if◌then◌else◌}
use Rattle.std.proofs.lemmas.Nat.{mod_below}
use Rattle.std.proofs.Math.Nat.{mod-add-div}
use Rattle.case_model.specs.declared.cases.Case.{Case}
use Rattle.case_model.specs.declared.meshes.Mesh.{Mesh}
use Rattle.case_model.specs.Accepted.{IsAccepted, IsAcceptedMesh}
use Rattle.case_model.specs.Kept.{HasParts}
use Rattle.case_model.specs.Mesh.{IsMesh}
use Rattle.case_model.proofs.Keeping.{kept, parts}
use Rattle.regions.specs.declared.shapes.Layout.{Layout}
use Rattle.regions.specs.Blocks.{AreWritten}
use Rattle.regions.specs.Cuts.{IsLimited, IsWindow, window_of, windows_of}
use Rattle.regions.specs.LaidOut.{IsCutFor, IsLaidOut, IsLayout}
use Rattle.regions.specs.Layouts.{layout_of}
use Rattle.regions.specs.Needs.{AreEnough}
use Rattle.regions.specs.Regions.{IsPartition, IsWhole}
use Rattle.regions.specs.declared.shapes.Shape.TheVariants.{OfSection}
use Rattle.regions.specs.Sides.{shape_at, IsWired, AreMutual, AreOrdered}
use Rattle.regions.specs.Touching.{AreTouching}
use Rattle.regions.proofs.Joining.{HasNodes, all-mutual, section-nodes}
use Rattle.regions.proofs.Needing.{enough}
use Rattle.regions.proofs.Owning.{partition}
use Rattle.regions.proofs.Reading.{all-written}
use Rattle.regions.proofs.Strands.{IsOver, layout-over, layout-windows}
use Rattle.regions.proofs.Touching.{all-touching}
use Rattle.regions.proofs.Whole.{whole}
use Rattle.regions.proofs.Windowed.{window-is, window-some}
use Rattle.regions.proofs.Wiring.{ordered, wired}

-- ---- of the mesh

parts_at : (case : Case) (mesh : Mesh) → IsAccepted case mesh → HasParts case mesh
parts_at case mesh a = subst (HasParts case) (sym a.divided) (parts case)

at_most : (b : Bool) → (if b then 8 else 16) ≤ 16
at_most true = omega arith
at_most false = omega arith

pub limited_for : (case : Case) (mesh : Mesh) → IsAccepted case mesh → IsLimited mesh
limited_for case mesh a =
    let k = kept case a.kept in
    let p = parts_at case mesh a in
    let m = at_most (case.version == 1) in
    record {
      nodes = let l = a.read.few_nodes in let e = p.nodes in omega arith;
      pipes = let l = a.read.few_pipes in let e = p.count in omega arith;
      places = let l = k.places in let e = p.places in let n = a.numbered.all in omega arith;
      some_ends = λ i h. let b : i < length case.nodes = (let e = p.nodes in omega arith) in let s = k.some_ends i b in let e = ap length (p.ends i b) in omega arith;
      few_ends = λ i h. let b : i < length case.nodes = (let e = p.nodes in omega arith) in let s = k.few_ends i b in let e = ap length (p.ends i b) in omega arith;
    }

pub wired_for : (case : Case) (mesh : Mesh) → IsAccepted case mesh → IsWired mesh
wired_for case mesh a = subst IsWired (sym a.divided) (wired case)

pub ordered_for : (case : Case) (mesh : Mesh) → IsAccepted case mesh → AreOrdered mesh
ordered_for case mesh a = subst AreOrdered (sym a.divided) (ordered case)

pub limited : (mesh : Mesh) → IsAcceptedMesh mesh → IsLimited mesh
limited mesh a = limited_for a.case mesh a.accepted

-- ---- of a layout

pub accepted_mesh : (layout : Layout) (mesh : Mesh) → IsLaidOut layout mesh → IsAcceptedMesh mesh
accepted_mesh layout mesh l = record { case = l.case; accepted = l.cut.accepted }

pub laid_mesh : (layout : Layout) (mesh : Mesh) → IsLaidOut layout mesh → IsMesh mesh
laid_mesh layout mesh l = l.cut.accepted.good

pub laid_limited : (layout : Layout) (mesh : Mesh) → IsLaidOut layout mesh → IsLimited mesh
laid_limited layout mesh l = limited_for l.case mesh l.cut.accepted

pub laid_whole : (layout : Layout) (mesh : Mesh) → IsLaidOut layout mesh → IsWhole layout
laid_whole layout mesh l =
    let c = l.cut in
    let a = c.accepted in
    subst IsWhole (sym c.layout_is) (whole l.case.steps c.wish mesh a.good (limited_for l.case mesh a) a.read.few_steps c.some c.few)

pub whole_layout : (layout : Layout) → IsLayout layout → IsWhole layout
whole_layout layout l = laid_whole layout l.mesh l.laid_out

pub laid_nodes : (layout : Layout) (mesh : Mesh) (x pipe place count left right : ℕ) → IsLaidOut layout mesh → x < length layout.shapes → shape_at layout x ≡ OfSection pipe place count left right → HasNodes layout mesh pipe left right
laid_nodes layout mesh x pipe place count left right l h e =
    let c = l.cut in
    let o = subst (λ (y : Layout). IsOver y mesh (window_of mesh c.wish)) (sym c.layout_is) (layout-over l.case.steps c.wish mesh) in
    section-nodes layout mesh (window_of mesh c.wish) x pipe place count left right o c.accepted.good h e

pub laid_mutual : (layout : Layout) (mesh : Mesh) → IsLaidOut layout mesh → AreMutual layout mesh
laid_mutual layout mesh l =
    let c = l.cut in
    subst (λ (x : Layout). AreMutual x mesh) (sym c.layout_is) (all-mutual l.case.steps c.wish mesh c.accepted.good (wired_for l.case mesh c.accepted))

pub laid_partition : (layout : Layout) (mesh : Mesh) → IsLaidOut layout mesh → IsPartition layout mesh
laid_partition layout mesh l =
    let c = l.cut in
    subst (λ (x : Layout). IsPartition x mesh) (sym c.layout_is) (partition l.case.steps c.wish mesh c.accepted.good c.some)

pub laid_written : (layout : Layout) (mesh : Mesh) → IsLaidOut layout mesh → AreWritten layout mesh
laid_written layout mesh l =
    let c = l.cut in
    subst (λ (x : Layout). AreWritten x mesh) (sym c.layout_is) (all-written l.case.steps c.wish mesh c.accepted.good (wired_for l.case mesh c.accepted) c.some)

pub laid_enough : (layout : Layout) (mesh : Mesh) → IsLaidOut layout mesh → AreEnough layout mesh
laid_enough layout mesh l =
    let c = l.cut in
    subst (λ (x : Layout). AreEnough x mesh) (sym c.layout_is) (enough l.case.steps c.wish mesh c.accepted.good (wired_for l.case mesh c.accepted) c.some)

pub laid_touching : (layout : Layout) (mesh : Mesh) → IsLaidOut layout mesh
    → AreTouching layout mesh
laid_touching layout mesh l =
    let c = l.cut in
    subst (λ (x : Layout). AreTouching x mesh) (sym c.layout_is)
    (all-touching l.case.steps c.wish mesh c.accepted.good c.some)

-- ---- its windows

pub windows_hold : (w steps : ℕ) → 1 ≤ w → steps ≤ windows_of w steps * w
unfolding windows_of
windows_hold w steps h = let e = mod-add-div (steps + (w - 1)) w in let m = mod_below (steps + (w - 1)) w (omega arith) in omega arith

pub windows_end : (w steps : ℕ) → 1 ≤ w → windows_of w steps * w < steps + w
unfolding windows_of
windows_end w steps h = let e = mod-add-div (steps + (w - 1)) w in omega arith

window_in : (steps wish : ℕ) (mesh : Mesh) → (layout_of steps mesh wish).window ≡ window_of mesh wish
unfolding layout_of
window_in steps wish mesh = refl

pub cut_window : (case : Case) (layout : Layout) (mesh : Mesh) → (cut : IsCutFor case layout mesh) → IsWindow mesh cut.wish layout.window
cut_window case layout mesh c =
    subst (λ (x : Layout). IsWindow mesh c.wish x.window) (sym c.layout_is) (subst (IsWindow mesh c.wish) (sym (window_in case.steps c.wish mesh)) (window-is mesh c.wish))

some_window : (case : Case) (layout : Layout) (mesh : Mesh) → IsCutFor case layout mesh → 1 ≤ layout.window
some_window case layout mesh c = window-some mesh c.wish layout.window c.accepted.good c.some (cut_window case layout mesh c)

windows_in : (case : Case) (layout : Layout) (mesh : Mesh) → IsCutFor case layout mesh → layout.windows ≡ windows_of layout.window case.steps
windows_in case layout mesh c =
    ap (λ (x : Layout). x.windows) c.layout_is ∙ layout-windows case.steps c.wish mesh
    ∙ ap (λ (w : ℕ). windows_of w case.steps) (sym (ap (λ (x : Layout). x.window) c.layout_is ∙ window_in case.steps c.wish mesh))

pub cut_holds : (case : Case) (layout : Layout) (mesh : Mesh) → IsCutFor case layout mesh → case.steps ≤ layout.windows * layout.window
cut_holds case layout mesh c =
    subst (λ (n : ℕ). case.steps ≤ n * layout.window) (sym (windows_in case layout mesh c)) (windows_hold layout.window case.steps (some_window case layout mesh c))

pub cut_ends : (case : Case) (layout : Layout) (mesh : Mesh) → IsCutFor case layout mesh → layout.windows * layout.window < case.steps + layout.window
cut_ends case layout mesh c =
    subst (λ (n : ℕ). n * layout.window < case.steps + layout.window) (sym (windows_in case layout mesh c)) (windows_end layout.window case.steps (some_window case layout mesh c))
