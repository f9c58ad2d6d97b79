-- Strands stand on the mesh, and sections end at the stations beside them.
use Rattle.std.proofs.Common.{◌≡◌, ℕ, ◌+◌, ◌-◌, ◌<◌, ◌≤◌, ◌⊎◌, inl, inr, Bool, true, false, length}
use Rattle.std.proofs.Common.{refl, ap, subst, sym, ◌∙◌, arith}
use Rattle.std.specs.Prelude.{if◌then◌else◌}
use Rattle.std.proofs.lemmas.List.Elements.{All-from_recursion}
use Rattle.case_model.specs.declared.meshes.End.{End}
use Rattle.case_model.specs.declared.meshes.Mesh.{Mesh}
use Rattle.case_model.specs.Joints.{no_end}
use Rattle.case_model.specs.Mesh.{IsMesh, reaches, ends_of}
use Rattle.regions.specs.declared.shapes.Layout.{Layout}
use Rattle.regions.specs.declared.shapes.Shape.{Shape}
use Rattle.regions.specs.declared.shapes.Shape.TheVariants.{OfNode, OfSection}
use Rattle.regions.specs.Cuts.{cut}
use Rattle.regions.specs.Layouts.{sections_at, seams_before, section_number, seam_shape}
use Rattle.regions.specs.Layouts.{section_shape, layout_of}
use Rattle.regions.specs.Sides.{end_at, shape_at, is_section, section_at_end, sides_of, side_of}
use Rattle.regions.specs.Sides.{back_of}
use Rattle.regions.specs.Touching.{IsStanding, station_pipe, station_place, IsTouching}
use Rattle.regions.specs.Touching.{AreTouching}
use Rattle.regions.proofs.Cutting.{sections-some, cut-next, cut-last, reaches-long}
use Rattle.regions.proofs.Joining.{side-from, back-from, sides-from, kind-from, zero-or-one}
use Rattle.regions.proofs.Strands.{shape-node, shape-seam, shape-section, strand}
use Rattle.regions.proofs.Strands.Strand.{IsNode, IsSeam, IsSection}
use Rattle.regions.proofs.Whole.{IsFitted, fitted, cut-end}

-- ---- where they stand

standing : (layout : Layout) (mesh : Mesh) (x : ℕ) → IsFitted layout mesh → x < length layout.shapes
    → IsStanding mesh layout.window x (shape_at layout x)
standing layout mesh x fit h =
    let w : ℕ = layout.window in
    elim (strand layout mesh w x fit.over h) [
      | IsNode b ↦ subst (IsStanding mesh w x) (sym (shape-node layout mesh w x fit.over b))
          (refl, b)
      | IsSeam p i m b e ↦ subst (IsStanding mesh w x)
          (sym (shape-seam layout mesh w p i x fit.over m b e)) (
            m,
            (let n = cut-next w (reaches mesh p) i in
                let l = reaches-long w (reaches mesh p) i (fit.good.long p m) (fit.pipes p m) in
                omega arith),
            (let l = reaches-long w (reaches mesh p) (i + 1) (fit.good.long p m) (fit.pipes p m) in
                let c = cut-end w (reaches mesh p) (i + 1) b in omega arith),
          )
      | IsSection p i m b e ↦ subst (IsStanding mesh w x)
          (sym (ap (shape_at layout) e ∙ shape-section layout mesh w p i fit.over m b)) (
            m,
            (let l = reaches-long w (reaches mesh p) i (fit.good.long p m) (fit.pipes p m) in
                omega arith),
            (let l = reaches-long w (reaches mesh p) i (fit.good.long p m) (fit.pipes p m) in
                omega arith),
            cut-end w (reaches mesh p) i b,
          )
    ]

end-there : (mesh : Mesh) (k j : ℕ) → IsMesh mesh → k < length mesh.ends
    → j < length (ends_of mesh k) → (end_at mesh k j).pipe < length mesh.pipes
end-there mesh k j good h l = All-from_recursion (λ e. e.pipe < length mesh.pipes) (ends_of mesh k)
    (good.pipes k h) j no_end l

-- ---- that they touch

touch-from : (layout : Layout) (mesh : Mesh) (x c y p place count left right back at : ℕ)
    (s : Shape) → shape_at layout x ≡ s
    → side_of layout mesh x c ≡ y → back_of layout mesh x c ≡ back
    → shape_at layout y ≡ OfSection p place count left right
    → station_pipe mesh c s ≡ p → station_place mesh c s ≡ at
    → ((back ≡ 0) × (at ≡ place)) ⊎ ((back ≡ 1) × (at ≡ place + count))
    → IsTouching layout mesh x c
touch-from layout mesh x c y p place count left right back at s e side b shape pipe spot meets =
    let q : station_pipe mesh c (shape_at layout x) ≡ p = ap (station_pipe mesh c) e ∙ pipe in
    let z : station_place mesh c (shape_at layout x) ≡ at = ap (station_place mesh c) e ∙ spot in
    record {
      place = place;
      count = count;
      left = left;
      right = right;
      shape = ap (shape_at layout) side ∙ shape
          ∙ ap (λ (i : ℕ). OfSection i place count left right) (sym q);
      meets = elim meets [ inl m ↦ inl (b ∙ m.0, z ∙ m.1) | inr m ↦ inr (b ∙ m.0, z ∙ m.1) ];
    }

touch-end : (layout : Layout) (mesh : Mesh) (k c p : ℕ) (last : Bool) → IsFitted layout mesh
    → k < length mesh.ends → p < length mesh.pipes
    → end_at mesh k c ≡ record { pipe = p; at_last = last } → IsTouching layout mesh k c
touch-end layout mesh k c p false fit h l e =
    let w : ℕ = layout.window in
    let n = shape-node layout mesh w k fit.over h in
    let some = sections-some w (reaches mesh p) in
    touch-from layout mesh k c (section_number mesh w p 0) p _ _ _ _ 0 0 (OfNode k) n
    (side-from layout mesh w k c _ fit.over n ∙ ap (section_at_end mesh w) e)
    (back-from layout mesh k c _ n ∙ ap (λ (x : End). if x.at_last then 1 else 0) e)
    (shape-section layout mesh w p 0 fit.over l (omega arith))
    (ap (λ (x : End). x.pipe) e)
    (ap (λ (x : End). if x.at_last then reaches mesh x.pipe else 0) e)
    (inl (refl, refl))
touch-end layout mesh k c p true fit h l e =
    let w : ℕ = layout.window in
    let n = shape-node layout mesh w k fit.over h in
    let some = sections-some w (reaches mesh p) in
    let j : ℕ = sections_at mesh w p - 1 in
    let same : j + 1 ≡ sections_at mesh w p = omega arith in
    let end : cut w (reaches mesh p) (j + 1) ≡ reaches mesh p =
    ap (cut w (reaches mesh p)) same ∙ cut-last w (reaches mesh p) in
    let next = cut-next w (reaches mesh p) j in
    touch-from layout mesh k c (section_number mesh w p j) p _ _ _ _ 1 (reaches mesh p) (OfNode k) n
    (side-from layout mesh w k c _ fit.over n ∙ ap (section_at_end mesh w) e)
    (back-from layout mesh k c _ n ∙ ap (λ (x : End). if x.at_last then 1 else 0) e)
    (shape-section layout mesh w p j fit.over l (omega arith))
    (ap (λ (x : End). x.pipe) e)
    (ap (λ (x : End). if x.at_last then reaches mesh x.pipe else 0) e)
    (inr (refl, omega arith))

touch-seam : (layout : Layout) (mesh : Mesh) (p i x c : ℕ) → IsFitted layout mesh
    → p < length mesh.pipes → i + 1 < sections_at mesh layout.window p
    → x ≡ length mesh.ends + seams_before mesh layout.window p + i → c < 2
    → IsTouching layout mesh x c
touch-seam layout mesh p i x c fit h b e l =
    let w : ℕ = layout.window in
    let n = shape-seam layout mesh w p i x fit.over h b e in
    elim (zero-or-one c l) [
      | inl z ↦ subst (λ (m : ℕ). IsTouching layout mesh x m) (sym z) (
          touch-from layout mesh x 0 (section_number mesh w p i) p _ _ _ _ 1
          (cut w (reaches mesh p) (i + 1)) (seam_shape mesh w p i) n
          (side-from layout mesh w x 0 _ fit.over n) (back-from layout mesh x 0 _ n)
          (shape-section layout mesh w p i fit.over h (omega arith)) refl refl
          (inr (refl, cut-next w (reaches mesh p) i)))
      | inr z ↦ subst (λ (m : ℕ). IsTouching layout mesh x m) (sym z) (
          touch-from layout mesh x 1 (section_number mesh w p (i + 1)) p _ _ _ _ 0
          (cut w (reaches mesh p) (i + 1)) (seam_shape mesh w p i) n
          (side-from layout mesh w x 1 _ fit.over n) (back-from layout mesh x 1 _ n)
          (shape-section layout mesh w p (i + 1) fit.over h b) refl refl (inl (refl, refl)))
    ]

not-station : (layout : Layout) (mesh : Mesh) (w x p i : ℕ)
    → shape_at layout x ≡ section_shape mesh w p i → is_section layout x ≡ false → true ≡ false
not-station layout mesh w x p i s k = sym (kind-from layout x _ s) ∙ k

touching : (layout : Layout) (mesh : Mesh) (x c : ℕ) → IsFitted layout mesh
    → x < length layout.shapes → is_section layout x ≡ false → c < sides_of layout mesh x
    → IsTouching layout mesh x c
touching layout mesh x c fit h kind l =
    let w : ℕ = layout.window in
    elim (strand layout mesh w x fit.over h) [
      | IsNode b ↦
          let k : c < length (ends_of mesh x) =
          subst (λ (n : ℕ). c < n) (sides-from layout mesh x _
          (shape-node layout mesh w x fit.over b)) l in
          touch-end layout mesh x c (end_at mesh x c).pipe (end_at mesh x c).at_last fit b
          (end-there mesh x c fit.good b k) refl
      | IsSeam p i m b e ↦ touch-seam layout mesh p i x c fit m b e
          (subst (λ (n : ℕ). c < n) (sides-from layout mesh x _
          (shape-seam layout mesh w p i x fit.over m b e)) l)
      | IsSection p i m b e ↦ let s =
          ap (shape_at layout) e ∙ shape-section layout mesh w p i fit.over m b in let f =
          not-station layout mesh w x p i s kind in absurd (cc)
    ]

pub all-touching : (steps wish : ℕ) (mesh : Mesh) → IsMesh mesh → 1 ≤ wish
    → AreTouching (layout_of steps mesh wish) mesh
all-touching steps wish mesh good some =
    let layout = layout_of steps mesh wish in
    let fit = fitted steps wish mesh good some in
    record {
      stands = λ x h. standing layout mesh x fit h;
      ends = λ k j h l. let b = end-there mesh k j good h l in
          record { there = b; long = fit.pipes _ b };
      touches = λ x c h k l. touching layout mesh x c fit h k l;
    }
