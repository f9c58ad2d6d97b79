-- The places that a strand owns lie in the spans that are noted for it.
use Rattle.std.proofs.Common.{◌≡◌, ℕ, ◌+◌, ◌-◌, ◌*◌, ◌/◌, ◌<◌, ◌≤◌, inl, inr, Bool, true, false, []}
use Rattle.std.proofs.Common.{◌∷◌}
use Rattle.std.proofs.Common.{map, refl, ap, ◌∙◌, arith}
use Rattle.std.specs.Prelude.{if◌then◌else◌}
use Rattle.std.proofs.lemmas.Bool.{le-leb, lt-ltb}
use Rattle.std.proofs.lemmas.List.{get_or-map, length-map}
use Rattle.std.proofs.lemmas.List.Folds.{list_any_at}
use Rattle.std.proofs.Math.Bool.{or-true}
use Rattle.case_model.specs.declared.meshes.End.{End}
use Rattle.case_model.specs.declared.meshes.Mesh.{Mesh}
use Rattle.case_model.specs.Joints.{no_end}
use Rattle.case_model.specs.Mesh.{base_of, ends_of, reaches}
use Rattle.envelope.specs.Cells.{has_place, is_within, no_span}
use Rattle.fronts.specs.Bands.{from_place}
use Rattle.regions.specs.declared.shapes.Shape.TheVariants.{OfNode, OfSeam, OfSection}
use Rattle.regions.specs.Sides.{end_at}
use Rattle.regionrun.specs.Owned.{IsReached}

has : (first count k : ℕ) → first ≤ k → k < first + count → has_place k (first, count) ≡ true
has first count k a b = rw (le-leb first k a, lt-ltb k (first + count) b) refl

one-span : (first count k : ℕ) → first ≤ k → k < first + count
    → is_within ((first, count) ∷ []) k ≡ true
unfolding is_within
one-span first count k a b = rw (has first count k a b) refl

-- those of a section, between its stations
pub section-within : (mesh : Mesh) (w p place n left right k : ℕ)
    → IsReached mesh w (OfSection p place n left right) k
    → is_within ((base_of mesh p + place + 1, n - 1) ∷ []) k ≡ true
section-within mesh w p place n left right k h =
    let a = h.0 in
    let b = h.1 in
    one-span (base_of mesh p + place + 1) (n - 1) k (omega arith) (omega arith)

-- those of a seam, its triangles
pub seam-within : (mesh : Mesh) (w p q left right k : ℕ)
    → IsReached mesh w (OfSeam p q left right) k
    → is_within ((base_of mesh p + q - (w - 1) / 2, 2 * ((w - 1) / 2) + 1) ∷ []) k ≡ true
seam-within mesh w p q left right k h =
    let a = h.near in
    one-span (base_of mesh p + q - (w - 1) / 2) (2 * ((w - 1) / 2) + 1) k (omega arith)
    (omega arith)

-- those of a node: itself, and the triangle of each of its ends
abbrev pub reached_from : Mesh → ℕ → End → ℕ × ℕ
reached_from mesh w e =
    if e.at_last
    then (base_of mesh e.pipe + reaches mesh e.pipe - (w - 1) / 2, (w - 1) / 2 + 1)
    else (base_of mesh e.pipe, (w - 1) / 2 + 1)

end-has : (last : Bool) (base n r k : ℕ) → base ≤ k → k ≤ base + n
    → from_place (base + (if last then n else 0)) k ≤ r
    → has_place k (if last then (base + n - r, r + 1) else (base, r + 1)) ≡ true
end-has true base n r k a b c = has (base + n - r) (r + 1) k (omega arith) (omega arith)
end-has false base n r k a b c = has base (r + 1) k (omega arith) (omega arith)

pub node-within : (mesh : Mesh) (w node k : ℕ) → IsReached mesh w (OfNode node) k
    → is_within ((node, 1) ∷ map (reached_from mesh w) (ends_of mesh node)) k ≡ true
unfolding is_within
node-within mesh w node k (inl e) = rw (has node 1 k (omega arith) (omega arith)) refl
node-within mesh w node k (inr (j, l, h)) =
    let f = reached_from mesh w in
    let end = end_at mesh node j in
    let here = end-has end.at_last (base_of mesh end.pipe) (reaches mesh end.pipe) ((w - 1) / 2) k
    h.low h.high h.near in
    let len = length-map (ends_of mesh node) f in
    let there = list_any_at (has_place k) (map f (ends_of mesh node)) j no_span (omega arith)
    (ap (has_place k) (get_or-map f (ends_of mesh node) j no_end no_span l) ∙ here) in
    rw (there, or-true) refl
