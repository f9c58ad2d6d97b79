-- Neighbouring strands have each other as sides.
use Rattle.std.proofs.Common.{◌≡◌, ℕ, zero, suc, ◌+◌, ◌-◌, ◌<◌, ◌⊎◌, inl, inr, ◌==◌, not, Bool, true, false, List, [], length, refl, ap, subst, sym, ◌∙◌, add-one, arith}
use Rattle.std.specs.Prelude.{if◌then◌else◌}
use Rattle.std.specs.List.{list_any, position_or_len}
use Rattle.std.proofs.lemmas.Bool.{and_parts, cases_lt, eqb-true}
use Rattle.std.proofs.lemmas.List.Elements.{All-from_recursion}
use Rattle.std.proofs.lemmas.List.Sums.{passes_at_first}
use Rattle.case_model.specs.declared.meshes.End.{End}
use Rattle.case_model.specs.declared.meshes.Mesh.{Mesh}
use Rattle.case_model.specs.Mesh.{IsMesh, reaches, ends_of, is_end, end_node, end_index}
use Rattle.regions.specs.declared.shapes.Layout.{Layout}
use Rattle.regions.specs.declared.shapes.Shape.{Shape}
use Rattle.regions.specs.declared.shapes.Shape.TheVariants.{OfNode, OfSeam, OfSection}
use Rattle.regions.specs.Cuts.{window_of}
use Rattle.regions.specs.Layouts.{sections_at, seams_before, section_number, station_number, section_shape, layout_of}
use Rattle.case_model.specs.Joints.{no_end}
use Rattle.regions.specs.Sides.{end_at, shape_at, is_section_shape, is_section, sides_in, section_at_end, side_in, side_of_station, back_in, sides_of, side_of, back_of, AreMutual, IsWired}
use Rattle.regions.proofs.Cutting.{sections-some}
use Rattle.regions.proofs.Standing.{station-first, station-last, station-seam}
use Rattle.regions.proofs.Strands.{IsOver, layout-over, shape-node, shape-seam, shape-section, strand, seam-inside, section-inside, node-inside}
use Rattle.regions.proofs.Strands.Strand.{IsNode, IsSeam, IsSection}
use Rattle.case_model.proofs.ListFacts.{any-index, passes}

-- ---- the end of a pipe at its node

pub any-position : {X : Type 0} (p : X → Bool) (xs : List X) (d : X) → list_any p xs ≡ true → position_or_len p xs < length xs
any-position p xs d h = let r = any-index p xs d h in passes p xs r.0 d r.1 r.2

same-flag : (a b : Bool) → (if a then b else not b) ≡ true → a ≡ b
same-flag true b h = sym h
same-flag false true h = absurd (grind arith)
same-flag false false h = refl

pub end-is : (p : ℕ) (last : Bool) (e : End) → is_end p last e ≡ true → e ≡ record { pipe = p; at_last = last }
end-is p last e h =
    let l = and_parts (e.pipe == p) (if e.at_last then last else not last) h in
    let k : e.pipe ≡ p = eqb-true e.pipe p l.0 in
    ap (λ (q : ℕ). record { pipe = q; at_last = e.at_last }) k ∙ ap (λ (b : Bool). record { pipe = p; at_last = b }) (same-flag e.at_last last l.1)

-- the end of a pipe is found at its node
record IsFound (mesh : Mesh) (p : ℕ) (last : Bool) : Type 0 where
  there : end_node mesh p last < length mesh.ends
  index : end_index mesh p last < length (ends_of mesh (end_node mesh p last))
  is : end_at mesh (end_node mesh p last) (end_index mesh p last) ≡ record { pipe = p; at_last = last }

found : (mesh : Mesh) (p : ℕ) (last : Bool) → IsMesh mesh → p < length mesh.pipes → IsFound mesh p last
found mesh p last good h =
    let k = end_node mesh p last in
    let t = good.found p last h in
    let a = passes_at_first (list_any (is_end p last)) mesh.ends [] t in
    let b = any-position (is_end p last) (ends_of mesh k) no_end a in
    record { there = t; index = b; is = end-is p last _ (passes_at_first (is_end p last) (ends_of mesh k) no_end b) }

-- ---- two strands that have each other as sides

record AreJoined (layout : Layout) (mesh : Mesh) (x j y b : ℕ) : Type 0 where
  side : side_of layout mesh x j ≡ y
  back : back_of layout mesh x j ≡ b
  here : x < length layout.shapes
  there : y < length layout.shapes
  index : b < sides_of layout mesh y
  kinds : is_section layout y ≡ not (is_section layout x)

record AreNeighbours (layout : Layout) (mesh : Mesh) (x j y b : ℕ) : Type 0 where
  to : AreJoined layout mesh x j y b
  from : AreJoined layout mesh y b x j

not_not : (b : Bool) → not (not b) ≡ b
not_not true = refl
not_not false = refl

-- what a strand's shape says of its sides
pub side-from : (layout : Layout) (mesh : Mesh) (w x j : ℕ) (s : Shape) → IsOver layout mesh w → shape_at layout x ≡ s → side_of layout mesh x j ≡ side_in mesh w j s
unfolding side_of
side-from layout mesh w x j s o e = ap (λ (u : ℕ). side_in mesh u j (shape_at layout x)) o.window ∙ ap (side_in mesh w j) e

pub back-from : (layout : Layout) (mesh : Mesh) (x j : ℕ) (s : Shape) → shape_at layout x ≡ s → back_of layout mesh x j ≡ back_in layout mesh j s
unfolding back_of
back-from layout mesh x j s e = ap (back_in layout mesh j) e

pub sides-from : (layout : Layout) (mesh : Mesh) (x : ℕ) (s : Shape) → shape_at layout x ≡ s → sides_of layout mesh x ≡ sides_in mesh s
unfolding sides_of
sides-from layout mesh x s e = ap (sides_in mesh) e

pub kind-from : (layout : Layout) (x : ℕ) (s : Shape) → shape_at layout x ≡ s → is_section layout x ≡ is_section_shape s
kind-from layout x s e = ap is_section_shape e

both : (layout : Layout) (mesh : Mesh) (x j y b : ℕ) → side_of layout mesh x j ≡ y → back_of layout mesh x j ≡ b → side_of layout mesh y b ≡ x → back_of layout mesh y b ≡ j
    → x < length layout.shapes → y < length layout.shapes → j < sides_of layout mesh x → b < sides_of layout mesh y
    → is_section layout x ≡ true → is_section layout y ≡ false → AreNeighbours layout mesh x j y b
both layout mesh x j y b s t u v l m i k p q = record {
  to = record { side = s; back = t; here = l; there = m; index = k; kinds = q ∙ ap not (sym p) };
  from = record { side = u; back = v; here = m; there = l; index = i; kinds = p ∙ ap not (sym q) };
}

abbrev side_at_end : Bool → ℕ
side_at_end last = if last then 1 else 0

end-first : (layout : Layout) (mesh : Mesh) (w p : ℕ) → IsOver layout mesh w → IsMesh mesh → p < length mesh.pipes
    → AreNeighbours layout mesh (section_number mesh w p 0) 0 (end_node mesh p false) (end_index mesh p false)
end-first layout mesh w p o good h =
    let f = found mesh p false good h in
    let k = end_node mesh p false in
    let some = sections-some w (reaches mesh p) in
    let a = shape-section layout mesh w p 0 o h (omega arith) in
    let n = shape-node layout mesh w k o f.there in
    let st : station_number mesh w p 0 ≡ k = station-first mesh w p 0 refl in
    both layout mesh (section_number mesh w p 0) 0 k (end_index mesh p false)
    (side-from layout mesh w _ 0 _ o a ∙ st)
    (back-from layout mesh _ 0 _ a ∙ ap (λ (y : ℕ). side_of_station mesh p false (shape_at layout y)) st ∙ ap (side_of_station mesh p false) n)
    (side-from layout mesh w k _ _ o n ∙ ap (section_at_end mesh w) f.is)
    (back-from layout mesh k _ _ n ∙ ap (λ (e : End). side_at_end e.at_last) f.is)
    (section-inside layout mesh w p 0 o h (omega arith))
    (node-inside layout mesh w k o f.there)
    (rw (sides-from layout mesh _ _ a) (omega arith))
    (rw (sides-from layout mesh k _ n) f.index)
    (kind-from layout _ _ a)
    (kind-from layout k _ n)

end-last : (layout : Layout) (mesh : Mesh) (w p : ℕ) → IsOver layout mesh w → IsMesh mesh → p < length mesh.pipes
    → AreNeighbours layout mesh (section_number mesh w p (sections_at mesh w p - 1)) 1 (end_node mesh p true) (end_index mesh p true)
end-last layout mesh w p o good h =
    let f = found mesh p true good h in
    let k = end_node mesh p true in
    let some = sections-some w (reaches mesh p) in
    let q = sections_at mesh w p - 1 in
    let a = shape-section layout mesh w p q o h (omega arith) in
    let n = shape-node layout mesh w k o f.there in
    let st : station_number mesh w p (q + 1) ≡ k = station-last mesh w p (q + 1) (omega arith) (omega arith) in
    both layout mesh (section_number mesh w p q) 1 k (end_index mesh p true)
    (side-from layout mesh w _ 1 _ o a ∙ st)
    (back-from layout mesh _ 1 _ a ∙ ap (λ (y : ℕ). side_of_station mesh p true (shape_at layout y)) st ∙ ap (side_of_station mesh p true) n)
    (side-from layout mesh w k _ _ o n ∙ ap (section_at_end mesh w) f.is)
    (back-from layout mesh k _ _ n ∙ ap (λ (e : End). side_at_end e.at_last) f.is)
    (section-inside layout mesh w p q o h (omega arith))
    (node-inside layout mesh w k o f.there)
    (rw (sides-from layout mesh _ _ a) (omega arith))
    (rw (sides-from layout mesh k _ n) f.index)
    (kind-from layout _ _ a)
    (kind-from layout k _ n)

seam-left : (layout : Layout) (mesh : Mesh) (w p i y : ℕ) → IsOver layout mesh w → p < length mesh.pipes → i + 1 < sections_at mesh w p → y ≡ length mesh.ends + seams_before mesh w p + i
    → AreNeighbours layout mesh (section_number mesh w p i) 1 y 0
seam-left layout mesh w p i y o h b e =
    let a = shape-section layout mesh w p i o h (omega arith) in
    let n = shape-seam layout mesh w p i y o h b e in
    let st : station_number mesh w p (i + 1) ≡ y = station-seam mesh w p (i + 1) (omega arith) (λ x. absurd (omega arith)) ∙ omega arith in
    both layout mesh (section_number mesh w p i) 1 y 0
    (side-from layout mesh w _ 1 _ o a ∙ st)
    (back-from layout mesh _ 1 _ a ∙ ap (λ (z : ℕ). side_of_station mesh p true (shape_at layout z)) st ∙ ap (side_of_station mesh p true) n)
    (side-from layout mesh w y 0 _ o n)
    (back-from layout mesh y 0 _ n)
    (section-inside layout mesh w p i o h (omega arith))
    (let l = seam-inside layout mesh w p i o h b in omega arith)
    (rw (sides-from layout mesh _ _ a) (omega arith))
    (rw (sides-from layout mesh y _ n) (omega arith))
    (kind-from layout _ _ a)
    (kind-from layout y _ n)

seam-right : (layout : Layout) (mesh : Mesh) (w p i y : ℕ) → IsOver layout mesh w → p < length mesh.pipes → i + 1 < sections_at mesh w p → y ≡ length mesh.ends + seams_before mesh w p + i
    → AreNeighbours layout mesh (section_number mesh w p (i + 1)) 0 y 1
seam-right layout mesh w p i y o h b e =
    let a = shape-section layout mesh w p (i + 1) o h b in
    let n = shape-seam layout mesh w p i y o h b e in
    let st : station_number mesh w p (i + 1) ≡ y = station-seam mesh w p (i + 1) (omega arith) (λ x. absurd (omega arith)) ∙ omega arith in
    both layout mesh (section_number mesh w p (i + 1)) 0 y 1
    (side-from layout mesh w _ 0 _ o a ∙ st)
    (back-from layout mesh _ 0 _ a ∙ ap (λ (z : ℕ). side_of_station mesh p false (shape_at layout z)) st ∙ ap (side_of_station mesh p false) n)
    (side-from layout mesh w y 1 _ o n)
    (back-from layout mesh y 1 _ n)
    (section-inside layout mesh w p (i + 1) o h b)
    (let l = seam-inside layout mesh w p i o h b in omega arith)
    (rw (sides-from layout mesh _ _ a) (omega arith))
    (rw (sides-from layout mesh y _ n) (omega arith))
    (kind-from layout _ _ a)
    (kind-from layout y _ n)

-- ---- every side of every strand

record HasSide (layout : Layout) (mesh : Mesh) (x j : ℕ) : Type 0 where
  other : ℕ
  index : ℕ
  joined : AreNeighbours layout mesh x j other index

turned : (layout : Layout) (mesh : Mesh) (x j y b : ℕ) → AreNeighbours layout mesh x j y b → AreNeighbours layout mesh y b x j
turned layout mesh x j y b n = record { to = n.from; from = n.to }

side-of_node : (layout : Layout) (mesh : Mesh) (w k j : ℕ) (e : End) → IsOver layout mesh w → IsMesh mesh → e.pipe < length mesh.pipes → end_node mesh e.pipe e.at_last ≡ k → end_index mesh e.pipe e.at_last ≡ j → HasSide layout mesh k j
side-of_node layout mesh w k j e o good h n i =
    elim e.at_last as (λ (last : Bool). end_node mesh e.pipe last ≡ k → end_index mesh e.pipe last ≡ j → HasSide layout mesh k j) [
      | false ↦ λ m l. record {
        other = section_number mesh w e.pipe 0;
        index = 0;
        joined = turned layout mesh _ 0 k j (subst (λ (z : ℕ). AreNeighbours layout mesh (section_number mesh w e.pipe 0) 0 k z) l (subst (λ (z : ℕ). AreNeighbours layout mesh (section_number mesh w e.pipe 0) 0 z (end_index mesh e.pipe false)) m (end-first layout mesh w e.pipe o good h)));
      }
      | true ↦ λ m l. record {
        other = section_number mesh w e.pipe (sections_at mesh w e.pipe - 1);
        index = 1;
        joined = turned layout mesh _ 1 k j (subst (λ (z : ℕ). AreNeighbours layout mesh (section_number mesh w e.pipe (sections_at mesh w e.pipe - 1)) 1 k z) l (subst (λ (z : ℕ). AreNeighbours layout mesh (section_number mesh w e.pipe (sections_at mesh w e.pipe - 1)) 1 z (end_index mesh e.pipe true)) m (end-last layout mesh w e.pipe o good h)));
      }
    ] n i

pub zero-or-one : (j : ℕ) → j < 2 → (j ≡ 0) ⊎ (j ≡ 1)
zero-or-one j h = grind arith

side-of_seam : (layout : Layout) (mesh : Mesh) (w p i x j : ℕ) → IsOver layout mesh w → p < length mesh.pipes → i + 1 < sections_at mesh w p → x ≡ length mesh.ends + seams_before mesh w p + i → j < 2 → HasSide layout mesh x j
side-of_seam layout mesh w p i x j o h b e l = elim (zero-or-one j l) [
  | inl z ↦ subst (λ (m : ℕ). HasSide layout mesh x m) (sym z) (record { other = section_number mesh w p i; index = 1; joined = turned layout mesh _ 1 x 0 (seam-left layout mesh w p i x o h b e) })
  | inr z ↦ subst (λ (m : ℕ). HasSide layout mesh x m) (sym z) (record { other = section_number mesh w p (i + 1); index = 0; joined = turned layout mesh _ 0 x 1 (seam-right layout mesh w p i x o h b e) })
]

left-of_section : (layout : Layout) (mesh : Mesh) (w p i : ℕ) → IsOver layout mesh w → IsMesh mesh → p < length mesh.pipes → i < sections_at mesh w p → HasSide layout mesh (section_number mesh w p i) 0
left-of_section layout mesh w p zero o good h b = record { other = end_node mesh p false; index = end_index mesh p false; joined = end-first layout mesh w p o good h }
left-of_section layout mesh w p (suc i) o good h b = record {
  other = length mesh.ends + seams_before mesh w p + i;
  index = 1;
  joined = subst (λ (z : ℕ). AreNeighbours layout mesh (section_number mesh w p z) 0 (length mesh.ends + seams_before mesh w p + i) 1) (add-one i) (seam-right layout mesh w p i _ o h (omega arith) refl);
}

right-of_section : (layout : Layout) (mesh : Mesh) (w p i : ℕ) → IsOver layout mesh w → IsMesh mesh → p < length mesh.pipes → i < sections_at mesh w p → HasSide layout mesh (section_number mesh w p i) 1
right-of_section layout mesh w p i o good h b = elim (cases_lt (i + 1) (sections_at mesh w p)) [
  | inl l ↦ record { other = length mesh.ends + seams_before mesh w p + i; index = 0; joined = seam-left layout mesh w p i _ o h l refl }
  | inr l ↦
      let e : sections_at mesh w p - 1 ≡ i = omega arith in
      record {
        other = end_node mesh p true;
        index = end_index mesh p true;
        joined = subst (λ (z : ℕ). AreNeighbours layout mesh (section_number mesh w p z) 1 (end_node mesh p true) (end_index mesh p true)) e (end-last layout mesh w p o good h);
      }
]

has-side : (layout : Layout) (mesh : Mesh) (w x j : ℕ) → IsOver layout mesh w → IsMesh mesh → IsWired mesh → x < length layout.shapes → j < sides_of layout mesh x → HasSide layout mesh x j
has-side layout mesh w x j o good wired h l = elim (strand layout mesh w x o h) [
  | IsNode b ↦
      let k : j < length (ends_of mesh x) = subst (λ (n : ℕ). j < n) (sides-from layout mesh x _ (shape-node layout mesh w x o b)) l in
      side-of_node layout mesh w x j (end_at mesh x j) o good (All-from_recursion (λ e. e.pipe < length mesh.pipes) (ends_of mesh x) (good.pipes x b) j no_end k) (wired.node x j b k) (wired.index x j b k)
  | IsSeam p i m b e ↦ side-of_seam layout mesh w p i x j o m b e (subst (λ (n : ℕ). j < n) (sides-from layout mesh x _ (shape-seam layout mesh w p i x o m b e)) l)
  | IsSection p i m b e ↦
      let k : j < 2 = subst (λ (n : ℕ). j < n) (ap (sides_of layout mesh) e ∙ sides-from layout mesh _ _ (shape-section layout mesh w p i o m b)) l in
      subst (λ (z : ℕ). HasSide layout mesh z j) (sym e) (elim (zero-or-one j k) [
        | inl z ↦ subst (λ (n : ℕ). HasSide layout mesh (section_number mesh w p i) n) (sym z) (left-of_section layout mesh w p i o good m b)
        | inr z ↦ subst (λ (n : ℕ). HasSide layout mesh (section_number mesh w p i) n) (sym z) (right-of_section layout mesh w p i o good m b)
      ])
]

pub over-mutual : (layout : Layout) (mesh : Mesh) (w : ℕ) → IsOver layout mesh w → IsMesh mesh → IsWired mesh → AreMutual layout mesh
over-mutual layout mesh w o good wired = record {
  inside = λ x j h l. let r = has-side layout mesh w x j o good wired h l in subst (λ (y : ℕ). y < length layout.shapes) (sym r.joined.to.side) r.joined.to.there;
  index = λ x j h l. let r = has-side layout mesh w x j o good wired h l in
      subst (λ (b : ℕ). b < sides_of layout mesh (side_of layout mesh x j)) (sym r.joined.to.back) (subst (λ (y : ℕ). r.index < sides_of layout mesh y) (sym r.joined.to.side) r.joined.to.index);
  again = λ x j h l. let r = has-side layout mesh w x j o good wired h l in
      ap (side_of layout mesh (side_of layout mesh x j)) r.joined.to.back ∙ ap (λ (y : ℕ). side_of layout mesh y r.index) r.joined.to.side ∙ r.joined.from.side;
  twice = λ x j h l. let r = has-side layout mesh w x j o good wired h l in
      ap (back_of layout mesh (side_of layout mesh x j)) r.joined.to.back ∙ ap (λ (y : ℕ). back_of layout mesh y r.index) r.joined.to.side ∙ r.joined.from.back;
  kinds = λ x j h l. let r = has-side layout mesh w x j o good wired h l in ap (is_section layout) r.joined.to.side ∙ r.joined.to.kinds;
}

pub all-mutual : (steps wish : ℕ) (mesh : Mesh) → IsMesh mesh → IsWired mesh → AreMutual (layout_of steps mesh wish) mesh
all-mutual steps wish mesh good wired = over-mutual (layout_of steps mesh wish) mesh (window_of mesh wish) (layout-over steps wish mesh) good wired

-- ---- the node at a section's end

abbrev left_in : Shape → ℕ
left_in (OfNode node) = 0
left_in (OfSeam pipe place left right) = left
left_in (OfSection pipe place count left right) = left

abbrev right_in : Shape → ℕ
right_in (OfNode node) = 0
right_in (OfSeam pipe place left right) = right
right_in (OfSection pipe place count left right) = right

abbrev pipe_in : Shape → ℕ
pipe_in (OfNode node) = 0
pipe_in (OfSeam pipe place left right) = pipe
pipe_in (OfSection pipe place count left right) = pipe

abbrev node_in : Shape → ℕ
node_in (OfNode node) = node
node_in (OfSeam pipe place left right) = 0
node_in (OfSection pipe place count left right) = 0

not-seam : (pipe place left right node : ℕ) → OfSeam pipe place left right ≡ OfNode node → ⊥
not-seam pipe place left right node e = cc

-- a station of a section that is a node stands at an end of its pipe
node-there : (layout : Layout) (mesh : Mesh) (w p y node : ℕ) (last : Bool) → IsOver layout mesh w → IsMesh mesh → p < length mesh.pipes → y ≡ end_node mesh p last → shape_at layout y ≡ OfNode node → node ≡ end_node mesh p last
node-there layout mesh w p y node last o good h at e =
    sym (ap node_in (sym (shape-node layout mesh w (end_node mesh p last) o ((found mesh p last good h).there)) ∙ ap (shape_at layout) (sym at) ∙ e))

left-there : (layout : Layout) (mesh : Mesh) (w p i node : ℕ) → IsOver layout mesh w → IsMesh mesh → p < length mesh.pipes → i < sections_at mesh w p → shape_at layout (station_number mesh w p i) ≡ OfNode node → node ≡ end_node mesh p false
left-there layout mesh w p zero node o good h b e = node-there layout mesh w p (station_number mesh w p 0) node false o good h (station-first mesh w p 0 refl) e
left-there layout mesh w p (suc i) node o good h b e =
    let s = shape-seam layout mesh w p i (station_number mesh w p (suc i)) o h (omega arith) (station-seam mesh w p (suc i) (omega arith) (λ q. absurd (omega arith)) ∙ (omega arith)) in
    absurd (not-seam _ _ _ _ node (sym s ∙ e))

right-there : (layout : Layout) (mesh : Mesh) (w p i node : ℕ) → IsOver layout mesh w → IsMesh mesh → p < length mesh.pipes → i < sections_at mesh w p → shape_at layout (station_number mesh w p (i + 1)) ≡ OfNode node → node ≡ end_node mesh p true
right-there layout mesh w p i node o good h b e = elim (cases_lt (i + 1) (sections_at mesh w p)) [
  | inl l ↦
      let s = shape-seam layout mesh w p i (station_number mesh w p (i + 1)) o h l (station-seam mesh w p (i + 1) (omega arith) (λ q. absurd (omega arith)) ∙ (omega arith)) in
      absurd (not-seam _ _ _ _ node (sym s ∙ e))
  | inr l ↦ node-there layout mesh w p (station_number mesh w p (i + 1)) node true o good h (station-last mesh w p (i + 1) (omega arith) (omega arith)) e
]

-- the nodes at both sides of a section of a layout
pub record HasNodes (layout : Layout) (mesh : Mesh) (pipe left right : ℕ) : Type 0 where
  pub at_left : (node : ℕ) → shape_at layout left ≡ OfNode node → node ≡ end_node mesh pipe false
  pub at_right : (node : ℕ) → shape_at layout right ≡ OfNode node → node ≡ end_node mesh pipe true

pub section-nodes : (layout : Layout) (mesh : Mesh) (w x pipe place count left right : ℕ) → IsOver layout mesh w → IsMesh mesh → x < length layout.shapes → shape_at layout x ≡ OfSection pipe place count left right → HasNodes layout mesh pipe left right
section-nodes layout mesh w x pipe place count left right o good h e = elim (strand layout mesh w x o h) [
  | IsNode b ↦ let s = sym (shape-node layout mesh w x o b) ∙ e in absurd (cc)
  | IsSeam p i m b a ↦ let s = sym (shape-seam layout mesh w p i x o m b a) ∙ e in absurd (cc)
  | IsSection p i m b a ↦
      let s : section_shape mesh w p i ≡ OfSection pipe place count left right = sym (ap (shape_at layout) a ∙ shape-section layout mesh w p i o m b) ∙ e in
      let l : station_number mesh w p i ≡ left = ap left_in s in
      let r : station_number mesh w p (i + 1) ≡ right = ap right_in s in
      let q : p ≡ pipe = ap pipe_in s in
      record {
        at_left = λ node t. left-there layout mesh w p i node o good m b (ap (shape_at layout) l ∙ t) ∙ ap (λ (k : ℕ). end_node mesh k false) q;
        at_right = λ node t. right-there layout mesh w p i node o good m b (ap (shape_at layout) r ∙ t) ∙ ap (λ (k : ℕ). end_node mesh k true) q;
      }
]
