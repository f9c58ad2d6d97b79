-- What strands have when they are made.
use Rattle.std.proofs.Common.{◌≡◌, ℕ, ◌+◌, ◌*◌, ◌<◌, inl, inr, Bool, true, false, length, List, []}
use Rattle.std.proofs.Common.{◌∷◌, ◌++◌, get_or, refl, ap, sym, subst, ◌∙◌, arith, length-append}
use Rattle.std.specs.Prelude.{if◌then◌else◌}
use Rattle.std.proofs.lemmas.Bool.{cases_lt}
use Rattle.std.proofs.lemmas.List.{get_or_append_left, get_or_default, get_or_push}
use Rattle.case_model.specs.declared.cases.Case.{Case}
use Rattle.case_model.specs.declared.meshes.End.{End}
use Rattle.case_model.specs.declared.meshes.Mesh.{Mesh}
use Rattle.case_model.specs.Joints.{no_end}
use Rattle.case_model.specs.Meaning.{Meaning}
use Rattle.case_model.specs.Mesh.{base_of, ends_of, reaches}
use Rattle.envelope.specs.Folds.{Stands}
use Rattle.envelope.specs.Notings.{nothing}
use Rattle.envelope.specs.declared.folds.Fold.{Fold}
use Rattle.regions.specs.declared.shapes.Layout.{Layout}
use Rattle.regions.specs.declared.shapes.Shape.{Shape}
use Rattle.regions.specs.declared.shapes.Shape.TheVariants.{OfNode, OfSeam, OfSection}
use Rattle.regions.specs.Sides.{end_at, shape_at}
use Rattle.regionrun.proofs.Begun.{node-start, seam-start, section-start}
use Rattle.regionrun.proofs.Flags.{some-of}
use Rattle.regionrun.proofs.Keeping.{StandForEqual, same-marked}
use Rattle.regionrun.specs.Bodies.{IsBodyAt, IsBodyOf}
use Rattle.regionrun.specs.Engine.{AreAt, none}
use Rattle.regionrun.specs.Lawful.{IsLawful}
use Rattle.regionrun.specs.Made.{AreNew, IsNewStrand, first_marks}
use Rattle.regionrun.specs.Owned.{end_number, owned}
use Rattle.regionrun.specs.Surveys.{HasSpans, IsStrandFold}
use Rattle.regionrun.specs.declared.bodies.Body.{Body}
use Rattle.regionrun.specs.declared.bodies.Body.TheVariants.{OfNode as NodeBody}
use Rattle.regionrun.specs.declared.bodies.Body.TheVariants.{OfSeam as SeamBody}
use Rattle.regionrun.specs.declared.bodies.Body.TheVariants.{OfSection as SectionBody}
use Rattle.regionrun.specs.declared.one_strand.Strand.{Strand}
use Rattle.strands.specs.Hubs.{IsHubAt, IsHubEnd, IsHubNode, spokes_of}
use Rattle.strands.specs.Marks.{Marks, marked, or_marked}
use Rattle.strands.specs.Seams.{IsSeamAt}
use Rattle.strands.specs.Spokes.{end_place}
use Rattle.strands.specs.Stations.{half}
use Rattle.strands.specs.declared.hubs.Hub.{Hub}
use Rattle.strands.specs.declared.seams.Seam.{Seam}
use Rattle.strands.specs.declared.spokes.Spoke.{Spoke}

-- ---- a node that can have a hub

pub hub-node : (layout : Layout) (mesh : Mesh) (node : ℕ) → IsLawful layout mesh
    → HasSpans mesh layout.window (OfNode node) → IsHubNode mesh layout.window node
hub-node layout mesh node lawful has = record {
  there = has.0;
  few = lawful.limited.few_ends node has.0;
  ends = λ i d h.
      let e = get_or_default (ends_of mesh node) i no_end d h in
      subst (λ (end : End). IsHubEnd mesh layout.window node i end) e
      (let s = has.1 i h in
      let long = s.long in
      let some = lawful.whole.some in
      record {
        on_mesh = s.there;
        long = omega arith;
        node_is = lawful.wired.node node i has.0 h;
        index_is = lawful.wired.index node i has.0 h;
      });
}

-- ---- the initial row

end-is : (last : Bool) (n : ℕ) → end_place last n ≡ (if last then n else 0)
end-is true n = refl
end-is false n = refl

-- where a spoke has its end
abbrev end_of_spoke : ℕ → Spoke → ℕ
end_of_spoke w spoke = spoke.stretch.number + end_place spoke.last (half w)

spoke-end : (law : Meaning) (w : ℕ) (hub : Hub) (i : ℕ) (d : Spoke) → IsHubAt law w 0 hub
    → i < length (ends_of law.mesh hub.node)
    → end_of_spoke w (get_or (spokes_of hub) i d) ≡ end_number law.mesh (end_at law.mesh hub.node i)
spoke-end law w hub i d at h =
    let len = at.on_mesh.each in
    let l : i < length (spokes_of hub) = omega arith in
    let spoke = get_or (spokes_of hub) i d in
    let is = (at.spokes i d l).on_pipe in
    let number = is.line.number_is in
    let end = is.end_is in
    let last = end-is spoke.last (reaches law.mesh spoke.stretch.pipe) in
    let e : end_of_spoke w spoke ≡ base_of law.mesh spoke.stretch.pipe
    + (if spoke.last then reaches law.mesh spoke.stretch.pipe else 0) = omega arith in
    e ∙ ap (end_number law.mesh) (sym ((at.on_mesh.ends i d l).end_is no_end))

hub-first : (law : Meaning) (layout : Layout) (x : ℕ) (hub : Hub) → IsLawful layout law.mesh
    → x < length layout.shapes → shape_at layout x ≡ OfNode hub.node
    → IsHubAt law layout.window 0 hub → (s k : ℕ)
    → owned law.mesh layout.window x 0 s k ≡ first_marks layout.window (NodeBody hub) s k
hub-first law layout x hub lawful there is at s k =
    let len = at.on_mesh.each in
    let some = lawful.limited.some_ends hub.node at.on_mesh.there in
    let d = some-of 0 (spokes_of hub) (omega arith) in
    node-start (end_of_spoke layout.window) d (spokes_of hub) layout law.mesh x hub.node lawful
    there is len (λ j h. spoke-end law layout.window hub j d at h) s k

pub hub-now : (law : Meaning) (w : ℕ) (hub : Hub) → IsBodyAt law w (NodeBody hub) 0
    → IsHubAt law w 0 hub
hub-now law w hub at =
    let e : 0 * w ≡ 0 = omega arith in subst (λ (z : ℕ). IsHubAt law w z hub) e at

pub seam-now : (law : Meaning) (w : ℕ) (seam : Seam) → IsBodyAt law w (SeamBody seam) 0
    → IsSeamAt law w 0 seam
seam-now law w seam at =
    let e : 0 * w ≡ 0 = omega arith in subst (λ (z : ℕ). IsSeamAt law w z seam) e at

first-by : (law : Meaning) (layout : Layout) (x : ℕ) (shape : Shape) (body : Body)
    → IsLawful layout law.mesh → x < length layout.shapes → shape_at layout x ≡ shape
    → IsBodyOf law.mesh layout.window shape body → IsBodyAt law layout.window body 0 → (s k : ℕ)
    → owned law.mesh layout.window x 0 s k ≡ first_marks layout.window body s k
first-by law layout x (OfSection p place n l r) (SectionBody kept) lawful there is places at s k =
    section-start layout law.mesh x p place n l r kept.stretch lawful
    (record { there = there; shape = is; over = places }) s k
first-by law layout x (OfSeam p place l r) (SeamBody seam) lawful there is places at s k =
    seam-start layout law.mesh x p place l r seam.stretch lawful
    (record { there = there; shape = is; over = places }) s k
first-by law layout x (OfNode node) (NodeBody hub) lawful there is places at s k =
    hub-first law layout x hub lawful there (is ∙ ap OfNode (sym places))
    (hub-now law layout.window hub at) s k
first-by law layout x (OfSection p place n l r) (SeamBody seam) lawful there is places at s k =
    absurd places
first-by law layout x (OfSection p place n l r) (NodeBody hub) lawful there is places at s k =
    absurd places
first-by law layout x (OfSeam p place l r) (SectionBody section) lawful there is places at s k =
    absurd places
first-by law layout x (OfSeam p place l r) (NodeBody hub) lawful there is places at s k =
    absurd places
first-by law layout x (OfNode node) (SectionBody section) lawful there is places at s k =
    absurd places
first-by law layout x (OfNode node) (SeamBody seam) lawful there is places at s k =
    absurd places

-- ---- a fold that was told it

abbrev no_marks : Marks
no_marks s k = false

marked-none : (law : Meaning) (s k : ℕ) → nothing s k ≡ marked law no_marks s k
unfolding marked
marked-none law s k = refl

pub stands-first : (law : Meaning) (layout : Layout) (x : ℕ) (body : Body) (old new : Fold)
    → IsLawful layout law.mesh → x < length layout.shapes
    → IsBodyOf law.mesh layout.window (shape_at layout x) body
    → IsBodyAt law layout.window body 0
    → StandForEqual old → StandForEqual new → Stands old nothing
    → ((marks : Marks) → Stands old (marked law marks)
    → Stands new (marked law (or_marked marks (first_marks layout.window body))))
    → Stands new (marked law (owned law.mesh layout.window x 0))
stands-first law layout x body old new lawful there places at equal same fresh told =
    let w : ℕ = layout.window in
    same (marked law (or_marked no_marks (first_marks w body)))
    (marked law (owned law.mesh w x 0))
    (λ s k l i. same-marked law (or_marked no_marks (first_marks w body)) (owned law.mesh w x 0) s k
    (sym (first-by law layout x (shape_at layout x) body lawful there refl places at s k)))
    (told no_marks (equal nothing (marked law no_marks) (λ s k l i. marked-none law s k) fresh))

-- ---- one strand more

pub new-more : {S : Type 0} (strand_of entered_of : S → ℕ) (case : Case) (law : Meaning)
    (layout : Layout) (probes : List ℕ) (n : ℕ) (strands more : List (Strand S))
    (strand : Strand S)
    → AreNew strand_of entered_of case law layout probes n strands
    → IsNewStrand strand_of entered_of case law layout probes n strand
    → more ≡ strands ++ strand ∷ []
    → AreNew strand_of entered_of case law layout probes (n + 1) more
new-more {S} strand_of entered_of case law layout probes n strands more strand all new is =
    let P = λ (x : ℕ). IsNewStrand strand_of entered_of case law layout probes x in
    let each : length strands ≡ n = all.each in
    record {
      each = rw (is, length-append strands (strand ∷ [])) (omega arith);
      strand = λ x d h. elim (cases_lt x n) [
        | inl l ↦
            subst (P x)
            (sym (ap (λ (xs : List (Strand S)). get_or xs x d) is
            ∙ get_or_append_left strands (strand ∷ []) d x (omega arith)))
            (all.strand x d l)
        | inr l ↦
            let e : n ≡ x = omega arith in
            subst (P x)
            (sym (ap (λ (xs : List (Strand S)). get_or xs x d) is
            ∙ get_or_push strands strand d x (omega arith)))
            (subst (λ (y : ℕ). P y strand) e new)
      ];
    }

pub new-at : {S : Type 0} (strand_of entered_of : S → ℕ) (case : Case) (law : Meaning)
    (layout : Layout) (probes : List ℕ) (n : ℕ) (strands : List (Strand S))
    → AreNew strand_of entered_of case law layout probes n strands → n ≡ length layout.shapes
    → AreAt strand_of entered_of law layout none strands
new-at strand_of entered_of case law layout probes n strands all count = record {
  each = all.each ∙ count;
  strand = λ x d h. (all.strand x d (omega arith)).at;
}

pub new-fold : {S : Type 0} (strand_of entered_of : S → ℕ) (case : Case) (law : Meaning)
    (layout : Layout) (mesh : Mesh) (probes : List ℕ) (n x : ℕ) (strands : List (Strand S))
    (d : Strand S) → mesh ≡ law.mesh
    → AreNew strand_of entered_of case law layout probes n strands → x < length strands
    → IsStrandFold case mesh layout probes x (get_or strands x d).frontier.fold
new-fold strand_of entered_of case law layout mesh probes n x strands d same all h =
    let each : length strands ≡ n = all.each in
    subst (λ (m : Mesh). IsStrandFold case m layout probes x (get_or strands x d).frontier.fold)
    (sym same) (all.strand x d (omega arith)).fold
