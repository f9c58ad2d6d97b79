-- The spans of strands rise, and lie within the place numbers.
use Rattle.std.proofs.Common.{◌≡◌, ℕ, zero, suc, ◌+◌, ◌*◌, ◌/◌, ◌<◌, ◌≤◌, inl, inr}
use Rattle.std.proofs.Common.{Bool, true, false, List, [], ◌∷◌, length, map, take, get_or, ap, sym}
use Rattle.std.proofs.Common.{subst, refl, ◌∙◌, arith}
use Rattle.std.specs.Prelude.{nat_le, nat_lt}
use Rattle.std.specs.List.{filter, sum_by}
use Rattle.std.proofs.lemmas.Bool.{and_parts, ltb-true}
use Rattle.std.proofs.lemmas.List.{get_or-map, length-map}
use Rattle.std.proofs.lemmas.List.Elements.{filter_passes}
use Rattle.std.proofs.lemmas.List.Sums.{count_by-le-length, length-filter, sum_by-take-le}
use Rattle.std.proofs.lemmas.List.Sums.{sum_by_more}
use Rattle.std.proofs.lemmas.Nat.{mul-le}
use Rattle.case_model.specs.declared.cases.Case.{Case}
use Rattle.case_model.specs.declared.cases.Probe.{Probe}
use Rattle.case_model.specs.declared.meshes.End.{End}
use Rattle.case_model.specs.declared.meshes.Mesh.{Mesh}
use Rattle.case_model.specs.declared.meshes.PipeMesh.{PipeMesh}
use Rattle.case_model.specs.Joints.{no_end}
use Rattle.case_model.specs.Mesh.{IsNumbered, base_of, ends_of, no_pipe, reaches}
use Rattle.case_model.specs.Kept.{IsKept}
use Rattle.case_model.specs.PlaceNumbers.{number_of}
use Rattle.case_model.specs.Refusals.{sample_count}
use Rattle.envelope.specs.Cells.{IsRising, end_of_span, has_place, is_within, no_span}
use Rattle.envelope.specs.Lines.{AreWithin}
use Rattle.envelope.specs.Folds.{IsSameFold, probes_of, spans_of}
use Rattle.envelope.specs.RowFolds.{probe_numbers}
use Rattle.envelope.specs.declared.folds.Fold.{Fold}
use Rattle.envelope.proofs.CellLaws.{within-first}
use Rattle.case_model.proofs.ListFacts.{any-index}
use Rattle.regions.specs.declared.shapes.Layout.{Layout}
use Rattle.regions.specs.declared.shapes.Shape.{Shape}
use Rattle.regions.specs.declared.shapes.Shape.TheVariants.{OfNode, OfSeam, OfSection}
use Rattle.regions.specs.Cuts.{IsLimited}
use Rattle.regions.specs.Sides.{IsBefore, end_at, shape_at}
use Rattle.regions.specs.Touching.{IsLongEnd, IsStanding}
use Rattle.regionrun.specs.Gathering.{IsPart}
use Rattle.regionrun.specs.Lawful.{IsLawful}
use Rattle.regionrun.specs.Right.{end_span, strand_spans}
use Rattle.regionrun.specs.Surveys.{HasSpans, IsSpanned, IsStrandFold, IsWholeFold}

-- ---- place numbers of pipes

abbrev places_in : PipeMesh → ℕ
places_in pipe = pipe.reaches + 1

first-of-first : (xs : List PipeMesh) (a b : ℕ) → a ≤ b → take a (take b xs) ≡ take a xs
first-of-first xs zero b h = refl
first-of-first xs (suc a) zero h = absurd (omega arith)
first-of-first [] (suc a) (suc b) h = refl
first-of-first (x ∷ xs) (suc a) (suc b) h =
    ap (λ (ys : List PipeMesh). x ∷ ys) (first-of-first xs a b (omega arith))

sum-rises : (xs : List PipeMesh) (a b : ℕ) → a ≤ b
    → sum_by places_in (take a xs) ≤ sum_by places_in (take b xs)
sum-rises xs a b h =
    subst (λ (ys : List PipeMesh). sum_by places_in ys ≤ sum_by places_in (take b xs))
    (first-of-first xs a b h) (sum_by-take-le places_in (take b xs) a)

pub base-apart : (mesh : Mesh) (p q : ℕ) → IsNumbered mesh → p < q → q < length mesh.pipes
    → base_of mesh p + reaches mesh p < base_of mesh q
base-apart mesh p q numbered l h =
    let a = numbered.bases p (omega arith) in
    let b = numbered.bases q h in
    let more = sum_by_more places_in mesh.pipes p no_pipe (omega arith) in
    let r = sum-rises mesh.pipes (p + 1) q (omega arith) in
    omega arith

pub base-low : (mesh : Mesh) (p : ℕ) → IsNumbered mesh → IsLimited mesh → p < length mesh.pipes
    → base_of mesh p + reaches mesh p < 400_000
base-low mesh p numbered limited h =
    let a = numbered.bases p h in
    let more = sum_by_more places_in mesh.pipes p no_pipe h in
    let r = sum-rises mesh.pipes (p + 1) (length mesh.pipes) (omega arith) in
    let b = limited.places in
    omega arith

pub base-nodes : (mesh : Mesh) (p : ℕ) → IsNumbered mesh → p < length mesh.pipes
    → length mesh.ends ≤ base_of mesh p
base-nodes mesh p numbered h = let a = numbered.bases p h in omega arith

-- ---- where strands stand

has-by : (mesh : Mesh) (w x : ℕ) (shape : Shape) → IsNumbered mesh → IsLimited mesh
    → ((k j : ℕ) → k < length mesh.ends → j < length (ends_of mesh k)
    → IsLongEnd mesh w (end_at mesh k j).pipe)
    → IsStanding mesh w x shape → HasSpans mesh w shape
has-by mesh w x (OfNode node) numbered limited long stands = (
  stands.1,
  λ j h. let l = long node j stands.1 h in record {
    there = l.there;
    long = l.long;
    low = base-low mesh (end_at mesh node j).pipe numbered limited l.there;
  },
)
has-by mesh w x (OfSeam pipe place left right) numbered limited long stands =
    let a = stands.1 in
    let b = stands.2 in (
      record {
        there = stands.0;
        long = omega arith;
        low = base-low mesh pipe numbered limited stands.0;
      },
      a,
      b,
    )
has-by mesh w x (OfSection pipe place count left right) numbered limited long stands =
    let a = stands.2 in
    let b = stands.3 in (
      record {
        there = stands.0;
        long = omega arith;
        low = base-low mesh pipe numbered limited stands.0;
      },
      stands.1,
      b,
    )

pub has-spans : (layout : Layout) (mesh : Mesh) (x : ℕ) → IsLawful layout mesh
    → x < length layout.shapes → HasSpans mesh layout.window (shape_at layout x)
has-spans layout mesh x lawful h =
    has-by mesh layout.window x (shape_at layout x) lawful.numbered lawful.limited
    lawful.touching.ends (lawful.touching.stands x h)

-- ---- one span

one-below : (first count most i : ℕ) → first + count ≤ most → i < 1
    → end_of_span ((first, count) ∷ []) i ≤ most
one-below first count most zero h l = h
one-below first count most (suc i) h l = absurd (omega arith)

rising-one : (first count : ℕ) → first + count ≤ 400_000 → IsRising ((first, count) ∷ [])
rising-one first count h = record {
  apart = λ i j l b. absurd (omega arith);
  low = λ i l. one-below first count 400_000 i h l;
}

-- ---- the spans of a node

span-low : (mesh : Mesh) (w p : ℕ) (last : Bool) → IsSpanned mesh w p
    → base_of mesh p ≤ (end_span mesh w (record { pipe = p; at_last = last })).0
span-low mesh w p true s = let l = s.long in omega arith
span-low mesh w p false s = omega arith

span-high : (mesh : Mesh) (w p : ℕ) (last : Bool) → IsSpanned mesh w p
    → (end_span mesh w (record { pipe = p; at_last = last })).0
    + (end_span mesh w (record { pipe = p; at_last = last })).1
    ≤ base_of mesh p + reaches mesh p + 1
span-high mesh w p true s = let l = s.long in omega arith
span-high mesh w p false s = let l = s.long in omega arith

abbrev IsApart : ℕ × ℕ → ℕ × ℕ → Type 0
IsApart one other = one.0 + one.1 ≤ other.0

spans-apart : (mesh : Mesh) (w : ℕ) (a b : End) → IsNumbered mesh → 1 ≤ w
    → IsSpanned mesh w a.pipe → IsSpanned mesh w b.pipe → IsBefore a b
    → IsApart (end_span mesh w a) (end_span mesh w b)
spans-apart mesh w a b numbered some s t h = elim h [
  | inl l ↦
      let low = span-low mesh w b.pipe b.at_last t in
      let high = span-high mesh w a.pipe a.at_last s in
      let apart = base-apart mesh a.pipe b.pipe numbered l t.there in
      omega arith
  | inr l ↦
      let base : base_of mesh a.pipe ≡ base_of mesh b.pipe = ap (base_of mesh) l.0 in
      let same : reaches mesh a.pipe ≡ reaches mesh b.pipe = ap (reaches mesh) l.0 in
      let long = s.long in
      rw (l.1, l.2) (omega arith)
]

abbrev node_spans : Mesh → ℕ → ℕ → List (ℕ × ℕ)
node_spans mesh w node = (node, 1) ∷ map (end_span mesh w) (ends_of mesh node)

span-is : (mesh : Mesh) (w node j : ℕ) → j < length (ends_of mesh node)
    → get_or (map (end_span mesh w) (ends_of mesh node)) j no_span
    ≡ end_span mesh w (end_at mesh node j)
span-is mesh w node j h = get_or-map (end_span mesh w) (ends_of mesh node) j no_end no_span h

node-apart : (mesh : Mesh) (w node i j : ℕ) → IsNumbered mesh → 1 ≤ w
    → HasSpans mesh w (OfNode node)
    → ((i j : ℕ) → i < j → j < length (ends_of mesh node)
    → IsBefore (end_at mesh node i) (end_at mesh node j))
    → i < j → j < length (ends_of mesh node) + 1
    → IsApart (get_or (node_spans mesh w node) i no_span)
    (get_or (node_spans mesh w node) j no_span)
node-apart mesh w node i zero numbered some has before l h = absurd (omega arith)
node-apart mesh w node zero (suc j) numbered some has before l h =
    let b : j < length (ends_of mesh node) = omega arith in
    let e = end_at mesh node j in
    let s = has.1 j b in
    let low = span-low mesh w e.pipe e.at_last s in
    let nodes = base-nodes mesh e.pipe numbered s.there in
    let there = has.0 in
    subst (IsApart (node, 1)) (sym (span-is mesh w node j b)) (omega arith)
node-apart mesh w node (suc i) (suc j) numbered some has before l h =
    let b : j < length (ends_of mesh node) = omega arith in
    let a : i < length (ends_of mesh node) = omega arith in
    subst (λ (x : ℕ × ℕ). IsApart x (get_or (node_spans mesh w node) (suc j) no_span))
    (sym (span-is mesh w node i a))
    (subst (IsApart (end_span mesh w (end_at mesh node i))) (sym (span-is mesh w node j b))
    (spans-apart mesh w (end_at mesh node i) (end_at mesh node j) numbered some (has.1 i a)
    (has.1 j b) (before i j (omega arith) b)))

abbrev IsBelow : ℕ → ℕ × ℕ → Type 0
IsBelow most span = span.0 + span.1 ≤ most

-- the place numbers of the pipes at a node are below this
abbrev AreBelow : Mesh → ℕ → ℕ → Type 0
AreBelow mesh node most = (j : ℕ) → j < length (ends_of mesh node)
    → base_of mesh (end_at mesh node j).pipe + reaches mesh (end_at mesh node j).pipe < most

node-below : (mesh : Mesh) (w node most i : ℕ) → length mesh.ends ≤ most
    → HasSpans mesh w (OfNode node) → AreBelow mesh node most
    → i < length (ends_of mesh node) + 1 → IsBelow most (get_or (node_spans mesh w node) i no_span)
node-below mesh w node most zero few has below h = let there = has.0 in omega arith
node-below mesh w node most (suc i) few has below h =
    let b : i < length (ends_of mesh node) = omega arith in
    let e = end_at mesh node i in
    let high = span-high mesh w e.pipe e.at_last (has.1 i b) in
    let low = below i b in
    subst (IsBelow most) (sym (span-is mesh w node i b)) (omega arith)

spans-length : (mesh : Mesh) (w node : ℕ)
    → length (node_spans mesh w node) ≡ length (ends_of mesh node) + 1
spans-length mesh w node = omega (arith, length-map (ends_of mesh node) (end_span mesh w))

rising-node : (mesh : Mesh) (w node : ℕ) → IsNumbered mesh → IsLimited mesh → 1 ≤ w
    → HasSpans mesh w (OfNode node)
    → ((i j : ℕ) → i < j → j < length (ends_of mesh node)
    → IsBefore (end_at mesh node i) (end_at mesh node j))
    → IsRising (node_spans mesh w node)
rising-node mesh w node numbered limited some has before =
    let e = spans-length mesh w node in
    let n = limited.nodes in
    let nodes : length mesh.ends ≤ 400_000 = omega arith in
    record {
      apart = λ i j l b. node-apart mesh w node i j numbered some has before l (omega arith);
      low = λ i l. node-below mesh w node 400_000 i nodes has (λ j h. (has.1 j h).low)
          (omega arith);
    }

-- ---- the spans of a strand

rising-by : (layout : Layout) (mesh : Mesh) (shape : Shape) → IsLawful layout mesh
    → HasSpans mesh layout.window shape → IsRising (strand_spans mesh layout.window shape)
unfolding strand_spans
rising-by layout mesh (OfNode node) lawful has =
    rising-node mesh layout.window node lawful.numbered lawful.limited lawful.whole.some has
    (λ i j l h. lawful.rising.each node i j has.0 l h)
rising-by layout mesh (OfSeam pipe place left right) lawful has =
    let low = has.0.low in
    let a = has.1 in
    let b = has.2 in
    rising-one _ _ (omega arith)
rising-by layout mesh (OfSection pipe place count left right) lawful has =
    let low = has.0.low in
    let a = has.1 in
    let b = has.2 in
    rising-one _ _ (omega arith)

pub spans-rising : (layout : Layout) (mesh : Mesh) (x : ℕ) → IsLawful layout mesh
    → x < length layout.shapes
    → IsRising (strand_spans mesh layout.window (shape_at layout x))
spans-rising layout mesh x lawful h =
    rising-by layout mesh (shape_at layout x) lawful (has-spans layout mesh x lawful h)

-- ---- all spans lie within the place numbers

base-inside : (mesh : Mesh) (p : ℕ) → IsNumbered mesh → p < length mesh.pipes
    → base_of mesh p + reaches mesh p < mesh.places
base-inside mesh p numbered h =
    let a = numbered.bases p h in
    let b = numbered.all in
    let more = sum_by_more places_in mesh.pipes p no_pipe h in
    let r = sum-rises mesh.pipes (p + 1) (length mesh.pipes) (omega arith) in
    omega arith

below-by : (mesh : Mesh) (w : ℕ) (shape : Shape) (i : ℕ) → IsNumbered mesh → 1 ≤ w
    → HasSpans mesh w shape → i < length (strand_spans mesh w shape)
    → end_of_span (strand_spans mesh w shape) i ≤ mesh.places
unfolding strand_spans
below-by mesh w (OfNode node) i numbered some has h =
    let e = spans-length mesh w node in
    let n = numbered.all in
    node-below mesh w node mesh.places i (omega arith) has
    (λ j l. base-inside mesh (end_at mesh node j).pipe numbered (has.1 j l).there) (omega arith)
below-by mesh w (OfSeam pipe place left right) i numbered some has h =
    let b = base-inside mesh pipe numbered has.0.there in
    let a = has.1 in
    let c = has.2 in
    one-below _ _ mesh.places i (omega arith) h
below-by mesh w (OfSection pipe place count left right) i numbered some has h =
    let b = base-inside mesh pipe numbered has.0.there in
    let a = has.1 in
    let c = has.2 in
    one-below _ _ mesh.places i (omega arith) h

within-below : (spans : List (ℕ × ℕ)) (most k : ℕ)
    → ((i : ℕ) → i < length spans → end_of_span spans i ≤ most) → is_within spans k ≡ true
    → k < most
unfolding is_within
within-below spans most k below h =
    let at = any-index (has_place k) spans no_span h in
    let span = get_or spans at.0 no_span in
    let low = below at.0 at.1 in
    let high = ltb-true k (span.0 + span.1)
    (and_parts (nat_le span.0 k) (nat_lt k (span.0 + span.1)) at.2).1 in
    omega arith

spans-inside : (layout : Layout) (mesh : Mesh) (x k : ℕ) → IsLawful layout mesh
    → x < length layout.shapes
    → is_within (strand_spans mesh layout.window (shape_at layout x)) k ≡ true → k < mesh.places
spans-inside layout mesh x k lawful h =
    within-below (strand_spans mesh layout.window (shape_at layout x)) mesh.places k
    (λ i l. below-by mesh layout.window (shape_at layout x) i lawful.numbered lawful.whole.some
    (has-spans layout mesh x lawful h) l)

pub strand-part : (case : Case) (mesh : Mesh) (layout : Layout) (probes : List ℕ) (x : ℕ)
    (whole part : Fold) → IsLawful layout mesh → x < length layout.shapes
    → IsWholeFold case mesh probes whole → IsStrandFold case mesh layout probes x part
    → IsPart whole part
strand-part case mesh layout probes x whole part lawful h all own =
    let spans = strand_spans mesh layout.window (shape_at layout x) in
    record {
      inside = λ k w. within-first (spans_of whole) mesh.places k all.spans_are
          (spans-inside layout mesh x k lawful h
          (subst (λ (s : List (ℕ × ℕ)). is_within s k ≡ true) own.spans_are w));
      probes_are = own.probes_are
          ∙ ap (λ (s : List (ℕ × ℕ)). filter (is_within s) probes) (sym own.spans_are)
          ∙ ap (filter (is_within (spans_of part))) (sym all.probes_are);
      steps_are = own.steps_are ∙ sym all.steps_are;
      every_is = own.every_is ∙ sym all.every_is;
    }

pub part-later : (whole one other : Fold) → IsPart whole one → IsSameFold one other
    → IsPart whole other
part-later whole one other p same = record {
  inside = λ k w. p.inside k
      (subst (λ (s : List (ℕ × ℕ)). is_within s k ≡ true) same.spans_are w);
  probes_are = same.probes_are ∙ p.probes_are
      ∙ ap (λ (s : List (ℕ × ℕ)). filter (is_within s) (probes_of whole)) (sym same.spans_are);
  steps_are = same.steps_are ∙ p.steps_are;
  every_is = same.every_is ∙ p.every_is;
}

-- ---- the probes of a strand

pub probes-within : (spans : List (ℕ × ℕ)) (probes : List ℕ)
    → AreWithin spans (filter (is_within spans) probes)
probes-within spans probes = λ p h. filter_passes (is_within spans) probes p 0 h

few-filtered : (spans : List (ℕ × ℕ)) (probes : List ℕ)
    → length (filter (is_within spans) probes) ≤ length probes
few-filtered spans probes =
    omega (
      arith,
      length-filter (is_within spans) probes,
      count_by-le-length (is_within spans) probes,
    )

pub few-within : (spans : List (ℕ × ℕ)) (probes : List ℕ) (m : ℕ) → length probes * m ≤ 4_000_000
    → length (filter (is_within spans) probes) * m ≤ 4_000_000
few-within spans probes m h =
    let f = few-filtered spans probes in
    let l = mul-le (length (filter (is_within spans) probes)) m (length probes) m f (omega arith) in
    omega arith

pub few-samples : (case : Case) (mesh : Mesh) (probes : List ℕ) → IsKept case
    → probes ≡ probe_numbers mesh case
    → length probes * (case.steps / case.every + 1) ≤ 4_000_000
unfolding sample_count
few-samples case mesh probes kept e =
    let l : length probes ≡ length case.probes =
    ap length e ∙ length-map case.probes (λ (probe : Probe). number_of mesh probe.at) in
    rw l kept.samples
