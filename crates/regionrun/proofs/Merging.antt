-- The folds of strands that are done, gathered one after another.
use Rattle.std.proofs.Common.{◌≡◌, ℕ, ◌+◌, ◌*◌, ◌<◌, ◌≤◌}
use Rattle.std.proofs.Common.{Bool, true, false, List, [], ◌∷◌, length, ap, sym}
use Rattle.std.proofs.Common.{get_or, Some, None, cond, subst, refl, ◌∙◌, arith}
use Rattle.std.specs.Prelude.{◌&&◌, ◌||◌}
use Rattle.std.specs.List.{filter}
use Rattle.std.proofs.lemmas.Bool.{lt-ltb}
use Rattle.case_model.specs.declared.meshes.Mesh.{Mesh}
use Rattle.case_model.specs.Meaning.{Meaning}
use Rattle.envelope.specs.Cells.{is_within}
use Rattle.case_model.specs.PlaceNumbers.{place_at}
use Rattle.case_model.specs.Rows.{row}
use Rattle.envelope.specs.Folds.{IsFoldOf, IsSameFold, Stands, spans_of, steps_of}
use Rattle.envelope.specs.Notings.{Agree, IsInside, Noted, Noting, nothing, union}
use Rattle.envelope.specs.Rows.{noting_at, rows_noted}
use Rattle.envelope.specs.declared.folds.Fold.{Fold}
use Rattle.envelope.proofs.CellLaws.{below-first}
use Rattle.regions.specs.declared.shapes.Layout.{Layout}
use Rattle.regions.specs.declared.shapes.Shape.{Shape}
use Rattle.regions.specs.declared.shapes.Shape.TheVariants.{OfNode, OfSeam, OfSection}
use Rattle.regions.specs.Sides.{shape_at}
use Rattle.strands.specs.Marks.{Marks, marked, or_marked}
use Rattle.regionrun.specs.declared.frontiers.Frontier.{Frontier}
use Rattle.regionrun.specs.declared.one_strand.Strand.{Strand}
use Rattle.regionrun.specs.Gathering.{AreDone, AreParts, IsDone, IsPart}
use Rattle.regionrun.specs.Engine.{AreAt, AreSameFolds}
use Rattle.regions.specs.LaidOut.{IsLaidOut}
use Rattle.regionrun.proofs.Spans.{part-later}
use Rattle.regionrun.specs.Lawful.{IsLawful}
use Rattle.regionrun.specs.Owned.{IsReached, owned, owned_below}
use Rattle.regionrun.specs.Right.{IsRight, IsRightAt, region_count, strand_spans}
use Rattle.regionrun.proofs.Gathered.{owned_below-all, owned_below-more, owned_below-none}
use Rattle.regionrun.proofs.Keeping.{same-marked}
use Rattle.regionrun.proofs.Reached.{owned-reached}
use Rattle.regionrun.proofs.Spanned.{node-within, seam-within, section-within}
use Rattle.fronts.proofs.Lining.{value-of}
use Rattle.std.specs.Option.{option_or}

-- a fold of the same shape has what was given to the other
pub given-still : (spans : List (ℕ × ℕ)) (probes : List ℕ) (steps every : ℕ) (old new : Fold)
    → IsFoldOf spans probes steps every old → IsSameFold old new
    → IsFoldOf spans probes steps every new
given-still spans probes steps every old new was same = record {
  spans_are = same.spans_are ∙ was.spans_are;
  probes_are = same.probes_are ∙ was.probes_are;
  steps_are = same.steps_are ∙ was.steps_are;
  every_is = same.every_is ∙ was.every_is;
}

-- ---- where a strand's places lie, its fold has spans

reached-within : (mesh : Mesh) (w : ℕ) (shape : Shape) (k : ℕ) → IsReached mesh w shape k
    → is_within (strand_spans mesh w shape) k ≡ true
unfolding strand_spans
reached-within mesh w (OfNode node) k r = node-within mesh w node k r
reached-within mesh w (OfSeam pipe place left right) k r =
    seam-within mesh w pipe place left right k r
reached-within mesh w (OfSection pipe place count left right) k r =
    section-within mesh w pipe place count left right k r

-- ---- marks within spans

abbrev pub within_marks : List (ℕ × ℕ) → Marks → Marks
within_marks spans marks s k = is_within spans k && marks s k

either-has : (a b : Bool) (z : Noting) → option_or (cond a (Some z) None) (cond b (Some z) None)
    ≡ cond (a || b) (Some z) None
either-has true b z = refl
either-has false true z = refl
either-has false false z = refl

union-marked : (law : Meaning) (one other : Marks) (s k : ℕ)
    → union (marked law one) (marked law other) s k ≡ marked law (or_marked one other) s k
unfolding marked
union-marked law one other s k =
    either-has (one s k) (other s k) (noting_at (row law s) (place_at law.mesh k))

agree-marked : (law : Meaning) (one other : Marks) → Agree (marked law one) (marked law other)
unfolding marked
agree-marked law one other s k x y a b =
    let z = noting_at (row law s) (place_at law.mesh k) in
    value-of (one s k) z x a ∙ sym (value-of (other s k) z y b)

inside-within : (law : Meaning) (spans : List (ℕ × ℕ)) (marks : Marks)
    → IsInside spans (marked law (within_marks spans marks))
unfolding marked
inside-within law spans marks s k e = rw e refl

-- what is marked lies within the spans
within-all : (spans : List (ℕ × ℕ)) (marks : Marks) (s k : ℕ)
    → (marks s k ≡ true → is_within spans k ≡ true) → within_marks spans marks s k ≡ marks s k
within-all spans marks s k h = by (is_within spans k) (marks s k) h
  where
    by : (a b : Bool) → (b ≡ true → a ≡ true) → (a && b) ≡ b
    by true b f = refl
    by false true f = f refl
    by false false f = refl

-- ---- one more strand

-- the laws of maps and of layouts
abbrev pub MapsLaw : Type 0
MapsLaw = (fold : Fold) (map more : Noted)
    → ((s k : ℕ) → s ≤ steps_of fold → is_within (spans_of fold) k ≡ true → map s k ≡ more s k)
    → Stands fold map → Stands fold more

-- what merging says of two maps
abbrev pub MergeLaw : Fold → Fold → Fold → Type 0
MergeLaw old other new = (map more : Noted) → Stands old map → Stands other more → Agree map more
    → IsInside (spans_of other) more → Stands new (union map more)

owned-within : (law : Meaning) (layout : Layout) (c : ℕ) (frontier : Frontier) (s k : ℕ)
    → IsLawful layout law.mesh → IsRightAt law layout c frontier
    → s ≤ layout.windows * layout.window
    → owned law.mesh layout.window frontier.number c s k ≡ true
    → is_within (spans_of frontier.fold) k ≡ true
owned-within law layout c frontier s k lawful right end o =
    subst (λ (spans : List (ℕ × ℕ)). is_within spans k ≡ true) (sym right.spans)
    (reached-within law.mesh layout.window (shape_at layout frontier.number) k
    (owned-reached layout law.mesh frontier.number c s k lawful right.there end o))

more-marks : (law : Meaning) (layout : Layout) (c : ℕ) (frontier : Frontier) (s k : ℕ)
    → IsLawful layout law.mesh → IsRightAt law layout c frontier
    → region_count layout frontier.number ≤ c → s ≤ layout.windows * layout.window
    → or_marked (owned_below law.mesh layout.window frontier.number)
    (within_marks (spans_of frontier.fold) (owned law.mesh layout.window frontier.number c)) s k
    ≡ owned_below law.mesh layout.window (frontier.number + 1) s k
more-marks law layout c frontier s k lawful right most end =
    let x : ℕ = frontier.number in
    let same = within-all (spans_of frontier.fold) (owned law.mesh layout.window x c) s k
    (owned-within law layout c frontier s k lawful right end) in
    let more = owned_below-more layout law.mesh x c lawful most s k end in
    rw same (sym more)

pub one-gathered : (law : Meaning) (layout : Layout) (frontier : Frontier) (old new : Fold)
    → MapsLaw → IsLawful layout law.mesh → MergeLaw old frontier.fold new
    → IsPart old frontier.fold → IsSameFold old new → IsRight law layout frontier
    → frontier.computed ≡ region_count layout frontier.number
    → steps_of old ≤ layout.windows * layout.window
    → Stands old (marked law (owned_below law.mesh layout.window frontier.number))
    → Stands new (marked law (owned_below law.mesh layout.window (frontier.number + 1)))
one-gathered law layout frontier old new maps lawful merge part same right all few stands =
    let x : ℕ = frontier.number in
    let below = owned_below law.mesh layout.window x in
    let own = owned law.mesh layout.window x frontier.computed in
    let spans = spans_of frontier.fold in
    let more : Marks = within_marks spans own in
    let steps = same.steps_are in
    maps new (union (marked law below) (marked law more))
    (marked law (owned_below law.mesh layout.window (x + 1)))
    (λ s k l w. union-marked law below more s k
    ∙ same-marked law (or_marked below more) (owned_below law.mesh layout.window (x + 1)) s k
    (more-marks law layout frontier.computed frontier s k lawful right (omega arith) (omega arith)))
    (merge (marked law below) (marked law more) stands
    (maps frontier.fold (marked law own) (marked law more)
    (λ s k l w. same-marked law own more s k (rw w refl)) right.stands)
    (agree-marked law below more)
    (inside-within law spans own))

-- ---- none, and all

pub none-gathered : (law : Meaning) (layout : Layout) (fold : Fold) → MapsLaw → Stands fold nothing
    → Stands fold (marked law (owned_below law.mesh layout.window 0))
unfolding marked
none-gathered law layout fold maps stands =
    maps fold nothing (marked law (owned_below law.mesh layout.window 0))
    (λ s k l w. rw (owned_below-none law.mesh layout.window s k) refl) stands

pub all-gathered : (law : Meaning) (layout : Layout) (fold : Fold) → MapsLaw
    → IsLawful layout law.mesh → steps_of fold ≤ layout.windows * layout.window
    → spans_of fold ≡ (0, law.mesh.places) ∷ []
    → Stands fold (marked law (owned_below law.mesh layout.window (length layout.shapes)))
    → Stands fold (rows_noted law)
unfolding marked
all-gathered law layout fold maps lawful few spans stands =
    maps fold (marked law (owned_below law.mesh layout.window (length layout.shapes)))
    (rows_noted law)
    (λ s k l w. rw (
      owned_below-all layout law.mesh lawful s k (omega arith),
      lt-ltb k law.mesh.places (below-first (spans_of fold) law.mesh.places k spans w),
    ) refl) stands

-- ---- by strands

pub one-done : {S : Type 0} (law : Meaning) (layout : Layout) (x : ℕ) (strand : Strand S)
    (old new : Fold) → MapsLaw → IsLawful layout law.mesh
    → MergeLaw old strand.frontier.fold new → IsPart old strand.frontier.fold → IsSameFold old new
    → IsDone law layout x strand → steps_of old ≤ layout.windows * layout.window
    → Stands old (marked law (owned_below law.mesh layout.window x))
    → Stands new (marked law (owned_below law.mesh layout.window (x + 1)))
one-done law layout x strand old new maps lawful merge part same done few stands =
    let e = done.number_is in
    let all : strand.frontier.computed ≡ region_count layout strand.frontier.number =
    done.computed_is ∙ ap (region_count layout) (sym e) in
    subst (λ (n : ℕ). Stands new (marked law (owned_below law.mesh layout.window (n + 1)))) e
    (one-gathered law layout strand.frontier old new maps lawful merge part same done.right all few
    (subst (λ (n : ℕ). Stands old (marked law (owned_below law.mesh layout.window n))) (sym e)
    stands))

-- ---- folds of the same spans, probes and steps

pub same-part : (a b part : Fold) → IsSameFold a b → IsPart a part → IsPart b part
same-part a b part same p = record {
  inside = λ k h. subst (λ (spans : List (ℕ × ℕ)). is_within spans k ≡ true)
      (sym same.spans_are) (p.inside k h);
  probes_are = p.probes_are ∙ ap (filter (is_within (spans_of part))) (sym same.probes_are);
  steps_are = p.steps_are ∙ sym same.steps_are;
  every_is = p.every_is ∙ sym same.every_is;
}

-- ---- what a run leaves

pub parts-later : {S : Type 0} (whole : Fold) (old new : List (Strand S)) → AreParts whole old
    → AreSameFolds old new → AreParts whole new
parts-later whole old new parts same x d h =
    let l : x < length old = omega (arith, same.each) in
    part-later whole (get_or old x d).frontier.fold (get_or new x d).frontier.fold (parts x d l)
    (same.fold x d l)

pub done-of : {S : Type 0} (strand_of entered_of : S → ℕ) (law : Meaning) (layout : Layout)
    (strands : List (Strand S)) → IsLaidOut layout law.mesh
    → AreAt strand_of entered_of law layout (region_count layout) strands
    → AreDone law layout strands
done-of strand_of entered_of law layout strands laid_out at = record {
  laid_out = laid_out;
  each = at.each;
  strand = λ x d h. let s = at.strand x d h in record {
    number_is = s.number_is;
    computed_is = s.computed_is;
    right = s.right;
  };
}
