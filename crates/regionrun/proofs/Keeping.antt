-- A strand keeps what it is right by: where a block is taken in, and where its next region is
-- computed.
use Rattle.std.proofs.Common.{◌≡◌, ℕ, zero, suc, ◌+◌, ◌*◌, ◌<◌, ◌≤◌, Bool, true, false, length}
use Rattle.std.proofs.Common.{List}
use Rattle.std.proofs.Common.{refl, ap, sym, subst, ◌∙◌, arith, Some, None}
use Rattle.std.specs.Prelude.{if◌then◌else◌}
use Rattle.case_model.specs.declared.points.Point.{Point}
use Rattle.case_model.specs.Meaning.{Meaning}
use Rattle.envelope.specs.Folds.{IsSameFold, Stands, spans_of, steps_of}
use Rattle.envelope.specs.Cells.{is_within}
use Rattle.envelope.specs.Notings.{Noted}
use Rattle.envelope.specs.Rows.{rows_noted}
use Rattle.envelope.specs.declared.folds.Fold.{Fold}
use Rattle.regions.specs.Needs.{needs_of}
use Rattle.regions.specs.Sides.{is_section, shape_at}
use Rattle.regions.specs.declared.shapes.Layout.{Layout}
use Rattle.regionrun.proofs.ByKind.{IsPlaced, body-fits, body-incoming, body-kind, body-later}
use Rattle.regionrun.proofs.ByKind.{body-noted, body-outgoing}
use Rattle.regionrun.proofs.ByKind.{body-open, body-owned, body-placed, body-shut, body-sides}
use Rattle.regionrun.proofs.ByKind.{same-body}
use Rattle.regionrun.proofs.ByKind.{same-kind}
use Rattle.regionrun.specs.Bodies.{FitsWindow, HasIncoming, HasOutgoing, IsComputed, IsFedBody}
use Rattle.regionrun.specs.Bodies.{IsNoting, IsOpen}
use Rattle.regionrun.specs.Bodies.{IsSameBody, body_marks, is_section_body, side_count}
use Rattle.regionrun.specs.Handed.{ArePointsFor}
use Rattle.regionrun.specs.Lawful.{IsLawful}
use Rattle.regionrun.specs.Owned.{owned}
use Rattle.regionrun.specs.Right.{IsReadySome, IsRight, IsRightAt, Keeps, IsGiven}
use Rattle.regionrun.specs.Right.{IsWanted}
use Rattle.regionrun.specs.Right.{has_loaded, region_count}
use Rattle.regionrun.specs.declared.bodies.Body.{Body}
use Rattle.regionrun.specs.declared.frontiers.Frontier.{Frontier}
use Rattle.schedule.specs.Nets.{regions_of}
use Rattle.strands.specs.Marks.{Marks, marked, or_marked}

-- the places of what a strand keeps
right-placed : (law : Meaning) (layout : Layout) (c : ℕ) (frontier : Frontier)
    → IsRightAt law layout c frontier
    → IsPlaced law.mesh layout.window (shape_at layout frontier.number) frontier.body
right-placed law layout c frontier right =
    body-placed law layout.window c (shape_at layout frontier.number) frontier.body
    right.keeps.places right.keeps.points

-- ---- sides

pub right-sides : (law : Meaning) (layout : Layout) (c : ℕ) (frontier : Frontier)
    → IsRightAt law layout c frontier → frontier.sides ≡ side_count frontier.body
right-sides law layout c frontier right =
    right.sides_are ∙ body-sides layout law.mesh frontier.number frontier.body right.there
    (right-placed law layout c frontier right)

pub right-fits : (law : Meaning) (layout : Layout) (c : ℕ) (frontier : Frontier)
    → IsLawful layout law.mesh
    → IsRightAt law layout c frontier → FitsWindow frontier.window frontier.body
right-fits law layout c frontier lawful right =
    subst (λ (w : ℕ). FitsWindow w frontier.body) (sym right.window_is)
    (body-fits layout law.mesh frontier.number frontier.body lawful right.there
    (right-placed law layout c frontier right))

pub given-side : (law : Meaning) (layout : Layout) (frontier : Frontier) (side : ℕ)
    (tells : ℕ → Point → Type 0) → IsGiven law layout frontier side tells → side < side_count frontier.body
given-side law layout frontier side tells given =
    subst (λ (n : ℕ). side < n)
    (body-sides layout law.mesh frontier.number frontier.body given.right.there
    (right-placed law layout frontier.computed frontier given.right)) given.side

pub right-side : (law : Meaning) (layout : Layout) (frontier : Frontier) (side : ℕ)
    (words : List ℕ) → IsWanted law layout frontier side words → side < frontier.sides
right-side law layout frontier side words wanted =
    subst (λ (n : ℕ). side < n) (sym wanted.right.sides_are) wanted.side

pub right-words : (law : Meaning) (layout : Layout) (frontier : Frontier) (side : ℕ)
    (words : List ℕ) → IsWanted law layout frontier side words
    → length words ≡ 4 * frontier.window
right-words law layout frontier side words wanted =
    wanted.handed.each ∙ ap (λ (w : ℕ). 4 * w) (sym wanted.right.window_is)

-- ---- a block is taken in

later-if-needed : (kind : Bool) (m b : ℕ) → needs_of kind m ≡ Some b → kind ≡ true → 1 ≤ m
later-if-needed false m b need e = cc
later-if-needed true zero b need e = cc
later-if-needed true (suc m) b need e = omega arith

pub taken : (law : Meaning) (layout : Layout) (old : Frontier) (new : Body) (side : ℕ)
    (tells : ℕ → Point → Type 0) → IsLawful layout law.mesh
    → IsGiven law layout old side tells → IsSameBody old.body new
    → (IsOpen law old.window old.computed old.body
    → HasIncoming law old.window old.computed side old.body tells
    → IsOpen law old.window old.computed new)
    → Keeps law layout old.computed (shape_at layout old.number) new
taken law layout old new side tells lawful given same opens =
    let right = given.right in
    let x = old.number in
    let m = old.computed in
    let places = right-placed law layout m old right in
    let need : needs_of (is_section_body old.body) m ≡ Some given.block =
    subst (λ (k : Bool). needs_of k m ≡ Some given.block)
    (body-kind layout law.mesh x old.body right.there places) given.needed in
    let some : is_section_body old.body ≡ true → 1 ≤ m =
    later-if-needed (is_section_body old.body) m given.block need in
    let open_old : IsOpen law old.window m old.body =
    subst (λ (w : ℕ). IsOpen law w m old.body) (sym right.window_is)
    (body-open law layout.window m old.body some right.keeps.points) in
    let has : HasIncoming law old.window m side old.body tells =
    subst (λ (w : ℕ). HasIncoming law w m side old.body tells) (sym right.window_is)
    (body-incoming law layout x m given.block side old.body tells lawful right.there places
    (given-side law layout old side tells given) need given.handed) in
    record {
      places = same-body law.mesh layout.window (shape_at layout x) old.body new same
          right.keeps.places;
      points = body-shut law layout.window m new (λ e. some (sym (same-kind old.body new same) ∙ e))
          (subst (λ (w : ℕ). IsOpen law w m new) right.window_is (opens open_old has));
    }

-- ---- a region is computed

some-needed : (kind : Bool) (m : ℕ) → (kind ≡ true → 1 ≤ m) → (b : ℕ) × (needs_of kind m ≡ Some b)
some-needed false m h = (m, refl)
some-needed true zero h = let l = h refl in absurd (omega arith)
some-needed true (suc m) h = (m, refl)

pub ready-fed : (law : Meaning) (frontier : Frontier) → IsReadySome law frontier
    → IsFedBody frontier.body frontier.computed
unfolding has_loaded
ready-fed law frontier ready = λ side some here.
    let right = ready.right in
    let layout = ready.layout in
    let kind = body-kind layout law.mesh frontier.number frontier.body right.there
    (right-placed law layout frontier.computed frontier right) in
    let need = some-needed (is_section layout frontier.number) frontier.computed
    (λ e. some (sym kind ∙ e)) in
    ready.fed need.0 side need.1
    (subst (λ (n : ℕ). side < n) (sym (right-sides law layout frontier.computed frontier right))
    here)

pub right-noted : (law : Meaning) (layout : Layout) (c : ℕ) (frontier : Frontier)
    → IsLawful layout law.mesh
    → IsRightAt law layout c frontier → IsNoting frontier.window frontier.fold frontier.body
right-noted law layout c frontier lawful right =
    subst (λ (w : ℕ). IsNoting w frontier.fold frontier.body) (sym right.window_is)
    (body-noted layout law.mesh frontier.number frontier.body frontier.fold lawful right.there
    (right-placed law layout c frontier right) right.spans)

-- how many regions there are, by the kind of the body
right-count : (law : Meaning) (layout : Layout) (c : ℕ) (frontier : Frontier)
    → IsRightAt law layout c frontier
    → region_count layout frontier.number
    ≡ regions_of (is_section_body frontier.body) frontier.windows
right-count law layout c frontier right =
    ap (λ (k : Bool). regions_of k layout.windows)
    (body-kind layout law.mesh frontier.number frontier.body right.there
    (right-placed law layout c frontier right))
    ∙ ap (regions_of (is_section_body frontier.body)) (sym right.windows_are)

pub ready-below : (law : Meaning) (frontier : Frontier) → IsReadySome law frontier
    → frontier.computed < regions_of (is_section_body frontier.body) frontier.windows
ready-below law frontier ready =
    subst (λ (n : ℕ). frontier.computed < n)
    (right-count law ready.layout frontier.computed frontier ready.right) ready.more

regions-few : (kind : Bool) (c windows : ℕ) → c < regions_of kind windows → c ≤ windows
regions-few true c windows h = omega arith
regions-few false c windows h = omega arith

pub ready-few : (law : Meaning) (frontier : Frontier) → IsReadySome law frontier
    → frontier.computed ≤ frontier.windows
ready-few law frontier ready =
    regions-few (is_section_body frontier.body) frontier.computed frontier.windows
    (ready-below law frontier ready)

pub same-marked : (law : Meaning) (one other : Marks) (s k : ℕ) → one s k ≡ other s k
    → marked law one s k ≡ marked law other s k
unfolding marked
same-marked law one other s k e = ap (λ (b : Bool). if b then rows_noted law s k else None) e

-- what a body is when its next region is computed
pub record IsNext (law : Meaning) (old : Frontier) (body : Body) (fold : Fold) : Type 0 where
  pub computed : IsComputed law old.window old.computed body
  pub same : IsSameBody old.body body
  pub same_fold : IsSameFold old.fold fold
  pub stands : (marks : Marks) → Stands old.fold (marked law marks)
      → Stands fold (marked law (or_marked marks (body_marks old.window old.body old.computed)))

-- the law of folds by which equal maps stand for the same
abbrev pub StandForEqual : Fold → Type 0
StandForEqual fold =
    (map more : Noted)
    → ((s k : ℕ) → s ≤ steps_of fold → is_within (spans_of fold) k ≡ true → map s k ≡ more s k)
    → Stands fold map → Stands fold more

pub next-keeps : (law : Meaning) (layout : Layout) (old : Frontier) (body : Body) (fold : Fold)
    → IsRight law layout old → IsNext law old body fold
    → Keeps law layout (old.computed + 1) (shape_at layout old.number) body
next-keeps law layout old body fold right next = record {
  places = same-body law.mesh layout.window (shape_at layout old.number) old.body body next.same
      right.keeps.places;
  points = body-later law layout.window old.computed body
      (subst (λ (w : ℕ). IsComputed law w old.computed body) right.window_is next.computed);
}

pub next-steps : (law : Meaning) (layout : Layout) (old : Frontier) (body : Body) (fold : Fold)
    → IsRight law layout old → IsNext law old body fold
    → steps_of fold ≤ layout.windows * layout.window
next-steps law layout old body fold right next =
    subst (λ (n : ℕ). n ≤ layout.windows * layout.window) (sym next.same_fold.steps_are)
    right.steps

pub next-stands : (law : Meaning) (layout : Layout) (old : Frontier) (body : Body) (fold : Fold)
    → IsLawful layout law.mesh → IsReadySome law old
    → StandForEqual fold → IsRight law layout old → IsNext law old body fold
    → Stands fold (marked law (owned law.mesh layout.window old.number (old.computed + 1)))
next-stands law layout old body fold lawful ready equal right next =
    let x = old.number in
    let m = old.computed in
    let w : ℕ = layout.window in
    let was = owned law.mesh w x m in
    let marks = body_marks w old.body m in
    let few : m < regions_of (is_section_body old.body) layout.windows =
    subst (λ (n : ℕ). m < regions_of (is_section_body old.body) n) right.windows_are
    (ready-below law old ready) in
    equal (marked law (or_marked was marks)) (marked law (owned law.mesh w x (m + 1)))
    (λ s k l i. same-marked law (or_marked was marks) (owned law.mesh w x (m + 1)) s k
    (sym (body-owned layout law.mesh x m old.body lawful right.there
    (right-placed law layout m old right) few s k
    (let end = next-steps law layout old body fold right next in omega arith))))
    (subst (λ (z : ℕ). Stands fold (marked law (or_marked was (body_marks z old.body m))))
    right.window_is (next.stands was right.stands))

pub next-regions : (law : Meaning) (layout : Layout) (old : Frontier) → IsReadySome law old
    → IsRight law layout old → old.computed + 1 ≤ region_count layout old.number
next-regions law layout old ready right =
    let below = ready-below law old ready in
    let count = right-count law layout old.computed old right in
    omega arith

-- ---- what is handed on

pub right-outgoing : (law : Meaning) (layout : Layout) (c m side : ℕ) (frontier : Frontier)
    (tells : ℕ → Point → Type 0) → IsLawful layout law.mesh
    → IsRightAt law layout c frontier → side < side_count frontier.body
    → HasOutgoing law frontier.window m side frontier.body tells
    → ArePointsFor law layout frontier.number side m tells
right-outgoing law layout c m side frontier tells lawful right here has =
    body-outgoing law layout frontier.number m side frontier.body tells lawful right.there
    (right-placed law layout c frontier right) here
    (subst (λ (w : ℕ). HasOutgoing law w m side frontier.body tells) right.window_is has)
