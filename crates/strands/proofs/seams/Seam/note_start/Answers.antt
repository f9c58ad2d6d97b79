use Rattle.std.proofs.Common.{◌≡◌, ℕ, ◌+◌, ◌/◌, subst, arith}
use Rattle.envelope.specs.Folds.{Stands}
use Rattle.envelope.specs.Notings.{union}
use Rattle.fronts.specs.Noted.{run_noted}
use Rattle.fronts.specs.Stretches.{count_of}
use Rattle.strands.proofs.Marking.{agree-marked, numbered-line, split-only, union-marked}
use Rattle.strands.proofs.Starting.{own-kept}
use Rattle.strands.specs.Marks.{is_only, marked, or_marked}
use Rattle.strands.specs.Stations.{half}
use Rattle.strands.proofs.seams.Seam.note_start.Goals as goal

pub returns-clause-stands : goal.returns-clause-stands
returns-clause-stands c = λ law w marks is st.
    let seam = c.args.self.now in
    let stretch = seam.stretch in
    let at = c.count-at.result / 2 in
    let run = run_noted stretch 0 at (at + 1) in
    let start = is_only 0 (stretch.number + at) in
    let own : at ≡ half w = omega (arith, c.count-at.ensures, is.size) in
    let split =
    λ (s k : ℕ). split-only law stretch 0 at s k c.numbers_tell_places.ensures.place
    (numbered-line law stretch is.line) (omega (arith, is.size))
    (own-kept law w stretch seam.left seam.right at is.size own is.holds) in
    let e : c.count-at.result ≡ count_of stretch = c.count-at.ensures in
    subst (λ z. Stands c.note.new.fold
    (marked law (or_marked marks (is_only 0 (stretch.number + z / 2))))) e
    (c.stands_for_equal_maps.ensures c.note.new.fold (union (marked law marks) run)
    (marked law (or_marked marks start))
    (λ s k l i. union-marked law run marks start s k (split s k))
    (c.note.ensures.stands (marked law marks) st (agree-marked law run marks start split)))
