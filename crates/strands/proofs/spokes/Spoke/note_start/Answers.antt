use Rattle.std.proofs.Common.{◌≡◌, ℕ, ◌+◌, ◌-◌, ◌<◌, ◌∙◌, ap, subst, arith}
use Rattle.envelope.specs.Notings.{union}
use Rattle.envelope.specs.Folds.{Stands}
use Rattle.fronts.specs.Noted.{run_noted}
use Rattle.fronts.specs.Stretches.{count_of}
use Rattle.strands.proofs.Marking.{IsSplit, agree-marked, split-only, union-marked}
use Rattle.strands.proofs.Spoking.{end-kept, end-inside}
use Rattle.strands.specs.Marks.{is_only, marked, or_marked}
use Rattle.strands.specs.Spokes.{end_place}
use Rattle.strands.specs.Stations.{half}
use Rattle.strands.proofs.spokes.Spoke.note_start.Goals as goal

pub returns-clause-stands : goal.returns-clause-stands
returns-clause-stands c = λ law w marks h st.
    let spoke = c.args.self.now in
    let stretch = spoke.stretch in
    let at = c.end-at.result in
    let size : count_of stretch ≡ half w + 1 = h.on_pipe.size in
    let n : count_of stretch - 1 ≡ half w = omega arith in
    let e : at ≡ end_place spoke.last (half w) = c.end-at.ensures ∙ ap (end_place spoke.last) n in
    let b : end_place spoke.last (half w) < half w + 1 = end-inside spoke.last (half w) in
    let run = run_noted stretch 0 at (at + 1) in
    let more = is_only 0 (stretch.number + at) in
    let split : (s k : ℕ) → IsSplit law run more s k = λ s k. split-only law stretch 0 at s k
    c.numbers_tell_places.ensures.place h.on_pipe.line (omega arith)
    (end-kept law w 0 at spoke h e) in
    subst (λ z. Stands c.note.new.fold
    (marked law (or_marked marks (is_only 0 (stretch.number + z))))) e
    (c.stands_for_equal_maps.ensures c.note.new.fold (union (marked law marks) run)
    (marked law (or_marked marks more))
    (λ s k l i. union-marked law run marks more s k (split s k))
    (c.note.ensures.stands (marked law marks) st (agree-marked law run marks more split)))
