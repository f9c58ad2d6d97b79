use Rattle.std.proofs.Common.{ℕ, ◌-◌, subst, sym, arith}
use Rattle.envelope.specs.Notings.{union}
use Rattle.fronts.specs.Noted.{run_noted}
use Rattle.fronts.specs.Stretches.{count_of}
use Rattle.strands.proofs.Feeding.{split-start}
use Rattle.strands.proofs.Marking.{IsSplit, agree-marked, union-marked}
use Rattle.strands.specs.Marks.{marked, or_marked}
use Rattle.strands.specs.Tents.{starts_inside}
use Rattle.strands.proofs.tents.Section.note_start.Goals as goal

pub returns-clause-stands : goal.returns-clause-stands
returns-clause-stands c = λ law marks fresh st.
    let stretch = c.args.self.now.stretch in
    let run = run_noted stretch 0 1 (c.count.result - 1) in
    let more = starts_inside c.args.self.now in
    let split = subst (λ z. (s k : ℕ) → IsSplit law (run_noted stretch 0 1 (z - 1)) more s k)
    (sym c.count.ensures)
    (split-start law stretch 1 (count_of stretch - 1) c.numbers_tell_places.ensures.place fresh.line
    (omega (arith, c.requires.long))
    (λ x lo hi. fresh.holds.cell 0 x (omega arith) (omega arith) (omega arith) (omega arith))) in
    c.stands_for_equal_maps.ensures c.note.new.fold (union (marked law marks) run)
    (marked law (or_marked marks more))
    (λ s k l w. union-marked law run marks more s k (split s k))
    (c.note.ensures.stands (marked law marks) st (agree-marked law run marks more split))
