use Rattle.std.proofs.Common.{length, arith}
use Rattle.envelope.specs.Folds.{spans_of}
use Rattle.envelope.proofs.Lined.{first-within, still-within, still-cell, still-inside, same-then, line-agrees, held-on, held-whole}
use Rattle.envelope.proofs.folds.Fold.note_within.Goals as goal

pub cell-cell-requires : goal.cell-cell-requires
cell-cell-requires c = first-within (spans_of c.args.self.now) c.args.first (length c.args.points.now) c.requires.span c.requires.some

pub note_in-requires-clause-place : goal.note_in-requires-clause-place
note_in-requires-clause-place c = still-within c.args.self.now c.loop-i.self c.args.first (length c.args.points.now) c.loop-i.i c.loop-i.invariant.cells c.requires.span c.loop-i-test.true

pub note_in-requires-clause-cell : goal.note_in-requires-clause-cell
note_in-requires-clause-cell c = still-cell c.args.self.now c.loop-i.self c.args.first (length c.args.points.now) c.loop-i.i c.cell-cell.result c.loop-i.invariant.cells c.requires.span c.loop-i-test.true c.cell-cell.ensures.cell

pub note_in-requires-clause-inside : goal.note_in-requires-clause-inside
note_in-requires-clause-inside c = still-inside c.args.self.now c.loop-i.self c.args.first (length c.args.points.now) c.loop-i.i c.cell-cell.result c.loop-i.invariant.cells c.requires.span c.loop-i-test.true c.cell-cell.ensures.cell

pub loop-i-preserved : goal.loop-i-preserved
loop-i-preserved c =
    let l = c.loop-i in
    record {
      cells = same-then c.args.self.now l.self c.note_in.new.self l.invariant.cells c.note_in.ensures.cells;
      stands = λ map p g.
          held-on c.note_in.new.self map c.args.step c.args.first l.i c.args.points.now _ c.loop-i-test.true
          (c.note_in.ensures.stands _ (l.invariant.stands map p g) (line-agrees map c.args.step c.args.first l.i c.args.points.now _ c.loop-i-test.true g));
    }

pub returns-clause-stands : goal.returns-clause-stands
returns-clause-stands c = λ map p g. held-whole c.loop-i.self map c.args.step c.args.first c.loop-i.i c.args.points.now (omega arith) (c.loop-i.invariant.stands map p g)
