use Rattle.std.proofs.Common.{◌+◌, arith, slice_index_or, subst, sym}
use denote.Exit.{unseen}
use denote.Param.Send.{Quiet-if}
use mir.Syntax.{of_param}
use Rattle.regionrun.specs.declared.one_strand.Strand.{Strand}
use Rattle.regionrun.specs.Engine.{IsAtRest}
use Rattle.regionrun.specs.Right.{IsSameStrand}
use Rattle.regionrun.proofs.rounds.half_round.Goals as goal

pub for_each_mut-requires-clause-accepts : goal.for_each_mut-requires-clause-accepts
for_each_mut-requires-clause-accepts g c κs within i p below is =
    let rest = subst (IsAtRest g.G.Stub.EntryStub.strand_of g.G.Stub.EntryStub.entered_of
    (g.L.Law.meaning c.args.course.now.law.now) c.args.course.now.layout.now
    c.args.turn.of_sections c.args.turn.region) (sym is) (c.requires.each.each i p.now below) in (
      (c.requires.course, c.requires.turn, c.requires.beside, rest),
      (
        record {
          owned = c.type_bounds.send-G-Stub.owned;
          leaving = λ k. Quiet-if (k (of_param 2)) _ unseen (λ x w. tt) (λ x w. tt);
        },
        record { shared = c.type_bounds.sync-L.shared },
        record { shared = c.type_bounds.sync-G.shared },
        record { shared = c.type_bounds.sync-G-Stub.shared },
      ),
    )

pub returns-clause-each : goal.returns-clause-each
returns-clause-each g c = record {
  each = λ i d below.
      let k = (c.for_each_mut.ensures i d (omega (arith, c.for_each_mut.auto.s, below))).1 in
      subst (IsAtRest g.G.Stub.EntryStub.strand_of g.G.Stub.EntryStub.entered_of
      (g.L.Law.meaning c.args.course.now.law.now) c.args.course.now.layout.now
      c.args.turn.of_sections (c.args.turn.region + 1)) k.left k.call.0;
}

pub returns-clause-same : goal.returns-clause-same
returns-clause-same g c = record {
  each = λ i d below.
      let k = (c.for_each_mut.ensures i d below).1 in
      subst (λ (s : Strand g.row.G-Stub.Denot). IsSameStrand s.frontier
      (slice_index_or c.for_each_mut.new.s i d).frontier) k.argument_is
      (subst (λ (s : Strand g.row.G-Stub.Denot). IsSameStrand k.argument.now.frontier s.frontier)
      k.left k.call.1);
}
