-- The runner of the last strand that is left, and what is left then.
use Rattle.std.specs.Prelude.{◌≡◌, ℕ, ◌+◌, ◌-◌, ◌<◌, [], ◌∷◌, ◌++◌, length, option_to_list}
use Rattle.std.specs.Prelude.{slice_index_or, vec_len}
use Rattle.std.proofs.Common.{◌∙◌, ap, rules, subst, sym}
use Rattle.envelope.specs.RowFolds.{probe_numbers}
use Rattle.histories.specs.Opened.{AreReadersOf, IsFreshWriter}
use Rattle.regions.specs.Sides.{sides_of}
use Rattle.regionrun.specs.Made.{AreNew, IsNewStrand}
use Rattle.regionrun.specs.declared.one_strand.Strand.{Strand}
use Rattle.runners.specs.declared.runners.Runner.{Runner}
use Rattle.workers.specs.Backwards.{AreMadeFrom}
use Rattle.workers.specs.Runs.{AreFreshEnds}
use Rattle.workers.proofs.Backwards.{ends-before, in-order, new-before, new-last, none-made}
use Rattle.workers.proofs.Backwards.{one-made, readers-last, writer-last}
use Rattle.workers.proofs.Listed.{length-less}
use Rattle.workers.proofs.making.make_runners.Goals as goal

pub loop-strand-init : goal.loop-strand-init
loop-strand-init g c = record {
  strands = subst (λ (n : ℕ). AreNew g.S.EntryStub.strand_of g.S.EntryStub.entered_of
      c.args.tag.now.case.now (g.L.Law.meaning c.args.tag.now.law.now) c.args.tag.now.layout.now
      (probe_numbers c.args.tag.now.mesh.now c.args.tag.now.case.now) n c.args.strands.items)
      (sym c.requires.strands.each) c.requires.strands;
  ends = subst (λ (n : ℕ). AreFreshEnds (g.L.Law.meaning c.args.tag.now.law.now)
      c.args.tag.now.layout.now c.args.tag.now.histories.now n c.args.writers.items
      c.args.readers.items) (sym c.requires.strands.each) c.requires.ends;
  made = subst (AreMadeFrom g.L.Law.meaning g.S.EntryStub.strand_of g.S.EntryStub.entered_of
      c.args.tag.now (length c.args.strands.items)) (sym c.in_ok-runners.ensures.items)
      (none-made g.L.Law.meaning g.S.EntryStub.strand_of g.S.EntryStub.entered_of
      c.args.tag.now (length c.args.strands.items) c.requires.strands.each);
}

pub over-requires-clause-strand : goal.over-requires-clause-strand
over-requires-clause-strand g c κs within =
    let last = new-last g.S.EntryStub.strand_of g.S.EntryStub.entered_of c.args.tag.now.case.now
    (g.L.Law.meaning c.args.tag.now.law.now) c.args.tag.now.layout.now
    (probe_numbers c.args.tag.now.mesh.now c.args.tag.now.case.now) c.loop-strand.strands.items
    c.pop.new.self.items c.in-Some.strand c.in-Some.ensures.items c.loop-strand.invariant.strands in
    subst (λ (x : ℕ). IsNewStrand g.S.EntryStub.strand_of g.S.EntryStub.entered_of
    c.args.tag.now.case.now (g.L.Law.meaning c.args.tag.now.law.now) c.args.tag.now.layout.now
    (probe_numbers c.args.tag.now.mesh.now c.args.tag.now.case.now) x c.in-Some.strand)
    (sym last.at.number_is) last

pub over-requires-clause-writer : goal.over-requires-clause-writer
over-requires-clause-writer g c κs within h =
    let last = new-last g.S.EntryStub.strand_of g.S.EntryStub.entered_of c.args.tag.now.case.now
    (g.L.Law.meaning c.args.tag.now.law.now) c.args.tag.now.layout.now
    (probe_numbers c.args.tag.now.mesh.now c.args.tag.now.case.now) c.loop-strand.strands.items
    c.pop.new.self.items c.in-Some.strand c.in-Some.ensures.items c.loop-strand.invariant.strands in
    let one : c.loop-strand.writers.items
    ≡ c.pop-in-Some.new.self.items ++ c.unwrap-writer.result ∷ [] =
    c.pop-in-Some.ensures.items ∙ ap (λ o. c.pop-in-Some.new.self.items ++ option_to_list o)
    c.unwrap-writer.ensures in
    let fresh = subst (λ (n : ℕ). AreFreshEnds (g.L.Law.meaning c.args.tag.now.law.now)
    c.args.tag.now.layout.now c.args.tag.now.histories.now n c.loop-strand.writers.items
    c.loop-strand.readers.items)
    (length-less c.loop-strand.strands.items c.pop.new.self.items c.in-Some.strand
    c.in-Some.ensures.items) c.loop-strand.invariant.ends in
    subst (λ (x : ℕ). IsFreshWriter (g.L.Law.meaning c.args.tag.now.law.now)
    c.args.tag.now.layout.now x (slice_index_or c.args.tag.now.histories.now x h)
    c.unwrap-writer.result) (sym last.at.number_is)
    (writer-last (g.L.Law.meaning c.args.tag.now.law.now) c.args.tag.now.layout.now
    c.args.tag.now.histories.now (length c.pop.new.self.items) c.loop-strand.writers.items
    c.pop-in-Some.new.self.items c.unwrap-writer.result c.loop-strand.readers.items one fresh h)

pub over-requires-clause-readers : goal.over-requires-clause-readers
over-requires-clause-readers g c κs within =
    let last = new-last g.S.EntryStub.strand_of g.S.EntryStub.entered_of c.args.tag.now.case.now
    (g.L.Law.meaning c.args.tag.now.law.now) c.args.tag.now.layout.now
    (probe_numbers c.args.tag.now.mesh.now c.args.tag.now.case.now) c.loop-strand.strands.items
    c.pop.new.self.items c.in-Some.strand c.in-Some.ensures.items c.loop-strand.invariant.strands in
    let one : c.loop-strand.readers.items
    ≡ c.pop-in-Some-2.new.self.items ++ c.unwrap-own.result ∷ [] =
    c.pop-in-Some-2.ensures.items ∙ ap (λ o. c.pop-in-Some-2.new.self.items ++ option_to_list o)
    c.unwrap-own.ensures in
    let fresh = subst (λ (n : ℕ). AreFreshEnds (g.L.Law.meaning c.args.tag.now.law.now)
    c.args.tag.now.layout.now c.args.tag.now.histories.now n c.loop-strand.writers.items
    c.loop-strand.readers.items)
    (length-less c.loop-strand.strands.items c.pop.new.self.items c.in-Some.strand
    c.in-Some.ensures.items) c.loop-strand.invariant.ends in
    subst (λ (x : ℕ). AreReadersOf (g.L.Law.meaning c.args.tag.now.law.now)
    c.args.tag.now.layout.now c.args.tag.now.histories.now x
    (sides_of c.args.tag.now.layout.now (g.L.Law.meaning c.args.tag.now.law.now).mesh x)
    c.unwrap-own.result.items) (sym last.at.number_is)
    (readers-last (g.L.Law.meaning c.args.tag.now.law.now) c.args.tag.now.layout.now
    c.args.tag.now.histories.now (length c.pop.new.self.items) c.loop-strand.writers.items
    c.loop-strand.readers.items c.pop-in-Some-2.new.self.items c.unwrap-own.result one fresh)

pub loop-strand-preserved : goal.loop-strand-preserved
loop-strand-preserved g c =
    let n : ℕ = length c.pop.new.self.items in
    let less : length c.loop-strand.strands.items ≡ n + 1 =
    length-less c.loop-strand.strands.items c.pop.new.self.items c.in-Some.strand
    c.in-Some.ensures.items in
    let last = new-last g.S.EntryStub.strand_of g.S.EntryStub.entered_of c.args.tag.now.case.now
    (g.L.Law.meaning c.args.tag.now.law.now) c.args.tag.now.layout.now
    (probe_numbers c.args.tag.now.mesh.now c.args.tag.now.case.now) c.loop-strand.strands.items
    c.pop.new.self.items c.in-Some.strand c.in-Some.ensures.items c.loop-strand.invariant.strands in
    record {
      strands = new-before g.S.EntryStub.strand_of g.S.EntryStub.entered_of
          c.args.tag.now.case.now (g.L.Law.meaning c.args.tag.now.law.now)
          c.args.tag.now.layout.now
          (probe_numbers c.args.tag.now.mesh.now c.args.tag.now.case.now)
          c.loop-strand.strands.items c.pop.new.self.items c.in-Some.strand
          c.in-Some.ensures.items c.loop-strand.invariant.strands;
      ends = ends-before (g.L.Law.meaning c.args.tag.now.law.now) c.args.tag.now.layout.now
          c.args.tag.now.histories.now n c.loop-strand.writers.items
          c.pop-in-Some.new.self.items c.unwrap-writer.result c.loop-strand.readers.items
          c.pop-in-Some-2.new.self.items c.unwrap-own.result
          (c.pop-in-Some.ensures.items
          ∙ ap (λ o. c.pop-in-Some.new.self.items ++ option_to_list o) c.unwrap-writer.ensures)
          (c.pop-in-Some-2.ensures.items
          ∙ ap (λ o. c.pop-in-Some-2.new.self.items ++ option_to_list o) c.unwrap-own.ensures)
          (subst (λ (k : ℕ). AreFreshEnds (g.L.Law.meaning c.args.tag.now.law.now)
          c.args.tag.now.layout.now c.args.tag.now.histories.now k c.loop-strand.writers.items
          c.loop-strand.readers.items) less c.loop-strand.invariant.ends);
      made = one-made g.L.Law.meaning g.S.EntryStub.strand_of g.S.EntryStub.entered_of
          c.args.tag.now n c.loop-strand.runners.items c.push.new.self.items c.over.result
          c.in_ok-push.ensures.items
          (record {
            number_is = ap (λ (s : Strand g.row.S.Denot). s.frontier.number)
                c.over.ensures.strand ∙ last.at.number_is;
            computed_is = ap (λ (s : Strand g.row.S.Denot). s.frontier.computed)
                c.over.ensures.strand ∙ last.at.computed_is;
            good = c.over.ensures.good;
          })
          (subst (λ (k : ℕ). AreMadeFrom g.L.Law.meaning g.S.EntryStub.strand_of
          g.S.EntryStub.entered_of c.args.tag.now k c.loop-strand.runners.items) less
          c.loop-strand.invariant.made);
    }

pub returns : goal.returns
returns g c =
    let empty : length c.loop-strand.strands.items ≡ 0 = search rules in
    let same : vec_len c.loop-strand.runners ≡ length c.loop-strand.runners.items =
    search rules in
    let each : length c.reverse.new.self.items ≡ length c.loop-strand.runners.items =
    search rules in
    in-order g.L.Law.meaning g.S.EntryStub.strand_of g.S.EntryStub.entered_of c.args.tag.now
    c.loop-strand.runners.items c.reverse.new.self.items each
    (subst (λ (n : ℕ). (k : ℕ) (d : Runner g.row.L.Denot g.row.S.Denot) → k < n
    → slice_index_or c.reverse.new.self.items k d
    ≡ slice_index_or c.loop-strand.runners.items (n - 1 - k) d) same c.reverse.ensures.by_index)
    (subst (λ (n : ℕ). AreMadeFrom g.L.Law.meaning g.S.EntryStub.strand_of
    g.S.EntryStub.entered_of c.args.tag.now n c.loop-strand.runners.items) empty
    c.loop-strand.invariant.made)
