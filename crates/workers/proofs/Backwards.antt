-- Runners that are made from the last strand to the first, and then put in order.
use Rattle.std.specs.Prelude.{◌≡◌, ℕ, ◌+◌, ◌-◌, ◌<◌, List, [], ◌∷◌, ◌++◌, length}
use Rattle.std.specs.Prelude.{slice_index_or}
use Rattle.std.proofs.Common.{◌∙◌, ap, sym, subst, refl, arith, inl, inr, get_or}
use Rattle.std.proofs.lemmas.Bool.{cases_lt}
use Rattle.std.proofs.lemmas.List.{get_or_append_left, get_or_push}
use Rattle.std.specs.Global.{Vec}
use Rattle.case_model.specs.Meaning.{Meaning}
use Rattle.case_model.specs.declared.cases.Case.{Case}
use Rattle.endhistory.specs.declared.history.History.{History}
use Rattle.endhistory.specs.declared.history.Reader.{Reader}
use Rattle.endhistory.specs.declared.history.Writer.{Writer}
use Rattle.histories.specs.Opened.{AreReadersOf, IsFreshWriter}
use Rattle.regions.specs.Sides.{sides_of}
use Rattle.regions.specs.declared.shapes.Layout.{Layout}
use Rattle.regionrun.specs.Engine.{none}
use Rattle.regionrun.specs.Made.{AreNew, IsNewStrand}
use Rattle.regionrun.specs.declared.one_strand.Strand.{Strand}
use Rattle.runners.specs.declared.runners.Runner.{Runner}
use Rattle.runners.specs.declared.tags.RunTag.{RunTag}
use Rattle.workers.specs.Backwards.{AreMadeFrom}
use Rattle.workers.specs.Runs.{AreFreshEnds, AreRunners, IsRunnerAt}
use Rattle.workers.proofs.Listed.{each-before, last-too, length-less}

-- ---- what is left when the last is taken

module _ {S : Type 0} where
  pub new-before : (strand_of entered_of : S → ℕ) (case : Case) (law : Meaning) (layout : Layout)
      (probes : List ℕ) (old new : List (Strand S)) (strand : Strand S)
      → old ≡ new ++ strand ∷ []
      → AreNew strand_of entered_of case law layout probes (length old) old
      → AreNew strand_of entered_of case law layout probes (length new) new
  new-before strand_of entered_of case law layout probes old new strand is all = record {
    each = refl;
    strand = each-before (λ x s. IsNewStrand strand_of entered_of case law layout probes x s)
        old new strand is
        (λ x d below. all.strand x d (subst (λ (n : ℕ). x < n)
        (sym (length-less old new strand is)) below));
  }

  pub new-last : (strand_of entered_of : S → ℕ) (case : Case) (law : Meaning) (layout : Layout)
      (probes : List ℕ) (old new : List (Strand S)) (strand : Strand S)
      → old ≡ new ++ strand ∷ []
      → AreNew strand_of entered_of case law layout probes (length old) old
      → IsNewStrand strand_of entered_of case law layout probes (length new) strand
  new-last strand_of entered_of case law layout probes old new strand is all =
      last-too (λ x s. IsNewStrand strand_of entered_of case law layout probes x s)
      old new strand is
      (λ x d below. all.strand x d (subst (λ (n : ℕ). x < n)
      (sym (length-less old new strand is)) below))

pub ends-before : (law : Meaning) (layout : Layout) (histories : List History) (n : ℕ)
    (writers writers' : List Writer) (writer : Writer)
    (readers readers' : List (Vec Reader)) (own : Vec Reader)
    → writers ≡ writers' ++ writer ∷ [] → readers ≡ readers' ++ own ∷ []
    → AreFreshEnds law layout histories (n + 1) writers readers
    → AreFreshEnds law layout histories n writers' readers'
ends-before law layout histories n writers writers' writer readers readers' own isw isr all =
    let cw : length writers' ≡ n =
    omega (arith, all.writer_count, length-less writers writers' writer isw) in
    let cr : length readers' ≡ n =
    omega (arith, all.reader_count, length-less readers readers' own isr) in
    record {
      writer_count = cw;
      each_writer = λ x h w below.
          each-before (λ i v. (k : History)
          → IsFreshWriter law layout i (slice_index_or histories i k) v)
          writers writers' writer isw
          (λ i d l k. all.each_writer i k d (omega (arith, l, cw)))
          x w (omega (arith, below, cw)) h;
      reader_count = cr;
      each_reader = λ x d below.
          each-before (λ i v. AreReadersOf law layout histories i (sides_of layout law.mesh i)
          v.items) readers readers' own isr
          (λ i e l. all.each_reader i e (omega (arith, l, cr)))
          x d (omega (arith, below, cr));
    }

pub writer-last : (law : Meaning) (layout : Layout) (histories : List History) (n : ℕ)
    (writers writers' : List Writer) (writer : Writer) (readers : List (Vec Reader))
    → writers ≡ writers' ++ writer ∷ []
    → AreFreshEnds law layout histories (n + 1) writers readers
    → (h : History) → IsFreshWriter law layout n (slice_index_or histories n h) writer
writer-last law layout histories n writers writers' writer readers is all h =
    let count : length writers' ≡ n =
    omega (arith, all.writer_count, length-less writers writers' writer is) in
    subst (λ (i : ℕ). IsFreshWriter law layout i (slice_index_or histories i h) writer) count
    (last-too (λ i v. IsFreshWriter law layout i (slice_index_or histories i h) v)
    writers writers' writer is (λ i d l. all.each_writer i h d (omega (arith, l, count))))

pub readers-last : (law : Meaning) (layout : Layout) (histories : List History) (n : ℕ)
    (writers : List Writer) (readers readers' : List (Vec Reader)) (own : Vec Reader)
    → readers ≡ readers' ++ own ∷ []
    → AreFreshEnds law layout histories (n + 1) writers readers
    → AreReadersOf law layout histories n (sides_of layout law.mesh n) own.items
readers-last law layout histories n writers readers readers' own is all =
    let count : length readers' ≡ n =
    omega (arith, all.reader_count, length-less readers readers' own is) in
    subst (λ (i : ℕ). AreReadersOf law layout histories i (sides_of layout law.mesh i) own.items)
    count (last-too (λ i v. AreReadersOf law layout histories i (sides_of layout law.mesh i)
    v.items) readers readers' own is (λ i d l. all.each_reader i d (omega (arith, l, count))))

-- ---- one runner more, and then all in order

module _ {L S : Type 0} where
  pub none-made : (meaning : L → Meaning) (strand_of entered_of : S → ℕ) (tag : RunTag L) (n : ℕ)
      → n ≡ length tag.layout.now.shapes → AreMadeFrom meaning strand_of entered_of tag n []
  none-made meaning strand_of entered_of tag n is = record {
    each = omega (arith, is);
    runner = λ x k d from at. absurd (omega (arith, is, from, at));
  }

  pub one-made : (meaning : L → Meaning) (strand_of entered_of : S → ℕ) (tag : RunTag L) (n : ℕ)
      (old new : List (Runner L S)) (runner : Runner L S) → new ≡ old ++ runner ∷ []
      → IsRunnerAt meaning strand_of entered_of tag n 0 runner
      → AreMadeFrom meaning strand_of entered_of tag (n + 1) old
      → AreMadeFrom meaning strand_of entered_of tag n new
  one-made meaning strand_of entered_of tag n old new runner is one all =
      let count : length new ≡ length old + 1 = length-less new old runner is in
      record {
        each = omega (arith, count, all.each);
        runner = λ x k d from at. elim (cases_lt n x) [
          | inl l ↦
              subst (λ r. IsRunnerAt meaning strand_of entered_of tag x 0 r)
              (sym (ap (λ (xs : List (Runner L S)). get_or xs k d) is
              ∙ get_or_append_left old (runner ∷ []) d k (omega (arith, at, l, all.each))))
              (all.runner x k d (omega (arith, l)) at)
          | inr l ↦
              let same : n ≡ x = omega (arith, l, from) in
              subst (λ r. IsRunnerAt meaning strand_of entered_of tag x 0 r)
              (sym (ap (λ (xs : List (Runner L S)). get_or xs k d) is
              ∙ get_or_push old runner d k (omega (arith, at, same, all.each))))
              (subst (λ (i : ℕ). IsRunnerAt meaning strand_of entered_of tag i 0 runner) same one)
        ];
      }

  pub in-order : (meaning : L → Meaning) (strand_of entered_of : S → ℕ) (tag : RunTag L)
      (old new : List (Runner L S)) → length new ≡ length old
      → ((k : ℕ) (d : Runner L S) → k < length old
      → slice_index_or new k d ≡ slice_index_or old (length old - 1 - k) d)
      → AreMadeFrom meaning strand_of entered_of tag 0 old
      → AreRunners meaning strand_of entered_of tag none new
  in-order meaning strand_of entered_of tag old new same turned all = record {
    each = omega (arith, same, all.each);
    runner = λ x d below.
        subst (λ r. IsRunnerAt meaning strand_of entered_of tag x 0 r)
        (sym (turned x d (omega (arith, below, all.each))))
        (all.runner x (length old - 1 - x) d (omega arith) (omega (arith, below, all.each)));
  }
