-- What a runner finds before its next region is entered.
use Rattle.std.specs.Prelude.{◌≡◌, ℕ, ◌<◌, ◌≤◌, List, length, slice_index_or, Option}
use Rattle.std.specs.Prelude.{Some, None, MatchOption, is_some, min, true}
use Rattle.std.proofs.Common.{◌∙◌, ap, sym, subst}
use Rattle.case_model.specs.Meaning.{Meaning}
use Rattle.endhistory.specs.Answers.{Finds}
use Rattle.endhistory.specs.Seats.{reading, writing}
use Rattle.endhistory.specs.Steps.{IsFree}
use Rattle.endhistory.specs.declared.answers.Vacancy.{Vacancy}
use Rattle.endhistory.specs.declared.history.History.{History}
use Rattle.endhistory.specs.declared.history.Reader.{Reader}
use Rattle.endhistory.specs.declared.history.Writer.{Writer}
use Rattle.endhistory.specs.declared.views.Sizes.{Sizes}
use Rattle.endhistory.specs.declared.views.Writing.{Writing}
use Rattle.regions.specs.Needs.{needs_of}
use Rattle.regions.specs.Sides.{is_section, sides_of}
use Rattle.regions.specs.declared.shapes.Layout.{Layout}
use Rattle.regionrun.specs.declared.frontiers.Frontier.{Frontier}
use Rattle.regionrun.specs.declared.one_strand.Strand.{Strand}
use Rattle.runners.specs.Advances.{HasBlocks, HasSlot, HaveSeen, IsHeldUp, IsLate, sizes_of_seat}
use Rattle.runners.specs.Ends.{AreReadersAt, IsWriterAt}
use Rattle.runners.specs.Runners.{IsGood, computed_in, number_in}
use Rattle.runners.specs.declared.runners.Runner.{Runner}
use Rattle.runners.specs.declared.tags.RunTag.{RunTag}
use Rattle.runners.proofs.Listed.{item-of}
use Rattle.regionrun.proofs.Turning.{some-of}
use Rattle.schedule.proofs.Sound.{needs-low}
use Rattle.schedule.specs.Nets.{needed_of}

-- the sizes that a writer's seat keeps are those of its history
pub sizes-are : (law : Meaning) (layout : Layout) (histories : List History) (x n : ℕ)
    (writer : Writer) (history : History) → IsWriterAt law layout histories x n writer
    → history ≡ slice_index_or histories x history → sizes_of_seat writer.seat ≡ history.sizes
sizes-are law layout histories x n writer history at is =
    (at.of history).at.sizes ∙ ap (λ (h : History). h.sizes) (sym is)

-- two writers of a strand keep the same sizes
pub sizes-same : (law : Meaning) (layout : Layout) (histories : List History) (x n m : ℕ)
    (one two : Writer) → x < length histories → IsWriterAt law layout histories x n one
    → IsWriterAt law layout histories x m two
    → sizes_of_seat one.seat ≡ sizes_of_seat two.seat
sizes-same law layout histories x n m one two some a b =
    let h : History = item-of histories x some in
    (a.of h).at.sizes ∙ sym (b.of h).at.sizes

-- each reader has seen its next block published
pub seen-published : (law : Meaning) (layout : Layout) (histories : List History) (x m : ℕ)
    (old new : List Reader)
    → AreReadersAt law layout histories x (needed_of (is_section layout x) m) old
    → HasBlocks layout x m old new → (b j : ℕ) (d : Reader)
    → needs_of (is_section layout x) m ≡ Some b → j < length new
    → b < (reading (slice_index_or new j d).seat).seen
seen-published law layout histories x m old new at blocks b j d need inside =
    let have = blocks.needed b need in
    let below : j < length old = subst (λ (k : ℕ). j < k) have.each inside in
    let there : j < sides_of layout law.mesh x = subst (λ (k : ℕ). j < k) at.each below in
    subst (λ (k : ℕ). k < (reading (slice_index_or new j d).seat).seen)
    ((at.reader j d there).next_is ∙ needs-low (is_section layout x) m b need)
    (have.seen j d d below).ready

-- and has still, when the gate is passed
pub seen-on : (law : Meaning) (layout : Layout) (histories : List History)
    (frontier now : Frontier) (old new last : List Reader)
    → AreReadersAt law layout histories frontier.number
    (needed_of (is_section layout frontier.number) frontier.computed) old
    → HasBlocks layout frontier.number frontier.computed old new → last ≡ new → now ≡ frontier
    → (b j : ℕ) (d : Reader) → needs_of (is_section layout now.number) now.computed ≡ Some b
    → j < length last → b < (reading (slice_index_or last j d).seat).seen
seen-on law layout histories frontier now old new last at blocks last_is same b j d need inside =
    subst (λ (l : List Reader). b < (reading (slice_index_or l j d).seat).seen) (sym last_is)
    (seen-published law layout histories frontier.number frontier.computed old new at blocks b j d
    (subst (λ (f : Frontier). needs_of (is_section layout f.number) f.computed ≡ Some b) same need)
    (subst (λ (l : List Reader). j < length l) last_is inside))

module _ {L S : Type 0} where
  -- what the writer of a runner has found
  pub found-there : (meaning : L → Meaning) (strand_of entered_of : S → ℕ) (tag : RunTag L)
      (runner : Runner L S) (history : History) (answer : Vacancy) (new : Writing)
      → IsGood meaning strand_of entered_of tag runner
      → history ≡ slice_index_or tag.histories.now runner.number history
      → Finds history.sizes answer (writing runner.writer.seat) new
      → Finds (sizes_of_seat runner.writer.seat) answer (writing runner.writer.seat) new
  found-there meaning strand_of entered_of tag runner history answer new good is found =
      let run = good.running in
      subst (λ (z : Sizes). Finds z answer (writing runner.writer.seat) new)
      (sym (sizes-are (meaning tag.law.now) tag.layout.now tag.histories.now (number_in runner)
      (min (computed_in runner) tag.layout.now.windows) runner.writer history run.writer
      (subst (λ (k : ℕ). history ≡ slice_index_or tag.histories.now k history) run.number_is is)))
      found

  -- where it needs blocks, each reader has looked, or one that looked in vain
  looked-for : (law : Meaning) (layout : Layout) (histories : List History)
      (old new : Runner L S) (result : Option (ℕ × ℕ))
      → AreReadersAt law layout histories (number_in old)
      (needed_of (is_section layout (number_in old)) (computed_in old)) old.readers.items
      → is_some (needs_of (is_section layout (number_in old)) (computed_in old)) ≡ true
      → new.strand ≡ old.strand → new.writer ≡ old.writer
      → MatchOption result
      (HaveSeen (length old.readers.items) old.readers.items new.readers.items)
      (λ late. IsLate law layout (number_in old) late.0 late.1 old.readers.items
      new.readers.items)
      → MatchOption result
      (HasBlocks layout (number_in old) (computed_in old) old.readers.items new.readers.items)
      (λ late. IsHeldUp law layout late.0 late.1 old new)
  looked-for law layout histories old new None at some strand writer seen = record {
    needed = λ b need. seen;
    unneeded = λ e.
        let s = some-of (needs_of (is_section layout (number_in old)) (computed_in old)) some in
        let is = s.1 in cc;
  }
  looked-for law layout histories old new (Some late) at some strand writer is =
      let x = number_in old in
      let kind = is_section layout x in
      let m = computed_in old in
      let s = some-of (needs_of kind m) some in
      let inside : is.side < length old.readers.items =
      subst (λ (k : ℕ). is.side < k) (sym at.each) is.there in
      let d : Reader = item-of old.readers.items is.side inside in
      record {
        block = s.0;
        needed = s.1;
        few = subst (λ (k : ℕ). late.1 ≤ k)
            ((at.reader is.side d is.there).next_is ∙ needs-low kind m s.0 s.1) (is.late d);
        late = is;
        strand = strand;
        writer = writer;
      }

  -- the same, where number and lists are told otherwise
  pub looked-by : (law : Meaning) (layout : Layout) (histories : List History)
      (old new : Runner L S) (result : Option (ℕ × ℕ)) (x : ℕ) (first last : List Reader)
      → AreReadersAt law layout histories (number_in old)
      (needed_of (is_section layout (number_in old)) (computed_in old)) old.readers.items
      → is_some (needs_of (is_section layout (number_in old)) (computed_in old)) ≡ true
      → new.strand ≡ old.strand → new.writer ≡ old.writer
      → x ≡ number_in old → first ≡ old.readers.items → new.readers.items ≡ last
      → MatchOption result (HaveSeen (length first) first last)
      (λ late. IsLate law layout x late.0 late.1 first last)
      → MatchOption result
      (HasBlocks layout (number_in old) (computed_in old) old.readers.items new.readers.items)
      (λ late. IsHeldUp law layout late.0 late.1 old new)
  looked-by law layout histories old new result x first last at some strand writer x_is first_is
      last_is found =
      let items = old.readers.items in
      looked-for law layout histories old new result at some strand writer
      (subst (λ (l : List Reader). MatchOption result (HaveSeen (length items) items l)
      (λ late. IsLate law layout (number_in old) late.0 late.1 items l)) (sym last_is)
      (subst (λ (f : List Reader). MatchOption result (HaveSeen (length f) f last)
      (λ late. IsLate law layout (number_in old) late.0 late.1 f last)) first_is
      (subst (λ (k : ℕ). MatchOption result (HaveSeen (length first) first last)
      (λ late. IsLate law layout k late.0 late.1 first last)) x_is found)))

  -- the writer that found a slot free still has it
  pub free-there : (meaning : L → Meaning) (strand_of entered_of : S → ℕ) (tag : RunTag L)
      (old new : Runner L S) (writer : Writer) (m : ℕ)
      → IsGood meaning strand_of entered_of tag old → IsGood meaning strand_of entered_of tag new
      → new.strand ≡ old.strand → HasSlot tag.layout.now old new → m ≡ computed_in old
      → writer ≡ new.writer → m < tag.layout.now.windows
      → IsFree (sizes_of_seat writer.seat) (writing writer.seat)
  free-there meaning strand_of entered_of tag old new writer m good after strand slot m_is
      writer_is below =
      let law : Meaning = meaning tag.law.now in
      let x : ℕ = number_in old in
      let some : x < length tag.histories.now =
      subst (λ (k : ℕ). x < k) (sym good.running.tag_is.histories.each) good.running.right.there in
      let own : IsWriterAt law tag.layout.now tag.histories.now x
      (min (computed_in new) tag.layout.now.windows) new.writer =
      subst (λ (s : Strand S). IsWriterAt law tag.layout.now tag.histories.now s.frontier.number
      (min (computed_in new) tag.layout.now.windows) new.writer) strand after.running.writer in
      subst (λ (w : Writer). IsFree (sizes_of_seat w.seat) (writing w.seat)) (sym writer_is)
      (subst (λ (z : Sizes). IsFree z (writing new.writer.seat))
      (sizes-same law tag.layout.now tag.histories.now x
      (min (computed_in old) tag.layout.now.windows) (min (computed_in new) tag.layout.now.windows)
      old.writer new.writer some good.running.writer own)
      (slot.writes (subst (λ (k : ℕ). k < tag.layout.now.windows) m_is below)).0)
