-- What an advance that left its region has read and written.
use Rattle.std.specs.Prelude.{◌≡◌, ℕ, ◌+◌, ◌<◌, ◌≤◌, List, length, min, slice_index, slice_index_or}
use Rattle.std.specs.Prelude.{Some, None}
use Rattle.std.specs.Global.{Vec}
use Rattle.std.proofs.Common.{◌∙◌, ap, sym, subst, arith}
use Rattle.case_model.specs.Meaning.{Meaning}
use Rattle.endhistory.specs.Answers.{Finds}
use Rattle.endhistory.specs.Seats.{reading, writing}
use Rattle.endhistory.specs.Steps.{passed_view, published_view}
use Rattle.endhistory.specs.declared.answers.Vacancy.TheVariants.{Free}
use Rattle.endhistory.specs.declared.history.History.{History}
use Rattle.endhistory.specs.declared.history.Reader.{Reader}
use Rattle.endhistory.specs.declared.history.Writer.{Writer}
use Rattle.endhistory.specs.declared.views.Reading.{Reading}
use Rattle.endhistory.specs.declared.views.Sizes.{Sizes}
use Rattle.endhistory.specs.declared.views.Writing.{Writing}
use Rattle.regions.specs.Needs.{needs_of}
use Rattle.regions.specs.Sides.{is_section, sides_of}
use Rattle.regions.specs.declared.shapes.Layout.{Layout}
use Rattle.regionrun.specs.declared.frontiers.Frontier.{Frontier}
use Rattle.regionrun.specs.declared.one_strand.Strand.{Strand}
use Rattle.runners.specs.Advances.{HasBlocks, HasLeft, HasRead, HasSeen, HasSlot, HasWritten}
use Rattle.runners.specs.Advances.{HaveSeen, sizes_of_seat}
use Rattle.runners.specs.Blocks.{ArePassed}
use Rattle.runners.specs.Ends.{AreReadersAt}
use Rattle.runners.specs.Runners.{IsGood, computed_in, number_in}
use Rattle.runners.specs.declared.runners.Runner.{Runner}
use Rattle.runners.specs.declared.tags.RunTag.{RunTag}
use Rattle.schedule.proofs.Sound.{needs-low}
use Rattle.schedule.specs.Nets.{needed_of}

-- a reader that has looked and passed
read-view : (b : ℕ) (old mid new : Reading) → old.next ≡ b → HasSeen old mid
    → new ≡ passed_view mid → HasRead b old new
read-view b old mid new was seen passed = record {
  was = was;
  loads = ap (λ (y : Reading). y.loads) passed ∙ ap (λ (y : Reading). y.loads) seen.looked;
  ready = subst (λ (k : ℕ). b < k) (sym (ap (λ (y : Reading). y.seen) passed))
      (subst (λ (k : ℕ). k < mid.seen) was seen.ready);
  passed = ap (λ (y : Reading). y.next) passed
      ∙ ap (λ (y : Reading). y.next + 1) seen.looked ∙ ap (λ (k : ℕ). k + 1) was;
}

pub has-read : (law : Meaning) (layout : Layout) (histories : List History) (x n b j : ℕ)
    (old mid new : List Reader) (d e : Reader) → AreReadersAt law layout histories x n old
    → n ≡ b → HaveSeen (length old) old mid → ArePassed (length mid) mid new
    → j < sides_of layout law.mesh x
    → HasRead b (reading (slice_index_or old j d).seat) (reading (slice_index_or new j e).seat)
has-read law layout histories x n b j old mid new d e at is seen passed there =
    let inside : j < length old = subst (λ (k : ℕ). j < k) (sym at.each) there in
    let beside : j < length mid = subst (λ (k : ℕ). j < k) (sym seen.each) inside in
    read-view b (reading (slice_index_or old j d).seat) (reading (slice_index_or mid j d).seat)
    (reading (slice_index_or new j e).seat) ((at.reader j d there).next_is ∙ is)
    (seen.seen j d d inside) (passed.passed j d e beside)

-- a writer that has found a slot free and published
pub has-written : (z : Sizes) (b : ℕ) (old mid new : Writing) → old.next ≡ b
    → Finds z Free old mid → new ≡ published_view mid → HasWritten z b old new
has-written z b old mid new was found published = record {
  was = was;
  loads = ap (λ (w : Writing). w.loads) published ∙ found.1.loads;
  asked = ap (λ (w : Writing). w.asked) published ∙ found.1.asked;
  free = λ r below.
      subst (λ (k : ℕ). k < slice_index new.known r + z.slots) (found.1.next ∙ was)
      (subst (λ (known : List ℕ). mid.next < slice_index known r + z.slots)
      (sym (ap (λ (w : Writing). w.known) published)) (found.0 r below));
  published = ap (λ (w : Writing). w.next) published
      ∙ ap (λ (k : ℕ). k + 1) (found.1.next ∙ was);
}

module _ {L S : Type 0} where
  -- A runner on its way through a region: r0 as the advance began; r1 when its readers have looked,
  -- r2 when its writer has asked, r3 when the gate is passed, r4 when the blocks are taken in, and
  -- r5 when its own is handed on
  pub left : (meaning : L → Meaning) (strand_of entered_of : S → ℕ) (tag : RunTag L)
      (r0 r1 r2 r3 r4 r5 : Runner L S) → IsGood meaning strand_of entered_of tag r0
      → r1.strand ≡ r0.strand → r1.writer ≡ r0.writer
      → HasBlocks tag.layout.now (number_in r0) (computed_in r0) r0.readers.items r1.readers.items
      → r2.strand ≡ r1.strand → r2.readers ≡ r1.readers → HasSlot tag.layout.now r1 r2
      → r3.strand.frontier ≡ r2.strand.frontier → r3.readers ≡ r2.readers → r3.writer ≡ r2.writer
      → computed_in r4 ≡ computed_in r3 → r4.writer ≡ r3.writer
      → ((b : ℕ) → needs_of (is_section tag.layout.now (number_in r3)) (computed_in r3) ≡ Some b
      → ArePassed (length r3.readers.items) r3.readers.items r4.readers.items)
      → (needs_of (is_section tag.layout.now (number_in r3)) (computed_in r3) ≡ None
      → r4.readers.items ≡ r3.readers.items)
      → computed_in r5 ≡ computed_in r4 + 1 → r5.readers ≡ r4.readers
      → (computed_in r4 < tag.layout.now.windows
      → writing r5.writer.seat ≡ published_view (writing r4.writer.seat))
      → (tag.layout.now.windows ≤ computed_in r4 → r5.writer ≡ r4.writer)
      → HasLeft (meaning tag.law.now) tag.layout.now r0 r5
  left meaning strand_of entered_of tag r0 r1 r2 r3 r4 r5 good s1 w1 blocks s2 v2 slot f3 v3 w3
      c4 w4 passed kept c5 v5 published unwritten =
      let law : Meaning = meaning tag.law.now in
      let layout = tag.layout.now in
      let x : ℕ = number_in r0 in
      let m : ℕ = computed_in r0 in
      let c1 : computed_in r1 ≡ m = ap (λ (s : Strand S). s.frontier.computed) s1 in
      let f1 : r3.strand.frontier ≡ r0.strand.frontier =
      f3 ∙ ap (λ (s : Strand S). s.frontier) (s2 ∙ s1) in
      let x3 : number_in r3 ≡ x = ap (λ (f : Frontier). f.number) f1 in
      let c3 : computed_in r3 ≡ m = ap (λ (f : Frontier). f.computed) f1 in
      let v : r3.readers ≡ r1.readers = v3 ∙ v2 in
      let needs : needs_of (is_section layout (number_in r3)) (computed_in r3)
      ≡ needs_of (is_section layout x) m =
      ap (λ (k : ℕ). needs_of (is_section layout k) (computed_in r3)) x3
      ∙ ap (needs_of (is_section layout x)) c3 in
      record {
        computed = c5 ∙ ap (λ (k : ℕ). k + 1) (c4 ∙ c3);
        read = λ b j d e need there.
            has-read law layout tag.histories.now x (needed_of (is_section layout x) m) b j
            r0.readers.items r3.readers.items r5.readers.items d e good.running.readers
            (needs-low (is_section layout x) m b need)
            (subst (λ (w : Vec Reader). HaveSeen (length r0.readers.items) r0.readers.items w.items)
            (sym v) (blocks.needed b need))
            (subst (λ (w : Vec Reader). ArePassed (length r3.readers.items) r3.readers.items
            w.items) (sym v5) (passed b (needs ∙ need)))
            there;
        unread = λ none.
            ap (λ (w : Vec Reader). w.items) v5 ∙ kept (needs ∙ none)
            ∙ ap (λ (w : Vec Reader). w.items) v ∙ blocks.unneeded none;
        written = λ below.
            let low : min m layout.windows ≡ m = omega arith in
            let below1 : computed_in r1 < layout.windows = omega arith in
            let below4 : computed_in r4 < layout.windows = omega arith in
            has-written (sizes_of_seat r0.writer.seat) m (writing r0.writer.seat)
            (writing r2.writer.seat) (writing r5.writer.seat)
            (good.running.writer.next_is ∙ low)
            (subst (λ (w : Writer). Finds (sizes_of_seat w.seat) Free (writing w.seat)
            (writing r2.writer.seat)) w1 (slot.writes below1))
            (published below4
            ∙ ap (λ (w : Writer). published_view (writing w.seat)) (w4 ∙ w3));
        unwritten = λ high.
            let high1 : layout.windows ≤ computed_in r1 = omega arith in
            let high4 : layout.windows ≤ computed_in r4 = omega arith in
            unwritten high4 ∙ w4 ∙ w3 ∙ slot.none high1 ∙ w1;
      }
