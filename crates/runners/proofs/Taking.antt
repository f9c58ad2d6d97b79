-- The block of one side: what is fetched is what the strand wants.
use Rattle.std.specs.Prelude.{◌≡◌, ℕ, ◌+◌, ◌*◌, ◌<◌, List, length, slice_index_or}
use Rattle.std.proofs.Common.{◌∙◌, ap, sym, subst}
use Rattle.std.proofs.lemmas.List.{get_or_default}
use Rattle.case_model.specs.Meaning.{Meaning}
use Rattle.endhistory.specs.Blocks.{block}
use Rattle.endhistory.specs.Seats.{IsAt, blocks_of, number_of, reading, taken_to, writing}
use Rattle.endhistory.specs.Steps.{passed_view}
use Rattle.endhistory.specs.declared.history.History.{History}
use Rattle.endhistory.specs.declared.history.Reader.{Reader}
use Rattle.endhistory.specs.declared.history.Writer.{Writer}
use Rattle.endhistory.specs.declared.views.Reading.{Reading}
use Rattle.histories.specs.Blocks.{block_words, blocks_of_strand}
use Rattle.histories.specs.Opened.{IsReaderOf}
use Rattle.regions.specs.Sides.{back_of, side_of, sides_of}
use Rattle.regions.specs.declared.shapes.Layout.{Layout}
use Rattle.regionrun.specs.Handed.{IsBlock, IsBlockFor, part}
use Rattle.regionrun.specs.Right.{IsRight, IsWanted}
use Rattle.regionrun.specs.declared.frontiers.Frontier.{Frontier}
use Rattle.runners.specs.Blocks.{IsToTake}
use Rattle.runners.specs.Ends.{IsReaderAt, IsWriterAt}

-- a reader of the neighbour's history
pub reader-of : (law : Meaning) (layout : Layout) (histories : List History) (x j n y back : ℕ)
    (history : History) (reader : Reader) → IsReaderAt law layout histories x j n reader
    → y ≡ side_of layout law.mesh x j → back ≡ back_of layout law.mesh x j
    → history ≡ slice_index_or histories y history
    → IsReaderOf law layout y back history reader
reader-of law layout histories x j n y back history reader at side number is =
    subst (λ (h : History). IsReaderOf law layout y back h reader) (sym is)
    (subst (λ (k : ℕ). IsReaderOf law layout k back (slice_index_or histories k history) reader)
    (sym side)
    (subst (λ (k : ℕ). IsReaderOf law layout (side_of layout law.mesh x j) k
    (slice_index_or histories (side_of layout law.mesh x j) history) reader) (sym number)
    (at.of history)))

-- and the other way, for a reader that has come so far
pub reader-on : (law : Meaning) (layout : Layout) (histories : List History) (x j n m y : ℕ)
    (history : History) (old new : Reader) → IsReaderAt law layout histories x j n old
    → y ≡ side_of layout law.mesh x j → y < length histories
    → history ≡ slice_index_or histories y history
    → IsAt history.table.shared.table_id history.sizes new.seat
    → blocks_of new.seat ≡ blocks_of old.seat → number_of new.seat ≡ number_of old.seat
    → (reading new.seat).next ≡ m → (reading new.seat).taken ≡ 0
    → IsReaderAt law layout histories x j m new
reader-on law layout histories x j n m y history old new was side inside is at blocks number next
    taken =
    record {
      of = λ h.
          let same : history ≡ slice_index_or histories (side_of layout law.mesh x j) h =
          is ∙ get_or_default histories y history h inside
          ∙ ap (λ (k : ℕ). slice_index_or histories k h) side in
          record {
            at = subst (λ (k : History). IsAt k.table.shared.table_id k.sizes new.seat) same at;
            blocks_are = blocks ∙ (was.of h).blocks_are;
            number_is = number ∙ (was.of h).number_is;
          };
      next_is = next;
      none_taken = taken;
    }

-- the same of a writer
pub writer-on : (law : Meaning) (layout : Layout) (histories : List History) (x n m : ℕ)
    (history : History) (old new : Writer) → IsWriterAt law layout histories x n old
    → x < length histories → history ≡ slice_index_or histories x history
    → IsAt history.table.shared.table_id history.sizes new.seat
    → blocks_of new.seat ≡ blocks_of old.seat → (writing new.seat).next ≡ m
    → IsWriterAt law layout histories x m new
writer-on law layout histories x n m history old new was inside is at blocks next = record {
  of = λ h.
      let same : history ≡ slice_index_or histories x h =
      is ∙ get_or_default histories x history h inside in
      record {
        at = subst (λ (k : History). IsAt k.table.shared.table_id k.sizes new.seat) same at;
        blocks_are = blocks ∙ (was.of h).blocks_are;
      };
  next_is = next;
}

-- the words that are fetched are the neighbour's block, and their part is what the strand wants
pub wanted : (law : Meaning) (layout : Layout) (histories : List History) (frontier : Frontier)
    (side y back : ℕ) (history : History) (reader : Reader) (fetched words : List ℕ)
    → IsRight law layout frontier
    → (take : IsToTake law layout histories frontier side reader)
    → y ≡ side_of layout law.mesh frontier.number side
    → back ≡ back_of layout law.mesh frontier.number side
    → back < sides_of layout law.mesh y
    → history ≡ slice_index_or histories y history
    → block (blocks_of_strand law layout y) take.block ≡ block_words law layout y take.block
    → IsBlock law layout y take.block (block_words law layout y take.block)
    → fetched ≡ block (blocks_of reader.seat) (reading reader.seat).next
    → words ≡ part (4 * layout.window) back fetched
    → IsWanted law layout frontier side words
wanted law layout histories frontier side y back history reader fetched words right take is number
    below at each all got part_is =
    let of = reader-of law layout histories frontier.number side take.block y back history reader
    take.at is number at in
    let same : fetched ≡ block_words law layout y take.block =
    got ∙ ap (λ (b : ℕ). block (blocks_of reader.seat) b) take.at.next_is
    ∙ ap (λ (bs : List (List ℕ)). block bs take.block) of.blocks_are ∙ each in
    let handed : IsBlockFor law layout y back take.block words =
    subst (IsBlockFor law layout y back take.block)
    (ap (part (4 * layout.window) back) (sym same) ∙ sym part_is) (all.parts back below) in
    record {
      right = right;
      side = take.side_there;
      block = take.block;
      needed = take.needed;
      handed = subst (λ (k : ℕ). IsBlockFor law layout k
          (back_of layout law.mesh frontier.number side) take.block words) is
          (subst (λ (k : ℕ). IsBlockFor law layout y k take.block words) number handed);
    }

-- ---- a reader that has fetched its block and passed it

pub reader-passed : (law : Meaning) (layout : Layout) (histories : List History) (x j n y w : ℕ)
    (history : History) (old mid new : Reader) → IsReaderAt law layout histories x j n old
    → y ≡ side_of layout law.mesh x j → y < length histories
    → history ≡ slice_index_or histories y history
    → IsAt history.table.shared.table_id history.sizes new.seat
    → blocks_of new.seat ≡ blocks_of mid.seat → blocks_of mid.seat ≡ blocks_of old.seat
    → number_of new.seat ≡ number_of mid.seat → number_of mid.seat ≡ number_of old.seat
    → reading mid.seat ≡ taken_to (reading old.seat) w
    → reading new.seat ≡ passed_view (reading mid.seat)
    → IsReaderAt law layout histories x j (n + 1) new
reader-passed law layout histories x j n y w history old mid new was side inside is at b1 b2 n1 n2
    took passed =
    reader-on law layout histories x j n (n + 1) y history old new was side inside is at (b1 ∙ b2)
    (n1 ∙ n2)
    (ap (λ (r : Reading). r.next) passed ∙ ap (λ (r : Reading). r.next + 1) took
    ∙ ap (λ (k : ℕ). k + 1) was.next_is)
    (ap (λ (r : Reading). r.taken) passed)

pub view-passed : (w : ℕ) (old mid new : Reading) → mid ≡ taken_to old w → new ≡ passed_view mid
    → new ≡ passed_view old
view-passed w old mid new took passed = passed ∙ ap passed_view took
