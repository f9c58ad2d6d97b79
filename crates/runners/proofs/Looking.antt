-- What is found when the readers of a strand look one after another.
use Rattle.std.specs.Prelude.{◌≡◌, ℕ, ◌+◌, ◌<◌, ◌≤◌, List, length, slice_index_or, slice_set}
use Rattle.std.proofs.Common.{◌∙◌, ap, sym, subst, refl, arith}
use Rattle.std.proofs.Common.{length-set}
use Rattle.std.proofs.lemmas.List.{get_or_default}
use Rattle.case_model.specs.Meaning.{Meaning}
use Rattle.endhistory.specs.Seats.{reading}
use Rattle.endhistory.specs.Steps.{looked_view}
use Rattle.endhistory.specs.declared.history.History.{History}
use Rattle.endhistory.specs.declared.history.Reader.{Reader}
use Rattle.endhistory.specs.declared.views.Reading.{Reading}
use Rattle.regions.specs.Sides.{sides_of}
use Rattle.regions.specs.declared.shapes.Layout.{Layout}
use Rattle.runners.specs.Advances.{HasSeen, HaveSeen}
use Rattle.runners.specs.Ends.{AreReadersAt, IsReaderAt}
use Rattle.runners.proofs.Listed.{set-each, set-next, set-behind}

-- ---- where one reader changes

pub readers-set : (law : Meaning) (layout : Layout) (histories : List History) (x n j : ℕ)
    (readers : List Reader) (new : Reader) → j < length readers
    → AreReadersAt law layout histories x n readers → IsReaderAt law layout histories x j n new
    → AreReadersAt law layout histories x n (slice_set readers j new)
readers-set law layout histories x n j readers new inside all good = record {
  each = length-set readers j new ∙ all.each;
  reader = set-each (λ i r. IsReaderAt law layout histories x i n r) (sides_of layout law.mesh x) j
      readers new inside good all.reader;
}

-- and its reader was where it is set
pub reader-set : (law : Meaning) (layout : Layout) (histories : List History) (x n j : ℕ)
    (readers : List Reader) (d new : Reader) → j < length readers
    → ((m : ℕ) → IsReaderAt law layout histories x j m (slice_index_or readers j d)
    → IsReaderAt law layout histories x j m new)
    → AreReadersAt law layout histories x n readers
    → AreReadersAt law layout histories x n (slice_set readers j new)
reader-set law layout histories x n j readers d new inside kept all =
    readers-set law layout histories x n j readers new inside all
    (kept n (all.reader j d (subst (λ (k : ℕ). j < k) all.each inside)))

-- ---- one look

pub seen-ready : (old new : Reading) → new ≡ looked_view old new.seen → new.next < new.seen
    → HasSeen old new
seen-ready old new view ready = record {
  looked = view;
  ready = subst (λ (k : ℕ). k < new.seen) (ap (λ (y : Reading). y.next) view) ready;
}

pub seen-late : (old new : Reading) (n : ℕ) → new ≡ looked_view old new.seen → n ≡ new.seen
    → n ≤ new.next → (new ≡ looked_view old n) × (n ≤ old.next)
seen-late old new n view is low = (
  view ∙ ap (λ (k : ℕ). looked_view old k) (sym is),
  subst (λ (k : ℕ). n ≤ k) (ap (λ (y : Reading). y.next) view) low,
)

-- ---- looks in a row

pub none-seen : (readers : List Reader) → HaveSeen 0 readers readers
none-seen readers = record {
  each = refl;
  seen = λ j d e below. absurd (omega arith);
  rest = λ j d behind. refl;
}

-- a reader that looks was as at the start
pub was-untouched : (side : ℕ) (old now : List Reader) (d : Reader) → HaveSeen side old now
    → slice_index_or now side d ≡ slice_index_or old side d
was-untouched side old now d have = have.rest side d (omega arith)

pub one-seen : (side : ℕ) (old now : List Reader) (d0 new : Reader) → side < length now
    → HaveSeen side old now
    → HasSeen (reading (slice_index_or now side d0).seat) (reading new.seat)
    → HaveSeen (side + 1) old (slice_set now side new)
one-seen side old now d0 new inside have seen = record {
  each = length-set now side new ∙ have.each;
  seen = λ j d e below.
      set-next (λ i r. (k : Reader)
      → HasSeen (reading (slice_index_or old i k).seat) (reading r.seat))
      side now new inside
      (λ k. subst (λ (r : Reader). HasSeen (reading r.seat) (reading new.seat))
      (get_or_default now side d0 k inside ∙ was-untouched side old now k have) seen)
      (λ i m l k. have.seen i k m l) j e below d;
  rest = λ j d behind. set-behind side j now new d (omega arith) ∙ have.rest j d (omega arith);
}

-- the readers of a strand, where its number and the lists are told otherwise
pub readers-looked : (law : Meaning) (layout : Layout) (histories : List History) (x y n : ℕ)
    (first old last new : List Reader) → x ≡ y → first ≡ old → new ≡ last
    → ((m : ℕ) → AreReadersAt law layout histories x m first
    → AreReadersAt law layout histories x m last)
    → AreReadersAt law layout histories y n old → AreReadersAt law layout histories y n new
readers-looked law layout histories x y n first old last new same first_is last_is on at =
    subst (λ (k : ℕ). AreReadersAt law layout histories k n new) same
    (subst (AreReadersAt law layout histories x n) (sym last_is)
    (on n (subst (AreReadersAt law layout histories x n) (sym first_is)
    (subst (λ (k : ℕ). AreReadersAt law layout histories k n old) (sym same) at))))
