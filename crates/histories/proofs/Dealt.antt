-- How the readers that histories deal find their places.
use Rattle.std.specs.Prelude.{◌≡◌, ◌≢◌, ℕ, ◌+◌, ◌<◌, ◌⊎◌, List, [], ◌∷◌, ◌++◌, length, slice_index_or}
use Rattle.std.specs.Prelude.{All, map, Option, Some, None, IsSome}
use Rattle.std.specs.List.{range_with_len}
use Rattle.std.proofs.Common.{sym, ◌∙◌, ap, subst, arith, inl, inr, refl, get_or}
use Rattle.std.proofs.lemmas.List.{get_or-map, length-map}
use Rattle.std.proofs.lemmas.List.FromFn.{get_or-range_with_len}
use Rattle.case_model.specs.Meaning.{Meaning}
use Rattle.endhistory.specs.Seats.{IsNewReader, number_of}
use Rattle.endhistory.specs.declared.history.History.{History}
use Rattle.endhistory.specs.declared.history.Reader.{Reader}
use Rattle.endhistory.specs.declared.history.Writer.{Writer}
use Rattle.regions.specs.Sides.{AreMutual, back_of, side_of, sides_of}
use Rattle.regions.specs.declared.shapes.Layout.{Layout}
use Rattle.histories.specs.Blocks.{blocks_of_strand, sizes_at}
use Rattle.histories.specs.Dealing.{AreDealtOf, AreGiven, AreMade, AreTaken, AreWaiting, IsDealt, IsLater, IsTaken}
use Rattle.histories.specs.Opened.{AreOpened, AreReadersOf, IsFreshReader, IsFreshWriter}
use Rattle.histories.specs.declared.ends.Ends.{Ends}
use Rattle.histories.proofs.Pushed.{both-more, each-more, length-more}
use Rattle.std.specs.Global.{Vec}
use Rattle.std.proofs.lemmas.Bool.{cases_eq}

pub some-item : {X : Type 0} (xs : List X) → 0 < length xs → X
some-item [] some = absurd (omega arith)
some-item (x ∷ xs) some = x

-- ---- what `make` gives

pub given : (law : Meaning) (layout : Layout) (y n : ℕ) (history : History) (readers : List Reader)
    → n ≡ sides_of layout law.mesh y → length readers ≡ n
    → All (λ r. IsNewReader history.table.shared.table_id history.sizes
    (blocks_of_strand law layout y) r.seat) readers
    → map (λ r. number_of r.seat) readers ≡ range_with_len 0 n
    → AreGiven law layout y history readers
given law layout y n history readers sides count all numbers = record {
  each = count ∙ sides;
  reader = λ c r below.
      let number : Reader → ℕ = λ s. number_of s.seat in
      let inside : c < length readers = omega (arith, count, sides) in
      let new = all c r inside in
      record {
        of = record {
          at = new.at;
          blocks_are = new.blocks_are;
          number_is = sym (get_or-map number readers c r 0 inside)
              ∙ ap (λ (l : List ℕ). get_or l c 0) numbers
              ∙ get_or-range_with_len 0 n c 0 (omega (arith, count)) ∙ omega arith;
        };
        view = new.view;
      };
}

pub shelved : (law : Meaning) (layout : Layout) (y : ℕ) (history : History) (readers : List Reader)
    (places : List (Option Reader)) → places ≡ map Some readers
    → AreGiven law layout y history readers → AreDealtOf law layout y history places
shelved law layout y history [] places is all = record {
  each = ap (length {A = Option Reader}) is ∙ all.each;
  reader = λ c o below. absurd (omega (arith, below, all.each));
}
shelved law layout y history (r ∷ rs) places is all =
    let some : Reader → Option Reader = Some in
    record {
      each = ap (length {A = Option Reader}) is ∙ length-map (r ∷ rs) some ∙ all.each;
      reader = λ c o below.
          subst (IsDealt law layout y c history)
          (sym (ap (λ (l : List (Option Reader)). get_or l c o) is
          ∙ get_or-map some (r ∷ rs) c r o (omega (arith, below, all.each))))
          (all.reader c r below);
    }

-- ---- one strand more

pub made-none : (law : Meaning) (layout : Layout) (slots : ℕ) (histories : List History)
    (writers : List Writer) (dealt : List (Vec (Option Reader))) → histories ≡ [] → writers ≡ []
    → dealt ≡ [] → AreMade law layout slots 0 histories writers dealt
made-none law layout slots histories writers dealt hs ws ds = record {
  history_count = ap (length {A = History}) hs;
  sizes = λ y h below. absurd (omega arith);
  writer_count = ap (length {A = Writer}) ws;
  writers_are = λ y h w below. absurd (omega arith);
  dealt_count = ap (length {A = Vec (Option Reader)}) ds;
  counts = λ y d below. absurd (omega arith);
  dealt_are = λ y h d below. absurd (omega arith);
}

pub made-more : (law : Meaning) (layout : Layout) (slots n : ℕ) (hs hs' : List History)
    (ws ws' : List Writer) (ds ds' : List (Vec (Option Reader))) (h : History) (w : Writer)
    (d : Vec (Option Reader)) → AreMade law layout slots n hs ws ds
    → hs' ≡ hs ++ h ∷ [] → ws' ≡ ws ++ w ∷ [] → ds' ≡ ds ++ d ∷ []
    → h.sizes ≡ sizes_at layout law.mesh slots n → IsFreshWriter law layout n h w
    → AreDealtOf law layout n h d.items
    → AreMade law layout slots (n + 1) hs' ws' ds'
made-more law layout slots n hs hs' ws ws' ds ds' h w d all ish isw isd sized writer dealt = record {
  history_count = length-more n hs hs' h all.history_count ish;
  sizes = each-more (λ y history. history.sizes ≡ sizes_at layout law.mesh slots y) n hs hs' h
      all.history_count ish sized all.sizes;
  writer_count = length-more n ws ws' w all.writer_count isw;
  writers_are = both-more (IsFreshWriter law layout) n hs hs' h ws ws' w all.history_count ish
      all.writer_count isw writer all.writers_are;
  dealt_count = length-more n ds ds' d all.dealt_count isd;
  counts = each-more (λ y list. length list.items ≡ sides_of layout law.mesh y) n ds ds' d
      all.dealt_count isd dealt.each all.counts;
  dealt_are = both-more (λ y history list. AreDealtOf law layout y history list.items) n hs hs' h
      ds ds' d all.history_count ish all.dealt_count isd dealt all.dealt_are;
}

-- ---- taking

pub all-waiting : (law : Meaning) (layout : Layout) (slots : ℕ) (histories : List History)
    (writers : List Writer) (dealt : List (Vec (Option Reader)))
    → AreMade law layout slots (length layout.shapes) histories writers dealt
    → AreWaiting law layout histories 0 0 dealt
all-waiting law layout slots histories writers dealt made = record {
  histories_each = made.history_count;
  each = made.dealt_count;
  counts = made.counts;
  waiting = λ y c h d o there inside later. (made.dealt_are y h d there).reader c o inside;
}

pub next-waiting : (law : Meaning) (layout : Layout) (histories : List History) (x n : ℕ)
    (dealt : List (Vec (Option Reader))) → AreWaiting law layout histories x n dealt
    → AreWaiting law layout histories (x + 1) 0 dealt
next-waiting law layout histories x n dealt all = record {
  histories_each = all.histories_each;
  each = all.each;
  counts = all.counts;
  waiting = λ y c h d o there inside later. all.waiting y c h d o there inside
      (elim later [ inl l ↦ inl (omega arith) | inr l ↦ inl (omega arith) ]);
}

is-some : (o : Option Reader) (law : Meaning) (layout : Layout) (y c : ℕ) (history : History)
    → IsDealt law layout y c history o → IsSome o
is-some (Some r) law layout y c history dealt = refl
is-some None law layout y c history dealt = absurd dealt

-- the reader of side j of strand x hasn't been taken
module _ (law : Meaning) (layout : Layout) (histories : List History) (x j : ℕ)
    (dealt : List (Vec (Option Reader))) (mutual_sides : AreMutual layout law.mesh)
    (there : x < length layout.shapes) (side : j < sides_of layout law.mesh x)
    (all : AreWaiting law layout histories x j dealt) where
  its-turn : (h : History) (d : Vec (Option Reader)) (o : Option Reader)
      → IsDealt law layout (side_of layout law.mesh x j) (back_of layout law.mesh x j)
      (slice_index_or histories (side_of layout law.mesh x j) h)
      (slice_index_or (slice_index_or dealt (side_of layout law.mesh x j) d).items
      (back_of layout law.mesh x j) o)
  its-turn h d o =
      let twice = mutual_sides.twice x j there side in
      all.waiting (side_of layout law.mesh x j) (back_of layout law.mesh x j) h d o
      (mutual_sides.inside x j there side) (mutual_sides.index x j there side)
      (inr (sym (mutual_sides.again x j there side), omega arith))

  pub can-take : (h : History) (d : Vec (Option Reader)) (o : Option Reader)
      → IsSome (slice_index_or (slice_index_or dealt (side_of layout law.mesh x j) d).items
      (back_of layout law.mesh x j) o)
  can-take h d o =
      is-some (slice_index_or (slice_index_or dealt (side_of layout law.mesh x j) d).items
      (back_of layout law.mesh x j) o) law layout (side_of layout law.mesh x j)
      (back_of layout law.mesh x j) (slice_index_or histories (side_of layout law.mesh x j) h)
      (its-turn h d o)

  pub taken-is : (reader : Reader) (new : List (Vec (Option Reader)))
      → IsTaken (side_of layout law.mesh x j) (back_of layout law.mesh x j) reader dealt new
      → (h : History) (d : Vec (Option Reader))
      → IsFreshReader law layout (side_of layout law.mesh x j) (back_of layout law.mesh x j)
      (slice_index_or histories (side_of layout law.mesh x j) h) reader
  taken-is reader new taken h d =
      subst (IsDealt law layout (side_of layout law.mesh x j) (back_of layout law.mesh x j)
      (slice_index_or histories (side_of layout law.mesh x j) h)) (taken.was d None)
      (its-turn h d None)

  -- all others are still there
  not-taken : (y c : ℕ) → IsLater x (j + 1) (side_of layout law.mesh y c) (back_of layout law.mesh y c)
      → (y ≢ side_of layout law.mesh x j) ⊎ (c ≢ back_of layout law.mesh x j)
  not-taken y c later = elim (cases_eq y (side_of layout law.mesh x j)) [
    | inl e ↦ inr (λ f.
        let s : side_of layout law.mesh y c ≡ x =
        ap (λ (k : ℕ). side_of layout law.mesh k c) e
        ∙ ap (side_of layout law.mesh (side_of layout law.mesh x j)) f
        ∙ mutual_sides.again x j there side in
        let b : back_of layout law.mesh y c ≡ j =
        ap (λ (k : ℕ). back_of layout law.mesh k c) e
        ∙ ap (back_of layout law.mesh (side_of layout law.mesh x j)) f
        ∙ mutual_sides.twice x j there side in
        elim later [ inl l ↦ absurd (omega arith) | inr l ↦ absurd (omega arith) ])
    | inr n ↦ inl n
  ]

  pub still-waiting : (reader : Reader) (new : List (Vec (Option Reader)))
      → IsTaken (side_of layout law.mesh x j) (back_of layout law.mesh x j) reader dealt new
      → AreWaiting law layout histories x (j + 1) new
  still-waiting reader new taken = record {
    histories_each = all.histories_each;
    each = taken.each ∙ all.each;
    counts = λ y d inside. taken.counts y d (omega (arith, inside, all.each)) ∙ all.counts y d inside;
    waiting = λ y c h d o inside below later.
        subst (IsDealt law layout y c (slice_index_or histories y h))
        (sym (taken.others y c d o (omega (arith, inside, all.each)) (not-taken y c later)))
        (all.waiting y c h d o inside below
        (elim later [ inl l ↦ inl l | inr l ↦ inr (l.0, omega arith) ]));
  }

  -- the same where the neighbour and the number are told by their values
  module _ (b k : ℕ) (b_is : b ≡ side_of layout law.mesh x j) (k_is : k ≡ back_of layout law.mesh x j)
    where
      pub take-there : b < length dealt
      take-there = omega (arith, mutual_sides.inside x j there side, all.each, b_is)

      pub take-inside : (d : Vec (Option Reader)) → k < length (slice_index_or dealt b d).items
      take-inside d =
          let low : k < sides_of layout law.mesh b =
          subst (λ (y : ℕ). k < sides_of layout law.mesh y) (sym b_is)
          (omega (arith, k_is, mutual_sides.index x j there side)) in
          let inside : b < length layout.shapes =
          omega (arith, b_is, mutual_sides.inside x j there side) in
          omega (arith, low, all.counts b d inside)

      pub take-some : (d : Vec (Option Reader)) (o : Option Reader)
          → IsSome (slice_index_or (slice_index_or dealt b d).items k o)
      take-some d o =
          let h : History = some-item histories (omega (arith, all.histories_each, there)) in
          subst (λ (y : ℕ). IsSome (slice_index_or (slice_index_or dealt y d).items k o)) (sym b_is)
          (subst (λ (c : ℕ). IsSome (slice_index_or (slice_index_or dealt
          (side_of layout law.mesh x j) d).items c o)) (sym k_is) (can-take h d o))

      taken-so : (reader : Reader) (new : List (Vec (Option Reader))) → IsTaken b k reader dealt new
          → IsTaken (side_of layout law.mesh x j) (back_of layout law.mesh x j) reader dealt new
      taken-so reader new taken =
          subst (λ (y : ℕ). IsTaken y (back_of layout law.mesh x j) reader dealt new) b_is
          (subst (λ (c : ℕ). IsTaken b c reader dealt new) k_is taken)

      pub took : (reader : Reader) (new : List (Vec (Option Reader))) → IsTaken b k reader dealt new
          → (h : History)
          → IsFreshReader law layout (side_of layout law.mesh x j) (back_of layout law.mesh x j)
          (slice_index_or histories (side_of layout law.mesh x j) h) reader
      took reader new taken h =
          taken-is reader new (taken-so reader new taken) h
          (some-item dealt (omega (arith, all.each, there)))

      pub waits-on : (reader : Reader) (new : List (Vec (Option Reader))) → IsTaken b k reader dealt new
          → AreWaiting law layout histories x (j + 1) new
      waits-on reader new taken = still-waiting reader new (taken-so reader new taken)

-- ---- the readers of a strand, and of all strands

pub reader-more : (law : Meaning) (layout : Layout) (histories : List History) (x j : ℕ)
    (readers more : List Reader) (reader : Reader)
    → AreReadersOf law layout histories x j readers → more ≡ readers ++ reader ∷ []
    → ((h : History) → IsFreshReader law layout (side_of layout law.mesh x j)
    (back_of layout law.mesh x j) (slice_index_or histories (side_of layout law.mesh x j) h) reader)
    → AreReadersOf law layout histories x (j + 1) more
reader-more law layout histories x j readers more reader all is new =
    let P : ℕ → Reader → Type 0 = λ i r. (h : History) → IsFreshReader law layout
    (side_of layout law.mesh x i) (back_of layout law.mesh x i)
    (slice_index_or histories (side_of layout law.mesh x i) h) r in
    record {
      each = length-more j readers more reader all.each is;
      reader = λ i h r below. each-more P j readers more reader all.each is new
          (λ k d l g. all.reader k g d l) i r below h;
    }

pub strand-more : (law : Meaning) (layout : Layout) (histories : List History) (x : ℕ)
    (lists more : List (Vec Reader)) (list : Vec Reader)
    → AreTaken law layout histories x lists → more ≡ lists ++ list ∷ []
    → AreReadersOf law layout histories x (sides_of layout law.mesh x) list.items
    → AreTaken law layout histories (x + 1) more
strand-more law layout histories x lists more list all is new = record {
  each = length-more x lists more list all.each is;
  readers_are = each-more (λ i l. AreReadersOf law layout histories i (sides_of layout law.mesh i)
      l.items) x lists more list all.each is new all.readers_are;
}

-- all that was opened
pub opened : (law : Meaning) (layout : Layout) (slots : ℕ) (ends : Ends)
    (dealt : List (Vec (Option Reader)))
    → AreMade law layout slots (length layout.shapes) ends.histories.items ends.writers.items dealt
    → AreTaken law layout ends.histories.items (length layout.shapes) ends.readers.items
    → AreOpened law layout slots ends
opened law layout slots ends dealt made taken = record {
  histories = record { each = made.history_count; sizes = made.sizes };
  writer_count = made.writer_count;
  writers = made.writers_are;
  reader_count = taken.each;
  readers = taken.readers_are;
}
