-- A step of one seat keeps the rule where it keeps the six parts. And the splits that deal the seats keep it.
use Rattle.std.proofs.Common.{◌≡◌, ◌≢◌, ◌⊎◌, ℕ, zero, suc, ◌+◌, ◌<◌, ◌≤◌, List, [], ◌∷◌, ◌++◌, length, replicate, set, sym, refl, ap, ◌∙◌, inl, inr, ⊎_elim, subst, arith}
use mathlib.Core.Option.{some, some-injective, some-ne-none}
use lib.ListN.{get_elem?}
use Rattle.std.proofs.lemmas.List.{length-set, length-replicate, get_or-replicate}
use Rattle.atomic_table.specs.Table.{State, Splits, opening}
use Rattle.atomic_table.proofs.Lists.{at_set}
use Rattle.endhistory.specs.declared.views.Sizes.{Sizes}
use Rattle.endhistory.specs.declared.views.Writing.{Writing}
use Rattle.endhistory.specs.declared.views.Reading.{Reading}
use Rattle.endhistory.specs.declared.views.Role.{Role}
use Rattle.endhistory.specs.declared.views.Role.TheVariants.{Unopened, Nobody, AsWriter, AsReader}
use Rattle.endhistory.specs.declared.views.View.{View}
use Rattle.endhistory.specs.Blocks.{Blocks, word_count}
use Rattle.endhistory.specs.Rule.{Parts, Knows, Bounded, start_writing, start_reading}
use Rattle.endhistory.specs.Tells.{in_role, first_view, opened, writer_view}
use Rattle.endhistory.proofs.Functions.{put, put_here, put_else}

abbrev pub St : Type 0
St = State (Unit {0}) View

seats_stay : (K : ℕ → View → Type 0) (vs : List View) (me : ℕ) (v : View) → K me v → ((j : ℕ) (d : View) → j ≢ me → get_elem? vs j ≡ some d → K j d)
    → (j : ℕ) (d : View) → get_elem? (set vs me v) j ≡ some d → K j d
seats_stay K vs me v mine others j d e = ⊎_elim
    (λ (t : (j ≡ me) × (v ≡ d)). subst (λ (x : ℕ × View). K x.0 x.1) (λ i. (sym t.0 i, t.1 i)) mine)
    (λ (t : (j ≢ me) × (get_elem? vs j ≡ some d)). others j d t.0 t.1)
    (at_set vs me j v d e)

at_new : {A : Type 0} (l : List A) (a b : A) (j : ℕ) → get_elem? (l ++ a ∷ []) j ≡ some b → (get_elem? l j ≡ some b) ⊎ ((j ≡ length l) × (a ≡ b))
at_new [] a b zero e = inr (refl, some-injective a b e)
at_new [] a b (suc j) e = absurd (some-ne-none b (sym e))
at_new (x ∷ xs) a b zero e = inl e
at_new (x ∷ xs) a b (suc j) e = ⊎_elim inl (λ t. inr (ap suc t.0, t.1)) (at_new xs a b j e)

seats_split : (K : ℕ → View → Type 0) (vs : List View) (me : ℕ) (left right : View) → K me left → K (length vs) right → ((j : ℕ) (d : View) → j ≢ me → get_elem? vs j ≡ some d → K j d)
    → (j : ℕ) (d : View) → get_elem? (set vs me left ++ right ∷ []) j ≡ some d → K j d
seats_split K vs me left right mine new others j d e = ⊎_elim
    (seats_stay K vs me left mine others j d)
    (λ (t : (j ≡ length (set vs me left)) × (right ≡ d)). subst (λ (x : ℕ × View). K x.0 x.1) (λ i. (sym (t.0 ∙ length-set vs me left) i, t.1 i)) new)
    (at_new (set vs me left) right d j e)

one_view : (K : ℕ → View → Type 0) (v : View) → K 0 v → (j : ℕ) (d : View) → get_elem? (v ∷ []) j ≡ some d → K j d
one_view K v k zero d e = subst (K 0) (some-injective v d e) k
one_view K v k (suc j) d e = absurd (some-ne-none d (sym e))

module _ (z : Sizes) where
  -- what the seats that take no part in a step know
  beside_writer : (dealt dealer writer : ℕ) (w w' : Writing) (seat_of : ℕ → ℕ) (reading : ℕ → Reading) (j : ℕ) → j ≢ writer → (role : Role)
      → Knows z dealt dealer writer w seat_of reading j role → Knows z dealt dealer writer w' seat_of reading j role
  beside_writer dealt dealer writer w w' seat_of reading j other Unopened k = k
  beside_writer dealt dealer writer w w' seat_of reading j other (Nobody d) k = k
  beside_writer dealt dealer writer w w' seat_of reading j other (AsWriter v) k = absurd (other k.2)
  beside_writer dealt dealer writer w w' seat_of reading j other (AsReader r y) k = k

  beside_reader : (dealt dealer writer : ℕ) (w : Writing) (seat_of : ℕ → ℕ) (reading : ℕ → Reading) (i : ℕ) (y' : Reading) (j : ℕ) → j ≢ seat_of i → (role : Role)
      → Knows z dealt dealer writer w seat_of reading j role → Knows z dealt dealer writer w seat_of (put reading i y') j role
  beside_reader dealt dealer writer w seat_of reading i y' j other Unopened k = k
  beside_reader dealt dealer writer w seat_of reading i y' j other (Nobody d) k = k
  beside_reader dealt dealer writer w seat_of reading i y' j other (AsWriter v) k = k
  beside_reader dealt dealer writer w seat_of reading i y' j other (AsReader r y) k =
      (k.0, k.1, k.2 ∙ sym (put_else reading i y' r (λ e. other (k.3 ∙ ap seat_of e))), k.3)

  module _ (s : St) (r : Bounded z s) (id : ℕ) (v : View) where
    abbrev Known : Role → Type 0
    Known = Knows z r.dealt r.dealer r.writer r.writing r.seat_of r.reading id

    pub writer_knows : (w : Writing) → get_elem? s.views id ≡ some v → v.role ≡ AsWriter w → (0 < r.dealt) × (w ≡ r.writing) × (id ≡ r.writer)
    writer_knows w at is = subst Known is (r.each_seat id v at)

    pub reader_knows : (i : ℕ) (y : Reading) → get_elem? s.views id ≡ some v → v.role ≡ AsReader i y → (i < z.readers) × (i + 1 < r.dealt) × (y ≡ r.reading i) × (id ≡ r.seat_of i)
    reader_knows i y at is = subst Known is (r.each_seat id v at)

    -- the six parts, in the words of the seat that steps
    pub writer_parts : (w : Writing) → get_elem? s.views id ≡ some v → v.role ≡ AsWriter w → Parts z v.blocks s.words w r.reading
    writer_parts w at is = let k = writer_knows w at is in
        subst (λ (t : Blocks × Writing). Parts z t.0 s.words t.1 r.reading) (λ i. (sym (r.same_blocks k.0 id v at) i, sym k.1 i)) r.parts

    pub reader_parts : (i : ℕ) (y : Reading) → get_elem? s.views id ≡ some v → v.role ≡ AsReader i y → Parts z v.blocks s.words r.writing r.reading
    reader_parts i y at is = let k = reader_knows i y at is in
        subst (λ (b : Blocks). Parts z b s.words r.writing r.reading) (sym (r.same_blocks (omega (arith, k.1)) id v at)) r.parts

    pub writer_step : (w w' : Writing) (words' : List ℕ) → get_elem? s.views id ≡ some v → v.role ≡ AsWriter w → length words' ≡ length s.words → Parts z v.blocks words' w' r.reading
        → Bounded z record { words = words'; homes = s.homes; views = set s.views id (in_role v (AsWriter w')) }
    writer_step w w' words' at is wide p = let k = writer_knows w at is in record {
      blocks = r.blocks;
      dealt = r.dealt;
      dealer = r.dealer;
      writer = r.writer;
      writing = w';
      seat_of = r.seat_of;
      reading = r.reading;
      sized = r.sized;
      wide = wide ∙ r.wide;
      parts = subst (λ (b : Blocks). Parts z b words' w' r.reading) (r.same_blocks k.0 id v at) p;
      same_blocks = λ some_dealt. seats_stay (λ j d. d.blocks ≡ r.blocks) s.views id (in_role v (AsWriter w')) (r.same_blocks some_dealt id v at) (λ j d _ e. r.same_blocks some_dealt j d e);
      same_sizes = seats_stay (λ j d. d.sizes ≡ z) s.views id (in_role v (AsWriter w')) (r.same_sizes id v at) (λ j d _ e. r.same_sizes j d e);
      each_seat = seats_stay (λ j d. Knows z r.dealt r.dealer r.writer w' r.seat_of r.reading j d.role) s.views id (in_role v (AsWriter w')) (k.0, refl, k.2)
          (λ j d other e. beside_writer r.dealt r.dealer r.writer r.writing w' r.seat_of r.reading j (λ same. other (same ∙ sym k.2)) d.role (r.each_seat j d e));
      fresh = λ none_dealt. absurd (omega (arith, k.0));
      waiting = r.waiting;
    }

    pub reader_step : (i : ℕ) (y y' : Reading) (words' : List ℕ) → get_elem? s.views id ≡ some v → v.role ≡ AsReader i y → length words' ≡ length s.words → Parts z v.blocks words' r.writing (put r.reading i y')
        → Bounded z record { words = words'; homes = s.homes; views = set s.views id (in_role v (AsReader i y')) }
    reader_step i y y' words' at is wide p = let k = reader_knows i y at is in record {
      blocks = r.blocks;
      dealt = r.dealt;
      dealer = r.dealer;
      writer = r.writer;
      writing = r.writing;
      seat_of = r.seat_of;
      reading = put r.reading i y';
      sized = r.sized;
      wide = wide ∙ r.wide;
      parts = subst (λ (b : Blocks). Parts z b words' r.writing (put r.reading i y')) (r.same_blocks (omega (arith, k.1)) id v at) p;
      same_blocks = λ some_dealt. seats_stay (λ j d. d.blocks ≡ r.blocks) s.views id (in_role v (AsReader i y')) (r.same_blocks some_dealt id v at) (λ j d _ e. r.same_blocks some_dealt j d e);
      same_sizes = seats_stay (λ j d. d.sizes ≡ z) s.views id (in_role v (AsReader i y')) (r.same_sizes id v at) (λ j d _ e. r.same_sizes j d e);
      each_seat = seats_stay (λ j d. Knows z r.dealt r.dealer r.writer r.writing r.seat_of (put r.reading i y') j d.role) s.views id (in_role v (AsReader i y'))
          (k.0, k.1, sym (put_here r.reading i y'), k.3)
          (λ j d other e. beside_reader r.dealt r.dealer r.writer r.writing r.seat_of r.reading i y' j (λ same. other (same ∙ sym k.3)) d.role (r.each_seat j d e));
      fresh = r.fresh;
      waiting = λ n late. put_else r.reading i y' n (λ e. omega (arith, k.1)) ∙ r.waiting n late;
    }

  -- before the writer's seat is split off there is no second seat
  alone : (dealer writer : ℕ) (w : Writing) (seat_of : ℕ → ℕ) (reading : ℕ → Reading) (j : ℕ) (dealt : ℕ) → dealt ≡ 0 → (role : Role)
      → Knows z dealt dealer writer w seat_of reading j role → j ≡ dealer
  alone dealer writer w seat_of reading j dealt none_dealt Unopened k = k.1
  alone dealer writer w seat_of reading j dealt none_dealt (Nobody d) k = k.1
  alone dealer writer w seat_of reading j dealt none_dealt (AsWriter v) k = absurd (let a = k.0 in omega arith)
  alone dealer writer w seat_of reading j dealt none_dealt (AsReader r y) k = absurd (let a = k.1 in omega arith)

  -- the six parts at the start, over any list of blocks
  start_parts : (blocks blocks' : Blocks) (words : List ℕ) (w : Writing) (reading : ℕ → Reading) → w ≡ start_writing z → Parts z blocks words w reading → Parts z blocks' words (start_writing z) reading
  start_parts blocks blocks' words w reading is p = let q : Parts z blocks words (start_writing z) reading = subst (λ (v : Writing). Parts z blocks words v reading) is p in record {
    published = q.published;
    within = omega arith;
    passed = q.passed;
    behind = q.behind;
    window = q.window;
    known = q.known;
    each_known = q.each_known;
    filling = λ l. absurd (omega arith);
    seen = q.seen;
    taking = q.taking;
    stored = λ c l. absurd (omega arith);
    begun = λ i l. absurd (omega arith);
  }

  pub adds_writer : (id : ℕ) (v : View) (blocks : Blocks) → v.role ≡ Unopened → Splits (Bounded z) id v (opened blocks v) (writer_view blocks v)
  adds_writer id v blocks is s r at =
      let k : (r.dealt ≡ 0) × (id ≡ r.dealer) = subst (Knows z r.dealt r.dealer r.writer r.writing r.seat_of r.reading id) is (r.each_seat id v at) in
      let only : (j : ℕ) (d : View) → j ≢ id → get_elem? s.views j ≡ some d → ⊥ =
      λ j d other e. other (alone r.dealer r.writer r.writing r.seat_of r.reading j r.dealt k.0 d.role (r.each_seat j d e) ∙ sym k.1) in
      record {
        blocks = blocks;
        dealt = 1;
        dealer = id;
        writer = length s.views;
        writing = start_writing z;
        seat_of = r.seat_of;
        reading = r.reading;
        sized = r.sized;
        wide = r.wide;
        parts = start_parts r.blocks blocks s.words r.writing r.reading (r.fresh k.0) r.parts;
        same_blocks = λ _. seats_split (λ j d. d.blocks ≡ blocks) s.views id (opened blocks v) (writer_view blocks v) refl refl (λ j d other e. absurd (only j d other e));
        same_sizes = seats_split (λ j d. d.sizes ≡ z) s.views id (opened blocks v) (writer_view blocks v) (r.same_sizes id v at) (r.same_sizes id v at) (λ j d other e. absurd (only j d other e));
        each_seat = seats_split (λ j d. Knows z 1 id (length s.views) (start_writing z) r.seat_of r.reading j d.role) s.views id (opened blocks v) (writer_view blocks v)
            (refl, refl) (omega arith, ap start_writing (r.same_sizes id v at), refl) (λ j d other e. absurd (only j d other e));
        fresh = λ e. absurd (omega arith);
        waiting = λ n late. r.waiting n (let e = k.0 in omega arith);
      }

  beside_dealer : (dealt dealer writer : ℕ) (w : Writing) (seat_of : ℕ → ℕ) (reading : ℕ → Reading) (n d : ℕ) (j : ℕ) → j ≢ dealer → dealt ≡ d + 1 → (role : Role)
      → Knows z dealt dealer writer w seat_of reading j role → Knows z (dealt + 1) dealer writer w (put seat_of d n) reading j role
  beside_dealer dealt dealer writer w seat_of reading n d j other is Unopened k = absurd (other k.1)
  beside_dealer dealt dealer writer w seat_of reading n d j other is (Nobody c) k = absurd (other k.1)
  beside_dealer dealt dealer writer w seat_of reading n d j other is (AsWriter v) k = (omega arith, k.1, k.2)
  beside_dealer dealt dealer writer w seat_of reading n d j other is (AsReader r y) k = let l = k.1 in
      (k.0, omega arith, k.2, k.3 ∙ sym (put_else seat_of d n r (λ e. omega arith)))

  pub adds_reader : (id : ℕ) (v : View) (d : ℕ) → v.role ≡ Nobody d → d < v.sizes.readers → Splits (Bounded z) id v (in_role v (Nobody (d + 1))) (in_role v (AsReader d start_reading))
  adds_reader id v d is room s r at =
      let k : (r.dealt ≡ d + 1) × (id ≡ r.dealer) = subst (Knows z r.dealt r.dealer r.writer r.writing r.seat_of r.reading id) is (r.each_seat id v at) in
      let count : r.dealt ≡ d + 1 = k.0 in
      let inside : d < z.readers = subst (λ (x : Sizes). d < x.readers) (r.same_sizes id v at) room in
      record {
        blocks = r.blocks;
        dealt = r.dealt + 1;
        dealer = r.dealer;
        writer = r.writer;
        writing = r.writing;
        seat_of = put r.seat_of d (length s.views);
        reading = r.reading;
        sized = r.sized;
        wide = r.wide;
        parts = r.parts;
        same_blocks = λ _. let same = r.same_blocks (omega arith) in
            seats_split (λ j u. u.blocks ≡ r.blocks) s.views id (in_role v (Nobody (d + 1))) (in_role v (AsReader d start_reading)) (same id v at) (same id v at) (λ j u _ e. same j u e);
        same_sizes = seats_split (λ j u. u.sizes ≡ z) s.views id (in_role v (Nobody (d + 1))) (in_role v (AsReader d start_reading)) (r.same_sizes id v at) (r.same_sizes id v at) (λ j u _ e. r.same_sizes j u e);
        each_seat = seats_split (λ j u. Knows z (r.dealt + 1) r.dealer r.writer r.writing (put r.seat_of d (length s.views)) r.reading j u.role) s.views id (in_role v (Nobody (d + 1))) (in_role v (AsReader d start_reading))
            (ap (λ (x : ℕ). x + 1) count, k.1)
            (inside, omega arith, sym (r.waiting d (omega arith)), sym (put_here r.seat_of d (length s.views)))
            (λ j u other e. beside_dealer r.dealt r.dealer r.writer r.writing r.seat_of r.reading (length s.views) d j (λ same. other (same ∙ sym k.1)) count u.role (r.each_seat j u e));
        fresh = λ e. absurd (omega arith);
        waiting = λ n late. r.waiting n (omega arith);
      }

  pub starts : 0 < z.slots → 0 < z.width → Bounded z (opening (replicate (word_count z) 0) [] (first_view z))
  starts some_slots some_width = record {
    blocks = [];
    dealt = 0;
    dealer = 0;
    writer = 0;
    writing = start_writing z;
    seat_of = λ _. 0;
    reading = λ _. start_reading;
    sized = (some_slots, some_width);
    wide = length-replicate (word_count z) 0;
    parts = record {
      published = get_or-replicate (word_count z) 0 0 0 (omega arith);
      within = omega arith;
      passed = λ r l. get_or-replicate (word_count z) (1 + r) 0 0 (omega arith);
      behind = λ r l. omega arith;
      window = λ r l. omega arith;
      known = λ r l. subst (λ (x : ℕ). x ≤ 0) (sym (get_or-replicate z.readers r 0 0 l)) (omega arith);
      each_known = length-replicate z.readers 0;
      filling = λ l. absurd (omega arith);
      seen = λ r l. omega arith;
      taking = λ r l t. absurd (omega arith);
      stored = λ c l. absurd (omega arith);
      begun = λ i l. absurd (omega arith);
    };
    same_blocks = λ l. absurd (omega arith);
    same_sizes = one_view (λ j d. d.sizes ≡ z) (first_view z) refl;
    each_seat = one_view (λ j d. Knows z 0 0 0 (start_writing z) (λ _. 0) (λ _. start_reading) j d.role) (first_view z) (refl, refl);
    fresh = λ _. refl;
    waiting = λ r l. refl;
  }
