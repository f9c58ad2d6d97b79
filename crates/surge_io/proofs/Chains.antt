-- Calls that write, one behind the other.
use Rattle.std.proofs.Common.{◌≡◌, ℕ, zero, suc, ◌+◌, ◌-◌, ◌<◌, ◌≤◌, inl, inr, List, [], ◌∷◌, ◌++◌, length, take, drop, get_or, Option, Result, Ok, Err, refl, sym, ap, ◌∙◌, subst, append_assoc, append-nil, arith}
use Rattle.std.specs.Prelude.{IsErr}
use Rattle.std.specs.List.{flat_map, range_with_len}
use Rattle.std.proofs.lemmas.Grind.{flat_map-append}
use Rattle.std.proofs.lemmas.List.{take_all, take_more, take-append-drop}
use Rattle.surge_io.specs.Faults.{Rose}
use Rattle.surge_io.specs.Bytes.{AppendsFront}
use Rattle.surge_io.specs.Pages.{Adds, AddsFront, Passes}
use Rattle.surge_io.specs.Writings.{IsAdded, IsFinished, IsWritten}
use Rattle.surge_io.proofs.Passing.{Adds-nothing, Adds-then, AddsFront-then, AddsFront-more, adds_front, adds_nothing, adds_written, finishes_all, finishes_front}

rose_since : (before mid now : ℕ) → before ≤ mid → Rose mid now → Rose before now
rose_since before mid now le (inl h) = inl (omega arith)
rose_since before mid now le (inr h) = inr h

-- ---- texts through a page

-- all of a text has been added
pub record HasAdded {K : Type 0} (held : K → Option (List ℕ)) (faults : K → ℕ) (before : K) (waiting : List ℕ) (now : K) (still text : List ℕ) : Type 0 where
  pub added : Adds (held before) waiting (held now) still text
  pub later : faults before ≤ faults now

pub none_added : {K : Type 0} {held : K → Option (List ℕ)} {faults : K → ℕ} (sink : K) (waiting : List ℕ) → HasAdded held faults sink waiting sink waiting []
none_added {K = K} {held = held} sink waiting = record { added = Adds-nothing (held sink) waiting; later = omega arith }

-- a call that ended well
pub has_added : {K T E : Type 0} {held : K → Option (List ℕ)} {faults : K → ℕ} {value : T} {before now : K} {waiting still text : List ℕ}
    → IsAdded {K = K} {T = T} {E = E} held faults (Ok value) before waiting now still text → HasAdded held faults before waiting now still text
has_added h = record { added = h.all; later = h.later }

pub all_added : {K T E : Type 0} {held : K → Option (List ℕ)} {faults : K → ℕ} {before now : K} {waiting still text : List ℕ} (value : T)
    → HasAdded held faults before waiting now still text → IsAdded {K = K} {T = T} {E = E} held faults (Ok value) before waiting now still text
all_added value h = record { all = h.added; front = tt; cause = tt; later = h.later }

-- a text behind what was added first
pub then_added : {K T E : Type 0} {held : K → Option (List ℕ)} {faults : K → ℕ} {result : Result T E} {before mid now : K} {waiting between still first next whole : List ℕ} → first ++ next ≡ whole
    → HasAdded held faults before waiting mid between first → IsAdded held faults result mid between now still next → IsAdded held faults result before waiting now still whole
then_added {K = K} {T = T} {E = E} {held = held} {faults = faults} {result = Ok value} {before = before} {mid = mid} {now = now} {waiting = waiting} {between = between} {still = still} {first = first} {next = next} {whole = whole} e h k = record {
  all = subst (λ (text : List ℕ). Adds (held before) waiting (held now) still text) e (Adds-then (held before) (held mid) (held now) waiting between still first next h.added k.all);
  front = tt;
  cause = tt;
  later = omega (arith, h.later, k.later);
}
then_added {K = K} {T = T} {E = E} {held = held} {faults = faults} {result = Err error} {before = before} {mid = mid} {now = now} {waiting = waiting} {between = between} {still = still} {first = first} {next = next} {whole = whole} e h k = record {
  all = tt;
  front = subst (λ (text : List ℕ). AddsFront (held before) waiting (held now) text) (append-nil (first ++ next) ∙ e) (AddsFront-then (held before) (held mid) (held now) waiting between first next [] h.added k.front);
  cause = rose_since (faults before) (faults mid) (faults now) h.later k.cause;
  later = omega (arith, h.later, k.later);
}

-- no text comes behind one that failed
pub stopped : {K T E U F : Type 0} {held : K → Option (List ℕ)} {faults : K → ℕ} {error : E} {other : Result U F} {before now : K} {waiting still left first whole : List ℕ} (rest : List ℕ) → first ++ rest ≡ whole → IsErr other
    → IsAdded {K = K} {T = T} {E = E} held faults (Err error) before waiting now still first → IsAdded held faults other before waiting now left whole
stopped {other = Ok value} rest e is h = absurd (grind arith)
stopped {held = held} {other = Err fault} {before = before} {now = now} {waiting = waiting} {first = first} rest e is h = record {
  all = tt;
  front = subst (λ (text : List ℕ). AddsFront (held before) waiting (held now) text) e (AddsFront-more (held before) (held now) waiting first rest h.front);
  cause = h.cause;
  later = h.later;
}

-- ---- the texts of the items of a list

items_next : {X : Type 0} (f : X → List ℕ) (xs : List X) (k : ℕ) (d : X) → k < length xs → flat_map f (take k xs) ++ f (get_or xs k d) ≡ flat_map f (take (k + 1) xs)
items_next f xs k d h =
    sym (ap (flat_map f) (take_more xs k d h) ∙ flat_map-append f (take k xs) (get_or xs k d ∷ []) ∙ ap (λ l. flat_map f (take k xs) ++ l) (append-nil (f (get_or xs k d))))

items_around : {X : Type 0} (f : X → List ℕ) (xs : List X) (k : ℕ) (d : X) → k < length xs → (flat_map f (take k xs) ++ f (get_or xs k d)) ++ flat_map f (drop (k + 1) xs) ≡ flat_map f xs
items_around f xs k d h =
    ap (λ l. l ++ flat_map f (drop (k + 1) xs)) (items_next f xs k d h) ∙ sym (flat_map-append f (take (k + 1) xs) (drop (k + 1) xs)) ∙ ap (flat_map f) (take-append-drop (k + 1) xs)

pub next_item : {K T E X : Type 0} {held : K → Option (List ℕ)} {faults : K → ℕ} {value : T} {before mid now : K} {waiting between still text : List ℕ} (f : X → List ℕ) (xs : List X) (k : ℕ) (d : X)
    → k < length xs → text ≡ f (get_or xs k d) → HasAdded held faults before waiting mid between (flat_map f (take k xs)) → IsAdded {K = K} {T = T} {E = E} held faults (Ok value) mid between now still text
    → HasAdded held faults before waiting now still (flat_map f (take (k + 1) xs))
next_item f xs k d h e p q = has_added (then_added (ap (λ l. flat_map f (take k xs) ++ l) e ∙ items_next f xs k d h) p q)

pub stopped_item : {K T E U F X : Type 0} {held : K → Option (List ℕ)} {faults : K → ℕ} {error : E} {other : Result U F} {before mid now : K} {waiting between still left text : List ℕ} (f : X → List ℕ) (xs : List X) (k : ℕ) (d : X)
    → k < length xs → text ≡ f (get_or xs k d) → IsErr other → HasAdded held faults before waiting mid between (flat_map f (take k xs)) → IsAdded {K = K} {T = T} {E = E} held faults (Err error) mid between now still text
    → IsAdded held faults other before waiting now left (flat_map f xs)
stopped_item f xs k d h e is p q = stopped (flat_map f (drop (k + 1) xs)) (items_around f xs k d h) is (then_added (ap (λ l. flat_map f (take k xs) ++ l) e) p q)

pub all_items : {K T E X : Type 0} {held : K → Option (List ℕ)} {faults : K → ℕ} {value : T} {before now : K} {waiting still : List ℕ} (f : X → List ℕ) (xs : List X) (k : ℕ)
    → length xs ≤ k → HasAdded held faults before waiting now still (flat_map f (take k xs)) → IsAdded {K = K} {T = T} {E = E} held faults (Ok value) before waiting now still (flat_map f xs)
all_items {K = K} {T = T} {E = E} {X = X} {held = held} {faults = faults} {value = value} {before = before} {now = now} {waiting = waiting} {still = still} f xs k h p =
    all_added value (subst (λ (text : List ℕ). HasAdded held faults before waiting now still text) (ap (flat_map f) (take_all k xs h)) p)

-- ---- the texts of the first indexes

-- the texts of the first n indexes and of the others
indexes_cut : (f : ℕ → List ℕ) (a n m : ℕ) → flat_map f (range_with_len a (n + m)) ≡ flat_map f (range_with_len a n) ++ flat_map f (range_with_len (a + n) m)
indexes_cut f a zero m = let e : zero + m ≡ m = omega arith in let d : a + zero ≡ a = omega arith in rw (e, d) refl
indexes_cut f a (suc n) m =
    let e : suc n + m ≡ suc (n + m) = omega arith in
    let d : (a + 1) + n ≡ a + suc n = omega arith in
    rw (e, ← d, indexes_cut f (a + 1) n m) (sym (append_assoc (f a) (flat_map f (range_with_len (a + 1) n)) (flat_map f (range_with_len ((a + 1) + n) m))))

indexes_next : (f : ℕ → List ℕ) (k : ℕ) → flat_map f (range_with_len 0 k) ++ f k ≡ flat_map f (range_with_len 0 (k + 1))
indexes_next f k =
    let e : 0 + k ≡ k = omega arith in
    sym (indexes_cut f 0 k 1 ∙ ap (λ l. flat_map f (range_with_len 0 k) ++ l) (append-nil (f (0 + k)) ∙ ap f e))

indexes_around : (f : ℕ → List ℕ) (k n : ℕ) → k < n → (flat_map f (range_with_len 0 k) ++ f k) ++ flat_map f (range_with_len (0 + (k + 1)) (n - (k + 1))) ≡ flat_map f (range_with_len 0 n)
indexes_around f k n h =
    let e : n ≡ (k + 1) + (n - (k + 1)) = omega arith in
    ap (λ l. l ++ flat_map f (range_with_len (0 + (k + 1)) (n - (k + 1)))) (indexes_next f k)
    ∙ sym (indexes_cut f 0 (k + 1) (n - (k + 1)))
    ∙ sym (ap (λ m. flat_map f (range_with_len 0 m)) e)

pub next_index : {K T E : Type 0} {held : K → Option (List ℕ)} {faults : K → ℕ} {value : T} {before mid now : K} {waiting between still text : List ℕ} (f : ℕ → List ℕ) (k : ℕ)
    → text ≡ f k → HasAdded held faults before waiting mid between (flat_map f (range_with_len 0 k)) → IsAdded {K = K} {T = T} {E = E} held faults (Ok value) mid between now still text
    → HasAdded held faults before waiting now still (flat_map f (range_with_len 0 (k + 1)))
next_index f k e p q = has_added (then_added (ap (λ l. flat_map f (range_with_len 0 k) ++ l) e ∙ indexes_next f k) p q)

pub stopped_index : {K T E U F : Type 0} {held : K → Option (List ℕ)} {faults : K → ℕ} {error : E} {other : Result U F} {before mid now : K} {waiting between still left text : List ℕ} (f : ℕ → List ℕ) (k n : ℕ)
    → k < n → text ≡ f k → IsErr other → HasAdded held faults before waiting mid between (flat_map f (range_with_len 0 k)) → IsAdded {K = K} {T = T} {E = E} held faults (Err error) mid between now still text
    → IsAdded held faults other before waiting now left (flat_map f (range_with_len 0 n))
stopped_index f k n h e is p q = stopped (flat_map f (range_with_len (0 + (k + 1)) (n - (k + 1)))) (indexes_around f k n h) is (then_added (ap (λ l. flat_map f (range_with_len 0 k) ++ l) e) p q)

pub all_indexes : {K T E : Type 0} {held : K → Option (List ℕ)} {faults : K → ℕ} {value : T} {before now : K} {waiting still : List ℕ} (f : ℕ → List ℕ) (k n : ℕ)
    → k ≡ n → HasAdded held faults before waiting now still (flat_map f (range_with_len 0 k)) → IsAdded {K = K} {T = T} {E = E} held faults (Ok value) before waiting now still (flat_map f (range_with_len 0 n))
all_indexes {K = K} {T = T} {E = E} {held = held} {faults = faults} {value = value} {before = before} {now = now} {waiting = waiting} {still = still} f k n e p =
    all_added value (subst (λ m. HasAdded held faults before waiting now still (flat_map f (range_with_len 0 m))) e p)

-- ---- a whole text through a new page

-- nothing had come through the page
abbrev pub Begins : List ℕ → Type 0
Begins page = (held : Option (List ℕ)) → Passes held held page []

pub whole_text : {K T E : Type 0} {held : K → Option (List ℕ)} {faults : K → ℕ} {result : Result T E} {before mid now : K} {page between text : List ℕ} → Begins page
    → HasAdded held faults before page mid between text → IsFinished held faults result mid between now → IsWritten held faults result before now text
whole_text {K = K} {T = T} {E = E} {held = held} {faults = faults} {result = Ok value} {before = before} {mid = mid} {now = now} {page = page} {between = between} {text = text} b h f = record {
  all = f.all (held before) text (h.added (held before) [] (b (held before)));
  front = tt;
  cause = tt;
  later = omega (arith, h.later, f.later);
}
whole_text {K = K} {T = T} {E = E} {held = held} {faults = faults} {result = Err error} {before = before} {mid = mid} {now = now} {page = page} {between = between} {text = text} b h f = record {
  all = tt;
  front = subst (λ (whole : List ℕ). AppendsFront (held before) (held now) whole) (append-nil text) (f.front (held before) text [] (h.added (held before) [] (b (held before))));
  cause = rose_since (faults before) (faults mid) (faults now) h.later f.cause;
  later = omega (arith, h.later, f.later);
}

pub front_of_text : {K T E U F : Type 0} {held : K → Option (List ℕ)} {faults : K → ℕ} {error : E} {other : Result U F} {before now : K} {page still text : List ℕ} → Begins page → IsErr other
    → IsAdded {K = K} {T = T} {E = E} held faults (Err error) before page now still text → IsWritten held faults other before now text
front_of_text {other = Ok value} b is h = absurd (grind arith)
front_of_text {held = held} {other = Err fault} {before = before} {now = now} {text = text} b is h = record {
  all = tt;
  front = subst (λ (whole : List ℕ). AppendsFront (held before) (held now) whole) (append-nil text) (h.front (held before) [] [] (b (held before)));
  cause = h.cause;
  later = h.later;
}

-- ---- a piece that doesn't fit behind what waits

pub flush_failed : {K T E U F : Type 0} {held : K → Option (List ℕ)} {faults : K → ℕ} {error : E} {other : Result U F} {before now : K} {waiting still : List ℕ} (piece : List ℕ) → IsErr other
    → IsFinished {K = K} {T = T} {E = E} held faults (Err error) before waiting now → IsAdded held faults other before waiting now still piece
flush_failed {other = Ok value} piece is f = absurd (grind arith)
flush_failed {held = held} {other = Err fault} {before = before} {now = now} {waiting = waiting} piece is f =
    record { all = tt; front = adds_nothing (held before) (held now) waiting piece f.front; cause = f.cause; later = f.later }

pub written_behind : {K T E U : Type 0} {held : K → Option (List ℕ)} {faults : K → ℕ} {value : U} {result : Result T E} {before mid now : K} {waiting still piece : List ℕ}
    → IsFinished {K = K} {T = U} {E = E} held faults (Ok value) before waiting mid → still ≡ [] → IsWritten held faults result mid now piece → IsAdded held faults result before waiting now still piece
written_behind {K = K} {T = T} {E = E} {U = U} {held = held} {faults = faults} {value = value} {result = Ok given} {before = before} {mid = mid} {now = now} {waiting = waiting} {still = still} {piece = piece} f e w =
    record { all = adds_written (held before) (held mid) (held now) waiting still piece f.all e w.all; front = tt; cause = tt; later = omega (arith, f.later, w.later) }
written_behind {K = K} {T = T} {E = E} {U = U} {held = held} {faults = faults} {value = value} {result = Err error} {before = before} {mid = mid} {now = now} {waiting = waiting} {still = still} {piece = piece} f e w = record {
  all = tt;
  front = adds_front (held before) (held mid) (held now) waiting piece f.all w.front;
  cause = rose_since (faults before) (faults mid) (faults now) f.later w.cause;
  later = omega (arith, f.later, w.later);
}

pub flushed : {K T E : Type 0} {held : K → Option (List ℕ)} {faults : K → ℕ} {result : Result T E} {before now : K} {waiting : List ℕ} → IsWritten held faults result before now waiting → IsFinished held faults result before waiting now
flushed {held = held} {result = Ok value} {before = before} {now = now} {waiting = waiting} w =
    record { all = finishes_all (held before) (held now) waiting w.all; front = tt; cause = tt; later = w.later }
flushed {held = held} {result = Err error} {before = before} {now = now} {waiting = waiting} w =
    record { all = tt; front = finishes_front (held before) (held now) waiting w.front; cause = w.cause; later = w.later }
