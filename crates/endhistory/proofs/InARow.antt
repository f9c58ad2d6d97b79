-- What several steps of one seat in a row leave, and that each of them is allowed.
use Rattle.std.proofs.Common.{◌≡◌, ℕ, zero, suc, ◌+◌, ◌<◌, ◌≤◌, List, [], ◌∷◌, ◌++◌, length, get_or, set, sym, refl, ap, ◌∙◌, subst, append_assoc, arith}
use mathlib.Core.Logic.{dite}
use mathlib.Core.Option.{none}
use native.Mathlib.Decide.{ℕ_discrete}
use Rattle.std.specs.List.{All, range_with_len}
use Rattle.std.proofs.lemmas.List.{length-set, map-id, get_or-set_same, get_or-set_other}
use Rattle.std.proofs.lemmas.List.FromFn.{map-range_with_len_more}
use Rattle.atomic_table.specs.Table.{Allows, step}
use Rattle.endhistory.specs.declared.views.Sizes.{Sizes}
use Rattle.endhistory.specs.declared.views.Writing.{Writing}
use Rattle.endhistory.specs.declared.views.Reading.{Reading}
use Rattle.endhistory.specs.declared.views.Role.TheVariants.{AsWriter, AsReader}
use Rattle.endhistory.specs.Blocks.{Blocks, block, data_word}
use Rattle.endhistory.specs.Steps.{IsFree, FillNeeds, checked_view}
use Rattle.endhistory.specs.Rule.{Bounded}
use Rattle.endhistory.specs.Tells.{Here, in_role, Writes, Reads, checked, filled, taken, published}
use Rattle.endhistory.specs.Seats.{Place, WritesWith, ReadsWith, HasAsked, AllFree, filled_to, taken_to, writing, writing_of, reading, number_of, blocks_of}
use Rattle.endhistory.proofs.Slots.{risen}
use Rattle.endhistory.proofs.StepsAllowed.{checks, fills, takes, publishes}

-- the numbers to n behind a list, and n
pub numbers_more : (xs : List ℕ) (n : ℕ) → (xs ++ range_with_len 0 n) ++ n ∷ [] ≡ xs ++ range_with_len 0 (n + 1)
numbers_more xs n =
    let all = map-range_with_len_more (λ (x : ℕ). x) 0 n n (omega arith) in
    append_assoc xs (range_with_len 0 n) (n ∷ [])
    ∙ ap (λ (l : List ℕ). xs ++ l) (ap (λ (l : List ℕ). l ++ n ∷ []) (sym (map-id (range_with_len 0 n))) ∙ sym all ∙ map-id (range_with_len 0 (n + 1)))

pub all_one : {X : Type 0} (P : X → Type 0) (x : X) → P x → All P (x ∷ [])
all_one P x p zero d l = p
all_one P x p (suc k) d l = absurd (omega arith)

-- a step after steps
pub wrote : (s t u : Place) (p q : Writing) → WritesWith s p t → u.table_id ≡ t.table_id → u.id ≡ t.id → Writes t.me q u.me → WritesWith s q u
wrote s t u p q w a b e = (a ∙ w.0, b ∙ w.1, e ∙ ap (λ (m : Here). let x : Here = (in_role m.0 (AsWriter q), m.1) in x) w.2)

pub readed : (s t u : Place) (p q : Reading) → ReadsWith s p t → u.table_id ≡ t.table_id → u.id ≡ t.id → Reads t.me (number_of s) q u.me → ReadsWith s q u
readed s t u p q w a b e = (a ∙ w.0, b ∙ w.1, e ∙ ap (λ (m : Here). let x : Here = (in_role m.0 (AsReader (number_of s) q), m.1) in x) w.2)

-- a check is allowed, and what it leaves
pub check_next : (z key : Sizes) → z ≡ key → (slots : ℕ) (s t : Place) (r : ℕ) → WritesWith s (writing t) t → r < z.readers → Allows (Bounded key) slots t.id t.me (1 + r) (λ n. n) (checked (step slots (1 + r) 0 0 none) t.me)
check_next z key same slots s t r w l = subst (λ (k : Sizes). Allows (Bounded k) slots t.id t.me (1 + r) (λ n. n) (checked (step slots (1 + r) 0 0 none) t.me)) same
    (checks z slots t.id t.me (writing t) r (1 + r) (ap (λ (m : Here). m.0.role) w.2) (record { reader = l; place = refl }))

pub check_left : (s t u : Place) (r n slots : ℕ) → WritesWith s (writing t) t → u.table_id ≡ t.table_id → u.id ≡ t.id → checked (step slots (1 + r) 0 0 none) t.me n u.me
    → WritesWith s (writing u) u × (writing u ≡ checked_view (writing t) r n) × (get_or (writing t).known r 0 ≤ n)
check_left s t u r n slots w a b told =
    let did = told (writing t) r (ap (λ (m : Here). m.0.role) w.2) refl in
    let view : writing u ≡ checked_view (writing t) r n = ap (λ (m : Here). writing_of m.0.sizes m.0.role) did.0 in
    (subst (λ (v : Writing). WritesWith s v u) (sym view) (wrote s t u (writing t) (checked_view (writing t) r n) w a b did.0), view, did.1)

asks_more : (z : Sizes) (w v : Writing) (r n : ℕ) → r < length v.known → get_or v.known r 0 ≤ n → HasAsked z w v r → HasAsked z w (checked_view v r n) (r + 1)
asks_more z w v r n inside le h = record {
  next = h.next;
  filled = h.filled;
  loads = let e = h.loads in omega arith;
  asked = ap (λ (l : List ℕ). l ++ r ∷ []) h.asked ∙ numbers_more w.asked r;
  each_known = length-set v.known r n ∙ h.each_known;
  rising = λ k l. let a = h.rising k l in let b = risen v.known r n inside le k in omega arith;
  others = λ k l. get_or-set_other v.known r k n 0 (λ e. absurd (omega arith)) ∙ h.others k (omega arith);
}

-- the readers before r had passed enough, and r was asked
pub asked_one : (z : Sizes) (w v v' : Writing) (r n : ℕ) → length w.known ≡ z.readers → r < z.readers → v' ≡ checked_view v r n → get_or v.known r 0 ≤ n → AllFree z w v r
    → HasAsked z w v' (r + 1) × (get_or v'.known r 0 ≡ n) × ((k : ℕ) → k < r → w.next < get_or v'.known k 0 + z.slots)
asked_one z w v v' r n wide l is le h =
    let inside : r < length v.known = let e = h.asks.each_known in omega arith in
    subst (λ (x : Writing). HasAsked z w x (r + 1) × (get_or x.known r 0 ≡ n) × ((k : ℕ) → k < r → w.next < get_or x.known k 0 + z.slots)) (sym is) (
      asks_more z w v r n inside le h.asks,
      get_or-set_same v.known r n 0 inside,
      λ k m. let f = h.free k m in let a = risen v.known r n inside le k in let e : v.next ≡ w.next = h.asks.next in omega arith,
    )

-- and had passed enough too
pub free_one : (z : Sizes) (w v' : Writing) (r n : ℕ) → w.next < n + z.slots → HasAsked z w v' (r + 1) × (get_or v'.known r 0 ≡ n) × ((k : ℕ) → k < r → w.next < get_or v'.known k 0 + z.slots) → AllFree z w v' (r + 1)
free_one z w v' r n enough h = let e : v'.next ≡ w.next = h.0.next in record {
  asks = h.0;
  free = λ k l. dite (ℕ_discrete k r)
      (λ (is : k ≡ r). subst (λ (j : ℕ). v'.next < get_or v'.known j 0 + z.slots) (sym is) (let f : get_or v'.known r 0 ≡ n = h.1 in omega arith))
      (λ other. let f = h.2 k (omega arith) in omega arith);
}

-- a fill is allowed
pub fill_next : (z key : Sizes) → z ≡ key → (slots : ℕ) (s t : Place) (i word x next : ℕ) → WritesWith s (filled_to (writing s) i) t → next ≡ (writing s).next → IsFree z (writing s) → i < z.width
    → next < length (blocks_of s) → word ≡ data_word z next i → x ≡ get_or (block (blocks_of s) next) i 0 → Allows (Bounded key) slots t.id t.me word (λ _. x) (λ _. filled (step slots word x 0 none) t.me x)
fill_next z key same slots s t i word x next w now free room within place is =
    let blocks : t.me.0.blocks ≡ s.me.0.blocks = ap (λ (m : Here). m.0.blocks) w.2 in
    let needs : FillNeeds z s.me.0.blocks (filled_to (writing s) i) word x = record {
      free = free;
      room = room;
      within = subst (λ (k : ℕ). k < length (blocks_of s)) now within;
      place = place ∙ ap (λ (k : ℕ). data_word z k i) now;
      word_is = is ∙ ap (λ (k : ℕ). get_or (block (blocks_of s) k) i 0) now;
    } in
    subst (λ (k : Sizes). Allows (Bounded k) slots t.id t.me word (λ _. x) (λ _. filled (step slots word x 0 none) t.me x)) same
    (fills z slots t.id t.me (filled_to (writing s) i) word x (ap (λ (m : Here). m.0.role) w.2) (subst (λ (b : Blocks). FillNeeds z b (filled_to (writing s) i) word x) (sym blocks) needs))

-- a publish after all fills is allowed
pub publish_next : (z key : Sizes) → z ≡ key → (slots : ℕ) (s t : Place) (x : ℕ) → WritesWith s (filled_to (writing s) z.width) t → x ≡ (writing s).next + 1
    → Allows (Bounded key) slots t.id t.me 0 (λ _. x) (λ _. published (step slots 0 x 0 none) t.me x)
publish_next z key same slots s t x w is = subst (λ (k : Sizes). Allows (Bounded k) slots t.id t.me 0 (λ _. x) (λ _. published (step slots 0 x 0 none) t.me x)) same
    (publishes z slots t.id t.me (filled_to (writing s) z.width) 0 x (ap (λ (m : Here). m.0.role) w.2) (record { full = refl; place = refl; word_is = is }))

-- a take is allowed, and what it loads
pub take_next : (z key : Sizes) → z ≡ key → (slots : ℕ) (s t : Place) (i word next : ℕ) → ReadsWith s (taken_to (reading s) i) t → next ≡ (reading s).next → (reading s).next < (reading s).seen → i < z.width
    → word ≡ data_word z next i → Allows (Bounded key) slots t.id t.me word (λ n. n) (taken (step slots word 0 0 none) t.me)
take_next z key same slots s t i word next w now ready room place =
    subst (λ (k : Sizes). Allows (Bounded k) slots t.id t.me word (λ n. n) (taken (step slots word 0 0 none) t.me)) same
    (takes z slots t.id t.me (number_of s) (taken_to (reading s) i) word (ap (λ (m : Here). m.0.role) w.2)
    (record { ready = ready; room = room; place = place ∙ ap (λ (k : ℕ). data_word z k i) now }))

pub take_left : (s t u : Place) (i word next n slots : ℕ) → ReadsWith s (taken_to (reading s) i) t → next ≡ (reading s).next → u.table_id ≡ t.table_id → u.id ≡ t.id → taken (step slots word 0 0 none) t.me n u.me
    → ReadsWith s (taken_to (reading s) (i + 1)) u × (n ≡ get_or (block (blocks_of s) next) i 0)
take_left s t u i word next n slots w now a b told =
    let did = told (number_of s) (taken_to (reading s) i) (ap (λ (m : Here). m.0.role) w.2) in
    let blocks : t.me.0.blocks ≡ s.me.0.blocks = ap (λ (m : Here). m.0.blocks) w.2 in (
      readed s t u (taken_to (reading s) i) (taken_to (reading s) (i + 1)) w a b did.0,
      did.1 ∙ ap (λ (c : Blocks). get_or (block c (reading s).next) i 0) blocks ∙ ap (λ (k : ℕ). get_or (block (blocks_of s) k) i 0) (sym now),
    )

-- the words that were loaded so far, and one more
pub loaded_more : (into words : List ℕ) (i n : ℕ) → i < length into → n ≡ get_or words i 0 → ((j : ℕ) → j < i → get_or into j 0 ≡ get_or words j 0) → (j : ℕ) → j < i + 1 → get_or (set into i n) j 0 ≡ get_or words j 0
loaded_more into words i n inside is so_far j l = dite (ℕ_discrete j i)
    (λ (e : j ≡ i). subst (λ (k : ℕ). get_or (set into i n) k 0 ≡ get_or words k 0) (sym e) (get_or-set_same into i n 0 inside ∙ is))
    (λ other. get_or-set_other into i j n 0 other ∙ so_far j (omega arith))

-- the whole of one check among others
pub check_made : (z : Sizes) (s t u : Place) (r n slots : ℕ) → WritesWith s (writing t) t → AllFree z (writing s) (writing t) r → length (writing s).known ≡ z.readers → r < z.readers
    → u.table_id ≡ t.table_id → u.id ≡ t.id → checked (step slots (1 + r) 0 0 none) t.me n u.me
    → WritesWith s (writing u) u × (HasAsked z (writing s) (writing u) (r + 1) × (get_or (writing u).known r 0 ≡ n) × ((k : ℕ) → k < r → (writing s).next < get_or (writing u).known k 0 + z.slots))
check_made z s t u r n slots w free wide l a b told = let left = check_left s t u r n slots w a b told in
    (left.0, asked_one z (writing s) (writing t) (writing u) r n wide l left.1 left.2 free)
