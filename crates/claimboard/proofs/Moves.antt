-- Each step of a board keeps its rule.
use Rattle.std.proofs.Common.{◌≡◌, ◌≢◌, ℕ, zero, suc, ◌+◌, ◌<◌, eqb, Bool, true, false, List, [], ◌∷◌, length, get_or, set, sym, refl, ap, ◌∙◌, subst, ⊎_elim, arith, Option, Some, None, length-set, get_or-set_other, get_or-set_same}
use mathlib.Core.Logic.{dite}
use mathlib.Core.Option.{some, none}
use mathlib.Core.Option as maybe
use native.Mathlib.Decide.{ℕ_discrete}
use lib.ListN.{get_elem?}
use lib.Seq.{set-get_or}
use prog.Atomic.{either}
use Rattle.atomic_table.specs.Table.{State, Me, Act, keeps, takes, gives, stepped, carried_after, Valid, Allows, rest}
use Rattle.atomic_table.proofs.Lists.{set_here, set_else, exchanged}
use Rattle.claimboard.specs.declared.views.View.{View}
use Rattle.claimboard.specs.Items.{IsItem}
use Rattle.claimboard.specs.Views.{Has, found_view, holding, IsOthers}
use Rattle.claimboard.specs.Board.{OneBoard}
use Rattle.claimboard.specs.Steps.{peeked, claimed, stored}
use Rattle.claimboard.proofs.Owners.{within, at_one, found_more}
use Rattle.claimboard.proofs.Keeping.{holder_else, holder_same, item_stays, seat_stays, after_step}

same_some : (a b : ℕ) (x : Option ℕ) → x ≡ Some a → x ≡ Some b → a ≡ b
same_some a b x e f = cc

none_or_some : (a : ℕ) (x : Option ℕ) → x ≡ None → x ≡ Some a → ⊥
none_or_some a x e f = cc

module _ {T G : Type 0} (number : T → ℕ) (finished : T → Bool) (good : G → T → Type 0) where
  abbrev St : Type 0
  St = State (Option T) (View G)

  abbrev M : Type 0
  M = Me (Option T) (View G)

  abbrev Rule : G → St → Type 0
  Rule = OneBoard number finished good

  -- a load of the word i by a seat that names `item` before and after
  unmoved : (tag : G) (s : St) (r : Rule tag s) (id : ℕ) (v : View G) (i : ℕ) (item : Option ℕ) → get_elem? s.views id ≡ some v → i < length s.words → item ≡ v.item
      → Rule tag record { words = set s.words i (get_or s.words i 0); homes = s.homes; views = set s.views id (found_view v i (get_or s.words i 0) item) }
  unmoved tag s r id v i item at lt it =
      let n : ℕ = get_or s.words i 0 in
      let w : View G = found_view v i n item in
      let ok = r.each_seat id v at in
      let P : List ℕ → Type 0 = λ ws. Rule tag record { words = ws; homes = s.homes; views = set s.views id w } in
      subst P (sym (set-get_or s.words i 0)) (after_step number finished good tag s r id w s.words s.homes refl refl
      (λ j l. item_stays number finished good tag r.seat_of r.seat_of s.homes s.homes s.views (set s.views id w) j (get_or s.words j 0) (get_or s.words j 0) refl refl
      (holder_same number finished good r.seat_of s.views id v w j at refl it) (r.each_item j l))
      record {
        same_tag = ok.same_tag;
        numbered = ok.numbered;
        bare = λ e. it ∙ ok.bare e;
        names = λ k m a b. ok.names k m (sym it ∙ a) b;
        finished_items = λ k h. ⊎_elim (λ (t : (k ≡ i) × (n ≡ 1)). (omega (arith, t.0, lt), ap (λ (q : ℕ). get_or s.words q 0) t.0 ∙ t.1)) (ok.finished_items k) (found_more v.finished i n k h);
        deals = ok.deals;
      }
      (λ j d other e. r.each_seat j d e))

  pub peeks : (tag : G) (slots id : ℕ) (me : M) (i : ℕ) → i < slots → Allows (Rule tag) slots id me i (λ n. n) (peeked i me)
  peeks tag slots id me i room s r many at _ =
      let n : ℕ = get_or s.words i 0 in
      let lt : i < length s.words = omega (arith, r.a_slot_each, many, room) in
      (found_view me.0 i n me.0.item, keeps, tt, unmoved tag s r id me.0 i me.0.item at lt refl, (refl, λ h. ((r.each_seat id me.0 at).finished_items i h).1))

  -- the word was free
  wins : (tag : G) (s : St) (r : Rule tag s) (id : ℕ) (v : View G) (i m : ℕ) → get_elem? s.views id ≡ some v → i < length s.words → v.item ≡ None → v.number ≡ Some m → get_or s.words i 0 ≡ 0
      → Rule tag record { words = set s.words i (m + 2); homes = set s.homes i none; views = set s.views id (found_view v i 0 (Some i)) }
  wins tag s r id v i m at lt bare num free =
      let w : View G = found_view v i 0 (Some i) in
      let ws : List ℕ = set s.words i (m + 2) in
      let ok = r.each_seat id v at in
      let mine : r.seat_of m ≡ id = sym (ok.numbered m num).1 in
      let here : get_or ws i 0 ≡ m + 2 = get_or-set_same s.words i (m + 2) 0 lt in
      let there : (k : ℕ) → k ≢ i → get_or ws k 0 ≡ get_or s.words k 0 = λ k ne. get_or-set_other s.words i k (m + 2) 0 ne in
      let in_homes : i < length s.homes = omega (arith, r.a_slot_each, lt) in
      after_step number finished good tag s r id w ws (set s.homes i none) (length-set s.words i (m + 2)) (length-set s.homes i none)
      (λ j l. dite (ℕ_discrete j i)
      (λ same. let word : get_or ws j 0 ≡ m + 2 = ap (λ (q : ℕ). get_or ws q 0) same ∙ here in record {
        free = λ e. absurd (omega (arith, word, e));
        done = λ e. absurd (omega (arith, word, e));
        held = λ n e. let is : n ≡ m = omega (arith, word, e) in (
          ap (get_elem? (set s.homes i none)) same ∙ set_here s.homes i none in_homes,
          (w, ap (λ (q : ℕ). get_elem? (set s.views id w) (r.seat_of q)) is ∙ ap (get_elem? (set s.views id w)) mine ∙ set_here s.views id w (within s.views id v at), num ∙ ap Some (sym is), ap Some (sym same)),
        );
      })
      (λ ne. item_stays number finished good tag r.seat_of r.seat_of s.homes (set s.homes i none) s.views (set s.views id w) j (get_or s.words j 0) (get_or ws j 0) (there j ne) (set_else s.homes i j none ne)
      (holder_else number finished good r.seat_of s.views id v w j at (none_or_some j v.item bare)) (r.each_item j l)))
      record {
        same_tag = ok.same_tag;
        numbered = ok.numbered;
        bare = λ e. absurd (none_or_some m v.number e num);
        names = λ k n a b. let is : k ≡ i = same_some k i (Some k) refl (sym a) in let that : n ≡ m = same_some n m v.number b num in
            (omega (arith, is, lt, length-set s.words i (m + 2)), ap (λ (q : ℕ). get_or ws q 0) is ∙ here ∙ ap (λ (q : ℕ). q + 2) (sym that));
        finished_items = λ k h. let t = ok.finished_items k h in
            (omega (arith, t.0, length-set s.words i (m + 2)), there k (λ e. let f : get_or s.words k 0 ≡ 0 = ap (λ (q : ℕ). get_or s.words q 0) e ∙ free in omega (arith, f, t.1)) ∙ t.1);
        deals = ok.deals;
      }
      (λ j d other e. seat_stays number finished good tag r.dealt r.dealer r.seat_of s.words ws j d (length-set s.words i (m + 2))
      (λ k n a b l h. there k (λ e. let f : get_or s.words k 0 ≡ 0 = ap (λ (q : ℕ). get_or s.words q 0) e ∙ free in omega (arith, f, h)) ∙ h)
      (λ k l h. there k (λ e. let f : get_or s.words k 0 ≡ 0 = ap (λ (q : ℕ). get_or s.words q 0) e ∙ free in omega (arith, f, h)) ∙ h)
      (r.each_seat j d e))

  -- a word that is neither free nor finished, found by a seat that holds nothing
  others_hold : (tag : G) (s : St) (r : Rule tag s) (id : ℕ) (v : View G) (i n : ℕ) → get_elem? s.views id ≡ some v → i < length s.words → v.item ≡ None → n ≡ get_or s.words i 0 → n ≢ 0 → n ≢ 1 → IsOthers v n
  others_hold tag s r id v i zero at lt bare is a b = absurd (a refl)
  others_hold tag s r id v i (suc zero) at lt bare is a b = absurd (b refl)
  others_hold tag s r id v i (suc (suc k)) at lt bare is a b =
      let two : suc (suc k) ≡ k + 2 = omega arith in (
        k,
        two,
        λ num. let h = ((r.each_item i lt).held k (sym is ∙ two)).1 in
            let same : v ≡ h.0 = at_one s.views id (r.seat_of k) v h.0 ((r.each_seat id v at).numbered k num).1 at h.1 in
            none_or_some i v.item bare (ap (λ (u : View G). u.item) same ∙ h.3),
      )

  pub claims : (tag : G) (slots id : ℕ) (me : M) (i m : ℕ) → i < slots → me.1 ≡ [] → me.0.item ≡ None → me.0.number ≡ Some m
      → Allows (Rule tag) slots id me i (λ n. either (eqb n 0) (m + 2) n) (claimed number finished good i me)
  claims tag slots id me i m room empty bare num s r many at _ =
      let n : ℕ = get_or s.words i 0 in
      let lt : i < length s.words = omega (arith, r.a_slot_each, many, room) in
      let stays : Has i me.0.finished → n ≡ 1 = λ h. ((r.each_seat id me.0 at).finished_items i h).1 in
      let F : ℕ → Type 0 = λ y. (w : View G) × (a : Act (Option T)) × Valid s.homes me.1 a × Rule tag (stepped s i y id me.1 w a)
      × claimed number finished good i me n (w, carried_after me.1 a) in
      exchanged n 0 (m + 2) F
      (λ free. let h = (r.each_item i lt).free free in
      let tag_is : me.0.tag ≡ tag = (r.each_seat id me.0 at).same_tag in
      let item : IsItem number finished good me.0.tag i false h.0 = subst (λ (t : G). IsItem number finished good t i false h.0) (sym tag_is) h.2 in
      let w : View G = found_view me.0 i 0 (Some i) in (
        w,
        takes i (Some h.0),
        h.1,
        wins tag s r id me.0 i m at lt bare num free,
        ((λ _. (h.0, ap (λ (c : List (ℕ × Option T)). let x : M = (w, (i, Some h.0) ∷ c) in x) empty, item)), (λ ne. absurd (ne free)), stays),
      ))
      (λ ne. let w : View G = found_view me.0 i n None in (
        w,
        keeps,
        tt,
        unmoved tag s r id me.0 i None at lt (sym bare),
        (
          (λ free. absurd (ne free)),
          (λ _. (ap (λ (c : List (ℕ × Option T)). let x : M = (w, c) in x) empty, others_hold tag s r id me.0 i n at lt bare refl ne)),
          stays,
        ),
      ))

  -- the item is in the slot that is in hand, and the word becomes x, which says whether it is finished
  returns : (tag : G) (s : St) (r : Rule tag s) (id : ℕ) (v : View G) (i m x : ℕ) (item : T) (is : Bool) → get_elem? s.views id ≡ some v → v.item ≡ Some i → v.number ≡ Some m
      → x < 2 → (x ≡ 0 → is ≡ false) → (x ≡ 1 → is ≡ true) → IsItem number finished good tag i is item
      → Rule tag record { words = set s.words i x; homes = set s.homes i (some (Some item)); views = set s.views id (holding v None) }
  returns tag s r id v i m x item is at it num small if_free if_done good_item =
      let w : View G = holding v None in
      let ws : List ℕ = set s.words i x in
      let hs : List (maybe.Option (Option T)) = set s.homes i (some (Some item)) in
      let ok = r.each_seat id v at in
      let named = ok.names i m it num in
      let lt : i < length s.words = named.0 in
      let was : get_or s.words i 0 ≡ m + 2 = named.1 in
      let mine : r.seat_of m ≡ id = sym (ok.numbered m num).1 in
      let here : get_or ws i 0 ≡ x = get_or-set_same s.words i x 0 lt in
      let there : (k : ℕ) → k ≢ i → get_or ws k 0 ≡ get_or s.words k 0 = λ k ne. get_or-set_other s.words i k x 0 ne in
      let in_homes : i < length s.homes = omega (arith, r.a_slot_each, lt) in
      let lies : (j : ℕ) → j ≡ i → get_elem? hs j ≡ some (some (Some item)) = λ j same. ap (get_elem? hs) same ∙ set_here s.homes i (some (Some item)) in_homes in
      let done_else : (k : ℕ) → get_or s.words k 0 ≡ 1 → k ≢ i = λ k h e. let f : get_or s.words k 0 ≡ m + 2 = ap (λ (q : ℕ). get_or s.words q 0) e ∙ was in omega (arith, f, h) in
      after_step number finished good tag s r id w ws hs (length-set s.words i x) (length-set s.homes i (some (Some item)))
      (λ j l. dite (ℕ_discrete j i)
      (λ same. let word : get_or ws j 0 ≡ x = ap (λ (q : ℕ). get_or ws q 0) same ∙ here in record {
        free = λ e. (item, lies j same, (good_item.0 ∙ sym same, good_item.1, good_item.2 ∙ if_free (sym word ∙ e)));
        done = λ e. (item, lies j same, (good_item.0 ∙ sym same, good_item.1, good_item.2 ∙ if_done (sym word ∙ e)));
        held = λ n e. absurd (omega (arith, word, e, small));
      })
      (λ ne. item_stays number finished good tag r.seat_of r.seat_of s.homes hs s.views (set s.views id w) j (get_or s.words j 0) (get_or ws j 0) (there j ne) (set_else s.homes i j (some (Some item)) ne)
      (holder_else number finished good r.seat_of s.views id v w j at (λ e. ne (same_some j i v.item e it))) (r.each_item j l)))
      record {
        same_tag = ok.same_tag;
        numbered = ok.numbered;
        bare = λ e. refl;
        names = λ k n a b. absurd (none_or_some k None refl a);
        finished_items = λ k h. let t = ok.finished_items k h in (omega (arith, t.0, length-set s.words i x), there k (done_else k t.1) ∙ t.1);
        deals = ok.deals;
      }
      (λ j d other e. let knows = r.each_seat j d e in seat_stays number finished good tag r.dealt r.dealer r.seat_of s.words ws j d (length-set s.words i x)
      (λ k n a b l h. there k (λ same. let f : get_or s.words k 0 ≡ m + 2 = ap (λ (q : ℕ). get_or s.words q 0) same ∙ was in let that : n ≡ m = omega (arith, f, h) in
      other ((knows.numbered n b).1 ∙ ap r.seat_of that ∙ mine)) ∙ h)
      (λ k l h. there k (done_else k h) ∙ h)
      knows)

  stores : (tag : G) (slots id : ℕ) (me : M) (i m x : ℕ) (item : T) (is : Bool) → me.1 ≡ (i, Some item) ∷ [] → me.0.item ≡ Some i → me.0.number ≡ Some m
      → x < 2 → (x ≡ 0 → is ≡ false) → (x ≡ 1 → is ≡ true) → IsItem number finished good tag i is item
      → Allows (Rule tag) slots id me i (λ _. x) (λ _. stored me)
  stores tag slots id me i m x item is hand it num small if_free if_done good_item s r many at _ =
      let w : View G = holding me.0 None in
      let P : List (ℕ × Option T) → Type 0 = λ c. Rule tag (stepped s i x id c w gives) in (
        w,
        gives,
        tt,
        subst P (sym hand) (returns tag s r id me.0 i m x item is at it num small if_free if_done good_item),
        ap (λ (c : List (ℕ × Option T)). let y : M = (w, rest c) in y) hand,
      )

  pub frees : (tag : G) (slots id : ℕ) (me : M) (i m : ℕ) (item : T) → me.1 ≡ (i, Some item) ∷ [] → me.0.item ≡ Some i → me.0.number ≡ Some m → IsItem number finished good tag i false item
      → Allows (Rule tag) slots id me i (λ _. 0) (λ _. stored me)
  frees tag slots id me i m item hand it num good_item = stores tag slots id me i m 0 item false hand it num (omega arith) (λ _. refl) (λ e. absurd (omega (arith, e))) good_item

  pub finishes : (tag : G) (slots id : ℕ) (me : M) (i m : ℕ) (item : T) → me.1 ≡ (i, Some item) ∷ [] → me.0.item ≡ Some i → me.0.number ≡ Some m → IsItem number finished good tag i true item
      → Allows (Rule tag) slots id me i (λ _. 1) (λ _. stored me)
  finishes tag slots id me i m item hand it num good_item = stores tag slots id me i m 1 item true hand it num (omega arith) (λ e. absurd (omega (arith, e))) (λ _. refl) good_item
