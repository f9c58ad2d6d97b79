-- A board as it begins, the seats that are split off, and its items as it ends.
use Rattle.std.proofs.Common.{◌≡◌, ℕ, zero, suc, ◌+◌, ◌<◌, Bool, true, false, List, [], ◌∷◌, ◌++◌, map, length, replicate, get_or, set, sym, refl, ap, ◌∙◌, subst, ⊎_elim, arith, Option, Some, None, get_or-set_other, get_or-set_same, length-append}
use Rattle.std.proofs.lemmas.List.{get_or_append_left, get_or_push}
use Rattle.std.specs.Mem.Slots.Ownership.{Filled}
use mathlib.Core.Logic.{dite}
use native.Mathlib.Decide.{ℕ_discrete}
use mathlib.Core.Option.{some, some-injective, some-ne-none}
use lib.ListN.{get_elem?, length-map, length-replicate, get_or-replicate}
use Rattle.atomic_table.specs.Table.{State, opening, Splits, Final, Seen}
use Rattle.atomic_table.proofs.Lists.{set_again, at_longer, at_map}
use Rattle.claimboard.specs.declared.views.View.{View}
use Rattle.claimboard.specs.Items.{IsItem, AreItems}
use Rattle.claimboard.specs.Views.{Has, dealt_or_0, first_view}
use Rattle.claimboard.specs.Board.{SeatStands, OneBoard}
use Rattle.claimboard.specs.Steps.{dealing, dealt_view, copy_of}
use Rattle.claimboard.proofs.Owners.{at_one, at_new, seats_split, put, put_here, put_else}
use Rattle.claimboard.proofs.Keeping.{holder_same, item_stays}

some_is : (a b : ℕ) → (let p : Option ℕ = Some a in let q : Option ℕ = Some b in p ≡ q) → b ≡ a
some_is a b e = cc

none_is_some : (a : ℕ) → (let p : Option ℕ = None in let q : Option ℕ = Some a in p ≡ q) → ⊥
none_is_some a e = cc

none_found : (i : ℕ) → Has i [] → ⊥
none_found i h = cc

module _ {A : Type 0} where
  -- the value at a place
  value_at : (l : List A) (i : ℕ) → i < length l → (a : A) × (get_elem? l i ≡ some a)
  value_at [] i h = absurd (omega arith)
  value_at (x ∷ xs) zero h = (x, refl)
  value_at (x ∷ xs) (suc i) h = value_at xs i (omega arith)

  pub read_at : (l : List A) (i : ℕ) (a d : A) → get_elem? l i ≡ some a → get_or l i d ≡ a
  read_at [] i a d e = absurd (some-ne-none a (sym e))
  read_at (x ∷ xs) zero a d e = some-injective x a e
  read_at (x ∷ xs) (suc i) a d e = read_at xs i a d e

-- the first i places are empty, and the next is emptied
pub full_rest : (fs : List Bool) (i high : ℕ) → Filled fs i high → Filled (set fs i false) (i + 1) high
full_rest fs i high h k low l = get_or-set_other fs i k false false (λ e. omega (arith, e, low)) ∙ h k (omega (arith, low)) l

pub emptied : (fs : List Bool) (i : ℕ) → i < length fs → ((k : ℕ) → k < i → get_or fs k false ≡ false) → (k : ℕ) → k < i + 1 → get_or (set fs i false) k false ≡ false
emptied fs i lt h k l = dite (ℕ_discrete k i)
    (λ e. ap (λ (q : ℕ). get_or (set fs i false) q false) e ∙ get_or-set_same fs i false false lt)
    (λ ne. get_or-set_other fs i k false false ne ∙ h k (omega (arith, l, ne)))

module _ {T G : Type 0} (number : T → ℕ) (finished : T → Bool) (good : G → T → Type 0) where
  abbrev St : Type 0
  St = State (Option T) (View G)

  abbrev Rule : G → St → Type 0
  Rule = OneBoard number finished good

  -- all items are free, and the one seat deals the numbers
  pub starts : (tag : G) (xs : List T) (ws : List ℕ) (slots : List (Option T)) → ws ≡ replicate (length xs) 0 → slots ≡ map Some xs → AreItems number finished good tag false xs
      → Rule tag (opening ws slots (first_view tag))
  starts tag xs ws slots words_are slots_are items =
      let long : length ws ≡ length xs = ap length words_are ∙ length-replicate (length xs) 0 in
      let wide : length (map {A = Option T} some slots) ≡ length xs = length-map slots some ∙ ap length slots_are ∙ length-map xs Some in
      let word : (i : ℕ) → i < length xs → get_or ws i 0 ≡ 0 = λ i l. ap (λ (q : List ℕ). get_or q i 0) words_are ∙ get_or-replicate (length xs) i 0 0 l in
      record {
        dealt = 0;
        dealer = 0;
        seat_of = λ n. 0;
        a_slot_each = long ∙ sym wide;
        each_item = λ i l.
            let lt : i < length xs = omega (arith, l, long) in
            let is = word i lt in
            let x = value_at xs i lt in
            record {
              free = λ e. (
                x.0,
                ap (λ (q : List (Option T)). get_elem? (map some q) i) slots_are ∙ at_map some (map Some xs) i (Some x.0) (at_map Some xs i x.0 x.1),
                subst (IsItem number finished good tag i false) (read_at xs i x.0 x.0 x.1) (items i x.0 lt),
              );
              done = λ e. absurd (omega (arith, is, e));
              held = λ n e. absurd (omega (arith, is, e));
            };
        each_seat = one;
      }
    where
      one : (j : ℕ) (v : View G) → get_elem? (first_view tag ∷ []) j ≡ some v → SeatStands tag 0 0 (λ n. 0) ws j v
      one zero v e = subst (SeatStands tag 0 0 (λ n. 0) ws 0) (some-injective (first_view tag) v e) record {
        same_tag = refl;
        numbered = λ n h. absurd (none_is_some n h);
        bare = λ h. refl;
        names = λ i n a b. absurd (none_is_some i a);
        finished_items = λ i h. absurd (none_found i h);
        deals = λ d h. (some_is 0 d h, refl);
      }
      one (suc j) v e = absurd (some-ne-none v (sym e))

  -- the next number is dealt to a seat that is split off
  pub deals : (tag : G) (id : ℕ) (v : View G) (d : ℕ) → v.dealt ≡ Some d → Splits (Rule tag) id v (dealing v) (dealt_view v)
  deals tag id v d is s r at =
      let ok = r.each_seat id v at in
      let mine = ok.deals d is in
      let next : dealt_or_0 v.dealt ≡ r.dealt = ap dealt_or_0 is ∙ mine.0 in
      let count : ℕ = length s.views in
      let of : ℕ → ℕ = put r.seat_of r.dealt count in
      let old_of : (n : ℕ) → n < r.dealt → of n ≡ r.seat_of n = λ n l. put_else r.seat_of r.dealt count n (λ e. omega (arith, l, e)) in
      let left : View G = dealing v in
      let right : View G = dealt_view v in
      let vs : List (View G) = set s.views id left ++ right ∷ [] in
      record {
        dealt = r.dealt + 1;
        dealer = r.dealer;
        seat_of = of;
        a_slot_each = r.a_slot_each;
        each_item = λ i l. item_stays number finished good tag r.seat_of of s.homes s.homes s.views vs i (get_or s.words i 0) (get_or s.words i 0) refl refl
            (λ n h.
            let k = holder_same number finished good r.seat_of s.views id v left i at refl refl n h in
            (k.0, ap (get_elem? vs) (old_of n ((r.each_seat (r.seat_of n) h.0 h.1).numbered n h.2).0) ∙ at_longer (set s.views id left) (right ∷ []) (r.seat_of n) k.0 k.1, k.2, k.3))
            (r.each_item i l);
        each_seat = seats_split (SeatStands tag (r.dealt + 1) r.dealer of s.words) s.views id left right
            record {
              same_tag = ok.same_tag;
              numbered = λ n e. let t = ok.numbered n e in (omega (arith, t.0), t.1 ∙ sym (old_of n t.0));
              bare = ok.bare;
              names = ok.names;
              finished_items = ok.finished_items;
              deals = λ k e. let h : k ≡ dealt_or_0 v.dealt + 1 = some_is (dealt_or_0 v.dealt + 1) k e in (omega (arith, h, next), mine.1);
            }
            record {
              same_tag = ok.same_tag;
              numbered = λ n e. let h : n ≡ r.dealt = some_is (dealt_or_0 v.dealt) n e ∙ next in (omega (arith, h), sym (ap of h ∙ put_here r.seat_of r.dealt count));
              bare = λ e. refl;
              names = λ i n a b. absurd (none_is_some i a);
              finished_items = λ i h. absurd (none_found i h);
              deals = λ k e. absurd (none_is_some k e);
            }
            (λ j w other e. let t = r.each_seat j w e in record {
              same_tag = t.same_tag;
              numbered = λ n h. let q = t.numbered n h in (omega (arith, q.0), q.1 ∙ sym (old_of n q.0));
              bare = t.bare;
              names = t.names;
              finished_items = t.finished_items;
              deals = λ k h. absurd (other ((t.deals k h).1 ∙ sym mine.1));
            });
      }

  -- a copy of what the seat knows to be finished is split off
  pub copies : (tag : G) (id : ℕ) (v : View G) → Splits (Rule tag) id v v (copy_of v)
  copies tag id v s r at =
      let ok = r.each_seat id v at in
      let copy : View G = copy_of v in
      let P : List (View G) → Type 0 = λ vs. Rule tag record { words = s.words; homes = s.homes; views = vs ++ copy ∷ [] } in
      subst P (sym (set_again s.views id v at)) record {
        dealt = r.dealt;
        dealer = r.dealer;
        seat_of = r.seat_of;
        a_slot_each = r.a_slot_each;
        each_item = λ i l. item_stays number finished good tag r.seat_of r.seat_of s.homes s.homes s.views (s.views ++ copy ∷ []) i (get_or s.words i 0) (get_or s.words i 0) refl refl
            (λ n h. (h.0, at_longer s.views (copy ∷ []) (r.seat_of n) h.0 h.1, h.2, h.3)) (r.each_item i l);
        each_seat = λ j w e. ⊎_elim (r.each_seat j w)
            (λ (t : (j ≡ length s.views) × (copy ≡ w)). subst (SeatStands tag r.dealt r.dealer r.seat_of s.words j) t.1 record {
              same_tag = ok.same_tag;
              numbered = λ n h. absurd (none_is_some n h);
              bare = λ h. refl;
              names = λ i n a b. absurd (none_is_some i a);
              finished_items = ok.finished_items;
              deals = λ k h. absurd (none_is_some k h);
            })
            (at_new s.views copy w j e);
      }

  -- a list of items in their places, and the next one
  pub items_more : (tag : G) (is : Bool) (xs : List T) (x : T) → AreItems number finished good tag is xs → IsItem number finished good tag (length xs) is x → AreItems number finished good tag is (xs ++ x ∷ [])
  items_more tag is xs x all next i d l = dite (ℕ_discrete i (length xs))
      (λ e. subst (IsItem number finished good tag i is) (sym (get_or_push xs x d i (sym e))) (subst (λ (q : ℕ). IsItem number finished good tag q is x) (sym e) next))
      (λ ne. let lt : i < length xs = omega (arith, l, ne, length-append xs (x ∷ [])) in subst (IsItem number finished good tag i is) (sym (get_or_append_left xs (x ∷ []) d i lt)) (all i d lt))

  -- what was taken from a place is the item that lay there
  pub taken_is : (tag : G) (is : Bool) (xs : List (Option T)) (i : ℕ) (o : Option T) (x y : T) → get_elem? xs i ≡ some (Some x) → get_elem? xs i ≡ some o → o ≡ Some y → IsItem number finished good tag i is x → IsItem number finished good tag i is y
  taken_is tag is xs i o x y at_x at_o same = subst (IsItem number finished good tag i is) (inside (at_one xs i i (Some x) o refl at_x at_o ∙ same))
    where
      inside : (let p : Option T = Some x in p ≡ Some y) → x ≡ y
      inside e = cc

  -- where a seat knows of each item that it is finished, each lies in its place
  pub ends : (tag : G) (id : ℕ) (v : View G) (ws : List ℕ) (xs : List (Option T)) → Final (Seen (Rule tag) id v) ws xs → (i : ℕ) → Has i v.finished
      → (x : T) × (get_elem? xs i ≡ some (Some x)) × IsItem number finished good tag i true x
  ends tag id v ws xs f i known =
      let r = f.1.0 in
      let t = (r.each_seat id v f.1.1).finished_items i known in
      let x = (r.each_item i t.0).done t.1 in
      (x.0, f.4 i (Some x.0) x.1, x.2)
