-- What stays true of one item, and of one seat, over a step.
use Rattle.std.proofs.Common.{◌≡◌, ◌≢◌, ℕ, ◌+◌, ◌<◌, Bool, List, length, get_or, set, sym, ap, ◌∙◌, arith, Option, Some}
use mathlib.Core.Logic.{dite}
use mathlib.Core.Option.{some, none}
use mathlib.Core.Option as maybe
use native.Mathlib.Decide.{ℕ_discrete}
use lib.ListN.{get_elem?}
use Rattle.atomic_table.specs.Table.{State}
use Rattle.atomic_table.proofs.Lists.{set_here, set_else}
use Rattle.claimboard.specs.declared.views.View.{View}
use Rattle.claimboard.specs.Board.{Names, ItemStands, SeatStands, OneBoard}
use Rattle.claimboard.proofs.Owners.{within, at_one, seats_stay}

module _ {T G : Type 0} (number : T → ℕ) (finished : T → Bool) (good : G → T → Type 0) where
  abbrev Homes : Type 0
  Homes = List (maybe.Option (Option T))

  abbrev Views : Type 0
  Views = List (View G)

  -- the holder of an item is another seat than one that doesn't name it
  pub holder_else : (seat_of : ℕ → ℕ) (views : Views) (id : ℕ) (d w : View G) (j : ℕ) → get_elem? views id ≡ some d → (d.item ≡ Some j → ⊥)
      → (n : ℕ) → Names seat_of views j n → Names seat_of (set views id w) j n
  holder_else seat_of views id d w j at unnamed n h =
      (h.0, set_else views id (seat_of n) w (λ same. unnamed (ap (λ (v : View G). v.item) (at_one views id (seat_of n) d h.0 (sym same) at h.1) ∙ h.3)) ∙ h.1, h.2, h.3)

  -- a seat that keeps its number and its item
  pub holder_same : (seat_of : ℕ → ℕ) (views : Views) (id : ℕ) (d w : View G) (j : ℕ) → get_elem? views id ≡ some d → w.number ≡ d.number → w.item ≡ d.item
      → (n : ℕ) → Names seat_of views j n → Names seat_of (set views id w) j n
  holder_same seat_of views id d w j at num it n h = dite (ℕ_discrete (seat_of n) id)
      (λ same. let is : d ≡ h.0 = at_one views id (seat_of n) d h.0 (sym same) at h.1 in
      (w, ap (get_elem? (set views id w)) same ∙ set_here views id w (within views id d at), num ∙ ap (λ (v : View G). v.number) is ∙ h.2, it ∙ ap (λ (v : View G). v.item) is ∙ h.3))
      (λ other. (h.0, set_else views id (seat_of n) w other ∙ h.1, h.2, h.3))

  -- an item whose word, slot and holder a step does not touch
  pub item_stays : (tag : G) (of of' : ℕ → ℕ) (homes homes' : Homes) (views views' : Views) (j word word' : ℕ) → word' ≡ word → get_elem? homes' j ≡ get_elem? homes j
      → ((n : ℕ) → Names of views j n → Names of' views' j n)
      → ItemStands number finished good tag of homes views j word → ItemStands number finished good tag of' homes' views' j word'
  item_stays tag of of' homes homes' views views' j word word' same home holder ok = record {
    free = λ e. let l = ok.free (sym same ∙ e) in (l.0, home ∙ l.1, l.2);
    done = λ e. let l = ok.done (sym same ∙ e) in (l.0, home ∙ l.1, l.2);
    held = λ n e. let h = ok.held n (sym same ∙ e) in (home ∙ h.0, holder n h.1);
  }

  -- a seat that a step of another does not touch
  pub seat_stays : (tag : G) (dealt dealer : ℕ) (of : ℕ → ℕ) (words words' : List ℕ) (j : ℕ) (v : View G) → length words' ≡ length words
      → ((i n : ℕ) → v.item ≡ Some i → v.number ≡ Some n → i < length words → get_or words i 0 ≡ n + 2 → get_or words' i 0 ≡ n + 2)
      → ((i : ℕ) → i < length words → get_or words i 0 ≡ 1 → get_or words' i 0 ≡ 1)
      → SeatStands tag dealt dealer of words j v → SeatStands tag dealt dealer of words' j v
  seat_stays tag dealt dealer of words words' j v long held done ok = record {
    same_tag = ok.same_tag;
    numbered = ok.numbered;
    bare = ok.bare;
    names = λ i n a b. let t = ok.names i n a b in (omega (arith, long, t.0), held i n a b t.0 t.1);
    finished_items = λ i h. let t = ok.finished_items i h in (omega (arith, long, t.0), done i t.0 t.1);
    deals = ok.deals;
  }

  -- the rule after a step of the seat id
  pub after_step : (tag : G) (s : State (Option T) (View G)) (r : OneBoard number finished good tag s) (id : ℕ) (w : View G) (words' : List ℕ) (homes' : Homes)
      → length words' ≡ length s.words → length homes' ≡ length s.homes
      → ((j : ℕ) → j < length s.words → ItemStands number finished good tag r.seat_of homes' (set s.views id w) j (get_or words' j 0))
      → SeatStands tag r.dealt r.dealer r.seat_of words' id w
      → ((j : ℕ) (d : View G) → j ≢ id → get_elem? s.views j ≡ some d → SeatStands tag r.dealt r.dealer r.seat_of words' j d)
      → OneBoard number finished good tag record { words = words'; homes = homes'; views = set s.views id w }
  after_step tag s r id w words' homes' long wide items mine others = record {
    dealt = r.dealt;
    dealer = r.dealer;
    seat_of = r.seat_of;
    a_slot_each = long ∙ r.a_slot_each ∙ sym wide;
    each_item = λ j l. items j (omega (arith, long, l));
    each_seat = seats_stay (SeatStands tag r.dealt r.dealer r.seat_of words') s.views id w mine others;
  }
