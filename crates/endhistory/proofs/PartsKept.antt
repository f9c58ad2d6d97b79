-- Each kind of step keeps the six parts of the rule: over plain data, with no seat.
use Rattle.std.proofs.Common.{◌≡◌, ◌≢◌, ℕ, ◌+◌, ◌%◌, ◌<◌, ◌≤◌, List, length, get_or, set, sym, refl, ap, ◌∙◌, subst, arith}
use mathlib.Core.Logic.{dite}
use native.Mathlib.Decide.{dec_le, ℕ_discrete}
use Rattle.std.proofs.lemmas.List.{get_or-set_other, get_or-set_same, length-set}
use Rattle.atomic_table.proofs.Lists.{one_turn}
use Rattle.endhistory.specs.declared.views.Sizes.{Sizes}
use Rattle.endhistory.specs.declared.views.Writing.{Writing}
use Rattle.endhistory.specs.declared.views.Reading.{Reading}
use Rattle.endhistory.specs.Blocks.{Blocks, block, data_word, word_count}
use Rattle.endhistory.specs.Steps.{IsFree, FillNeeds, PublishNeeds, TakeNeeds, PassNeeds, checked_view, filled_view, published_view, looked_view, taken_view, passed_view}
use Rattle.endhistory.specs.Rule.{IsStored, Parts}
use Rattle.endhistory.proofs.Functions.{put, put_each}
use Rattle.endhistory.proofs.Slots.{risen, slot_apart, data_inside, data_past, same_slot, set_count}

module _ (z : Sizes) (blocks : Blocks) (words : List ℕ) (w : Writing) (q : ℕ → Reading) where
  pub checks : (r n : ℕ) → r < z.readers → n ≡ get_or words (1 + r) 0 → Parts z blocks words w q
      → Parts z blocks words (checked_view w r n) q × (get_or w.known r 0 ≤ n)
  checks r n l is p =
      let now : n ≡ (q r).next = is ∙ p.passed r l in
      let le : get_or w.known r 0 ≤ n = let k = p.known r l in omega arith in
      let inside : r < length w.known = let e = p.each_known in omega arith in
      let rises : (k : ℕ) → get_or w.known k 0 ≤ get_or (set w.known r n) k 0 = risen w.known r n inside le in
      let freer : IsFree z w → IsFree z (checked_view w r n) = λ f k m. let a = f k m in let b = rises k in omega arith in (
        record {
          published = p.published;
          within = p.within;
          passed = p.passed;
          behind = p.behind;
          window = p.window;
          known = λ k m. dite (ℕ_discrete k r)
              (λ e. subst (λ (j : ℕ). get_or (set w.known r n) j 0 ≤ (q j).next) (sym e) (let s = get_or-set_same w.known r n 0 inside in omega arith))
              (λ other. let a = p.known k m in let s = get_or-set_other w.known r k n 0 other in omega arith);
          each_known = length-set w.known r n ∙ p.each_known;
          filling = λ some. let f = p.filling some in (freer f.0, f.1);
          seen = p.seen;
          taking = p.taking;
          stored = λ c a b ex. p.stored c a b (λ e f. ex e (freer f));
          begun = p.begun;
        },
        le,
      )

  pub fills : (word x : ℕ) → 0 < z.slots → length words ≡ word_count z → FillNeeds z blocks w word x → Parts z blocks words w q → Parts z blocks (set words word x) (filled_view w) q
  fills word x some wide needs p =
      let at : ℕ = data_word z w.next w.filled in
      let is : word ≡ at = needs.place in
      let past : (k : ℕ) → k < 1 + z.readers → get_or (set words word x) k 0 ≡ get_or words k 0 =
      λ k l. get_or-set_other words word k x 0 (λ e. data_past z w.next w.filled k l (sym is ∙ sym e)) in
      let inside : word < length words = let d = data_inside z w.next w.filled some needs.room in omega arith in
      record {
        published = past 0 (omega arith) ∙ p.published;
        within = p.within;
        passed = λ r l. past (1 + r) (omega arith) ∙ p.passed r l;
        behind = p.behind;
        window = p.window;
        known = p.known;
        each_known = p.each_known;
        filling = λ _. (needs.free, needs.within);
        seen = p.seen;
        taking = p.taking;
        stored = λ c l m ex. same_slot z blocks words (set words word x) c z.width
            (λ i b. get_or-set_other words word (data_word z c i) x 0 (λ e. slot_apart z c w.next i w.filled b needs.room
            (λ turn. dite (ℕ_discrete w.next (c + z.slots)) (λ last. ex last needs.free) (λ other. let same : c ≡ w.next = one_turn c w.next z.slots (omega arith) (omega arith) turn in omega arith)) (e ∙ is)))
            (p.stored c l m ex);
        begun = λ i l. dite (ℕ_discrete i w.filled)
            (λ e. subst (λ (j : ℕ). get_or (set words word x) (data_word z w.next j) 0 ≡ get_or (block blocks w.next) j 0) (sym e)
            (subst (λ (k : ℕ). get_or (set words word x) k 0 ≡ get_or (block blocks w.next) w.filled 0) is (get_or-set_same words word x 0 inside ∙ needs.word_is)))
            (λ other. get_or-set_other words word (data_word z w.next i) x 0 (λ e. other (let same : data_word z w.next i ≡ data_word z w.next w.filled = e ∙ is in omega arith)) ∙ p.begun i (omega arith));
      }

  pub publishes : (word x : ℕ) → 0 < length words → 0 < z.width → PublishNeeds z w word x → Parts z blocks words w q → Parts z blocks (set words word x) (published_view w) q
  publishes word x some wide needs p =
      let f = p.filling (let e = needs.full in omega arith) in
      let here : word ≡ 0 = needs.place in
      let other : (r : ℕ) → get_or (set words word x) (1 + r) 0 ≡ get_or words (1 + r) 0 = λ r. get_or-set_other words word (1 + r) x 0 (λ e. omega arith) in
      let kept : (c n : ℕ) → IsStored z blocks words c n → IsStored z blocks (set words word x) c n = λ c n. set_count z blocks words word x c n (omega arith) in
      record {
        published = subst (λ (k : ℕ). get_or (set words k x) 0 0 ≡ w.next + 1) (sym here) (get_or-set_same words 0 x 0 some ∙ needs.word_is);
        within = let l = f.1 in omega arith;
        passed = λ r l. other r ∙ p.passed r l;
        behind = λ r l. let b = p.behind r l in omega arith;
        window = λ r l. let a = f.0 r l in let b = p.known r l in omega arith;
        known = p.known;
        each_known = p.each_known;
        filling = λ l. absurd (omega arith);
        seen = λ r l. let b = p.seen r l in omega arith;
        taking = p.taking;
        stored = λ c l m ex. kept c z.width (dite (ℕ_discrete c w.next)
            (λ e. subst (λ (d : ℕ). IsStored z blocks words d z.width) (sym e) (subst (IsStored z blocks words w.next) needs.full p.begun))
            (λ ne. p.stored c (omega arith) (omega arith) (λ e _. omega arith)));
        begun = λ i l. absurd (omega arith);
      }

  -- a step of reader r: the six facts that speak of it hold of its new view
  reads : (words' : List ℕ) (r : ℕ) (y : Reading) → ((k : ℕ) → k ≢ 1 + r → get_or words' k 0 ≡ get_or words k 0) → r < z.readers
      → get_or words' (1 + r) 0 ≡ y.next → y.next ≤ w.next → w.next ≤ y.next + z.slots → get_or w.known r 0 ≤ y.next → y.seen ≤ w.next → (0 < y.taken → y.next < y.seen)
      → Parts z blocks words w q → Parts z blocks words' w (put q r y)
  reads words' r y same l passed behind window known seen taking p = record {
    published = same 0 (λ e. omega arith) ∙ p.published;
    within = p.within;
    passed = put_each (λ (k : ℕ) (v : Reading). k < z.readers → get_or words' (1 + k) 0 ≡ v.next) q r y (λ _. passed) (λ k other m. same (1 + k) (λ e. other (omega arith)) ∙ p.passed k m);
    behind = put_each (λ (k : ℕ) (v : Reading). k < z.readers → v.next ≤ w.next) q r y (λ _. behind) (λ k other m. p.behind k m);
    window = put_each (λ (k : ℕ) (v : Reading). k < z.readers → w.next ≤ v.next + z.slots) q r y (λ _. window) (λ k other m. p.window k m);
    known = put_each (λ (k : ℕ) (v : Reading). k < z.readers → get_or w.known k 0 ≤ v.next) q r y (λ _. known) (λ k other m. p.known k m);
    each_known = p.each_known;
    filling = p.filling;
    seen = put_each (λ (k : ℕ) (v : Reading). k < z.readers → v.seen ≤ w.next) q r y (λ _. seen) (λ k other m. p.seen k m);
    taking = put_each (λ (k : ℕ) (v : Reading). k < z.readers → 0 < v.taken → v.next < v.seen) q r y (λ _. taking) (λ k other m. p.taking k m);
    stored = λ c a b ex. same_slot z blocks words words' c z.width (λ i _. same (data_word z c i) (data_past z c i (1 + r) (omega arith))) (p.stored c a b ex);
    begun = same_slot z blocks words words' w.next w.filled (λ i _. same (data_word z w.next i) (data_past z w.next i (1 + r) (omega arith))) p.begun;
  }

  pub looks : (r n : ℕ) → r < z.readers → n ≡ get_or words 0 0 → Parts z blocks words w q
      → Parts z blocks words w (put q r (looked_view (q r) n)) × ((q r).seen ≤ n) × (n ≤ length blocks)
  looks r n l is p =
      let now : n ≡ w.next = is ∙ p.published in
      let before = p.seen r l in (
        reads words r (looked_view (q r) n) (λ _ _. refl) l (p.passed r l) (p.behind r l) (p.window r l) (p.known r l) (omega arith) (λ some. let t = p.taking r l some in omega arith) p,
        omega arith,
        let b = p.within in omega arith,
      )

  pub takes : (r n word : ℕ) → r < z.readers → TakeNeeds z (q r) word → n ≡ get_or words word 0 → Parts z blocks words w q
      → Parts z blocks words w (put q r (taken_view (q r))) × (n ≡ get_or (block blocks (q r).next) (q r).taken 0)
  takes r n word l needs is p =
      let ready : (q r).next < (q r).seen = needs.ready in
      let seen = p.seen r l in
      let known = p.known r l in (
        reads words r (taken_view (q r)) (λ _ _. refl) l (p.passed r l) (p.behind r l) (p.window r l) known seen (λ _. ready) p,
        is ∙ ap (λ (k : ℕ). get_or words k 0) needs.place ∙ p.stored (q r).next (omega arith) (p.window r l) (λ e free. let f = free r l in omega arith) (q r).taken needs.room,
      )

  pub passes : (r word x : ℕ) → r < z.readers → 1 + r < length words → 0 < z.width → PassNeeds z r (q r) word x → Parts z blocks words w q
      → Parts z blocks (set words word x) w (put q r (passed_view (q r)))
  passes r word x l inside wide needs p =
      let at : word ≡ 1 + r = needs.place in
      let t = p.taking r l (let e = needs.full in omega arith) in
      let seen = p.seen r l in
      let window = p.window r l in
      let known = p.known r l in
      reads (set words word x) r (passed_view (q r)) (λ k other. get_or-set_other words word k x 0 (λ e. other (e ∙ at))) l
      (subst (λ (k : ℕ). get_or (set words k x) (1 + r) 0 ≡ (q r).next + 1) (sym at) (get_or-set_same words (1 + r) x 0 inside ∙ needs.word_is))
      (omega arith) (omega arith) (omega arith) seen (λ some. absurd (omega arith)) p

  -- where the writer may fill, every reader has passed each older block of the slot
  pub passed_older : 0 < z.slots → Parts z blocks words w q → IsFree z w → (c r : ℕ) → c < w.next → c % z.slots ≡ w.next % z.slots → r < z.readers → c < get_or words (1 + r) 0
  passed_older some p free c r older turn l = dite (dec_le w.next (c + z.slots))
      (λ near. dite (ℕ_discrete w.next (c + z.slots))
      (λ last. let f = free r l in let k = p.known r l in let e = p.passed r l in omega arith)
      (λ other. let same : c ≡ w.next = one_turn c w.next z.slots (omega arith) (omega arith) turn in absurd (omega arith)))
      (λ far. let f = free r l in let k = p.known r l in let e = p.passed r l in omega arith)
