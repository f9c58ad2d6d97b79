-- A head between the extremes, and no volume, at a step that isn't earlier than theirs: nothing
-- changes.
use Rattle.std.proofs.Common.{◌≡◌, ◌≢◌, ◌∙◌, ℕ, ◌+◌, ◌<◌, ◌≤◌, ◌⊎◌, inl, inr, ℤ, refl, List, length, get_or, set, sym, ap, subst, Option, Some, None, arith}
use Rattle.std.specs.Prelude.{pos, ◌≤ℤ◌, ◌<ℤ◌, IfSome}
use Rattle.std.proofs.lemmas.Int.{ints}
use Rattle.std.proofs.lemmas.List.{get_or-set_same, get_or-set_other}
use Rattle.case_model.specs.declared.points.Point.{Point}
use Rattle.case_model.specs.declared.spots.Spot.{Spot}
use Rattle.case_model.specs.Runs.{calm_at, calm_point}
use Rattle.case_model.proofs.Running.{calm_spot}
use Rattle.case_model.specs.Samples.{Sample, head_of, volume_of, IsGreatest, IsSmallest}
use Rattle.envelope.specs.Calm.{ArePlain, IsEarly, IsJoined, IsPlain, IsReady, IsSettled, Joins}
use Rattle.envelope.specs.Extremes.{AgreeAlong, HasExtreme, either, unmet}
use Rattle.envelope.specs.declared.extremes.Extreme.{Extreme}
use Rattle.envelope.proofs.Greatest.{same-greatest, same-smallest}
use Rattle.envelope.proofs.Joined.{head-agree, head-either, volume-either, met}
use Rattle.envelope.proofs.Sampled.{alone}
use Rattle.std.proofs.lemmas.Bool.{cases_eq}
use Rattle.std.specs.Option.{option_or}

bounded : (a b : Option ℤ) (P : ℤ → Type 0) → IfSome a P → IfSome b P → IfSome (option_or a b) P
bounded None b P h k = k
bounded (Some x) b P h k = h

one-bound : (b : Option ℤ) (y : ℤ) (P : ℤ → Type 0) → b ≡ Some y → P y → IfSome b P
one-bound None y P e h = cc
one-bound (Some z) y P e h = let q : y ≡ z = cc in subst P q h

no-bound : (b : Option ℤ) (P : ℤ → Type 0) → b ≡ None → IfSome b P
no-bound None P e = tt
no-bound (Some z) P e = cc

first-stands : (a b : Option ℤ) (x : ℤ) → a ≡ Some x → option_or a b ≡ Some x
first-stands (Some y) b x e = e
first-stands None b x e = cc

alone-bound : (g : ℕ → Option ℤ) (step s : ℕ) (y : ℤ) (P : ℤ → Type 0) → g step ≡ Some y → ((u : ℕ) → u ≢ step → g u ≡ None) → P y → IfSome (g s) P
alone-bound g step s y P e n h = elim (cases_eq s step) [
  | inl w ↦ one-bound (g s) y P (ap g w ∙ e) h
  | inr w ↦ no-bound (g s) P (n s w)
]

still-greatest : (f g : ℕ → Option ℤ) (last : ℕ) (x y : ℤ) (s step : ℕ) → s ≤ step → y ≤ℤ x → g step ≡ Some y → ((u : ℕ) → u ≢ step → g u ≡ None) → IsGreatest f last x s → IsGreatest (either f g) last x s
still-greatest f g last x y s step l o e n p = record {
  within = p.within;
  stands = first-stands (f s) (g s) x p.stands;
  bound = λ u h. bounded (f u) (g u) (λ v. v ≤ℤ x) (p.bound u h) (alone-bound g step u y (λ v. v ≤ℤ x) e n o);
  first = λ u h q. p.first u h (sym (alone (f u) (g u) (n u (λ w. omega arith))) ∙ q);
}

still-smallest : (f g : ℕ → Option ℤ) (last : ℕ) (x y : ℤ) (s step : ℕ) → s ≤ step → x ≤ℤ y → g step ≡ Some y → ((u : ℕ) → u ≢ step → g u ≡ None) → IsSmallest f last x s → IsSmallest (either f g) last x s
still-smallest f g last x y s step l o e n p = record {
  within = p.within;
  stands = first-stands (f s) (g s) x p.stands;
  bound = λ u h. bounded (f u) (g u) (λ v. x ≤ℤ v) (p.bound u h) (alone-bound g step u y (λ v. x ≤ℤ v) e n o);
  first = λ u h q. p.first u h (sym (alone (f u) (g u) (n u (λ w. omega arith))) ∙ q);
}

pub settled-sample : (step : ℕ) (x : Sample) (e : Extreme) → IsSettled step x.h x.v e
    → (f g : ℕ → Option Sample) (last : ℕ) → g step ≡ Some x → ((s : ℕ) → s ≢ step → g s ≡ None)
    → HasExtreme f last e → HasExtreme (either f g) last e
settled-sample step x e k f g last gs gn p =
    let h : ℤ = x.h in
    let low : e.min ≤ℤ h = k.low in
    let high : h ≤ℤ e.max = k.high in
    let m : e.min ≤ℤ e.max = omega (arith, ints) in
    let v = p.filled m in
    met (either f g) last e (record {
      greatest_head = same-greatest (either (λ s. head_of (f s)) (λ s. head_of (g s))) (λ s. head_of (either f g s)) last e.max e.max_step (λ s l. head-either (f s) (g s))
          (still-greatest (λ s. head_of (f s)) (λ s. head_of (g s)) last e.max h e.max_step step k.high_first high (ap head_of gs) (λ u n. ap head_of (gn u n)) v.greatest_head);
      least_head = same-smallest (either (λ s. head_of (f s)) (λ s. head_of (g s))) (λ s. head_of (either f g s)) last e.min e.min_step (λ s l. head-either (f s) (g s))
          (still-smallest (λ s. head_of (f s)) (λ s. head_of (g s)) last e.min h e.min_step step k.low_first low (ap head_of gs) (λ u n. ap head_of (gn u n)) v.least_head);
      greatest_volume = same-greatest (either (λ s. volume_of (f s)) (λ s. volume_of (g s))) (λ s. volume_of (either f g s)) last e.volume e.volume_step (λ s l. volume-either (f s) (g s))
          (still-greatest (λ s. volume_of (f s)) (λ s. volume_of (g s)) last e.volume x.v e.volume_step step k.full_first k.full (ap volume_of gs) (λ u n. ap volume_of (gn u n)) v.greatest_volume);
    })

-- ---- a head that is a new extreme

agreed : (a b : Option ℤ) (y : ℤ) → ((z w : ℤ) → a ≡ Some z → b ≡ Some w → z ≡ w) → b ≡ Some y → option_or a b ≡ Some y
agreed None b y h e = e
agreed (Some z) b y h e = ap Some (h z y refl e)

weaker : (a : Option ℤ) (P Q : ℤ → Type 0) → ((z : ℤ) → P z → Q z) → IfSome a P → IfSome a Q
weaker None P Q h k = tt
weaker (Some z) P Q h k = h z k

no-first : (a b : Option ℤ) (y : ℤ) (P : ℤ → Type 0) → IfSome a P → (P y → ⊥) → b ≡ None → option_or a b ≢ Some y
no-first None b y P k h e = λ q. cc
no-first (Some z) b y P k h e = λ q. let w : z ≡ y = cc in h (subst P w k)

new-greatest : (f g : ℕ → Option ℤ) (last : ℕ) (x y : ℤ) (s step : ℕ) → step ≤ last → x <ℤ y → AgreeAlong f g → g step ≡ Some y → ((u : ℕ) → u ≢ step → g u ≡ None) → IsGreatest f last x s → IsGreatest (either f g) last y step
new-greatest f g last x y s step l o a e n p = record {
  within = l;
  stands = agreed (f step) (g step) y (λ z w. a step z w) e;
  bound = λ u h. bounded (f u) (g u) (λ v. v ≤ℤ y) (weaker (f u) (λ v. v ≤ℤ x) (λ v. v ≤ℤ y) (λ z k. omega (arith, ints)) (p.bound u h)) (alone-bound g step u y (λ v. v ≤ℤ y) e n (omega (arith, ints)));
  first = λ u h. no-first (f u) (g u) y (λ v. v ≤ℤ x) (p.bound u (omega arith)) (λ k. omega (arith, ints)) (n u (λ w. omega arith));
}

new-least : (f g : ℕ → Option ℤ) (last : ℕ) (x y : ℤ) (s step : ℕ) → step ≤ last → y <ℤ x → AgreeAlong f g → g step ≡ Some y → ((u : ℕ) → u ≢ step → g u ≡ None) → IsSmallest f last x s → IsSmallest (either f g) last y step
new-least f g last x y s step l o a e n p = record {
  within = l;
  stands = agreed (f step) (g step) y (λ z w. a step z w) e;
  bound = λ u h. bounded (f u) (g u) (λ v. y ≤ℤ v) (weaker (f u) (λ v. x ≤ℤ v) (λ v. y ≤ℤ v) (λ z k. omega (arith, ints)) (p.bound u h)) (alone-bound g step u y (λ v. y ≤ℤ v) e n (omega (arith, ints)));
  first = λ u h. no-first (f u) (g u) y (λ v. x ≤ℤ v) (p.bound u (omega arith)) (λ k. omega (arith, ints)) (n u (λ w. omega arith));
}

pub raised-sample : (step : ℕ) (x : Sample) (e : Extreme) → IsEarly step e → e.min ≤ℤ e.max → e.max <ℤ x.h → x.v ≤ℤ e.volume
    → (f g : ℕ → Option Sample) (last : ℕ) → step ≤ last → AgreeAlong f g → g step ≡ Some x → ((s : ℕ) → s ≢ step → g s ≡ None)
    → HasExtreme f last e
    → HasExtreme (either f g) last (record { max = x.h; max_step = step; min = e.min; min_step = e.min_step; volume = e.volume; volume_step = e.volume_step })
raised-sample step x e k m over full f g last l a gs gn p =
    let h : ℤ = x.h in
    let low : e.min ≤ℤ h = omega (arith, ints) in
    let v = p.filled m in
    met (either f g) last _ (record {
      greatest_head = same-greatest (either (λ s. head_of (f s)) (λ s. head_of (g s))) (λ s. head_of (either f g s)) last x.h step (λ s l. head-either (f s) (g s))
          (new-greatest (λ s. head_of (f s)) (λ s. head_of (g s)) last e.max h e.max_step step l over (λ s. head-agree (f s) (g s) (a s)) (ap head_of gs) (λ u n. ap head_of (gn u n)) v.greatest_head);
      least_head = same-smallest (either (λ s. head_of (f s)) (λ s. head_of (g s))) (λ s. head_of (either f g s)) last e.min e.min_step (λ s l. head-either (f s) (g s))
          (still-smallest (λ s. head_of (f s)) (λ s. head_of (g s)) last e.min h e.min_step step k.low_first low (ap head_of gs) (λ u n. ap head_of (gn u n)) v.least_head);
      greatest_volume = same-greatest (either (λ s. volume_of (f s)) (λ s. volume_of (g s))) (λ s. volume_of (either f g s)) last e.volume e.volume_step (λ s l. volume-either (f s) (g s))
          (still-greatest (λ s. volume_of (f s)) (λ s. volume_of (g s)) last e.volume x.v e.volume_step step k.full_first full (ap volume_of gs) (λ u n. ap volume_of (gn u n)) v.greatest_volume);
    })

pub lowered-sample : (step : ℕ) (x : Sample) (e : Extreme) → IsEarly step e → e.min ≤ℤ e.max → x.h <ℤ e.min → x.v ≤ℤ e.volume
    → (f g : ℕ → Option Sample) (last : ℕ) → step ≤ last → AgreeAlong f g → g step ≡ Some x → ((s : ℕ) → s ≢ step → g s ≡ None)
    → HasExtreme f last e
    → HasExtreme (either f g) last (record { max = e.max; max_step = e.max_step; min = x.h; min_step = step; volume = e.volume; volume_step = e.volume_step })
lowered-sample step x e k m under full f g last l a gs gn p =
    let h : ℤ = x.h in
    let high : h ≤ℤ e.max = omega (arith, ints) in
    let v = p.filled m in
    met (either f g) last _ (record {
      greatest_head = same-greatest (either (λ s. head_of (f s)) (λ s. head_of (g s))) (λ s. head_of (either f g s)) last e.max e.max_step (λ s l. head-either (f s) (g s))
          (still-greatest (λ s. head_of (f s)) (λ s. head_of (g s)) last e.max h e.max_step step k.high_first high (ap head_of gs) (λ u n. ap head_of (gn u n)) v.greatest_head);
      least_head = same-smallest (either (λ s. head_of (f s)) (λ s. head_of (g s))) (λ s. head_of (either f g s)) last x.h step (λ s l. head-either (f s) (g s))
          (new-least (λ s. head_of (f s)) (λ s. head_of (g s)) last e.min h e.min_step step l under (λ s. head-agree (f s) (g s) (a s)) (ap head_of gs) (λ u n. ap head_of (gn u n)) v.least_head);
      greatest_volume = same-greatest (either (λ s. volume_of (f s)) (λ s. volume_of (g s))) (λ s. volume_of (either f g s)) last e.volume e.volume_step (λ s l. volume-either (f s) (g s))
          (still-greatest (λ s. volume_of (f s)) (λ s. volume_of (g s)) last e.volume x.v e.volume_step step k.full_first full (ap volume_of gs) (λ u n. ap volume_of (gn u n)) v.greatest_volume);
    })

-- ---- a cell after a sample

pub joined-nothing : (step : ℕ) (h v : ℤ) (e : Extreme) → IsSettled step h v e → IsJoined step h v e e
joined-nothing step h v e k = record {
  here = λ x xh xv f g last l a gs gn p.
      settled-sample step x e (subst (λ z. IsSettled step z x.v e) (sym xh) (subst (λ z. IsSettled step h z e) (sym xv) k)) f g last gs gn p;
  plain = λ last l o p. p;
}

pub joined-over : (step : ℕ) (h v : ℤ) (e : Extreme) → IsReady step v e → pos 0 ≤ℤ e.volume → e.max <ℤ h
    → IsJoined step h v e (record { max = h; max_step = step; min = e.min; min_step = e.min_step; volume = e.volume; volume_step = e.volume_step })
joined-over step h v e r w over =
    let m : e.min ≤ℤ e.max = r.plain.taken w in
    record {
      here = λ x xh xv f g last l a gs gn p.
          subst (λ z. HasExtreme (either f g) last (record { max = z; max_step = step; min = e.min; min_step = e.min_step; volume = e.volume; volume_step = e.volume_step })) xh
          (raised-sample step x e r.plain.early m (subst (λ z. e.max <ℤ z) (sym xh) over) (subst (λ z. z ≤ℤ e.volume) (sym xv) (r.full m)) f g last l a gs gn p);
      plain = λ last l o p. record {
        early = record { high_first = l; low_first = p.early.low_first; full_first = p.early.full_first };
        taken = λ q. omega (arith, ints);
        filled = λ q. w;
      };
    }

pub joined-under : (step : ℕ) (h v : ℤ) (e : Extreme) → IsReady step v e → pos 0 ≤ℤ e.volume → h <ℤ e.min
    → IsJoined step h v e (record { max = e.max; max_step = e.max_step; min = h; min_step = step; volume = e.volume; volume_step = e.volume_step })
joined-under step h v e r w under =
    let m : e.min ≤ℤ e.max = r.plain.taken w in
    record {
      here = λ x xh xv f g last l a gs gn p.
          subst (λ z. HasExtreme (either f g) last (record { max = e.max; max_step = e.max_step; min = z; min_step = step; volume = e.volume; volume_step = e.volume_step })) xh
          (lowered-sample step x e r.plain.early m (subst (λ z. z <ℤ e.min) (sym xh) under) (subst (λ z. z ≤ℤ e.volume) (sym xv) (r.full m)) f g last l a gs gn p);
      plain = λ last l o p. record {
        early = record { high_first = p.early.high_first; low_first = l; full_first = p.early.full_first };
        taken = λ q. omega (arith, ints);
        filled = λ q. w;
      };
    }

-- ---- no extreme stands first at a later step

pub later : (step last : ℕ) (e : Extreme) → step ≤ last → IsPlain step e → IsPlain last e
later step last e l h =
    let high = h.early.high_first in
    let low = h.early.low_first in
    let full = h.early.full_first in
    record { early = record { high_first = omega arith; low_first = omega arith; full_first = omega arith }; taken = h.taken; filled = h.filled }

pub all-later : (step last : ℕ) (cells : List Extreme) → step ≤ last → ArePlain step cells → ArePlain last cells
all-later step last cells l h = λ c. later step last (get_or cells c unmet) l (h c)

pub plain-set : (last : ℕ) (cells : List Extreme) (cell : ℕ) (e : Extreme) → ArePlain last cells → cell < length cells → IsPlain last e → ArePlain last (set cells cell e)
plain-set last cells cell e h l k = λ c. elim (cases_eq c cell) [
  | inl w ↦ subst (IsPlain last) (sym (ap (λ i. get_or (set cells cell e) i unmet) w ∙ get_or-set_same cells cell e unmet l)) k
  | inr w ↦ subst (IsPlain last) (sym (get_or-set_other cells cell c e unmet w)) (h c)
]

-- ---- the points of a run of cells, one more

-- the first so many of these points are joined to the cells from `first` on
pub record HaveJoined (spots : List Spot) (first count step : ℕ) (old new : List Extreme) : Type 0 where
  pub here : (i : ℕ) → i < count → Joins (get_or old (first + i) unmet) (get_or new (first + i) unmet) step (calm_at spots i)
  pub others : (c : ℕ) → (c < first) ⊎ (first + count ≤ c) → get_or new c unmet ≡ get_or old c unmet
  pub count_is : length new ≡ length old

pub none-joined : (spots : List Spot) (first step : ℕ) (cells : List Extreme) → HaveJoined spots first 0 step cells cells
none-joined spots first step cells = record { here = λ i h. absurd (omega arith); others = λ c h. refl; count_is = refl }

join-retaken : (a b c d : Extreme) (step : ℕ) (x y : Point) → a ≡ b → c ≡ d → x ≡ y → Joins b d step y → Joins a c step x
join-retaken a b c d step x y p q r h = subst (λ v. Joins v c step x) (sym p) (subst (λ v. Joins b v step x) (sym q) (subst (λ v. Joins b d step v) (sym r) h))

pub joined-more : (spots : List Spot) (first i step : ℕ) (old mid new : List Extreme) (spot : Spot) → i < length spots → spot ≡ get_or spots i spot
    → HaveJoined spots first i step old mid
    → Joins (get_or mid (first + i) unmet) (get_or new (first + i) unmet) step (calm_point spot)
    → ((c : ℕ) → c ≢ first + i → get_or new c unmet ≡ get_or mid c unmet) → length new ≡ length mid
    → HaveJoined spots first (i + 1) step old new
joined-more spots first i step old mid new spot l e h j o n = record {
  here = λ k b. elim (cases_eq k i) [
    | inl w ↦
        subst (λ z. Joins (get_or old (first + z) unmet) (get_or new (first + z) unmet) step (calm_at spots z)) (sym w)
        (join-retaken (get_or old (first + i) unmet) (get_or mid (first + i) unmet) (get_or new (first + i) unmet) (get_or new (first + i) unmet) step (calm_at spots i) (calm_point spot)
        (sym (h.others (first + i) (inr (omega arith)))) refl (calm_spot spots i spot l ∙ ap calm_point (sym e)) j)
    | inr w ↦
        join-retaken (get_or old (first + k) unmet) (get_or old (first + k) unmet) (get_or new (first + k) unmet) (get_or mid (first + k) unmet) step (calm_at spots k) (calm_at spots k)
        refl (o (first + k) (λ z. w (omega arith))) refl (h.here k (omega arith))
  ];
  others = λ c d. elim d [
    | inl a ↦ o c (λ z. absurd (omega arith)) ∙ h.others c (inl a)
    | inr a ↦ o c (λ z. absurd (omega arith)) ∙ h.others c (inr (omega arith))
  ];
  count_is = n ∙ h.count_is;
}
