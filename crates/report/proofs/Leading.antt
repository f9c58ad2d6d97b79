-- The better of places, one after the other, is the first that no other passes.
use Rattle.std.proofs.Common.{◌≡◌, ◌∙◌, ℕ, ◌<◌, ◌≤◌, ◌⊎◌, inl, inr, Bool, true, false, not, ◌||◌, ◌&&◌, cond, int_lt, nat_lt, ℤ, ◌<ℤ◌, List, [], ◌∷◌, ◌++◌, get_or, refl, ap, sym, subst, append_assoc, append-nil, arith}
use Rattle.std.specs.List.{All, filter, fold, list_any}
use Rattle.std.proofs.lemmas.Bool.Decides.{nat_tests}
use Rattle.std.proofs.lemmas.Int.{ints}
use Rattle.std.proofs.lemmas.List.Elements.{All-nil, All-cons, All-head, All-tail, All-append, All-push, All-weaker, filter-append}
use Rattle.std.proofs.lemmas.List.Folds.{list_any-append, list_any_none}
use Rattle.case_model.specs.declared.cases.ProbeAt.{ProbeAt}
use Rattle.case_model.specs.declared.cases.ProbeAt.TheVariants.{OnPipe}
use Rattle.envelope.specs.declared.extremes.Extreme.{Extreme}
use Rattle.report.specs.Bounds.{passing}
use Rattle.report.specs.Peaks.{is_above, is_below, is_unpassed, first_unpassed}
use Rattle.report.specs.declared.peaks.Bound.{Bound}
use Rattle.report.specs.declared.peaks.Bound.TheVariants.{Greatest, Least}

-- ---- what passes what

-- none passes itself, of two at most one passes the other, and what passes one passes all that this one isn't passed by
pub record IsOrder (passes : Extreme → Extreme → Bool) : Type 0 where
  pub never : (a : Extreme) → passes a a ≡ false
  pub once : (a b : Extreme) → passes a b ≡ true → passes b a ≡ false
  pub behind : (a b c : Extreme) → passes a b ≡ true → passes c b ≡ false → passes a c ≡ true

-- what a test of two heads with their steps tells
abbrev pub IsMore : ℤ → ℕ → ℤ → ℕ → Type 0
IsMore x s y t = (y <ℤ x) ⊎ ((x ≡ y) × (s < t))

abbrev pub IsNoMore : ℤ → ℕ → ℤ → ℕ → Type 0
IsNoMore x s y t = (x <ℤ y) ⊎ ((x ≡ y) × (t ≤ s))

more_of : (x y : ℤ) (s t : ℕ) → (int_lt y x || (not (int_lt x y) && nat_lt s t)) ≡ true → IsMore x s y t
more_of x y s t h = grind (arith, ints, nat_tests)

no_more_of : (x y : ℤ) (s t : ℕ) → (int_lt y x || (not (int_lt x y) && nat_lt s t)) ≡ false → IsNoMore x s y t
no_more_of x y s t h = grind (arith, ints, nat_tests)

tested_more : (x y : ℤ) (s t : ℕ) → IsMore x s y t → (int_lt y x || (not (int_lt x y) && nat_lt s t)) ≡ true
tested_more x y s t (inl h) = grind (arith, ints, nat_tests)
tested_more x y s t (inr h) = grind (arith, ints, nat_tests)

tested_no_more : (x y : ℤ) (s t : ℕ) → IsNoMore x s y t → (int_lt y x || (not (int_lt x y) && nat_lt s t)) ≡ false
tested_no_more x y s t (inl h) = grind (arith, ints, nat_tests)
tested_no_more x y s t (inr h) = grind (arith, ints, nat_tests)

more_once : (x y : ℤ) (s t : ℕ) → IsMore x s y t → IsNoMore y t x s
more_once x y s t (inl h) = inl h
more_once x y s t (inr h) = inr (sym h.0, omega arith)

more_behind : (x y z : ℤ) (s t u : ℕ) → IsMore x s y t → IsNoMore z u y t → IsMore x s z u
more_behind x y z s t u (inl h) (inl k) = inl (omega (arith, ints))
more_behind x y z s t u (inl h) (inr k) = inl (omega (arith, ints))
more_behind x y z s t u (inr h) (inl k) = inl (omega (arith, ints))
more_behind x y z s t u (inr h) (inr k) = inr (h.0 ∙ sym k.0, omega arith)

pub above-order : IsOrder is_above
unfolding is_above
above-order = record {
  never = λ a. tested_no_more a.max a.max a.max_step a.max_step (inr (refl, omega arith));
  once = λ a b h. tested_no_more b.max a.max b.max_step a.max_step (more_once a.max b.max a.max_step b.max_step (more_of a.max b.max a.max_step b.max_step h));
  behind = λ a b c h k. tested_more a.max c.max a.max_step c.max_step
      (more_behind a.max b.max c.max a.max_step b.max_step c.max_step (more_of a.max b.max a.max_step b.max_step h) (no_more_of c.max b.max c.max_step b.max_step k));
}

pub no_more_above : (a b : Extreme) → is_above b a ≡ false → IsNoMore b.max b.max_step a.max a.max_step
unfolding is_above
no_more_above a b h = no_more_of b.max a.max b.max_step a.max_step h

pub more_above : (a b : Extreme) → is_above a b ≡ true → IsMore a.max a.max_step b.max b.max_step
unfolding is_above
more_above a b h = more_of a.max b.max a.max_step b.max_step h

less_behind : (x y z : ℤ) (s t u : ℕ) → IsMore y s x t → IsNoMore y u z t → IsMore z s x u
less_behind x y z s t u (inl h) (inl k) = inl (omega (arith, ints))
less_behind x y z s t u (inl h) (inr k) = inl (omega (arith, ints))
less_behind x y z s t u (inr h) (inl k) = inl (omega (arith, ints))
less_behind x y z s t u (inr h) (inr k) = inr (sym k.0 ∙ h.0, omega arith)

pub below-order : IsOrder is_below
unfolding is_below
below-order = record {
  never = λ a. tested_no_more a.min a.min a.min_step a.min_step (inr (refl, omega arith));
  once = λ a b h. tested_no_more a.min b.min b.min_step a.min_step (more_once b.min a.min a.min_step b.min_step (more_of b.min a.min a.min_step b.min_step h));
  behind = λ a b c h k. tested_more c.min a.min a.min_step c.min_step
      (less_behind a.min b.min c.min a.min_step b.min_step c.min_step (more_of b.min a.min a.min_step b.min_step h) (no_more_of b.min c.min c.min_step b.min_step k));
}

pub no_more_below : (a b : Extreme) → is_below b a ≡ false → IsNoMore a.min b.min_step b.min a.min_step
unfolding is_below
no_more_below a b h = no_more_of a.min b.min b.min_step a.min_step h

pub more_below : (a b : Extreme) → is_below a b ≡ true → IsMore b.min a.min_step a.min b.min_step
unfolding is_below
more_below a b h = more_of b.min a.min a.min_step b.min_step h

-- ---- the place that leads a list: it passes all before it, and none behind it passes it

pub record IsLed (passes : Extreme → Extreme → Bool) (extremes : ProbeAt → Extreme) (xs : List ProbeAt) (at : ProbeAt) : Type 0 where
  pub before : List ProbeAt
  pub after : List ProbeAt
  pub split : xs ≡ before ++ at ∷ after
  pub front : All (λ x. passes (extremes at) (extremes x) ≡ true) before
  pub back : All (λ x. passes (extremes x) (extremes at) ≡ false) after

abbrev pub chosen : (Extreme → Extreme → Bool) → (ProbeAt → Extreme) → ProbeAt → ProbeAt → ProbeAt
chosen passes extremes best at = cond (passes (extremes at) (extremes best)) at best

led_by_other : (passes : Extreme → Extreme → Bool) (extremes : ProbeAt → Extreme) (xs : List ProbeAt) (at x : ProbeAt) → IsOrder passes
    → passes (extremes x) (extremes at) ≡ true → IsLed passes extremes xs at → IsLed passes extremes (xs ++ x ∷ []) x
led_by_other passes extremes xs at x order h led = record {
  before = xs;
  after = [];
  split = refl;
  front = subst (All (λ y. passes (extremes x) (extremes y) ≡ true)) (sym led.split)
      (All-append (λ y. passes (extremes x) (extremes y) ≡ true) led.before (at ∷ led.after)
      (All-weaker (λ y. passes (extremes at) (extremes y) ≡ true) (λ y. passes (extremes x) (extremes y) ≡ true)
      (λ y k. order.behind (extremes x) (extremes at) (extremes y) h (order.once (extremes at) (extremes y) k)) led.before led.front)
      (All-cons (λ y. passes (extremes x) (extremes y) ≡ true) at led.after h
      (All-weaker (λ y. passes (extremes y) (extremes at) ≡ false) (λ y. passes (extremes x) (extremes y) ≡ true)
      (λ y k. order.behind (extremes x) (extremes at) (extremes y) h k) led.after led.back)));
  back = All-nil (λ y. passes (extremes y) (extremes x) ≡ false);
}

led_as_before : (passes : Extreme → Extreme → Bool) (extremes : ProbeAt → Extreme) (xs : List ProbeAt) (at x : ProbeAt)
    → passes (extremes x) (extremes at) ≡ false → IsLed passes extremes xs at → IsLed passes extremes (xs ++ x ∷ []) at
led_as_before passes extremes xs at x h led = record {
  before = led.before;
  after = led.after ++ x ∷ [];
  split = ap (λ l. l ++ x ∷ []) led.split ∙ append_assoc led.before (at ∷ led.after) (x ∷ []);
  front = led.front;
  back = All-push (λ y. passes (extremes y) (extremes at) ≡ false) led.after x led.back h;
}

led_chosen : (passes : Extreme → Extreme → Bool) (extremes : ProbeAt → Extreme) (xs : List ProbeAt) (at x : ProbeAt) (b : Bool) → IsOrder passes
    → passes (extremes x) (extremes at) ≡ b → IsLed passes extremes xs at → IsLed passes extremes (xs ++ x ∷ []) (cond b x at)
led_chosen passes extremes xs at x true order h led = led_by_other passes extremes xs at x order h led
led_chosen passes extremes xs at x false order h led = led_as_before passes extremes xs at x h led

led_folded : (passes : Extreme → Extreme → Bool) (extremes : ProbeAt → Extreme) (xs rest : List ProbeAt) (at : ProbeAt) → IsOrder passes
    → IsLed passes extremes xs at → IsLed passes extremes (xs ++ rest) (fold (chosen passes extremes) at rest)
led_folded passes extremes xs [] at order led = subst (λ l. IsLed passes extremes l at) (sym (append-nil xs)) led
led_folded passes extremes xs (x ∷ rest) at order led =
    subst (λ l. IsLed passes extremes l (fold (chosen passes extremes) (chosen passes extremes at x) rest)) (append_assoc xs (x ∷ []) rest)
    (led_folded passes extremes (xs ++ x ∷ []) rest (chosen passes extremes at x) order
    (led_chosen passes extremes xs at x (passes (extremes x) (extremes at)) order refl led))

led_alone : (passes : Extreme → Extreme → Bool) (extremes : ProbeAt → Extreme) (at : ProbeAt) → IsLed passes extremes (at ∷ []) at
led_alone passes extremes at = record {
  before = [];
  after = [];
  split = refl;
  front = All-nil (λ x. passes (extremes at) (extremes x) ≡ true);
  back = All-nil (λ x. passes (extremes x) (extremes at) ≡ false);
}

-- ---- the first that no other passes

filter_none : {X : Type 0} (p : X → Bool) (xs : List X) → All (λ x. p x ≡ false) xs → filter p xs ≡ []
filter_none p [] h = refl
filter_none p (x ∷ xs) h = rw (All-head (λ y. p y ≡ false) x xs h) (filter_none p xs (All-tail (λ y. p y ≡ false) x xs h))

or_true : (b : Bool) → not (b || true) ≡ false
or_true true = refl
or_true false = refl

passed_by : (passes : Extreme → Extreme → Bool) (extremes : ProbeAt → Extreme) (before after : List ProbeAt) (at x : ProbeAt)
    → passes (extremes at) (extremes x) ≡ true → is_unpassed passes extremes (before ++ at ∷ after) x ≡ false
passed_by passes extremes before after at x h =
    rw (list_any-append (λ other. passes (extremes other) (extremes x)) before (at ∷ after), h) (or_true (list_any (λ other. passes (extremes other) (extremes x)) before))

unpassed_by_any : (passes : Extreme → Extreme → Bool) (extremes : ProbeAt → Extreme) (before after : List ProbeAt) (at : ProbeAt) → IsOrder passes
    → All (λ x. passes (extremes at) (extremes x) ≡ true) before → All (λ x. passes (extremes x) (extremes at) ≡ false) after
    → is_unpassed passes extremes (before ++ at ∷ after) at ≡ true
unpassed_by_any passes extremes before after at order front back =
    rw (
      list_any-append (λ other. passes (extremes other) (extremes at)) before (at ∷ after),
      list_any_none (λ other. passes (extremes other) (extremes at)) before (All-weaker (λ x. passes (extremes at) (extremes x) ≡ true) (λ x. passes (extremes x) (extremes at) ≡ false) (λ x k. order.once (extremes at) (extremes x) k) before front),
      order.never (extremes at),
      list_any_none (λ other. passes (extremes other) (extremes at)) after back,
    ) refl

kept_first : {X : Type 0} (p : X → Bool) (before after : List X) (at d : X) → All (λ x. p x ≡ false) before → p at ≡ true → get_or (filter p (before ++ at ∷ after)) 0 d ≡ at
kept_first p before after at d front here = rw (filter-append p before (at ∷ after), filter_none p before front, here) refl

first_of_led : (passes : Extreme → Extreme → Bool) (extremes : ProbeAt → Extreme) (xs before after : List ProbeAt) (at : ProbeAt) → IsOrder passes → xs ≡ before ++ at ∷ after
    → All (λ x. passes (extremes at) (extremes x) ≡ true) before → All (λ x. passes (extremes x) (extremes at) ≡ false) after
    → first_unpassed passes extremes xs ≡ at
first_of_led passes extremes xs before after at order split front back =
    let p : ProbeAt → Bool = is_unpassed passes extremes (before ++ at ∷ after) in
    ap (first_unpassed passes extremes) split
    ∙ kept_first p before after at (OnPipe 0 0)
    (All-weaker (λ x. passes (extremes at) (extremes x) ≡ true) (λ x. p x ≡ false) (λ x k. passed_by passes extremes before after at x k) before front)
    (unpassed_by_any passes extremes before after at order front back)

pub first-is_led : (passes : Extreme → Extreme → Bool) (extremes : ProbeAt → Extreme) (xs : List ProbeAt) (at : ProbeAt) → IsOrder passes → IsLed passes extremes xs at → first_unpassed passes extremes xs ≡ at
first-is_led passes extremes xs at order led = first_of_led passes extremes xs led.before led.after at order led.split led.front led.back

-- ---- both together

pub led-from_first : (passes : Extreme → Extreme → Bool) (extremes : ProbeAt → Extreme) (at : ProbeAt) (rest : List ProbeAt) → IsOrder passes
    → IsLed passes extremes (at ∷ rest) (fold (chosen passes extremes) at rest)
led-from_first passes extremes at rest order = led_folded passes extremes (at ∷ []) rest at order (led_alone passes extremes at)

chosen_itself : (passes : Extreme → Extreme → Bool) (extremes : ProbeAt → Extreme) (at : ProbeAt) → IsOrder passes → chosen passes extremes at at ≡ at
chosen_itself passes extremes at order = rw (order.never (extremes at)) refl

-- the best of all places, begun with the first, is the first that no other passes
pub best-is_first : (passes : Extreme → Extreme → Bool) (extremes : ProbeAt → Extreme) (at : ProbeAt) (rest xs : List ProbeAt) → IsOrder passes → xs ≡ at ∷ rest
    → fold (chosen passes extremes) at xs ≡ first_unpassed passes extremes xs
best-is_first passes extremes at rest xs order e =
    ap (fold (chosen passes extremes) at) e
    ∙ ap (λ a. fold (chosen passes extremes) a rest) (chosen_itself passes extremes at order)
    ∙ sym (first-is_led passes extremes (at ∷ rest) (fold (chosen passes extremes) at rest) order (led-from_first passes extremes at rest order))
    ∙ ap (first_unpassed passes extremes) (sym e)

pub passing-order : (bound : Bound) → IsOrder (passing bound)
passing-order Greatest = above-order
passing-order Least = below-order
