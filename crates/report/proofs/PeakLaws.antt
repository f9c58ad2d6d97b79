-- The places of the greatest and of the least head, in their own words.
use Rattle.std.proofs.Common.{◌≡◌, ℕ, ◌<◌, ◌≤◌, ◌⊎◌, inl, inr, Bool, true, false, ◌∷◌, ◌++◌, length, refl, sym, subst, arith}
use Rattle.std.specs.List.{All, fold}
use Rattle.std.proofs.lemmas.List.Elements.{All-cons, All-head, All-tail, All-append, All-weaker}
use Rattle.case_model.specs.declared.cases.ProbeAt.{ProbeAt}
use Rattle.case_model.specs.declared.cases.ProbeAt.TheVariants.{OnPipe}
use Rattle.case_model.specs.declared.meshes.Mesh.{Mesh}
use Rattle.envelope.specs.declared.extremes.Extreme.{Extreme}
use Rattle.report.specs.Peaks.{IsHighest, IsLowest, StandsAbove, StandsBelow, first_unpassed, highest, is_above, is_below, lowest}
use Rattle.report.specs.Places.{IsBefore, IsOnPipe, pipe_places}
use Rattle.report.proofs.Leading.{IsLed, IsMore, IsNoMore, IsOrder, above-order, below-order, chosen, first-is_led, led-from_first, more_above, more_below, no_more_above, no_more_below}
use Rattle.report.proofs.Ordered.{all-pipe_places, first-pipe_place, one-pipe_place, sorted-after, sorted-pipe_places, IsSorted}
use Rattle.case_model.proofs.ListFacts.{all_left, all_right, all_both}

-- the place that leads the places of pipes is the first that no other passes
led_places : (passes : Extreme → Extreme → Bool) (extremes : ProbeAt → Extreme) (mesh : Mesh) → IsOrder passes → 0 < length mesh.pipes → IsLed passes extremes (pipe_places mesh) (first_unpassed passes extremes (pipe_places mesh))
led_places passes extremes mesh order some =
    let first = first-pipe_place mesh some in
    let led : IsLed passes extremes (pipe_places mesh) (fold (chosen passes extremes) (OnPipe 0 0) first.0) =
    subst (λ xs. IsLed passes extremes xs (fold (chosen passes extremes) (OnPipe 0 0) first.0)) (sym first.1) (led-from_first passes extremes (OnPipe 0 0) first.0 order) in
    subst (IsLed passes extremes (pipe_places mesh)) (sym (first-is_led passes extremes (pipe_places mesh) (fold (chosen passes extremes) (OnPipe 0 0) first.0) order led)) led

led_is_there : (passes : Extreme → Extreme → Bool) (extremes : ProbeAt → Extreme) (mesh : Mesh) (at : ProbeAt) → IsLed passes extremes (pipe_places mesh) at → IsOnPipe mesh at
led_is_there passes extremes mesh at led =
    All-head (IsOnPipe mesh) at led.after
    (all_right (IsOnPipe mesh) led.before (at ∷ led.after) (subst (All (IsOnPipe mesh)) led.split (all-pipe_places (IsOnPipe mesh) mesh (λ other on. on))))

-- what holds of all that the leading place passes, of itself, and of all that don't pass it and come after it
led_stands : (passes : Extreme → Extreme → Bool) (extremes : ProbeAt → Extreme) (mesh : Mesh) (at : ProbeAt) (Stands : ProbeAt → Type 0)
    → ((other : ProbeAt) → passes (extremes at) (extremes other) ≡ true → Stands other)
    → ((other : ProbeAt) → passes (extremes other) (extremes at) ≡ false → IsBefore at other → Stands other)
    → IsLed passes extremes (pipe_places mesh) at → (other : ProbeAt) → IsOnPipe mesh other → (other ≡ at) ⊎ Stands other
led_stands passes extremes mesh at Stands passed behind led other on =
    let P : ProbeAt → Type 0 = λ o. (o ≡ at) ⊎ Stands o in
    let later : All (IsBefore at) led.after = sorted-after led.before led.after at (subst IsSorted led.split (sorted-pipe_places mesh)) in
    let all : All P (led.before ++ at ∷ led.after) =
    All-append P led.before (at ∷ led.after)
    (All-weaker (λ o. passes (extremes at) (extremes o) ≡ true) P (λ o h. inr (passed o h)) led.before led.front)
    (All-cons P at led.after (inl refl)
    (All-weaker (λ o. (passes (extremes o) (extremes at) ≡ false) × IsBefore at o) P (λ o h. inr (behind o h.0 h.1)) led.after
    (all_both (λ o. passes (extremes o) (extremes at) ≡ false) (IsBefore at) led.after led.back later))) in
    one-pipe_place P mesh other on (subst (All P) (sym led.split) all)

earlier_or_same : (s t : ℕ) → s ≤ t → (s < t) ⊎ (s ≡ t)
earlier_or_same s t h = grind arith

-- ---- greatest heads

above_of : (extremes : ProbeAt → Extreme) (at other : ProbeAt) → IsMore (extremes at).max (extremes at).max_step (extremes other).max (extremes other).max_step → StandsAbove extremes at other
above_of extremes at other (inl h) = inl h
above_of extremes at other (inr h) = inr (sym h.0, inl h.1)

above_by_step : (extremes : ProbeAt → Extreme) (at other : ProbeAt) → (extremes other).max ≡ (extremes at).max → IsBefore at other
    → ((extremes at).max_step < (extremes other).max_step) ⊎ ((extremes at).max_step ≡ (extremes other).max_step) → StandsAbove extremes at other
above_by_step extremes at other same before (inl h) = inr (same, inl h)
above_by_step extremes at other same before (inr e) = inr (same, inr (e, before))

above_or_before : (extremes : ProbeAt → Extreme) (at other : ProbeAt) → IsNoMore (extremes other).max (extremes other).max_step (extremes at).max (extremes at).max_step → IsBefore at other → StandsAbove extremes at other
above_or_before extremes at other (inl h) before = inl h
above_or_before extremes at other (inr h) before = above_by_step extremes at other h.0 before (earlier_or_same (extremes at).max_step (extremes other).max_step h.1)

pub highest-is : (mesh : Mesh) (extremes : ProbeAt → Extreme) → 0 < length mesh.pipes → IsHighest extremes mesh (highest extremes mesh)
unfolding highest
highest-is mesh extremes some =
    let at : ProbeAt = first_unpassed is_above extremes (pipe_places mesh) in
    let led : IsLed is_above extremes (pipe_places mesh) at = led_places is_above extremes mesh above-order some in
    record {
      there = led_is_there is_above extremes mesh at led;
      most = led_stands is_above extremes mesh at (StandsAbove extremes at)
          (λ other h. above_of extremes at other (more_above (extremes at) (extremes other) h))
          (λ other h before. above_or_before extremes at other (no_more_above (extremes at) (extremes other) h) before) led;
    }

-- ---- least heads

below_of : (extremes : ProbeAt → Extreme) (at other : ProbeAt) → IsMore (extremes other).min (extremes at).min_step (extremes at).min (extremes other).min_step → StandsBelow extremes at other
below_of extremes at other (inl h) = inl h
below_of extremes at other (inr h) = inr (sym h.0, inl h.1)

below_by_step : (extremes : ProbeAt → Extreme) (at other : ProbeAt) → (extremes at).min ≡ (extremes other).min → IsBefore at other
    → ((extremes at).min_step < (extremes other).min_step) ⊎ ((extremes at).min_step ≡ (extremes other).min_step) → StandsBelow extremes at other
below_by_step extremes at other same before (inl h) = inr (same, inl h)
below_by_step extremes at other same before (inr e) = inr (same, inr (e, before))

below_or_before : (extremes : ProbeAt → Extreme) (at other : ProbeAt) → IsNoMore (extremes at).min (extremes other).min_step (extremes other).min (extremes at).min_step → IsBefore at other → StandsBelow extremes at other
below_or_before extremes at other (inl h) before = inl h
below_or_before extremes at other (inr h) before = below_by_step extremes at other h.0 before (earlier_or_same (extremes at).min_step (extremes other).min_step h.1)

pub lowest-is : (mesh : Mesh) (extremes : ProbeAt → Extreme) → 0 < length mesh.pipes → IsLowest extremes mesh (lowest extremes mesh)
unfolding lowest
lowest-is mesh extremes some =
    let at : ProbeAt = first_unpassed is_below extremes (pipe_places mesh) in
    let led : IsLed is_below extremes (pipe_places mesh) at = led_places is_below extremes mesh below-order some in
    record {
      there = led_is_there is_below extremes mesh at led;
      least = led_stands is_below extremes mesh at (StandsBelow extremes at)
          (λ other h. below_of extremes at other (more_below (extremes at) (extremes other) h))
          (λ other h before. below_or_before extremes at other (no_more_below (extremes at) (extremes other) h) before) led;
    }

-- ---- of the extremes of places of pipes alone

led_alike : (passes : Extreme → Extreme → Bool) (e f : ProbeAt → Extreme) (mesh : Mesh) (at : ProbeAt) → ((other : ProbeAt) → IsOnPipe mesh other → e other ≡ f other)
    → IsLed passes e (pipe_places mesh) at → IsLed passes f (pipe_places mesh) at
led_alike passes e f mesh at same led =
    let all : All (λ o. e o ≡ f o) (led.before ++ at ∷ led.after) = subst (All (λ o. e o ≡ f o)) led.split (all-pipe_places (λ o. e o ≡ f o) mesh same) in
    let here : e at ≡ f at = same at (led_is_there passes e mesh at led) in
    record {
      before = led.before;
      after = led.after;
      split = led.split;
      front = All-weaker (λ o. (passes (e at) (e o) ≡ true) × (e o ≡ f o)) (λ o. passes (f at) (f o) ≡ true) (λ o h. rw (← here, ← h.1) h.0) led.before
          (all_both (λ o. passes (e at) (e o) ≡ true) (λ o. e o ≡ f o) led.before led.front (all_left (λ o. e o ≡ f o) led.before (at ∷ led.after) all));
      back = All-weaker (λ o. (passes (e o) (e at) ≡ false) × (e o ≡ f o)) (λ o. passes (f o) (f at) ≡ false) (λ o h. rw (← here, ← h.1) h.0) led.after
          (all_both (λ o. passes (e o) (e at) ≡ false) (λ o. e o ≡ f o) led.after led.back
          (All-tail (λ o. e o ≡ f o) at led.after (all_right (λ o. e o ≡ f o) led.before (at ∷ led.after) all)));
    }

first_alike : (passes : Extreme → Extreme → Bool) (e f : ProbeAt → Extreme) (mesh : Mesh) → IsOrder passes → 0 < length mesh.pipes → ((other : ProbeAt) → IsOnPipe mesh other → e other ≡ f other)
    → first_unpassed passes e (pipe_places mesh) ≡ first_unpassed passes f (pipe_places mesh)
first_alike passes e f mesh order some same =
    let at : ProbeAt = first_unpassed passes e (pipe_places mesh) in
    sym (first-is_led passes f (pipe_places mesh) at order (led_alike passes e f mesh at same (led_places passes e mesh order some)))

pub highest-alike : (e f : ProbeAt → Extreme) (mesh : Mesh) → 0 < length mesh.pipes → ((other : ProbeAt) → IsOnPipe mesh other → e other ≡ f other) → highest e mesh ≡ highest f mesh
unfolding highest
highest-alike e f mesh some same = first_alike is_above e f mesh above-order some same

pub lowest-alike : (e f : ProbeAt → Extreme) (mesh : Mesh) → 0 < length mesh.pipes → ((other : ProbeAt) → IsOnPipe mesh other → e other ≡ f other) → lowest e mesh ≡ lowest f mesh
unfolding lowest
lowest-alike e f mesh some same = first_alike is_below e f mesh below-order some same
