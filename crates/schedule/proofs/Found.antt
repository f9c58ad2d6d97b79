-- The next place in the order is found, or all regions are left.
use Rattle.std.proofs.Common.{◌≡◌, ℕ, ◌+◌, ◌/◌, ◌%◌, ◌<◌, ◌≤◌, ◌⊎◌, inl, inr, zero, suc, refl, subst, arith}
use Rattle.schedule.specs.declared.events.Event.TheVariants.{Enter, Leave}
use Rattle.schedule.specs.Nets.{Net}
use Rattle.schedule.specs.States.{State, start, run}
use Rattle.schedule.specs.Order.{IsLeast, AreAllLeft, IsUnleft, IsPlaced, AreLeftBefore, AreLeftOf, turn_count, kind_rank}
use Rattle.schedule.specs.Rules.{IsNeverStuck}
use Rattle.schedule.proofs.Lists.{always_ready}
use Rattle.schedule.proofs.Turns.{left_none, left_more, left_to, placed_at, next_turn, placed_end, least_at, all_left}
use Rattle.std.proofs.lemmas.Bool.{cases_eq, cases_lt}

unleft_or : (net : Net) (state : State) (turn x : ℕ) → x < net.strands → IsUnleft net state turn x ⊎ (IsUnleft net state turn x → ⊥)
unleft_or net state turn x w = elim (cases_eq (kind_rank (net.is_section x)) (turn % 2)) [
  | inr h ↦ inr (λ u. h u.kind)
  | inl e ↦ elim (cases_lt (turn / 2) (state.left x)) [
    | inl a ↦ inr (λ u. let b = u.unleft in omega arith)
    | inr a ↦ inl (record { there = w; kind = e; unleft = a })
  ]
]

abbrev IsFound : Net → State → ℕ → Type 0
IsFound net state turn = (x : ℕ) × IsPlaced net state turn x

search_turn : (net : Net) (state : State) (turn n : ℕ) → turn < turn_count net → n ≤ net.strands → AreLeftBefore net state turn 0 → IsFound net state turn ⊎ AreLeftOf net state turn 0 n
search_turn net state turn zero h w p = inr (left_none net state turn 0 0 (omega arith))
search_turn net state turn (suc n) h w p = elim (search_turn net state turn n h (omega arith) p) [
  | inl f ↦ inl f
  | inr q ↦ elim (unleft_or net state turn n (omega arith)) [
    | inl u ↦ inl (n, placed_at net state turn 0 n h p q u)
    | inr u ↦ inr (left_to net state turn 0 (n + 1) (suc n) (left_more net state turn 0 n (omega arith) q u) (omega arith))
  ]
]

nothing_before : (net : Net) (state : State) → AreLeftBefore net state 0 0
nothing_before net state = record { earlier = λ y k r h. absurd (omega arith); same = λ y k h e. absurd (omega arith) }

turn_named : (net : Net) (state : State) (a b : ℕ) → a ≡ b → AreLeftBefore net state a 0 → AreLeftBefore net state b 0
turn_named net state a b e p = subst (λ t. AreLeftBefore net state t 0) e p

search_turns : (net : Net) (state : State) (t : ℕ) → t ≤ turn_count net → ((turn : ℕ) × ((turn < turn_count net) × IsFound net state turn)) ⊎ AreLeftBefore net state t 0
search_turns net state zero h = inr (nothing_before net state)
search_turns net state (suc t) h = elim (search_turns net state t (omega arith)) [
  | inl f ↦ inl f
  | inr p ↦ elim (search_turn net state t net.strands (omega arith) (omega arith) p) [
    | inl f ↦ inl (t, (omega arith, f))
    | inr q ↦ inr (turn_named net state (t + 1) (suc t) (omega arith) (next_turn net state t 0 p q))
  ]
]

least_or : (net : Net) (state : State) → ((x : ℕ) × ((m : ℕ) × IsLeast net state x m)) ⊎ AreAllLeft net state
least_or net state = elim (search_turns net state (turn_count net) (omega arith)) [
  | inl f ↦ inl (f.1.1.0, (f.0 / 2, least_at net state f.0 f.1.1.0 f.1.1.1 f.1.0))
  | inr p ↦ inr (all_left net state (turn_count net) 0 (placed_end net state (turn_count net) 0 (turn_count net) 0 p refl refl refl) (omega arith))
]

pub never_stuck : IsNeverStuck
never_stuck net events n p = elim (least_or net (run net start events)) [
  | inr a ↦ inr a
  | inl f ↦ elim (always_ready net events n p f.0 f.1.0 f.1.1) [
    | inl e ↦ inl (Enter f.0 f.1.0, e)
    | inr e ↦ inl (Leave f.0 f.1.0, e)
  ]
]
