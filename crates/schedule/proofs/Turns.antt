-- Places in the order of regions.
use Rattle.std.proofs.Common.{◌≡◌, ◌∙◌, ℕ, ◌+◌, ◌*◌, ◌/◌, ◌%◌, ◌<◌, ◌≤◌, inl, inr, Bool, true, false, sym, subst, arith}
use Rattle.schedule.specs.Nets.{Net, regions_of}
use Rattle.schedule.specs.States.{State}
use Rattle.schedule.specs.Order.{kind_rank, turn_of, turn_count, AreLeftOf, AreLeftBefore, IsUnleft, IsPlaced, IsLeast, AreAllLeft}
use Rattle.std.proofs.lemmas.Bool.{cases_lt}

-- a turn tells the region number and the kind
turn_half : (s : Bool) (k t : ℕ) → 2 * k + kind_rank s ≡ t → k ≡ t / 2
turn_half true k t e = omega arith
turn_half false k t e = omega arith

turn_rest : (s : Bool) (k t : ℕ) → 2 * k + kind_rank s ≡ t → kind_rank s ≡ t % 2
turn_rest true k t e = omega arith
turn_rest false k t e = omega arith

region_turn : (s : Bool) (k windows : ℕ) → k < regions_of s windows → 2 * k + kind_rank s < 2 * windows + 1
region_turn true k windows h = omega arith
region_turn false k windows h = omega arith

turn_region : (s : Bool) (t windows : ℕ) → kind_rank s ≡ t % 2 → t < 2 * windows + 1 → t / 2 < regions_of s windows
turn_region true t windows e h = omega arith
turn_region false t windows e h = omega arith

turn_whole : (s : Bool) (t : ℕ) → kind_rank s ≡ t % 2 → 2 * (t / 2) + kind_rank s ≡ t
turn_whole true t e = omega arith
turn_whole false t e = omega arith

pub left_none : (net : Net) (state : State) (turn low high : ℕ) → high ≤ low → AreLeftOf net state turn low high
left_none net state turn low high h = record { left = λ y k l m e. absurd (omega arith) }

pub left_more : (net : Net) (state : State) (turn low high : ℕ) → high < net.strands → AreLeftOf net state turn low high → (IsUnleft net state turn high → ⊥) → AreLeftOf net state turn low (high + 1)
left_more net state turn low high w p n = record {
  left = λ y k l m e. elim (cases_lt y high) [
    | inl b ↦ p.left y k l b e
    | inr b ↦ elim (cases_lt k (state.left y)) [
      | inl q ↦ q
      | inr q ↦
          let i : y ≡ high = omega arith in
          let half : k ≡ turn / 2 = turn_half (net.is_section y) k turn e in
          let low : state.left y ≤ turn / 2 = omega arith in
          absurd (n (record {
            there = w;
            kind = subst (λ z. kind_rank (net.is_section z) ≡ turn % 2) i (turn_rest (net.is_section y) k turn e);
            unleft = subst (λ z. state.left z ≤ turn / 2) i low;
          }))
    ]
  ];
}

pub left_to : (net : Net) (state : State) (turn low high end : ℕ) → AreLeftOf net state turn low high → end ≤ high → AreLeftOf net state turn low end
left_to net state turn low high end p h = record { left = λ y k l m e. p.left y k l (omega arith) e }

-- a place that is found
pub placed_at : (net : Net) (state : State) (turn strand x : ℕ) → turn < turn_count net → AreLeftBefore net state turn strand → AreLeftOf net state turn strand x → IsUnleft net state turn x → IsPlaced net state turn x
placed_at net state turn strand x l p q u = record {
  before = record {
    earlier = p.earlier;
    same = λ y k h e. elim (cases_lt y strand) [ inl a ↦ p.same y k a e | inr b ↦ q.left y k b h e ];
  };
  most = omega arith;
  here = λ h. u;
}

-- the turn is over
pub next_turn : (net : Net) (state : State) (turn strand : ℕ) → AreLeftBefore net state turn strand → AreLeftOf net state turn strand net.strands → AreLeftBefore net state (turn + 1) 0
next_turn net state turn strand p q = record {
  earlier = λ y k r h. elim (cases_lt (turn_of net y k) turn) [
    | inl a ↦ p.earlier y k r a
    | inr b ↦ let e : turn_of net y k ≡ turn = omega arith in elim (cases_lt y strand) [ inl a ↦ p.same y k a e | inr c ↦ q.left y k c r.strand e ]
  ];
  same = λ y k h e. absurd (omega arith);
}

pub placed_end : (net : Net) (state : State) (turn strand end x : ℕ) → AreLeftBefore net state turn strand → turn ≡ turn_count net → end ≡ turn_count net → x ≡ 0 → IsPlaced net state end x
placed_end net state turn strand end x p e f z = record {
  before = record {
    earlier = λ y k r h. p.earlier y k r (omega (arith, region_turn (net.is_section y) k net.windows r.number));
    same = λ y k h g. absurd (omega arith);
  };
  most = omega arith;
  here = λ h. absurd (omega arith);
}

-- leaving more keeps what is left
pub still_before : (net : Net) (a b : State) (turn strand : ℕ) → ((x : ℕ) → a.left x ≤ b.left x) → AreLeftBefore net a turn strand → AreLeftBefore net b turn strand
still_before net a b turn strand m p = record {
  earlier = λ y k r h. let u = p.earlier y k r h in let v = m y in omega arith;
  same = λ y k h e. let u = p.same y k h e in let v = m y in omega arith;
}

pub same_before : (a b : Net) (s t : State) (turn strand : ℕ) → b ≡ a → t ≡ s → AreLeftBefore a s turn strand → AreLeftBefore b t turn strand
same_before a b s t turn strand e f p = subst (λ net. AreLeftBefore net t turn strand) (sym e) (subst (λ state. AreLeftBefore a state turn strand) (sym f) p)

-- the region at the place is the least that isn't left
pub least_at : (net : Net) (state : State) (turn strand : ℕ) → IsPlaced net state turn strand → turn < turn_count net → IsLeast net state strand (turn / 2)
least_at net state turn strand p l =
    let u = p.here l in
    let w : turn_of net strand (turn / 2) ≡ turn = turn_whole (net.is_section strand) turn u.kind in
    record {
      region = record { strand = u.there; number = turn_region (net.is_section strand) turn net.windows u.kind l };
      unleft = u.unleft;
      least = λ y k r h. elim (cases_lt (turn_of net y k) turn) [
        | inl a ↦ let b = p.before.earlier y k r a in absurd (omega arith)
        | inr a ↦ elim (cases_lt turn (turn_of net y k)) [
          | inl b ↦ inl (omega arith)
          | inr b ↦ let e : turn_of net y k ≡ turn = omega arith in elim (cases_lt y strand) [
            | inl c ↦ let d = p.before.same y k c e in absurd (omega arith)
            | inr c ↦ inr (w ∙ sym e, c)
          ]
        ]
      ];
    }

pub all_left : (net : Net) (state : State) (turn strand : ℕ) → IsPlaced net state turn strand → turn_count net ≤ turn → AreAllLeft net state
all_left net state turn strand p l = λ y k r. p.before.earlier y k r (omega (arith, region_turn (net.is_section y) k net.windows r.number))

pub not_all_left : (net : Net) (state : State) (turn strand : ℕ) → IsPlaced net state turn strand → turn < turn_count net → AreAllLeft net state → ⊥
not_all_left net state turn strand p l a =
    let q = least_at net state turn strand p l in
    let u = q.unleft in
    let b = a strand (turn / 2) q.region in
    omega arith
