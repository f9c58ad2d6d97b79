-- One front after another: what the steps of a region make together.
use Rattle.std.proofs.Common.{◌≡◌, ℕ, ◌+◌, ◌-◌, ◌*◌, ◌/◌, ◌<◌, ◌≤◌, ◌⊎◌, inl, inr, ◌∙◌, ap, sym, subst, max, refl, arith, Bool, true, false, cond}
use Rattle.std.specs.Prelude.{◌||◌, ◌&&◌, nat_le, nat_lt}
use Rattle.std.proofs.Math.Bool.{and-false}
use Rattle.std.proofs.lemmas.Bool.{le-leb, le-ltb, lt-leb, lt-ltb}
use Rattle.envelope.specs.Cells.{AreInOneSpan, end_of_span, first_of_span}
use Rattle.case_model.specs.Meaning.{Meaning}
use Rattle.envelope.specs.Folds.{IsSameFold, Stands, spans_of}
use Rattle.envelope.specs.declared.folds.Fold.{Fold}
use Rattle.fronts.specs.Bands.{from_ends}
use Rattle.fronts.specs.Fronts.{Holds, IsReady, Raises, ever, loaded, risen, swept, tent}
use Rattle.fronts.specs.Stretches.{AreSamePlaces, count_of}
use Rattle.fronts.specs.declared.stretches.Stretch.{Stretch}
use Rattle.fronts.proofs.Lining.{where-is}
use Rattle.strands.proofs.Marking.{between-in, between-out, same-between}
use Rattle.strands.specs.Marks.{Marks, is_between, marked, or_marked}
use Rattle.strands.specs.Sections.{IsAdvanced, NotesInside}

-- ---- the fronts of a region

ready : (step front : ℕ) → 0 ≤ step → step ≤ front → front ≤ step + 1 → (0 ≤ step) × (step ≤ front) × (front ≤ step + 1)
ready step front a b c = (a, b, c)

pub raises-more : (s w n k low : ℕ) → low ≡ max (w + 1 - k) (k - w) → w ≤ n → w < 2 * k
    → Raises (s + (k - 1)) (from_ends n) low k (n + 1) ever (swept s w n (k - 1)) (swept s w n k)
raises-more s w n k low e wn kw = record {
  own = λ x h i j. (omega arith, omega arith);
  left = λ x h i j. record { low = omega arith; high = omega arith; near = omega arith };
  right = λ x h i j. record { low = omega arith; high = omega arith; near = omega arith };
  raised = λ x h i j. omega arith;
  others = λ x h a. elim a [ inl b ↦ omega arith | inr b ↦ omega arith ];
}

pub raises-first : (n k : ℕ) → 1 ≤ k → 2 * k ≤ n
    → Raises (k - 1) (from_ends n) k n (n + 1) ever (risen n (k - 1)) (risen n k)
raises-first n k a b = record {
  own = λ x h i j. (omega arith, omega arith);
  left = λ x h i j. record { low = omega arith; high = omega arith; near = omega arith };
  right = λ x h i j. record { low = omega arith; high = omega arith; near = omega arith };
  raised = λ x h i j. omega arith;
  others = λ x h e. elim e [ inl f ↦ omega arith | inr f ↦ omega arith ];
}

pub swept-start : (s w n x : ℕ) → x ≤ n → w ≤ n → loaded s w n x ≡ swept s w n (w / 2) x
swept-start s w n x a b = omega arith

pub swept-end : (s w n k x : ℕ) → x ≤ n → w ≤ n → w + n / 2 ≤ k → swept s w n k x ≡ tent (s + w) n x
swept-end s w n k x a b c = omega arith

-- ---- one after the other

three : (s front later : ℕ) → (s ≤ front) ⊎ ((later < s) ⊎ ((front < s) × (s ≤ later)))
three s front later = grind arith

join : (a b c : Bool) → ((a ≡ false) × (b ≡ false) × (c ≡ false)) ⊎ (((a ≡ true) × (c ≡ true)) ⊎ ((a ≡ false) × (b ≡ true) × (c ≡ true)))
    → (a || b) ≡ c
join a b c (inl h) = rw (h.0, h.1, h.2) refl
join a b c (inr (inl h)) = rw (h.0, h.1) refl
join a b c (inr (inr h)) = rw (h.0, h.1, h.2) refl

pub between-join : (stretch : Stretch) (from front later : ℕ → ℕ) (s k : ℕ)
    → ((x : ℕ) → x < count_of stretch → (from x ≤ front x) × (front x ≤ later x))
    → (is_between stretch from front s k || is_between stretch front later s k) ≡ is_between stretch from later s k
between-join stretch from front later s k h =
    join (is_between stretch from front s k) (is_between stretch front later s k) (is_between stretch from later s k)
    (elim (where-is k stretch.number (stretch.number + count_of stretch)) [
      | inl a ↦ inl (between-out stretch from front s k (inl a), between-out stretch front later s k (inl a), between-out stretch from later s k (inl a))
      | inr a ↦ elim a [
        | inl b ↦ inl (between-out stretch from front s k (inr (inl b)), between-out stretch front later s k (inr (inl b)), between-out stretch from later s k (inr (inl b)))
        | inr b ↦
            let x = k - stretch.number in
            let lo : stretch.number ≤ k = b.0 in
            let hi : k < stretch.number + count_of stretch = b.1 in
            let o = h x (omega arith) in
            let p : from x ≤ front x = o.0 in
            let q : front x ≤ later x = o.1 in
            elim (three s (from x) (front x)) [
              | inl c ↦ inl (between-out stretch from front s k (inr (inr (inl c))), between-out stretch front later s k (inr (inr (inl (omega arith)))), between-out stretch from later s k (inr (inr (inl c))))
              | inr c ↦ elim c [
                | inr d ↦ let d0 : from x < s = d.0 in let d1 : s ≤ front x = d.1 in
                    inr (inl (between-in stretch from front s k lo hi d0 d1, between-in stretch from later s k lo hi d0 (omega arith)))
                | inl d ↦ elim (three s (front x) (later x)) [
                  | inl f ↦ absurd (omega arith)
                  | inr f ↦ elim f [
                    | inl g ↦ inl (between-out stretch from front s k (inr (inr (inr d))), between-out stretch front later s k (inr (inr (inr g))), between-out stretch from later s k (inr (inr (inr g))))
                    | inr g ↦ let g0 : front x < s = g.0 in let g1 : s ≤ later x = g.1 in
                        inr (inr (between-out stretch from front s k (inr (inr (inr d))), between-in stretch front later s k lo hi g0 g1, between-in stretch from later s k lo hi (omega arith) g1))
                  ]
                ]
              ]
            ]
      ]
    ])

pub or-assoc : (a b c : Bool) → ((a || b) || c) ≡ (a || (b || c))
or-assoc true b c = refl
or-assoc false b c = refl

or-none : (a b : Bool) → b ≡ false → a ≡ (a || b)
or-none true b e = refl
or-none false b e = sym e

pub same-marks : (law : Meaning) (fold : Fold) (one other : Marks) → ((s k : ℕ) → one s k ≡ other s k)
    → Stands fold (marked law one) → Stands fold (marked law other)
same-marks law fold one other e h = subst (λ (m : Marks). Stands fold (marked law m)) (λ i s k. e s k i) h

pub advanced-none : (law : Meaning) (since front later : ℕ → ℕ) (stretch : Stretch) (fold : Fold)
    → Holds law since front stretch → ((x : ℕ) → x < count_of stretch → front x ≡ later x)
    → IsAdvanced law since front later stretch stretch fold fold
advanced-none law since front later stretch fold h e = record {
  same = record { pipe_is = refl; first_is = refl; number_is = refl; count_is = refl };
  same_fold = record { spans_are = refl; probes_are = refl; steps_are = refl; every_is = refl };
  holds = record { cell = λ t x b s f n. let m : front x ≡ later x = e x b in h.cell t x b s (omega arith) (omega arith) };
  stands = λ marks st. same-marks law fold marks (or_marked marks (is_between stretch front later))
      (λ s k. or-none (marks s k) (is_between stretch front later s k) (none stretch front later s k e)) st;
}
  where
    none : (stretch : Stretch) (front later : ℕ → ℕ) (s k : ℕ) → ((x : ℕ) → x < count_of stretch → front x ≡ later x)
        → is_between stretch front later s k ≡ false
    none stretch front later s k e = elim (where-is k stretch.number (stretch.number + count_of stretch)) [
      | inl a ↦ between-out stretch front later s k (inl a)
      | inr a ↦ elim a [
        | inl b ↦ between-out stretch front later s k (inr (inl b))
        | inr b ↦
            let x = k - stretch.number in
            let lo : stretch.number ≤ k = b.0 in
            let hi : k < stretch.number + count_of stretch = b.1 in
            let m : front x ≡ later x = e x (omega arith) in
            between-out stretch front later s k (inr (inr (elim (three s (front x) (later x)) [
              | inl c ↦ inl c
              | inr c ↦ elim c [ inl d ↦ inr d | inr d ↦ let d0 : front x < s = d.0 in let d1 : s ≤ later x = d.1 in absurd (omega arith) ]
            ])))
      ]
    ]

pub advanced-more : (law : Meaning) (since from front later : ℕ → ℕ) (old mid new : Stretch) (first second third : Fold)
    → ((x : ℕ) → x < count_of old → (from x ≤ front x) × (front x ≤ later x))
    → IsAdvanced law since from front old mid first second → IsAdvanced law since front later mid new second third
    → IsAdvanced law since from later old new first third
advanced-more law since from front later old mid new first second third e one two = record {
  same = record {
    pipe_is = two.same.pipe_is ∙ one.same.pipe_is;
    first_is = two.same.first_is ∙ one.same.first_is;
    number_is = two.same.number_is ∙ one.same.number_is;
    count_is = two.same.count_is ∙ one.same.count_is;
  };
  same_fold = record {
    spans_are = two.same_fold.spans_are ∙ one.same_fold.spans_are;
    probes_are = two.same_fold.probes_are ∙ one.same_fold.probes_are;
    steps_are = two.same_fold.steps_are ∙ one.same_fold.steps_are;
    every_is = two.same_fold.every_is ∙ one.same_fold.every_is;
  };
  holds = two.holds;
  stands = λ marks st.
      same-marks law third (or_marked (or_marked marks (is_between old from front)) (is_between mid front later)) (or_marked marks (is_between old from later))
      (λ s k.
      ap (λ b. (marks s k || is_between old from front s k) || b) (same-between old mid front later s k one.same)
      ∙ or-assoc (marks s k) (is_between old from front s k) (is_between old front later s k)
      ∙ ap (λ b. marks s k || b) (between-join old from front later s k e))
      (two.stands (or_marked marks (is_between old from front)) (one.stands marks st));
}

-- ---- what a step of a region asks for

pub notes-same : (old new : Stretch) (before after : Fold) → AreSamePlaces old new → IsSameFold before after
    → NotesInside old before → NotesInside new after
unfolding count_of
notes-same old new before after same fold h = rw (same.number_is, same.count_is, fold.spans_are) h

-- step k of a region
pub region-more : (law : Meaning) (s w n k low : ℕ) (old mid new : Stretch) (first second third : Fold)
    → count_of old ≡ n + 1 → w ≤ n → w < 2 * k → low ≡ max (w + 1 - k) (k - w)
    → IsAdvanced law ever (loaded s w n) (swept s w n (k - 1)) old mid first second
    → ((front later : ℕ → ℕ) → Raises (s + (k - 1)) (from_ends (count_of mid - 1)) low k (count_of mid) ever front later
    → Holds law ever front mid → IsAdvanced law ever front later mid new second third)
    → IsAdvanced law ever (loaded s w n) (swept s w n k) old new first third
region-more law s w n k low old mid new first second third size a b e h f =
    let long : count_of mid ≡ n + 1 = h.same.count_is ∙ size in
    let m : count_of mid - 1 ≡ n = omega arith in
    let ra = subst (λ c. Raises (s + (k - 1)) (from_ends (count_of mid - 1)) low k c ever (swept s w n (k - 1)) (swept s w n k)) (sym long)
    (subst (λ d. Raises (s + (k - 1)) (from_ends d) low k (n + 1) ever (swept s w n (k - 1)) (swept s w n k)) (sym m) (raises-more s w n k low e a b)) in
    advanced-more law ever (loaded s w n) (swept s w n (k - 1)) (swept s w n k) old mid new first second third
    (λ x l. (omega arith, omega arith)) h (f (swept s w n (k - 1)) (swept s w n k) ra h.holds)

pub start-more : (law : Meaning) (n k : ℕ) (old mid new : Stretch) (first second third : Fold)
    → count_of old ≡ n + 1 → 1 ≤ k → 2 * k ≤ n
    → IsAdvanced law ever (risen n 0) (risen n (k - 1)) old mid first second
    → ((front later : ℕ → ℕ) → Raises (k - 1) (from_ends (count_of mid - 1)) k n (count_of mid) ever front later
    → Holds law ever front mid → IsAdvanced law ever front later mid new second third)
    → IsAdvanced law ever (risen n 0) (risen n k) old new first third
start-more law n k old mid new first second third size a b h f =
    let long : count_of mid ≡ n + 1 = h.same.count_is ∙ size in
    let m : count_of mid - 1 ≡ n = omega arith in
    let ra = subst (λ c. Raises (k - 1) (from_ends (count_of mid - 1)) k n c ever (risen n (k - 1)) (risen n k)) (sym long)
    (subst (λ d. Raises (k - 1) (from_ends d) k n (n + 1) ever (risen n (k - 1)) (risen n k)) (sym m) (raises-first n k a b)) in
    advanced-more law ever (risen n 0) (risen n (k - 1)) (risen n k) old mid new first second third
    (λ x l. (omega arith, omega arith)) h (f (risen n (k - 1)) (risen n k) ra h.holds)

-- the last step leaves the front of the region's end
pub advanced-end : (law : Meaning) (since from front later : ℕ → ℕ) (old new : Stretch) (before after : Fold)
    → ((x : ℕ) → x < count_of old → (from x ≤ front x) × (front x ≡ later x))
    → IsAdvanced law since from front old new before after → IsAdvanced law since from later old new before after
advanced-end law since from front later old new before after e h =
    advanced-more law since from front later old new new before after after
    (λ x l. let p : from x ≤ front x = (e x l).0 in let q : front x ≡ later x = (e x l).1 in (p, omega arith)) h
    (advanced-none law since front later new after h.holds (λ x l. let c : count_of new ≡ count_of old = h.same.count_is in (e x (omega arith)).1))

-- ---- a band of places as runs

raises-order : (step : ℕ) (distance : ℕ → ℕ) (low high count : ℕ) (since front later : ℕ → ℕ)
    → Raises step distance low high count since front later → (x : ℕ) → x < count
    → front x ≤ later x
raises-order step distance low high count since front later ra x b =
    elim (inside (distance x) low high) [
      | inl a ↦
          let f : front x ≡ step = (ra.own x b a.0 a.1).1 in
          let g : later x ≡ step + 1 = ra.raised x b a.0 a.1 in
          omega arith
      | inr a ↦ let g : later x ≡ front x = ra.others x b a in omega arith
    ]
  where
    inside : (d low high : ℕ) → ((low ≤ d) × (d < high)) ⊎ ((d < low) ⊎ (high ≤ d))
    inside d low high = grind arith

-- the band reaches the middle: it is one run
pub raises-whole : (step count low high : ℕ) (front later : ℕ → ℕ) → 1 ≤ low
    → (count - 1) / 2 < high
    → Raises step (from_ends (count - 1)) low high count ever front later
    → Raises step (λ x. x) low (count - low) count ever front later
raises-whole step count low high front later a m ra = record {
  own = λ x b i j. ra.own x b (omega arith) (omega arith);
  left = λ x b i j. ra.left x b (omega arith) (omega arith);
  right = λ x b i j. ra.right x b (omega arith) (omega arith);
  raised = λ x b i j. ra.raised x b (omega arith) (omega arith);
  others = λ x b e. ra.others x b (elim e [ inl f ↦ inl (omega arith) | inr f ↦ inl (omega arith) ]);
}

-- the front once the run before the middle is raised
pub halfway : ℕ → ℕ → ℕ → (ℕ → ℕ) → ℕ → ℕ
halfway step low high front x = cond (nat_le low x && nat_lt x high) (step + 1) (front x)

halfway-in : (step low high : ℕ) (front : ℕ → ℕ) (x : ℕ) → low ≤ x → x < high
    → halfway step low high front x ≡ step + 1
unfolding halfway
halfway-in step low high front x a b = rw (le-leb low x a, lt-ltb x high b) refl

halfway-out : (step low high : ℕ) (front : ℕ → ℕ) (x : ℕ) → (x < low) ⊎ (high ≤ x)
    → halfway step low high front x ≡ front x
unfolding halfway
halfway-out step low high front x (inl a) = rw (lt-leb low x a) refl
halfway-out step low high front x (inr a) = rw (le-ltb x high a, and-false) refl

halfway-ready : (step low high : ℕ) (front : ℕ → ℕ) (x : ℕ) → IsReady step ever front x
    → IsReady step ever (halfway step low high front) x
halfway-ready step low high front x h = elim (inside x low high) [
  | inl a ↦
      let e : halfway step low high front x ≡ step + 1 = halfway-in step low high front x a.0 a.1 in
      record { low = omega arith; high = omega arith; near = omega arith }
  | inr a ↦
      let e : halfway step low high front x ≡ front x = halfway-out step low high front x a in
      let p : step ≤ front x = h.high in
      let q : front x ≤ step + 1 = h.near in
      record { low = omega arith; high = omega arith; near = omega arith }
]
  where
    inside : (d low high : ℕ) → ((low ≤ d) × (d < high)) ⊎ ((d < low) ⊎ (high ≤ d))
    inside d low high = grind arith

pub raises-near : (step count low high : ℕ) (front later : ℕ → ℕ) → high ≤ (count - 1) / 2
    → Raises step (from_ends (count - 1)) low high count ever front later
    → Raises step (λ x. x) low high count ever front (halfway step low high front)
raises-near step count low high front later m ra = record {
  own = λ x b i j. ra.own x b (omega arith) (omega arith);
  left = λ x b i j. ra.left x b (omega arith) (omega arith);
  right = λ x b i j. ra.right x b (omega arith) (omega arith);
  raised = λ x b i j. halfway-in step low high front x i j;
  others = λ x b e. halfway-out step low high front x e;
}

pub raises-far : (step count low high : ℕ) (front later : ℕ → ℕ) → 1 ≤ low
    → low < high → high ≤ (count - 1) / 2
    → Raises step (from_ends (count - 1)) low high count ever front later
    → Raises step (λ x. x) (count - high) (count - low) count ever
    (halfway step low high front) later
raises-far step count low high front later a o m ra = record {
  own = λ x b i j.
      let e : halfway step low high front x ≡ front x =
      halfway-out step low high front x (inr (omega arith)) in
      let f : front x ≡ step = (ra.own x b (omega arith) (omega arith)).1 in
      (omega arith, omega arith);
  left = λ x b i j. halfway-ready step low high front (x - 1)
      (ra.left x b (omega arith) (omega arith));
  right = λ x b i j. halfway-ready step low high front (x + 1)
      (ra.right x b (omega arith) (omega arith));
  raised = λ x b i j. ra.raised x b (omega arith) (omega arith);
  others = λ x b e. elim (where-is x low high) [
    | inl c ↦ ra.others x b (inl (omega arith)) ∙ sym (halfway-out step low high front x (inl c))
    | inr d ↦ elim d [
      | inr c ↦
          let lo : low ≤ x = c.0 in
          let hi : x < high = c.1 in
          ra.raised x b (omega arith) (omega arith) ∙ sym (halfway-in step low high front x lo hi)
      | inl c ↦
          ra.others x b (elim e [ inl f ↦ inr (omega arith) | inr f ↦ inl (omega arith) ])
          ∙ sym (halfway-out step low high front x (inr c))
    ]
  ];
}

-- two runs, one after the other
pub advanced-runs : (law : Meaning) (step low high : ℕ) (front later : ℕ → ℕ)
    (old mid new : Stretch) (first second third : Fold)
    → 1 ≤ low → low < high → high ≤ (count_of old - 1) / 2 → AreSamePlaces old mid
    → Raises step (from_ends (count_of old - 1)) low high (count_of old) ever front later
    → Holds law ever front old
    → ((since front later : ℕ → ℕ) → Raises step (λ x. x) low high (count_of old) since front later
    → Holds law since front old → IsAdvanced law since front later old mid first second)
    → ((since front later : ℕ → ℕ)
    → Raises step (λ x. x) (count_of old - high) (count_of old - low) (count_of mid) since front later
    → Holds law since front mid → IsAdvanced law since front later mid new second third)
    → IsAdvanced law ever front later old new first third
advanced-runs law step low high front later old mid new first second third a o m same ra h f g =
    let count = count_of old in
    let half = halfway step low high front in
    let near = raises-near step count low high front later m ra in
    let far = raises-far step count low high front later a o m ra in
    let one = f ever front half near h in
    advanced-more law ever front half later old mid new first second third
    (λ x b. (
      raises-order step (λ y. y) low high count ever front half near x b,
      raises-order step (λ y. y) (count - high) (count - low) count ever half later far x b,
    ))
    one
    (g ever half later
    (subst (λ n. Raises step (λ y. y) (count - high) (count - low) n ever half later)
    (sym same.count_is) far)
    one.holds)

-- no place is in the band
pub advanced-empty : (law : Meaning) (step low high : ℕ) (front later : ℕ → ℕ) (old : Stretch)
    (fold : Fold)
    → (high ≤ low) ⊎ ((count_of old - 1) / 2 < low)
    → Raises step (from_ends (count_of old - 1)) low high (count_of old) ever front later
    → Holds law ever front old
    → IsAdvanced law ever front later old old fold fold
advanced-empty law step low high front later old fold e ra h =
    advanced-none law ever front later old fold h
    (λ x b. sym (ra.others x b (elim e [
      | inl a ↦ empty (from_ends (count_of old - 1) x) low high a
      | inr a ↦ inl (omega arith)
    ])))
  where
    empty : (d low high : ℕ) → high ≤ low → (d < low) ⊎ (high ≤ d)
    empty d low high a = grind arith

-- a run of places that the fold has
pub notes-run : (stretch : Stretch) (fold : Fold) (low high : ℕ) → 1 ≤ low → low ≤ high
    → high + 1 ≤ count_of stretch → NotesInside stretch fold
    → AreInOneSpan (spans_of fold) (stretch.number + low) (high - low)
notes-run stretch fold low high a b c h = (
  h.0,
  record {
    there = h.1.there;
    low = (let l : first_of_span (spans_of fold) h.0 ≤ stretch.number + 1 = h.1.low in omega arith);
    high = (let l : stretch.number + 1 + (count_of stretch - 2) ≤ end_of_span (spans_of fold) h.0 =
        h.1.high in omega arith);
  },
)

-- ---- a section of two reaches

-- its middle is all that lies between its ends
pub middle-run : (step count high : ℕ) (front later : ℕ → ℕ) → count ≡ 3 → 1 < high
    → Raises step (from_ends (count - 1)) 1 high count ever front later
    → Raises step (λ x. x) 1 2 count ever front later
middle-run step count high front later short far ra =
    let end : count - 1 ≡ 2 = omega arith in
    subst (λ z. Raises step (λ x. x) 1 z count ever front later) end
    (raises-whole step count 1 high front later (omega arith) (omega arith) ra)

-- and all that the fold has
pub middle-noted : (stretch : Stretch) (fold : Fold) → count_of stretch ≡ 3
    → NotesInside stretch fold → AreInOneSpan (spans_of fold) (stretch.number + 1) 1
middle-noted stretch fold short h =
    let one : count_of stretch - 2 ≡ 1 = omega arith in
    subst (λ n. AreInOneSpan (spans_of fold) (stretch.number + 1) n) one h
