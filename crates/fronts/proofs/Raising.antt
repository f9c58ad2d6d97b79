-- What a stretch holds after a step of a band, and after a point is put.
use Rattle.std.proofs.Common.{◌≡◌, ℕ, ◌+◌, ◌-◌, ◌<◌, ◌≤◌, ◌⊎◌, inl, inr, ◌∙◌, ap, sym, subst, arith}
use Rattle.std.specs.Prelude.{◌≢◌, ◌%◌, Bool, true, false}
use Rattle.std.proofs.lemmas.Bool.{eq-eqb, ne_eqb, cases_eq}
use Rattle.case_model.specs.declared.points.Point.{Point}
use Rattle.case_model.specs.Meaning.{Meaning}
use Rattle.case_model.specs.Mesh.{reaches}
use Rattle.case_model.specs.Rows.{row}
use Rattle.case_model.proofs.RowLaws.{point-inside}
use Rattle.fronts.specs.Bands.{IsOnMesh, IsStepped, later_point}
use Rattle.fronts.specs.Fronts.{Holds, IsReady, Puts, Raises, spot}
use Rattle.fronts.specs.Stretches.{AreSamePlaces, IsPut, count_of, is_even, kept}
use Rattle.fronts.specs.declared.stretches.Stretch.{Stretch}

-- a distance is in the band or outside
in-band : (low high d : ℕ) → ((low ≤ d) × (d < high)) ⊎ ((d < low) ⊎ (high ≤ d))
in-band low high d = grind arith

-- of two steps that are kept one is the later
pub which : (t step : ℕ) → t ≤ step + 1 → step + 1 ≤ t + 1 → (t ≡ step) ⊎ (t ≡ step + 1)
which t step h g = grind arith

-- two stretches of the same places have the same spots
pub same-spot : (law : Meaning) (old new : Stretch) (t x : ℕ) → AreSamePlaces old new
    → spot law new t x ≡ spot law old t x
same-spot law old new t x s =
    ap (λ p. (row law t).point p (new.first + x)) s.pipe_is
    ∙ ap (λ f. (row law t).point old.pipe (f + x)) s.first_is

-- the law makes the point of the rows, where the stretch holds what is read
made : (law : Meaning) (stretch : Stretch) (since front : ℕ → ℕ) (step x : ℕ)
    → IsOnMesh law stretch → Holds law since front stretch
    → 0 < x → x + 1 < count_of stretch
    → IsReady step since front (x - 1) → IsReady step since front x → IsReady step since front (x + 1)
    → later_point law stretch step x ≡ spot law stretch (step + 1) x
made law stretch since front step x on h low high left own right =
    let p = stretch.pipe in
    let i = stretch.first + x in
    let fits : stretch.first + count_of stretch ≤ reaches law.mesh p + 1 = on.fits in
    let l : kept stretch step (x - 1) ≡ ((row law step).point p (i - 1)) =
    h.cell step (x - 1) (omega arith) left.low left.high left.near ∙ ap ((row law step).point p) (omega arith) in
    let o : kept stretch step x ≡ ((row law step).point p i) =
    h.cell step x (omega arith) own.low own.high own.near in
    let r : kept stretch step (x + 1) ≡ ((row law step).point p (i + 1)) =
    h.cell step (x + 1) high right.low right.high right.near ∙ ap ((row law step).point p) (omega arith) in
    ap (λ a. law.inner p i a (kept stretch step x) (kept stretch step (x + 1))) l
    ∙ ap (λ b. law.inner p i ((row law step).point p (i - 1)) b (kept stretch step (x + 1))) o
    ∙ ap (law.inner p i ((row law step).point p (i - 1)) ((row law step).point p i)) r
    ∙ sym (point-inside law step p i (omega arith) (omega arith))

-- a band that is raised by one step
pub raised-on : (law : Meaning) (step : ℕ) (distance : ℕ → ℕ) (low high : ℕ) (old new : Stretch)
    (since front later : ℕ → ℕ) → IsOnMesh law old → IsStepped law step distance low high old new
    → Raises step distance low high (count_of old) since front later
    → Holds law since front old → Holds law since later new
raised-on law step distance low high old new since front later on st ra h = record {
  cell = λ t x b s f n.
      let size : count_of new ≡ count_of old = st.same.count_is in
      let b' : x < count_of old = omega arith in
      let e = same-spot law old new t x st.same in
      elim (in-band low high (distance x)) [
        | inl a ↦
            let r : later x ≡ step + 1 = ra.raised x b' a.0 a.1 in
            let o : front x ≡ step = (ra.own x b' a.0 a.1).1 in
            let own : IsReady step since front x = record { low = (ra.own x b' a.0 a.1).0; high = omega arith; near = omega arith } in
            let i = st.inner x b' a.0 a.1 in
            elim (which t step (omega arith) (omega arith)) [
              | inl k ↦
                  st.before t x (ap is_even k)
                  ∙ h.cell t x b' s (omega arith) (omega arith)
                  ∙ sym e
              | inr k ↦
                  st.inside t x b' a.0 a.1 (ap is_even k)
                  ∙ made law old since front step x on h i.0 i.1 (ra.left x b' a.0 a.1) own (ra.right x b' a.0 a.1)
                  ∙ ap (λ u. spot law old u x) (sym k)
                  ∙ sym e
            ]
        | inr a ↦
            let r : later x ≡ front x = ra.others x b' a in
            st.outside t x b' a
            ∙ h.cell t x b' s (omega arith) (omega arith)
            ∙ sym e
      ];
}

which-put : (t step : ℕ) → t ≤ step → step ≤ t + 1 → (t ≡ step) ⊎ (t + 1 ≡ step)
which-put t step h g = grind arith

-- the step before has the other parity
parity : (t step : ℕ) → t + 1 ≡ step → is_even t ≢ is_even step
parity t step e h = elim (two t) [
  | inl a ↦ let x = eq-eqb (t % 2) 0 a in let y = ne_eqb (step % 2) 0 (λ z. omega arith) in absurd (distinct x y h)
  | inr a ↦ let x = ne_eqb (t % 2) 0 (λ z. omega arith) in let y = eq-eqb (step % 2) 0 (omega arith) in absurd (distinct y x (sym h))
]
  where
    two : (t : ℕ) → (t % 2 ≡ 0) ⊎ (t % 2 ≡ 1)
    two t = grind arith

    distinct : {a b : Bool} → a ≡ true → b ≡ false → a ≡ b → ⊥
    distinct x y z = cc

-- a point that is put
pub put-on : (law : Meaning) (step place : ℕ) (point : Point) (old new : Stretch)
    (since front sooner later : ℕ → ℕ) → IsPut step place point old new
    → Puts step place (count_of old) since front sooner later → point ≡ spot law old step place
    → Holds law since front old → Holds law sooner later new
put-on law step place point old new since front sooner later pu ps e h = record {
  cell = λ t x b s f n.
      let size : count_of new ≡ count_of old = pu.same.count_is in
      let b' : x < count_of old = omega arith in
      let m = same-spot law old new t x pu.same in
      elim (cases_eq x place) [
        | inl k ↦
            let f' : t ≤ step = subst (λ z. t ≤ z) (ap later k ∙ ps.here) f in
            let n' : step ≤ t + 1 = subst (λ z. z ≤ t + 1) (ap later k ∙ ps.here) n in
            elim (which-put t step f' n') [
              | inl g ↦
                  ap (kept new t) k ∙ pu.here t (ap is_even g) ∙ e
                  ∙ ap (λ u. spot law old u place) (sym g) ∙ ap (spot law old t) (sym k) ∙ sym m
              | inr g ↦
                  let o = ps.kept t g (subst (λ z. sooner z ≤ t) k s) in
                  pu.earlier t x (parity t step g)
                  ∙ h.cell t x b' (subst (λ z. since z ≤ t) (sym k) o.0) (subst (λ z. t ≤ front z) (sym k) o.1)
                  (subst (λ z. front z ≤ t + 1) (sym k) o.2)
                  ∙ sym m
            ]
        | inr k ↦
            let o = ps.beside x b' k in
            let l : later x ≡ front x = o.0 in
            let w : since x ≤ sooner x = o.1 in
            pu.beside t x k ∙ h.cell t x b' (omega arith) (omega arith) (omega arith) ∙ sym m
      ];
}
