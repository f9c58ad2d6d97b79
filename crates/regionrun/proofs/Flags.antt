-- For which of its sides a node's strand has the block loaded.
use Rattle.std.proofs.Common.{◌≡◌, ℕ, ◌<◌, ◌==◌, inl, inr, Bool, true, false, length, List, [], ◌∷◌}
use Rattle.std.proofs.Common.{map, ap, sym, ◌∙◌, arith, eq-eqb}
use Rattle.std.specs.Prelude.{◌||◌, slice_index_or}
use Rattle.std.proofs.lemmas.Bool.{ne_eqb, cases_eq}
use Rattle.std.proofs.lemmas.List.{get_or-map}
use Rattle.std.proofs.Math.Bool.{or-false, or-true}
use Rattle.strands.specs.Hubs.{EachSpoke, IsSideLoaded, spokes_of}
use Rattle.strands.specs.declared.hubs.Hub.{Hub}
use Rattle.strands.specs.declared.spokes.Spoke.{Spoke}

-- one of a list that isn't empty
pub some-of : {X : Type 0} (i : ℕ) (xs : List X) → i < length xs → X
some-of i [] h = absurd (omega arith)
some-of i (x ∷ xs) h = x

-- the flag of side i
abbrev pub flag_at : List Spoke → ℕ → Bool
flag_at spokes i = slice_index_or (map (λ spoke. spoke.loaded) spokes) i false

pub flag-is : (spokes : List Spoke) (i : ℕ) (d : Spoke) → i < length spokes
    → flag_at spokes i ≡ (slice_index_or spokes i d).loaded
flag-is spokes i d h = get_or-map (λ (spoke : Spoke). spoke.loaded) spokes i d false h

pub spokes-loaded : (spokes : List Spoke) (loaded : Bool)
    → ((i : ℕ) → i < length spokes → flag_at spokes i ≡ loaded)
    → EachSpoke (λ i spoke. spoke.loaded ≡ loaded) spokes
spokes-loaded spokes loaded each = λ i d h. sym (flag-is spokes i d h) ∙ each i h

pub flags-loaded : (spokes : List Spoke) (loaded : Bool)
    → EachSpoke (λ i spoke. spoke.loaded ≡ loaded) spokes → (i : ℕ) → i < length spokes
    → flag_at spokes i ≡ loaded
flags-loaded spokes loaded each i h =
    let d = some-of i spokes h in flag-is spokes i d h ∙ each i d h

pub flag-taken : (side : ℕ) (old new : Hub) → IsSideLoaded side old new → (i : ℕ)
    → i < length (spokes_of old)
    → flag_at (spokes_of new) i ≡ (flag_at (spokes_of old) i || (i == side))
flag-taken side old new taken i h =
    let d = some-of i (spokes_of old) h in
    let l : i < length (spokes_of new) = let e = taken.same.each in omega arith in
    let was = flag-is (spokes_of old) i d h in
    let is = flag-is (spokes_of new) i d l in
    elim (cases_eq i side) [
      | inl e ↦
          let on : (slice_index_or (spokes_of new) i d).loaded ≡ true =
          ap (λ (z : ℕ). (slice_index_or (spokes_of new) z d).loaded) e ∙ taken.here d in
          is ∙ on ∙ sym (ap (λ (b : Bool). flag_at (spokes_of old) i || b) (eq-eqb i side e)
          ∙ or-true (flag_at (spokes_of old) i))
      | inr n ↦
          is ∙ taken.others i d n ∙ sym was
          ∙ sym (ap (λ (b : Bool). flag_at (spokes_of old) i || b) (ne_eqb i side n)
          ∙ or-false (flag_at (spokes_of old) i))
    ]
