-- One more state word is loaded.
use Rattle.std.proofs.Common.{◌≡◌, ℕ, ◌+◌, ◌<◌, arith, subst, sym}
use mathlib.Core.Logic.{dite}
use native.Mathlib.Decide.{ℕ_discrete}
use Rattle.claimboard.specs.declared.views.View.{View}
use Rattle.claimboard.specs.Views.{Has, OnlyLoaded, found_view}
use Rattle.claimboard.proofs.Owners.{found_stays, found_now}

module _ {G : Type 0} where
  pub loaded_more : (u v : View G) (i n : ℕ) → OnlyLoaded u v → OnlyLoaded u (found_view v i n v.item)
  loaded_more u v i n h = (h.0, h.1, h.2, h.3, omega (arith, h.4), λ k q. found_stays v.finished i n k (h.5 k q))

  pub known_more : (v : View G) (i n : ℕ) → n ≡ 1 → ((k : ℕ) → k < i → Has k v.finished) → (k : ℕ) → k < i + 1 → Has k (found_view v i n v.item).finished
  known_more v i n e h k l = dite (ℕ_discrete k i)
      (λ same. subst (λ (q : ℕ). Has q (found_view v i n v.item).finished) (sym same) (found_now v.finished i n e))
      (λ other. found_stays v.finished i n k (h k (omega (arith, l, other))))
