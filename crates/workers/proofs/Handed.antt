-- What the workers of a run are handed, when one of them is taken for the calling thread.
use Rattle.std.specs.Prelude.{◌≡◌, ℕ, List, ◌++◌, All, IfSome, length, Option, Some, option_to_list}
use Rattle.std.proofs.Common.{subst, sym}
use Rattle.std.proofs.lemmas.List.Elements.{All-pop, All-same}
use Rattle.atomic_table.specs.Seated.{TableId}
use Rattle.case_model.specs.declared.meshes.Mesh.{Mesh}
use Rattle.claimboard.specs.Views.{IsReady}
use Rattle.claimboard.specs.declared.items.Item.{Ghosts}
use Rattle.regions.specs.declared.shapes.Layout.{Layout}
use Rattle.runners.specs.Tags.{HasRoom}
use Rattle.workers.specs.declared.hands.Hand.{Hand}

-- what holds of all holds of the rest, and of the last
last-taken : {X : Type 0} (P : X → Type 0) (all rest others : List X) (last : Option X) (own : X)
    → all ≡ rest ++ option_to_list last → last ≡ Some own → others ≡ rest → All P all
    → All P others × P own
last-taken P all rest others last own is some same each =
    let both = All-pop P all rest last is each in
    (All-same P others rest same both.0, subst (λ r. IfSome r P) some both.1)

module _ {T G : Type 0} {g : Ghosts T G} where
  pub each-seated : (id : TableId) (tag : G) (all rest others : List (Hand T G g))
      (last : Option (Hand T G g)) (own : Hand T G g) → all ≡ rest ++ option_to_list last
      → last ≡ Some own → others ≡ rest → All (λ hand. IsReady id tag hand.seat.seat) all
      → All (λ hand. IsReady id tag hand.seat.seat) others × IsReady id tag own.seat.seat
  each-seated id tag all rest others last own is some same each =
      last-taken (λ (hand : Hand T G g). IsReady id tag hand.seat.seat) all rest others last own
      is some same each

  pub each-has-room : (layout : Layout) (mesh : Mesh) (words : ℕ)
      (all rest others : List (Hand T G g)) (last : Option (Hand T G g)) (own : Hand T G g)
      → all ≡ rest ++ option_to_list last → last ≡ Some own → others ≡ rest
      → HasRoom layout mesh words → All (λ hand. length hand.scratch.items ≡ words) all
      → All (λ hand. HasRoom layout mesh (length hand.scratch.items)) others
      × HasRoom layout mesh (length own.scratch.items)
  each-has-room layout mesh words all rest others last own is some same room each =
      last-taken (λ (hand : Hand T G g). HasRoom layout mesh (length hand.scratch.items))
      all rest others last own is some same
      (λ k d below. subst (HasRoom layout mesh) (sym (each k d below)) room)
