-- How many sides strands have at most.
use Rattle.std.specs.Prelude.{ℕ, ◌<◌, ◌≤◌, length}
use Rattle.std.proofs.Common.{arith}
use Rattle.case_model.specs.declared.meshes.Mesh.{Mesh}
use Rattle.case_model.specs.declared.meshes.TheConstants.{MOST_ENDS}
use Rattle.regions.specs.declared.shapes.Layout.{Layout}
use Rattle.regions.specs.declared.shapes.Shape.{Shape}
use Rattle.regions.specs.declared.shapes.Shape.TheVariants.{OfNode, OfSeam, OfSection}
use Rattle.regions.specs.Cuts.{IsLimited}
use Rattle.regions.specs.Sides.{shape_at, sides_in, sides_of}
use Rattle.regions.specs.Touching.{IsStanding}
use Rattle.regionrun.specs.Lawful.{IsLawful}

few-in : (mesh : Mesh) (w x : ℕ) (shape : Shape) → IsLimited mesh → IsStanding mesh w x shape
    → sides_in mesh shape ≤ MOST_ENDS
few-in mesh w x (OfNode node) few stands = few.few_ends node stands.1
few-in mesh w x (OfSeam pipe place left right) few stands = omega arith
few-in mesh w x (OfSection pipe place count left right) few stands = omega arith

pub few-sides : (layout : Layout) (mesh : Mesh) (x : ℕ) → IsLawful layout mesh
    → x < length layout.shapes → sides_of layout mesh x ≤ MOST_ENDS
unfolding sides_of
few-sides layout mesh x lawful there =
    few-in mesh layout.window x (shape_at layout x) lawful.limited (lawful.touching.stands x there)
