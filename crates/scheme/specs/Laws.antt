-- The hydraulics of a case over its mesh, as a law: the interior law with cavities, the law of each
-- node, and what stands at step 0.
use Rattle.std.specs.Prelude.{ℕ}
use Rattle.case_model.specs.declared.cases.Case.{Case}
use Rattle.case_model.specs.declared.meshes.Mesh.{Mesh}
use Rattle.case_model.specs.declared.points.Point.{Point}
use Rattle.case_model.specs.Division.{vapour_head}
use Rattle.case_model.specs.Meaning.{Meaning}
use Rattle.charline.specs.Interior.{inner_point}
use Rattle.scheme.specs.Values.{rule_at}
use Rattle.scheme.specs.Arrivals.{impedance, resistance}
use Rattle.scheme.specs.NodeLaws.{node_law}
use Rattle.scheme.specs.Starts.{start_point, start_node}

-- place i of pipe p one step later, with the pipe's coefficients and the vapour head of the place
unfoldable pub inner_law : Case → Mesh → ℕ → ℕ → Point → Point → Point → Point
inner_law case mesh p i left own right =
    inner_point case.friction (rule_at case (vapour_head case mesh p i))
    (impedance mesh p) (resistance mesh p) left own right

unfoldable pub meaning_of : Case → Mesh → Meaning
meaning_of case mesh = record {
  mesh = mesh;
  inner = inner_law case mesh;
  node = λ k step own near. (node_law case mesh k step own near).0;
  ends = λ k step own near. (node_law case mesh k step own near).1;
  start_point = start_point case mesh;
  start_node = start_node case mesh;
}
