use Rattle.std.proofs.Common.{◌≡◌, ◌+◌, ◌*◌, ◌≤◌, map}
use Rattle.std.specs.List.{range_with_len}
use Rattle.case_model.specs.Division.{place_base, pipe_mesh}
use Rattle.reaches.proofs.meshing.pipe_meshes.Given as goal

abbrev pub invariant-loop-pipe : goal.invariant-loop-pipe
invariant-loop-pipe l = record {
  meshes : l.meshes.items ≡ map (pipe_mesh l.decided.case.now) (range_with_len 0 l.pipe);
  base : l.base ≡ place_base l.decided.case.now l.pipe;
  few : l.base ≤ 4_096 + 65_537 * l.pipe;
}
