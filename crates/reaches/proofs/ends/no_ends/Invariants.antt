use Rattle.std.proofs.Common.{◌≡◌, List, [], replicate}
use Rattle.case_model.specs.declared.meshes.End.{End}
use Rattle.reaches.proofs.ends.no_ends.Given as goal

abbrev pub invariant-loop : goal.invariant-loop
invariant-loop l = l.ends.items ≡ replicate {A = List End} l.counter []
