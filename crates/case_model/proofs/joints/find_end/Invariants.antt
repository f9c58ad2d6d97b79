use Rattle.std.proofs.Common.{◌≡◌, ℕ, ◌<◌, false, get_or}
use Rattle.case_model.specs.declared.meshes.End.{End}
use Rattle.case_model.specs.Mesh.{is_end}
use Rattle.case_model.proofs.joints.find_end.Given as goal

abbrev pub invariant-loop-index : goal.invariant-loop-index
invariant-loop-index l = (k : ℕ) → k < l.index → (d : End) → is_end l.pipe l.last (get_or l.ends k d) ≡ false
