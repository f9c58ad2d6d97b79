use Rattle.std.proofs.Common.{List, [], ◌∙◌}
use Rattle.case_model.specs.declared.meshes.End.{End}
use Rattle.reaches.proofs.Joined.{replicate_more}
use Rattle.reaches.proofs.ends.no_ends.Goals as goal

pub loop-preserved : goal.loop-preserved
loop-preserved c = replicate_more {X = List End} [] c.loop.counter c.loop.ends.items _ _ c.loop.invariant c.in_ok-push.ensures.items (c.over.ensures ∙ c.new.ensures.items)
