use Rattle.std.proofs.Common.{List, [], ◌∷◌, ◌++◌, ap, ◌∙◌}
use Rattle.std.proofs.lemmas.List.{get_or_default}
use Rattle.case_model.specs.declared.meshes.End.{End}
use Rattle.reaches.proofs.Joined.{put_back}
use Rattle.reaches.proofs.ends.add_end.Goals as goal

pub returns : goal.returns
returns c =
    let xs = c.args.ends.now.items in
    put_back xs c.args.node c.replace-own.new.dest c.replace-own.result c.over-2.result c.args.end c.requires
    (c.replace-own.ensures.value ∙ c.index_mut.ensures.value ∙ get_or_default xs c.args.node c.index_mut.result.now [] c.requires)
    (c.over-2.ensures ∙ c.in_ok-push.ensures.items ∙ ap (λ (es : List End). es ++ c.args.end ∷ []) c.into_vec-own.ensures)
