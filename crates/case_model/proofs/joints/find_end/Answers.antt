use Rattle.std.proofs.Common.{◌∙◌, false, length, sym, arith}
use Rattle.std.proofs.lemmas.List.Sums.{position_or_len_is}
use Rattle.case_model.specs.declared.meshes.End.{End}
use Rattle.case_model.specs.Mesh.{is_end}
use Rattle.case_model.proofs.joints.find_end.Goals as goal

pub returns-then-is_end-clause-first : goal.returns-then-is_end-clause-first
returns-then-is_end-clause-first c =
    let d : End = record { pipe = 0; at_last = false } in
    sym (position_or_len_is (is_end c.args.pipe c.args.last) c.args.ends.now c.loop-index.index d (omega arith) (λ k h. c.loop-index.invariant k h d) (λ h. sym c.is_end.ensures ∙ c.if-is_end.true))

pub returns-clause-first : goal.returns-clause-first
returns-clause-first c =
    let d : End = record { pipe = 0; at_last = false } in
    let ends = c.args.ends.now in
    sym (position_or_len_is (is_end c.args.pipe c.args.last) ends (length ends) d (omega arith) (λ k h. c.loop-index.invariant k (omega arith) d) (λ h. absurd (omega arith)))
