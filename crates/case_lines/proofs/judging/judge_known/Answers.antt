use Rattle.std.proofs.Common.{map, sym, ◌∙◌}
use Rattle.std.proofs.lemmas.List.{length-map}
use Rattle.case_lines.proofs.Rules.{known_counted}
use Rattle.case_lines.proofs.judging.judge_known.Goals as goal

pub returns-then-has_count : goal.returns-then-has_count
returns-then-has_count c =
    rw c.in-Some.is (known_counted c.in-Some.directive (map (λ f. f.now) c.args.fields.now) c.judge_counted.result
    (rw length-map (sym c.has_count.ensures ∙ c.if-has_count.true)) c.judge_counted.ensures)
