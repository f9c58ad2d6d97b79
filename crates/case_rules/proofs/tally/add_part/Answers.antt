use Rattle.std.proofs.Common.{◌+◌, ap, ◌∙◌}
use Rattle.case_rules.proofs.Tallied.{byte_is, still_such}
use Rattle.case_rules.proofs.tally.add_part.Goals as goal

pub returns : goal.returns
returns c = λ is_sort e. record {
  count = rw (← e) (ap (λ n. c.args.sort.now.count + n) (c.from.ensures ∙ byte_is _));
  indices = λ few. c.in_ok-add_name.ensures is_sort (still_such _ _ _ c.from.ensures few ∙ e);
}
