use Rattle.std.proofs.Common.{◌≡◌, ◌+◌, None, ap, sym, ◌∙◌, refl, arith}
use Rattle.case_rules.specs.Known.{is_named, names_such, single_in}
use Rattle.case_rules.specs.Said.{directive_said, defines_part}
use Rattle.case_rules.proofs.SinglesKept.{added_none}
use Rattle.case_rules.specs.Counts.{is_table, is_node, is_pipe}
use Rattle.case_rules.proofs.Tallied.{byte_is}
use Rattle.case_rules.proofs.tally.add_line.Goals as goal

pub returns-in_default : goal.returns-in_default
unfolding names_such defines_part
returns-in_default c =
    let e : directive_said c.args.line.now ≡ None = sym c.directive_said-directive.ensures ∙ c.in_default.is in record {
      version = refl;
      lines = refl;
      kinds = λ part name. rw e refl;
      names = λ name. rw e refl;
      tables = record { count = rw e (omega arith); indices = λ few name. rw e refl };
      nodes = record { count = rw e (omega arith); indices = λ few name. rw e refl };
      pipes = record { count = rw e (omega arith); indices = λ few name. rw e refl };
      probes = rw e (omega arith);
      singles = λ s. added_none c.args.tally.now.singles.items _ c.args.line.now s (ap single_in e);
    }

pub returns : goal.returns
returns c = let e = c.directive_said-directive.ensures in record {
  version = refl;
  lines = refl;
  kinds = c.in_ok-add_kind.ensures;
  names = c.in_ok-add_name.ensures is_named (c.is_named.ensures ∙ ap is_named e);
  tables = c.in_ok-add_part.ensures is_table (c.is_table.ensures ∙ ap is_table e);
  nodes = c.in_ok-add_part-2.ensures is_node (c.is_node.ensures ∙ ap is_node e);
  pipes = c.in_ok-add_part-3.ensures is_pipe (c.is_pipe.ensures ∙ ap is_pipe e);
  probes = rw (← e, ← c.is_sampled.ensures) (ap (λ n. c.args.tally.now.probes + n) (c.from.ensures ∙ byte_is _));
  singles = c.in_ok-add_single.ensures;
}
