-- The second pass: 8 directive missing, 10 too many parts, both on line 0.
use Rattle.std.specs.Prelude.{ℕ, ◌==◌, ◌&&◌, ◌||◌, not, nat_lt, Bool, true, false, Option, Some}
use Rattle.std.specs.Prelude.{List, codes, count_by}
use Rattle.std.specs.List.{list_any}
use Rattle.case_model.specs.Sets.{Rules}
use Rattle.case_model.specs.declared.cases.TheConstants.{MOST_PROBES}
use Rattle.case_lines.specs.declared.words.Directive.{Directive}
use Rattle.case_lines.specs.declared.words.Directive.TheVariants.{OfTable, OfNode, OfPipe}
use Rattle.case_lines.specs.declared.words.Directive.TheVariants.{OfProbe, OfWatch}
use Rattle.case_rules.specs.Said.{directive_said, is_single_of}

-- whether a directive is a table, a node, a pipe, or a probe or watch
abbrev pub is_table : Option Directive → Bool
is_table (Some (OfTable kind)) = true
is_table _ = false

abbrev pub is_node : Option Directive → Bool
is_node (Some (OfNode node)) = true
is_node _ = false

abbrev pub is_pipe : Option Directive → Bool
is_pipe (Some OfPipe) = true
is_pipe _ = false

abbrev pub is_sampled : Option Directive → Bool
is_sampled (Some OfProbe) = true
is_sampled (Some OfWatch) = true
is_sampled _ = false

-- how many lines have such a directive
unfoldable pub count_of : (Option Directive → Bool) → List (List (List ℕ)) → ℕ
count_of is_such lines = count_by (λ fields. is_such (directive_said fields)) lines

-- whether there is no time step, no count of steps or no pipe
unfoldable pub is_incomplete : List (List (List ℕ)) → Bool
is_incomplete lines =
    not (list_any (is_single_of (codes "step")) lines)
    || not (list_any (is_single_of (codes "steps")) lines) || (count_of is_pipe lines == 0)

-- the most nodes of a case, and the most of its pipes; it may have fewer tables
abbrev pub most_parts : ℕ
most_parts = 4_096

-- whether there are too many tables, nodes, pipes, or probes and watches
abbrev pub are_many : ℕ → ℕ → ℕ → ℕ → Bool
are_many tables nodes pipes probes =
    nat_lt 1_024 tables || nat_lt most_parts nodes || nat_lt most_parts pipes
    || nat_lt MOST_PROBES probes

unfoldable pub is_too_large : List (List (List ℕ)) → Bool
is_too_large lines =
    are_many (count_of is_table lines) (count_of is_node lines) (count_of is_pipe lines)
    (count_of is_sampled lines)

unfoldable pub count_rules : List (List (List ℕ)) → Rules
count_rules lines line number =
    (line == 0) && (((number == 8) && is_incomplete lines)
    || ((number == 10) && is_too_large lines))
