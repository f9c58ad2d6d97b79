-- The lines of a written case break no rule on counts of parts.
use Rattle.std.proofs.Common.{ℕ, ◌+◌, ◌≡◌, ◌==◌, ◌&&◌, ◌||◌, Bool, true, false, List, [], ◌∷◌, length, codes, sym, ap, ◌∙◌, refl, arith}
use Rattle.std.proofs.lemmas.Bool.{and_right, or_from, le-ltb, ne_eqb, both_ways}
use Rattle.std.specs.List.{list_any}
use Rattle.case_model.specs.declared.cases.Case.{Case}
use Rattle.case_model.specs.declared.cases.Table.{Table}
use Rattle.case_model.specs.Limits.{IsRead}
use Rattle.case_model.specs.Sets.{IsEmpty}
use Rattle.case_lines.specs.Words.{single_of, table_of, node_of, directive_of}
use Rattle.case_rules.specs.Said.{directive_said, is_single, is_single_of}
use Rattle.case_rules.specs.Counts.{is_table, is_node, is_pipe, is_sampled, count_of, is_incomplete, is_too_large, count_rules}
use Rattle.netfile.specs.Built.{tables_of, nodes_of, pipes_of}
use Rattle.netfile.proofs.PartsSaid.{tables_count, nodes_count, pipes_count, probes_count}
use Rattle.round_trip.specs.Lines.{settings_lines, case_lines}
use Rattle.round_trip.specs.Renumbered.{first_part, tables_on}
use Rattle.round_trip.specs.Writable.{IsWritable}
use Rattle.round_trip.proofs.CaseBack.{AreNamesApart, names_apart, tables_back, nodes_read, pipes_read, probes_read}
use Rattle.round_trip.proofs.DivisionBack.{nodes_length, pipes_length, probes_length}

pub tables_length : (line : ℕ) (ts : List Table) → length (tables_on line ts) ≡ length ts
tables_length line [] = refl
tables_length line (t ∷ ts) = omega (arith, tables_length (line + 1) ts)

-- as many parts of each kind as the case has
count_tables : (case : Case) → IsRead case → count_of is_table (case_lines case) ≡ length case.tables
count_tables case h = sym (tables_count 1 (case_lines case)) ∙ ap length (tables_back case h) ∙ tables_length (first_part case.version) case.tables

count_nodes : (case : Case) → IsRead case → AreNamesApart case → count_of is_node (case_lines case) ≡ length case.nodes
count_nodes case h a = sym (nodes_count (tables_of (case_lines case)) 1 (case_lines case)) ∙ ap length (nodes_read case h a) ∙ nodes_length (first_part case.version + length case.tables) case.nodes

count_pipes : (case : Case) → IsRead case → AreNamesApart case → count_of is_pipe (case_lines case) ≡ length case.pipes
count_pipes case h a = sym (pipes_count (nodes_of (case_lines case)) 1 (case_lines case)) ∙ ap length (pipes_read case h a) ∙ pipes_length (first_part case.version + length case.tables + length case.nodes) case.pipes

count_probes : (case : Case) → IsRead case → AreNamesApart case → count_of is_sampled (case_lines case) ≡ length case.probes
count_probes case h a =
    sym (probes_count (pipes_of (case_lines case)) (nodes_of (case_lines case)) 1 (case_lines case)) ∙ ap length (probes_read case h a)
    ∙ probes_length (first_part case.version + length case.tables + length case.nodes + length case.pipes) case.probes

-- the two directives that a case needs
has_step : (case : Case) → list_any (is_single_of (codes "step")) (case_lines case) ≡ true
unfolding case_lines settings_lines is_single_of is_single directive_said directive_of single_of table_of node_of
has_step case = refl

has_steps : (case : Case) → list_any (is_single_of (codes "steps")) (case_lines case) ≡ true
unfolding case_lines settings_lines is_single_of is_single directive_said directive_of single_of table_of node_of
has_steps case = refl

complete : (case : Case) → IsWritable case → is_incomplete (case_lines case) ≡ false
unfolding is_incomplete
complete case w =
    let some = w.some in
    let n : (length case.pipes == 0) ≡ false = ne_eqb (length case.pipes) 0 (λ e. omega arith) in
    rw (has_step case, has_steps case, count_pipes case w.read (names_apart case w.once), n) refl

few : (case : Case) → IsWritable case → is_too_large (case_lines case) ≡ false
unfolding is_too_large
few case w =
    let h = w.read in
    let a = names_apart case w.once in
    rw (
      count_tables case h,
      count_nodes case h a,
      count_pipes case h a,
      count_probes case h a,
      le-ltb 1_024 (length case.tables) h.few_tables,
      le-ltb 4_096 (length case.nodes) h.few_nodes,
      le-ltb 4_096 (length case.pipes) h.few_pipes,
      le-ltb 256 (length case.probes) h.few_probes,
    ) refl

none_of : (a b c d e : Bool) → c ≡ false → e ≡ false → (a && ((b && c) || (d && e))) ≡ false
none_of a b c d e f g = and_right a ((b && c) || (d && e)) (or_from (b && c) (d && e) (and_right b c f) (and_right d e g))

pub counts_kept : (case : Case) → IsWritable case → IsEmpty (count_rules (case_lines case))
unfolding count_rules
counts_kept case w line number t =
    both_ways ((line == 0) && (((number == 8) && is_incomplete (case_lines case)) || ((number == 10) && is_too_large (case_lines case))))
    (none_of (line == 0) (number == 8) (is_incomplete (case_lines case)) (number == 10) (is_too_large (case_lines case)) (complete case w) (few case w)) t
