use Rattle.std.proofs.Common.{◌≡◌, ◌+◌, Option, ap, sym, ◌∙◌, refl, arith, List, [], ◌∷◌, ◌++◌, Some, None, append_assoc}
use Rattle.case_lines.specs.Texts.{lines_of}
use Rattle.netfile.specs.Built.{table_said, tables_from, tables_of, node_said, nodes_from, nodes_of, pipe_said, pipes_from, pipes_of, probe_said, probes_from, probes_of}
use Rattle.netfile.proofs.PartsSaid.{tables_placed, nodes_placed, pipes_placed}
use Rattle.std.proofs.lemmas.List.{append-nil}
use Rattle.std.specs.List.{cons_option}
use Rattle.netfile.proofs.building.parts_of.Goals as goal

-- one more line among the parts that are found
joined : {X : Type 0} (o : Option X) (later : List X) → cons_option o [] ++ later ≡ cons_option o later
joined None later = refl
joined (Some x) later = refl

part_more : {X : Type 0} (old new : List X) (o directive_said : Option X) (later rest all : List X) → new ≡ old ++ cons_option o [] → o ≡ directive_said → rest ≡ cons_option directive_said later → old ++ rest ≡ all → new ++ later ≡ all
part_more old new o directive_said later rest all e s r h =
    rw (e, append_assoc old (cons_option o []) later, joined o later, s) (ap (λ xs. old ++ xs) (sym r) ∙ h)

parts_all : {X : Type 0} (old later all : List X) → later ≡ [] → old ++ later ≡ all → old ≡ all
parts_all old later all e h = sym (append-nil old) ∙ ap (λ xs. old ++ xs) (sym e) ∙ h

pub lines-preserved : goal.lines-preserved
lines-preserved c =
    let all = lines_of c.args.bytes.now in
    let n = c.lines.number + 1 in
    let fs = c.in-Some.line in
    let more = lines_of c.in-Some.others.now in
    let m = rw c.in-Some.is at c.in_ok-line.ensures in
    let named = rw m.0 at c.lines.invariant.named in
    let placed = rw m.0 at c.lines.invariant.placed in
    let ts = tables_placed c.args.tally.now all c.requires.tally c.requires.counts c.requires.named in
    let ns = nodes_placed c.args.tally.now all c.requires.tally c.requires.counts c.requires.named in
    let ps = pipes_placed c.args.tally.now all c.requires.tally c.requires.counts c.requires.named in
    record {
      tables = part_more c.lines.tables.items c.add.new.list.items _ (table_said n fs) (tables_from (n + 1) more) (tables_from n (lines_of c.lines.rest.now)) _
          c.in_ok-add.ensures c.in_ok-table_said.ensures (ap (tables_from n) m.0) c.lines.invariant.tables;
      nodes = part_more c.lines.nodes.items c.add-in-Some.new.list.items _ (node_said (tables_of all) n fs) (nodes_from (tables_of all) (n + 1) more) (nodes_from (tables_of all) n (lines_of c.lines.rest.now)) _
          c.in_ok-add-2.ensures (c.node_said.ensures (tables_of all) ts) (ap (nodes_from (tables_of all) n) m.0) c.lines.invariant.nodes;
      pipes = part_more c.lines.pipes.items c.add-in-Some-2.new.list.items _ (pipe_said (nodes_of all) n fs) (pipes_from (nodes_of all) (n + 1) more) (pipes_from (nodes_of all) n (lines_of c.lines.rest.now)) _
          c.in_ok-add-3.ensures (c.pipe_said.ensures (nodes_of all) ns) (ap (pipes_from (nodes_of all) n) m.0) c.lines.invariant.pipes;
      probes = part_more c.lines.probes.items c.add-in-Some-3.new.list.items _ (probe_said (pipes_of all) (nodes_of all) n fs) (probes_from (pipes_of all) (nodes_of all) (n + 1) more) (probes_from (pipes_of all) (nodes_of all) n (lines_of c.lines.rest.now)) _
          c.in_ok-add-4.ensures (c.probe_said.ensures (pipes_of all) (nodes_of all) ps ns) (ap (probes_from (pipes_of all) (nodes_of all) n) m.0) c.lines.invariant.probes;
      within = omega (arith, m.1, c.lines.invariant.within);
      named = named.1;
      placed = placed.1;
    }

pub returns : goal.returns
returns c =
    let all = lines_of c.args.bytes.now in
    let n = c.lines.number + 1 in
    let d = rw c.in_default.is at c.in_ok-line.ensures in
    record {
      tables = parts_all c.lines.tables.items (tables_from n (lines_of c.lines.rest.now)) _ (ap (tables_from n) d) c.lines.invariant.tables;
      nodes = parts_all c.lines.nodes.items (nodes_from (tables_of all) n (lines_of c.lines.rest.now)) _ (ap (nodes_from (tables_of all) n) d) c.lines.invariant.nodes;
      pipes = parts_all c.lines.pipes.items (pipes_from (nodes_of all) n (lines_of c.lines.rest.now)) _ (ap (pipes_from (nodes_of all) n) d) c.lines.invariant.pipes;
      probes = parts_all c.lines.probes.items (probes_from (pipes_of all) (nodes_of all) n (lines_of c.lines.rest.now)) _ (ap (probes_from (pipes_of all) (nodes_of all) n) d) c.lines.invariant.probes;
    }
