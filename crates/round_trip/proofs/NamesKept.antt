-- Of lines that break no rule the names of the parts are spelt and short, and no two of them are equal.
use Rattle.std.proofs.Common.{ℕ, ◌+◌, ◌*◌, ◌%◌, ◌<◌, ◌≤◌, ◌≡◌, ◌==◌, not, nat_lt, nat_le, Bool, true, false, IsTrue, List, [], ◌++◌, length, take, map, Option, Some, None, refl, sym, ap, ◌∙◌, subst, arith}
use Rattle.std.proofs.lemmas.Bool.{and_parts, or_parts, not-false}
use Rattle.std.proofs.lemmas.List.{get_or-take, length-take-le}
use Rattle.std.proofs.lemmas.List.Folds.{list_any_at}
use Rattle.std.proofs.lemmas.List.Elements.{All-append}
use Rattle.std.proofs.lemmas.Bool.Decides.{nat_tests}
use Rattle.std.proofs.lemmas.Slice.Eq.{bytes_eq-Decides}
use Rattle.std.specs.List.{All, list_any}
use Rattle.std.specs.Str.{bytes_eq}
use Rattle.case_model.specs.Limits.{least_entries}
use Rattle.case_model.specs.Sets.{IsEmpty}
use Rattle.case_model.specs.declared.cases.Node.{Node}
use Rattle.case_model.specs.declared.cases.Pipe.{Pipe}
use Rattle.case_lines.specs.declared.words.Directive.{Directive}
use Rattle.case_lines.specs.declared.words.Directive.TheVariants.{OfSingle, OfTable, OfNode, OfPipe, OfProbe, OfWatch}
use Rattle.case_lines.specs.declared.fields.FieldKind.TheVariants.{NewName}
use Rattle.case_lines.specs.Fields.{field, field_kind, has_count, is_name}
use Rattle.case_lines.specs.Alone.{breaks_name, breaks_field}
use Rattle.case_rules.specs.Said.{line_at, directive_said, named_by, is_some_part, is_definition, defines}
use Rattle.case_rules.specs.Among.{line_rules}
use Rattle.case_rules.specs.Counts.{is_table, is_node, is_pipe}
use Rattle.netfile.specs.Built.{case_of, tables_of, nodes_of, pipes_of}
use Rattle.netfile.proofs.FieldLimits.{IsKept, kept_at, new_name, short_name, name_once}
use Rattle.round_trip.specs.Writable.{IsNameText, AreApart, case_names}
use Rattle.round_trip.proofs.Apart.{AreNew, apart_append, new_of_both}
use Rattle.round_trip.proofs.NamesGiven.{names_by, table_names, node_names, pipe_names, AreOnce, AreDefining, all_given, apart_given, new_given}
use Rattle.netfile.proofs.TableLimits.{false_true, before_no, some_directive, definition_of, name_of, directive_of_definition, name_free, only_one}

abbrev AreParts : (Option Directive → Bool) → Type 0
AreParts p = (o : Option Directive) → p o ≡ true → is_some_part (named_by o) ≡ true

tables_named : (o : Option Directive) → is_table o ≡ true → is_some_part (named_by o) ≡ true
tables_named None h = h
tables_named (Some (OfSingle single)) h = h
tables_named (Some (OfTable kind)) h = refl
tables_named (Some (OfNode node)) h = refl
tables_named (Some OfPipe) h = refl
tables_named (Some OfProbe) h = h
tables_named (Some OfWatch) h = h

nodes_named : (o : Option Directive) → is_node o ≡ true → is_some_part (named_by o) ≡ true
nodes_named None h = h
nodes_named (Some (OfSingle single)) h = h
nodes_named (Some (OfTable kind)) h = refl
nodes_named (Some (OfNode node)) h = refl
nodes_named (Some OfPipe) h = refl
nodes_named (Some OfProbe) h = h
nodes_named (Some OfWatch) h = h

pipes_named : (o : Option Directive) → is_pipe o ≡ true → is_some_part (named_by o) ≡ true
pipes_named None h = h
pipes_named (Some (OfSingle single)) h = h
pipes_named (Some (OfTable kind)) h = refl
pipes_named (Some (OfNode node)) h = refl
pipes_named (Some OfPipe) h = refl
pipes_named (Some OfProbe) h = h
pipes_named (Some OfWatch) h = h

-- no directive is of two kinds
abbrev AreOther : (Option Directive → Bool) → (Option Directive → Bool) → Type 0
AreOther p q = (o : Option Directive) → p o ≡ true → q o ≡ true → ⊥

table_no_node : (o : Option Directive) → is_table o ≡ true → is_node o ≡ true → ⊥
table_no_node None h k = false_true false refl h
table_no_node (Some (OfSingle single)) h k = false_true false refl h
table_no_node (Some (OfTable kind)) h k = false_true false refl k
table_no_node (Some (OfNode node)) h k = false_true false refl h
table_no_node (Some OfPipe) h k = false_true false refl h
table_no_node (Some OfProbe) h k = false_true false refl h
table_no_node (Some OfWatch) h k = false_true false refl h

table_no_pipe : (o : Option Directive) → is_table o ≡ true → is_pipe o ≡ true → ⊥
table_no_pipe None h k = false_true false refl h
table_no_pipe (Some (OfSingle single)) h k = false_true false refl h
table_no_pipe (Some (OfTable kind)) h k = false_true false refl k
table_no_pipe (Some (OfNode node)) h k = false_true false refl h
table_no_pipe (Some OfPipe) h k = false_true false refl h
table_no_pipe (Some OfProbe) h k = false_true false refl h
table_no_pipe (Some OfWatch) h k = false_true false refl h

node_no_pipe : (o : Option Directive) → is_node o ≡ true → is_pipe o ≡ true → ⊥
node_no_pipe None h k = false_true false refl h
node_no_pipe (Some (OfSingle single)) h k = false_true false refl h
node_no_pipe (Some (OfTable kind)) h k = false_true false refl h
node_no_pipe (Some (OfNode node)) h k = false_true false refl k
node_no_pipe (Some OfPipe) h k = false_true false refl h
node_no_pipe (Some OfProbe) h k = false_true false refl h
node_no_pipe (Some OfWatch) h k = false_true false refl h

two_fields : (d : Directive) (n : ℕ) → is_some_part (named_by (Some d)) ≡ true → has_count d n ≡ true → 1 < n
unfolding has_count
two_fields (OfSingle single) n h k = absurd (cc)
two_fields (OfTable kind) n h k = let m = (and_parts (n % 2 == 0) (nat_le (2 * least_entries kind + 2) n) k).1 in grind (arith, nat_tests)
two_fields (OfNode node) n h k = grind (arith, nat_tests)
two_fields OfPipe n h k = grind (arith, nat_tests)
two_fields OfProbe n h k = absurd (cc)
two_fields OfWatch n h k = absurd (cc)

spelt_name : (text : List ℕ) → breaks_field NewName text 4 ≡ false → IsTrue (is_name text)
unfolding breaks_field breaks_name
spelt_name text h = not-false (is_name text) (or_parts (not (is_name text)) false h).0

name_text : (lines : List (List (List ℕ))) (d : Directive) (fields : List (List ℕ)) → is_some_part (named_by (Some d)) ≡ true → IsKept lines d fields → IsNameText (field fields 1)
name_text lines d fields h k =
    let l : 1 < length fields = two_fields d (length fields) h k.counted in
    let e : field_kind d 1 ≡ NewName = new_name d h in
    record {
      spelt = spelt_name (field fields 1) (let f = k.each 1 4 (omega arith) l in rw e at f);
      short = short_name (field fields 1) (let f = k.each 1 10 (omega arith) l in rw e at f);
    }

own_name : (o : Option Directive) (fields : List (List ℕ)) → directive_said fields ≡ o → is_some_part (named_by o) ≡ true → nat_lt 1 (length fields) ≡ true → defines (field fields 1) fields ≡ true
unfolding defines is_definition
own_name o fields s h l = rw (s, h, l) ((bytes_eq-Decides (field fields 1) (field fields 1)).1 refl)

defines_own : (lines : List (List (List ℕ))) (d : Directive) (fields : List (List ℕ)) → directive_said fields ≡ Some d → is_some_part (named_by (Some d)) ≡ true → IsKept lines d fields → defines (field fields 1) fields ≡ true
defines_own lines d fields s h k = let l : 1 < length fields = two_fields d (length fields) h k.counted in own_name (Some d) fields s h (grind (arith, nat_tests))

-- the lines of a kind of named parts
text_on : (p : Option Directive → Bool) (lines : List (List (List ℕ))) → AreParts p → IsEmpty (line_rules lines) → (k : ℕ) → k < length lines → p (directive_said (line_at lines k)) ≡ true → IsNameText (field (line_at lines k) 1)
text_on p lines part empty k h s =
    let n = part (directive_said (line_at lines k)) s in
    let d = some_directive (directive_said (line_at lines k)) n in
    name_text lines d.0 (line_at lines k) (subst (λ (o : Option Directive). is_some_part (named_by o) ≡ true) d.1 n) (kept_at lines k h empty d.0 d.1)

defined_on : (p : Option Directive → Bool) (lines : List (List (List ℕ))) → AreParts p → IsEmpty (line_rules lines) → AreDefining p lines
defined_on p lines part empty k h s =
    let n = part (directive_said (line_at lines k)) s in
    let d = some_directive (directive_said (line_at lines k)) n in
    defines_own lines d.0 (line_at lines k) d.1 (subst (λ (o : Option Directive). is_some_part (named_by o) ≡ true) d.1 n) (kept_at lines k h empty d.0 d.1)

once_on : (lines : List (List (List ℕ))) → IsEmpty (line_rules lines) → AreOnce lines
once_on lines empty name j k a b d e =
    only_one j k (λ l. before_no lines name j k l b (name_free lines empty name k b e) d) (λ l. before_no lines name k j l a (name_free lines empty name j a d) e)

-- the names of all parts, by the lines
joined_names : (lines : List (List (List ℕ))) → case_names (case_of lines) ≡ names_by is_table lines ++ names_by is_node lines ++ names_by is_pipe lines
unfolding case_names case_of
joined_names lines =
    ap (λ (l : List (List ℕ)). l ++ map (λ (n : Node). n.name) (nodes_of lines) ++ map (λ (p : Pipe). p.name) (pipes_of lines)) (table_names 1 lines)
    ∙ ap (λ (l : List (List ℕ)). names_by is_table lines ++ l ++ map (λ (p : Pipe). p.name) (pipes_of lines)) (node_names (tables_of lines) 1 lines)
    ∙ ap (λ (l : List (List ℕ)). names_by is_table lines ++ names_by is_node lines ++ l) (pipe_names (nodes_of lines) 1 lines)

-- each is a name of at most 32 bytes
pub names_spelt : (lines : List (List (List ℕ))) → IsEmpty (line_rules lines) → All IsNameText (case_names (case_of lines))
names_spelt lines empty =
    let ts : All IsNameText (names_by is_table lines) = all_given IsNameText is_table lines (text_on is_table lines tables_named empty) in
    let ns : All IsNameText (names_by is_node lines) = all_given IsNameText is_node lines (text_on is_node lines nodes_named empty) in
    let ps : All IsNameText (names_by is_pipe lines) = all_given IsNameText is_pipe lines (text_on is_pipe lines pipes_named empty) in
    subst (λ (l : List (List ℕ)). All IsNameText l) (sym (joined_names lines))
    (All-append IsNameText (names_by is_table lines ++ names_by is_node lines) (names_by is_pipe lines) (All-append IsNameText (names_by is_table lines) (names_by is_node lines) ts ns) ps)

-- no two of them are equal, be they of one kind or of two
pub names_apart : (lines : List (List (List ℕ))) → IsEmpty (line_rules lines) → AreApart (case_names (case_of lines))
names_apart lines empty =
    let once : AreOnce lines = once_on lines empty in
    let ts : AreDefining is_table lines = defined_on is_table lines tables_named empty in
    let ns : AreDefining is_node lines = defined_on is_node lines nodes_named empty in
    let ps : AreDefining is_pipe lines = defined_on is_pipe lines pipes_named empty in
    let front : AreApart (names_by is_table lines ++ names_by is_node lines) = apart_append (names_by is_table lines) (names_by is_node lines)
    (apart_given is_table lines once ts) (apart_given is_node lines once ns) (new_given is_table is_node lines table_no_node once ts ns) in
    let new : AreNew (names_by is_table lines ++ names_by is_node lines) (names_by is_pipe lines) = new_of_both (names_by is_table lines) (names_by is_node lines) (names_by is_pipe lines)
    (new_given is_table is_pipe lines table_no_pipe once ts ps) (new_given is_node is_pipe lines node_no_pipe once ns ps) in
    subst AreApart (sym (joined_names lines)) (apart_append (names_by is_table lines ++ names_by is_node lines) (names_by is_pipe lines) front (apart_given is_pipe lines once ps) new)
