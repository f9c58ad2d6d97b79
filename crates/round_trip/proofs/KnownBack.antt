-- The names that a case uses, and the lines of its written text that define them.
use Rattle.std.proofs.Common.{ℕ, zero, suc, ◌+◌, ◌<◌, ◌≡◌, Bool, true, List, [], ◌∷◌, ◌++◌, map, length, get_or, subst, ap, ◌∙◌, refl, arith, length-append}
use Rattle.std.proofs.lemmas.Bool.{or_left, or_right, lt-ltb}
use Rattle.std.proofs.lemmas.List.{get_or_append_left, get_or-append-add, get_or-map}
use Rattle.std.proofs.lemmas.List.Folds.{list_any-append}
use Rattle.std.specs.List.{list_any, All}
use Rattle.case_model.specs.declared.cases.Case.{Case}
use Rattle.case_model.specs.declared.cases.Table.{Table}
use Rattle.case_model.specs.declared.cases.TableKind.{TableKind}
use Rattle.case_model.specs.declared.cases.Node.{Node}
use Rattle.case_model.specs.declared.cases.Pipe.{Pipe}
use Rattle.case_model.specs.Limits.{IsTableOf}
use Rattle.case_model.specs.Parts.{no_table, no_node, no_pipe}
use Rattle.case_rules.specs.declared.parts.Part.TheVariants.{ANode, APipe}
use Rattle.case_rules.specs.contracts.parts.Part.{the_type}
use denote.Enum.Bare.{true_same}
use Rattle.case_rules.specs.Said.{table_part, defines_part}
use Rattle.case_writing.specs.CaseText.{name_of_table, name_of_node, name_of_pipe}
use Rattle.round_trip.specs.Lines.{settings_lines, table_line, node_line, pipe_line, case_lines}
use Rattle.round_trip.specs.Writable.{IsNameText, case_names}
use Rattle.round_trip.proofs.CaseBack.{table_rest, node_rest, pipe_rest, probe_rest, lines_right, length-names}
use Rattle.round_trip.proofs.Directives.{of_table, of_node, of_pipe}
use Rattle.round_trip.proofs.FieldsFit.{AreKnown}
use Rattle.round_trip.proofs.Indices.{same_name}
use Rattle.case_model.proofs.ListFacts.{all_left, all_right}

all_of_map : {X : Type 0} (name_of : X → List ℕ) (xs : List X) → All IsNameText (map name_of xs) → All (λ x. IsNameText (name_of x)) xs
all_of_map name_of xs h k d l = subst IsNameText (get_or-map name_of xs k d (name_of d) l) (h k (name_of d) (omega (arith, length-names name_of xs)))

-- each table, node and pipe has a name as a case text can give it
pub record AreNamed (case : Case) : Type 0 where
  pub tables : All (λ t. IsNameText t.name) case.tables
  pub nodes : All (λ n. IsNameText n.name) case.nodes
  pub pipes : All (λ p. IsNameText p.name) case.pipes

pub parts_named : (case : Case) → All IsNameText (case_names case) → AreNamed case
unfolding case_names
parts_named case h =
    let ts = map (λ (t : Table). t.name) case.tables in
    let ns = map (λ (n : Node). n.name) case.nodes in
    let ps = map (λ (p : Pipe). p.name) case.pipes in record {
      tables = all_of_map (λ (t : Table). t.name) case.tables (all_left IsNameText ts ns (all_left IsNameText (ts ++ ns) ps h));
      nodes = all_of_map (λ (n : Node). n.name) case.nodes (all_right IsNameText ts ns (all_left IsNameText (ts ++ ns) ps h));
      pipes = all_of_map (λ (p : Pipe). p.name) case.pipes (all_right IsNameText (ts ++ ns) ps h);
    }

-- a part's own line defines its name
table_own : (kind : TableKind) (t : Table) → t.kind ≡ kind → defines_part (table_part kind) t.name (table_line t) ≡ true
unfolding defines_part table_line
table_own kind t e = rw (of_table t, e, true_same the_type (table_part kind) (table_part kind) refl, lt-ltb 1 (length (table_line t)) (omega arith)) (same_name t.name t.name refl)

node_own : (tables : List Table) (n : Node) → defines_part ANode n.name (node_line tables n) ≡ true
unfolding defines_part node_line
node_own tables n = rw (of_node tables n, lt-ltb 1 (length (node_line tables n)) (omega arith)) (same_name n.name n.name refl)

pipe_own : (nodes : List Node) (p : Pipe) → defines_part APipe p.name (pipe_line nodes p) ≡ true
unfolding defines_part pipe_line
pipe_own nodes p = rw (of_pipe nodes p) (same_name p.name p.name refl)

-- a line among those that are made of parts
among : {A : Type 0} (test : List (List ℕ) → Bool) (line_of : A → List (List ℕ)) (parts : List A) (k : ℕ) (d : A) → k < length parts → test (line_of (get_or parts k d)) ≡ true → list_any test (map line_of parts) ≡ true
among test line_of [] k d l t = absurd (omega arith)
among test line_of (a ∷ parts) zero d l t = or_left (test (line_of a)) (list_any test (map line_of parts)) t
among test line_of (a ∷ parts) (suc k) d l t = or_right (test (line_of a)) (list_any test (map line_of parts)) (among test line_of parts k d (omega arith) t)

in_front : (test : List (List ℕ) → Bool) (xs ys : List (List (List ℕ))) → list_any test xs ≡ true → list_any test (xs ++ ys) ≡ true
in_front test xs ys h = list_any-append test xs ys ∙ or_left (list_any test xs) (list_any test ys) h

in_back : (test : List (List ℕ) → Bool) (xs ys : List (List (List ℕ))) → list_any test ys ≡ true → list_any test (xs ++ ys) ≡ true
in_back test xs ys h = list_any-append test xs ys ∙ or_right (list_any test xs) (list_any test ys) h

in_case : (test : List (List ℕ) → Bool) (case : Case) → list_any test (table_rest case) ≡ true → list_any test (case_lines case) ≡ true
in_case test case h = ap (λ (lines : List (List (List ℕ))). list_any test lines) (lines_right case) ∙ in_back test (settings_lines case) (table_rest case) h

table_known : (case : Case) (kind : TableKind) (t : ℕ) → IsTableOf kind case.tables t → list_any (defines_part (table_part kind) (name_of_table case.tables t)) (case_lines case) ≡ true
table_known case kind t h =
    let test = defines_part (table_part kind) (name_of_table case.tables t) in
    in_case test case (in_front test (map table_line case.tables) (node_rest case) (among test table_line case.tables t no_table h.there (table_own kind (get_or case.tables t no_table) (h.wanted no_table))))

node_known : (case : Case) (k : ℕ) → k < length case.nodes → list_any (defines_part ANode (name_of_node case.nodes k)) (case_lines case) ≡ true
node_known case k l =
    let test = defines_part ANode (name_of_node case.nodes k) in
    in_case test case (in_back test (map table_line case.tables) (node_rest case)
    (in_front test (map (node_line case.tables) case.nodes) (pipe_rest case) (among test (node_line case.tables) case.nodes k no_node l (node_own case.tables (get_or case.nodes k no_node)))))

pipe_known : (case : Case) (p : ℕ) → p < length case.pipes → list_any (defines_part APipe (name_of_pipe case.pipes p)) (case_lines case) ≡ true
pipe_known case p l =
    let test = defines_part APipe (name_of_pipe case.pipes p) in
    in_case test case (in_back test (map table_line case.tables) (node_rest case) (in_back test (map (node_line case.tables) case.nodes) (pipe_rest case)
    (in_front test (map (pipe_line case.nodes) case.pipes) (probe_rest case) (among test (pipe_line case.nodes) case.pipes p no_pipe l (pipe_own case.nodes (get_or case.pipes p no_pipe))))))

pub names_known : (case : Case) → AreNamed case → AreKnown (case_lines case) case
names_known case n = record {
  tables = table_known case;
  nodes = node_known case;
  pipes = pipe_known case;
  table_names = λ t l. n.tables t no_table l;
  node_names = λ k l. n.nodes k no_node l;
  pipe_names = λ p l. n.pipes p no_pipe l;
}
