-- The parts that lines say: where they are found, how few they are where the lines break no rule on counts, and the index of a name.
use Rattle.std.proofs.Common.{ℕ, ◌+◌, ◌<◌, ◌≤◌, ◌≡◌, ◌==◌, ◌||◌, not, nat_lt, Bool, false, cond, Option, Some, None, List, [], ◌∷◌, length, codes, ap, sym, subst, ◌∙◌, refl, arith, ◌&&◌, true, suc, get_or}
use Rattle.std.proofs.lemmas.Bool.{false_from_ne_true, or_right}
use Rattle.std.specs.List.{list_any, cons_option, position_from, AllByRecursion}
use Rattle.std.proofs.lemmas.Bool.Decides.{nat_tests}
use Rattle.case_model.specs.declared.cases.Table.{Table}
use Rattle.case_model.specs.declared.cases.Node.{Node}
use Rattle.case_model.specs.declared.cases.Pipe.{Pipe}
use Rattle.case_model.specs.declared.cases.Probe.{Probe}
use Rattle.case_model.specs.Sets.{IsEmpty}
use Rattle.case_lines.specs.declared.words.Directive.{Directive}
use Rattle.case_lines.specs.declared.words.Directive.TheVariants.{OfSingle, OfTable, OfNode, OfPipe, OfProbe, OfWatch}
use Rattle.case_rules.specs.Said.{directive_said, is_single_of, named_by, is_some_part, line_at}
use Rattle.case_rules.specs.Counts.{is_table, is_node, is_pipe, is_sampled, count_of, is_incomplete, is_too_large, count_rules}
use Rattle.netfile.specs.Built.{parts_from, table_by, table_said, tables_from, tables_of, node_by, node_said, nodes_from, nodes_of, pipe_by, pipe_said, pipes_from, pipes_of, probe_by, probe_said, probes_from, probes_of, pipe_of}
use Rattle.case_rules.specs.Known.{one_if, names_such, index_from}
use Rattle.case_rules.proofs.Tallied.{count_more, count_none}
use Rattle.std.specs.Str.{bytes_eq}
use Rattle.case_lines.specs.Fields.{field}
use Rattle.case_rules.specs.declared.tally.Tally.{Tally}
use Rattle.case_rules.specs.Tallies.{IsTally}
use Rattle.netfile.specs.Named.{IsNamed}
use Rattle.netfile.specs.Indices.{IndexTables, IndexNodes, IndexPipes}
use Rattle.std.specs.Prelude.{unwrap_or}
use Rattle.std.specs.Option.{IfSome}

-- one of two tests passes
one_of : {X : Type 0} (a b : Bool) → (a || b) ≡ true → (a ≡ true → X) → (b ≡ true → X) → X
one_of true b h f g = f refl
one_of false b h f g = g h

-- the test passes at this place of a list that begins at place i
abbrev AtPlace : {X : Type 0} → (X → Bool) → ℕ → List X → Option ℕ → Type 0
AtPlace p i xs None = ⊥
AtPlace {X} p i xs (Some j) = (k : ℕ) × (j ≡ i + k) × (k < length xs) × ((d : X) → p (get_or xs k d) ≡ true)

place_later : {X : Type 0} (p : X → Bool) (i : ℕ) (x : X) (xs : List X) (o : Option ℕ) → AtPlace p (i + 1) xs o → AtPlace p i (x ∷ xs) o
place_later p i x xs None h = h
place_later p i x xs (Some j) h = (suc h.0, omega (arith, h.1), omega (arith, h.2), h.3)

place_here : {X : Type 0} (p : X → Bool) (i : ℕ) (x : X) (xs : List X) (b : Bool) (o : Option ℕ) → p x ≡ b → (b || list_any p xs) ≡ true → (list_any p xs ≡ true → AtPlace p (i + 1) xs o) → AtPlace p i (x ∷ xs) (cond b (Some i) o)
place_here p i x xs true o e h f = (0, omega arith, omega arith, λ d. e)
place_here p i x xs false o e h f = place_later p i x xs o (f h)

place_from : {X : Type 0} (p : X → Bool) (i : ℕ) (xs : List X) → list_any p xs ≡ true → AtPlace p i xs (position_from p i xs)
place_from p i [] h = absurd (grind arith)
place_from p i (x ∷ xs) h = place_here p i x xs (p x) (position_from p (i + 1) xs) refl h (place_from p (i + 1) xs)

-- a place of the list at which the test passes
pub record IsFound {X : Type 0} (p : X → Bool) (xs : List X) (j : ℕ) : Type 0 where
  pub there : j < length xs
  pub passes : (d : X) → p (get_or xs j d) ≡ true

found_at : {X : Type 0} (p : X → Bool) (xs : List X) (o : Option ℕ) → AtPlace p 0 xs o → IsFound p xs (unwrap_or o 0)
found_at p xs None h = absurd h
found_at p xs (Some j) h = subst (λ (k : ℕ). IsFound p xs k) (let e : h.0 ≡ j = omega (arith, h.1) in e) (record { there = h.2; passes = h.3 })

-- where a test passes for one of a list, the first place at which it does
pub found : {X : Type 0} (p : X → Bool) (xs : List X) → list_any p xs ≡ true → IsFound p xs (unwrap_or (position_from p 0 xs) 0)
found p xs h = found_at p xs (position_from p 0 xs) (place_from p 0 xs h)

-- what holds of the part that each line says, if any, holds of all parts
all_cons : {X : Type 0} (P : X → Type 0) (o : Option X) (xs : List X) → IfSome o P → AllByRecursion P xs → AllByRecursion P (cons_option o xs)
all_cons P None xs h k = k
all_cons P (Some x) xs h k = (h, k)

pub all_parts : {X : Type 0} (P : X → Type 0) (says : ℕ → List (List ℕ) → Option X) (line : ℕ) (lines : List (List (List ℕ))) → ((k at : ℕ) → k < length lines → IfSome (says at (line_at lines k)) P) → AllByRecursion P (parts_from says line lines)
all_parts P says line [] f = tt
all_parts P says line (fields ∷ lines) f =
    all_cons P (says line fields) (parts_from says (line + 1) lines) (f 0 line (omega arith)) (all_parts P says (line + 1) lines (λ k at h. f (suc k) at (omega arith)))

-- where the part of each line that passes a test passes another, one of the parts does where one of the lines does
any_cons : {X : Type 0} (p : X → Bool) (o : Option X) (xs : List X) → list_any p xs ≡ true → list_any p (cons_option o xs) ≡ true
any_cons p None xs h = h
any_cons p (Some x) xs h = or_right (p x) (list_any p xs) h

pub listed : {X : Type 0} (p : X → Bool) (test : List (List ℕ) → Bool) (says : ℕ → List (List ℕ) → Option X) (line : ℕ) (lines : List (List (List ℕ)))
    → ((at : ℕ) (fields : List (List ℕ)) (more : List X) → test fields ≡ true → list_any p (cons_option (says at fields) more) ≡ true) → list_any test lines ≡ true → list_any p (parts_from says line lines) ≡ true
listed p test says line [] f h = h
listed p test says line (fields ∷ lines) f h =
    one_of (test fields) (list_any test lines) h (f line fields (parts_from says (line + 1) lines)) (λ e. any_cons p (says line fields) (parts_from says (line + 1) lines) (listed p test says (line + 1) lines f e))

-- a line is counted exactly where it says such a part
table_one : (d : Option Directive) (line : ℕ) (fields : List (List ℕ)) (rest : List Table) → length (cons_option (table_by d line fields) rest) ≡ one_if (is_table d) + length rest
table_one (Some OfPipe) line fields rest = omega arith
table_one _ line fields rest = omega arith

node_one : (tables : List Table) (d : Option Directive) (line : ℕ) (fields : List (List ℕ)) (rest : List Node) → length (cons_option (node_by tables d line fields) rest) ≡ one_if (is_node d) + length rest
node_one tables (Some OfPipe) line fields rest = omega arith
node_one tables _ line fields rest = omega arith

pipe_one : (nodes : List Node) (d : Option Directive) (line : ℕ) (fields : List (List ℕ)) (rest : List Pipe) → length (cons_option (pipe_by nodes d line fields) rest) ≡ one_if (is_pipe d) + length rest
pipe_one nodes (Some OfPipe) line fields rest = omega arith
pipe_one nodes _ line fields rest = omega arith

probe_one : (pipes : List Pipe) (nodes : List Node) (d : Option Directive) (line : ℕ) (fields : List (List ℕ)) (rest : List Probe) → length (cons_option (probe_by pipes nodes d line fields) rest) ≡ one_if (is_sampled d) + length rest
probe_one pipes nodes (Some OfPipe) line fields rest = omega arith
probe_one pipes nodes _ line fields rest = omega arith

parts_count : {X : Type 0} (says : ℕ → List (List ℕ) → Option X) (is_such : Option Directive → Bool) → ((at : ℕ) (fields : List (List ℕ)) (rest : List X) → length (cons_option (says at fields) rest) ≡ one_if (is_such (directive_said fields)) + length rest)
    → (line : ℕ) (lines : List (List (List ℕ))) → length (parts_from says line lines) ≡ count_of is_such lines
parts_count says is_such f line [] = count_none is_such 0 (count_of is_such []) (omega arith)
parts_count says is_such f line (fields ∷ lines) =
    f line fields (parts_from says (line + 1) lines) ∙ ap (λ n. one_if (is_such (directive_said fields)) + n) (parts_count says is_such f (line + 1) lines) ∙ sym (count_more is_such fields lines)

pub tables_count : (line : ℕ) (lines : List (List (List ℕ))) → length (tables_from line lines) ≡ count_of is_table lines
unfolding table_said
tables_count line lines = parts_count table_said is_table (λ at fields rest. table_one (directive_said fields) at fields rest) line lines

pub nodes_count : (tables : List Table) (line : ℕ) (lines : List (List (List ℕ))) → length (nodes_from tables line lines) ≡ count_of is_node lines
unfolding node_said
nodes_count tables line lines = parts_count (node_said tables) is_node (λ at fields rest. node_one tables (directive_said fields) at fields rest) line lines

pub pipes_count : (nodes : List Node) (line : ℕ) (lines : List (List (List ℕ))) → length (pipes_from nodes line lines) ≡ count_of is_pipe lines
unfolding pipe_said
pipes_count nodes line lines = parts_count (pipe_said nodes) is_pipe (λ at fields rest. pipe_one nodes (directive_said fields) at fields rest) line lines

pub probes_count : (pipes : List Pipe) (nodes : List Node) (line : ℕ) (lines : List (List (List ℕ))) → length (probes_from pipes nodes line lines) ≡ count_of is_sampled lines
unfolding probe_said
probes_count pipes nodes line lines = parts_count (probe_said pipes nodes) is_sampled (λ at fields rest. probe_one pipes nodes (directive_said fields) at fields rest) line lines

-- what the rules on counts say of the counts
pub complete : (lines : List (List (List ℕ))) → IsEmpty (count_rules lines) → is_incomplete lines ≡ false
unfolding count_rules
complete lines empty = false_from_ne_true (is_incomplete lines) (λ h. empty 0 8 (rw h refl))

not_large : (lines : List (List (List ℕ))) → IsEmpty (count_rules lines) → is_too_large lines ≡ false
unfolding count_rules
not_large lines empty = false_from_ne_true (is_too_large lines) (λ h. empty 0 10 (rw h refl))

-- each count is at most this
record AreFew (t n p q : ℕ) : Type 0 where
  tables : t ≤ 1_024
  nodes : n ≤ 4_096
  pipes : p ≤ 4_096
  probes : q ≤ 256

few_of : (t n p q : ℕ) → (nat_lt 1_024 t || nat_lt 4_096 n || nat_lt 4_096 p || nat_lt 256 q) ≡ false → AreFew t n p q
few_of t n p q h = record {
  tables = grind (arith, nat_tests);
  nodes = grind (arith, nat_tests);
  pipes = grind (arith, nat_tests);
  probes = grind (arith, nat_tests);
}

few_counts : (lines : List (List (List ℕ))) → IsEmpty (count_rules lines) → AreFew (count_of is_table lines) (count_of is_node lines) (count_of is_pipe lines) (count_of is_sampled lines)
unfolding is_too_large
few_counts lines empty = few_of (count_of is_table lines) (count_of is_node lines) (count_of is_pipe lines) (count_of is_sampled lines) (not_large lines empty)

some_of : (a b : Bool) (n : ℕ) → (not a || not b || (n == 0)) ≡ false → 0 < n
some_of a b n h = grind (arith, nat_tests)

some_count : (lines : List (List (List ℕ))) → IsEmpty (count_rules lines) → 0 < count_of is_pipe lines
unfolding is_incomplete
some_count lines empty = some_of (list_any (is_single_of (codes "step")) lines) (list_any (is_single_of (codes "steps")) lines) (count_of is_pipe lines) (complete lines empty)

pub few_tables_in : (lines : List (List (List ℕ))) → IsEmpty (count_rules lines) → length (tables_of lines) ≤ 1_024
few_tables_in lines empty = subst (λ (n : ℕ). n ≤ 1_024) (sym (tables_count 1 lines)) (few_counts lines empty).tables

pub few_nodes_in : (lines : List (List (List ℕ))) → IsEmpty (count_rules lines) → length (nodes_of lines) ≤ 4_096
few_nodes_in lines empty = subst (λ (n : ℕ). n ≤ 4_096) (sym (nodes_count (tables_of lines) 1 lines)) (few_counts lines empty).nodes

pub few_pipes_in : (lines : List (List (List ℕ))) → IsEmpty (count_rules lines) → length (pipes_of lines) ≤ 4_096
few_pipes_in lines empty = subst (λ (n : ℕ). n ≤ 4_096) (sym (pipes_count (nodes_of lines) 1 lines)) (few_counts lines empty).pipes

pub few_probes_in : (lines : List (List (List ℕ))) → IsEmpty (count_rules lines) → length (probes_of lines) ≤ 256
few_probes_in lines empty = subst (λ (n : ℕ). n ≤ 256) (sym (probes_count (pipes_of lines) (nodes_of lines) 1 lines)) (few_counts lines empty).probes

pub some_pipe_in : (lines : List (List (List ℕ))) → IsEmpty (count_rules lines) → 0 < length (pipes_of lines)
some_pipe_in lines empty = subst (λ (n : ℕ). 0 < n) (sym (pipes_count (nodes_of lines) 1 lines)) (some_count lines empty)

-- a line says no such part, or one whose name it defines
abbrev Says : {X : Type 0} → (X → Bool) → (Option Directive → Bool) → List ℕ → List (List ℕ) → Option X → Type 0
Says p is_such name fields None = is_such (directive_said fields) ≡ false
Says p is_such name fields (Some x) = (is_such (directive_said fields) ≡ true) × (nat_lt 1 (length fields) ≡ true) × (p x ≡ bytes_eq (field fields 1) name)

step : {X : Type 0} (p : X → Bool) (is_such : Option Directive → Bool) (name : List ℕ) (i : ℕ) (fields : List (List ℕ)) (o : Option X) (xs : List X) (more : List (List (List ℕ))) → Says p is_such name fields o
    → ((j : ℕ) → position_from p j xs ≡ index_from is_such (names_such is_such name) j more) → position_from p i (cons_option o xs) ≡ index_from is_such (names_such is_such name) i (fields ∷ more)
unfolding names_such
step p is_such name i fields None xs more s f = let e : i + 0 ≡ i = omega arith in rw (s, e) (f i)
step p is_such name i fields (Some x) xs more s f = rw (s.0, s.1, s.2, f (i + 1)) refl

place : {X : Type 0} (p : X → Bool) (is_such : Option Directive → Bool) (name : List ℕ) (says : ℕ → List (List ℕ) → Option X) → ((at : ℕ) (fields : List (List ℕ)) → IsNamed fields → Says p is_such name fields (says at fields))
    → (i line : ℕ) (lines : List (List (List ℕ))) → AllByRecursion IsNamed lines → position_from p i (parts_from says line lines) ≡ index_from is_such (names_such is_such name) i lines
place p is_such name says f i line [] h = refl
place p is_such name says f i line (fields ∷ lines) h =
    step p is_such name i fields (says line fields) (parts_from says (line + 1) lines) lines (f line fields h.0) (λ j. place p is_such name says f j (line + 1) lines h.1)

table_says : (name : List ℕ) (o : Option Directive) (line : ℕ) (fields : List (List ℕ)) → directive_said fields ≡ o → IsNamed fields → Says (λ (t : Table). bytes_eq t.name name) is_table name fields (table_by o line fields)
table_says name (Some (OfTable kind)) line fields e h = (rw e refl, (h (rw e refl)).0, refl)
table_says name _ line fields e h = rw e refl

node_says : (tables : List Table) (name : List ℕ) (o : Option Directive) (line : ℕ) (fields : List (List ℕ)) → directive_said fields ≡ o → IsNamed fields → Says (λ (n : Node). bytes_eq n.name name) is_node name fields (node_by tables o line fields)
node_says tables name (Some (OfNode node)) line fields e h = (rw e refl, (h (rw e refl)).0, refl)
node_says tables name _ line fields e h = rw e refl

pipe_says : (nodes : List Node) (name : List ℕ) (o : Option Directive) (line : ℕ) (fields : List (List ℕ)) → directive_said fields ≡ o → IsNamed fields → Says (λ (p : Pipe). bytes_eq p.name name) is_pipe name fields (pipe_by nodes o line fields)
unfolding pipe_of
pipe_says nodes name (Some OfPipe) line fields e h = (rw e refl, (h (rw e refl)).0, refl)
pipe_says nodes name _ line fields e h = rw e refl

-- the indices of a tally are those of the parts that its lines say
pub tables_placed : (t : Tally) (lines : List (List (List ℕ))) → IsTally t lines → IsEmpty (count_rules lines) → AllByRecursion IsNamed lines → IndexTables t.tables.indices (tables_of lines)
unfolding table_said
tables_placed t lines h empty n = λ name. h.tables.indices (omega (arith, (few_counts lines empty).tables)) name ∙ sym (place (λ (x : Table). bytes_eq x.name name.now) is_table name.now table_said (λ at fields. table_says name.now (directive_said fields) at fields refl) 0 1 lines n)

pub nodes_placed : (t : Tally) (lines : List (List (List ℕ))) → IsTally t lines → IsEmpty (count_rules lines) → AllByRecursion IsNamed lines → IndexNodes t.nodes.indices (nodes_of lines)
unfolding node_said
nodes_placed t lines h empty n = λ name. h.nodes.indices (few_counts lines empty).nodes name ∙ sym (place (λ (x : Node). bytes_eq x.name name.now) is_node name.now (node_said (tables_of lines)) (λ at fields. node_says (tables_of lines) name.now (directive_said fields) at fields refl) 0 1 lines n)

pub pipes_placed : (t : Tally) (lines : List (List (List ℕ))) → IsTally t lines → IsEmpty (count_rules lines) → AllByRecursion IsNamed lines → IndexPipes t.pipes.indices (pipes_of lines)
unfolding pipe_said
pipes_placed t lines h empty n = λ name. h.pipes.indices (few_counts lines empty).pipes name ∙ sym (place (λ (x : Pipe). bytes_eq x.name name.now) is_pipe name.now (pipe_said (nodes_of lines)) (λ at fields. pipe_says (nodes_of lines) name.now (directive_said fields) at fields refl) 0 1 lines n)
