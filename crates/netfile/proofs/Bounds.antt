-- The rules stand on lines of the text or on line 0 or 1, and have the numbers that the search goes through.
use Rattle.std.proofs.Common.{ℕ, zero, suc, ◌+◌, ◌-◌, ◌<◌, ◌≤◌, ◌≡◌, inl, inr, ◌==◌, ◌&&◌, ◌||◌, not, nat_lt, nat_le, Bool, true, false, IsTrue, cond, ℤ, Option, Some, None, List, [], ◌∷◌, length, take, get_or, ap, sym, subst, refl, arith}
use Rattle.std.specs.List.{list_any, list_all, range_with_len, cons_option}
use Rattle.std.proofs.lemmas.Bool.{eqb-true, and_parts}
use Rattle.std.specs.Option.{is_some}
use Rattle.std.proofs.lemmas.Bool.Decides.{nat_tests}
use Rattle.case_model.specs.declared.cases.Case.{Case}
use Rattle.case_model.specs.declared.cases.Table.{Table}
use Rattle.case_model.specs.declared.cases.Node.{Node}
use Rattle.case_model.specs.declared.cases.Pipe.{Pipe}
use Rattle.case_model.specs.declared.cases.Probe.{Probe}
use Rattle.case_model.specs.declared.meshes.End.{End}
use Rattle.case_model.specs.Sets.{Rules, on_line, either, any_below}
use Rattle.case_model.specs.Bounds.{IsOneOf, IsRising, IsBounded, AreBounded}
use Rattle.case_model.specs.Parts.{pipe_at, node_at, probe_at, no_pipe, no_node, no_probe}
use Rattle.case_model.specs.Division.{is_count, is_adjusted, has_coefficients, node_ends}
use Rattle.case_model.specs.Formulas.{reach_count}
use Rattle.case_model.specs.Refusals.{most_ends, ends_suit, exceeds, breaks_pipe, breaks_node, is_off, pipe_rules, node_rules, probe_rules, part_rules, is_too_large, size_rules}
use Rattle.case_lines.specs.declared.words.Directive.{Directive}
use Rattle.case_lines.specs.declared.words.Directive.TheVariants.{OfSingle, OfTable, OfNode, OfPipe, OfProbe, OfWatch}
use Rattle.case_lines.specs.declared.quantities.Quantity.{Quantity}
use Rattle.case_lines.specs.declared.fields.FieldKind.{FieldKind}
use Rattle.case_lines.specs.declared.fields.FieldKind.TheVariants.{NewName, NodeName, PipeName, Reference, Number, Value, FrictionWord}
use Rattle.case_lines.specs.Words.{directive_of, directive_in, friction_of}
use Rattle.case_lines.specs.Fields.{field, is_marked, field_kind, has_count, has_too_many, is_name, is_reference, is_heading}
use Rattle.case_lines.specs.Tables.{is_disordered}
use Rattle.case_lines.specs.Quantities.{limits, quantity_in, is_spelt, is_outside}
use Rattle.case_lines.specs.Alone.{breaks_name, breaks_reference, breaks_number, breaks_friction, breaks_field, breaks_fields, is_readable, breaks_counted, breaks_known, breaks_alone}
use Rattle.case_rules.specs.Said.{line_at, version_of, directive_said, is_definition, defines, is_single, is_single_of}
use Rattle.case_rules.specs.Among.{directive_among, uses_unknown, breaks_counted as breaks_others, breaks_among, breaks_line, line_rules}
use Rattle.case_rules.specs.Counts.{is_incomplete, is_too_large as is_too_many, count_rules}
use Rattle.netfile.specs.Built.{parts_from, node_by, node_said, nodes_of, pipe_of, pipe_by, pipe_said, pipes_of, probe_by, probe_said, tables_of, case_of}
use Rattle.netfile.specs.Verdict.{rule_numbers, all_passes}

-- the number of a rule
record IsNumber (n : ℕ) : Type 0 where
  some : 1 ≤ n
  few : n ≤ 16

one_of : (n : ℕ) → IsNumber n → IsOneOf rule_numbers n
one_of n h = grind (arith, h.some, h.few)

-- numbers in rising order, as a test
abbrev is_rising : List ℕ → Bool
is_rising [] = true
is_rising (m ∷ ns) = list_all (nat_le m) ns && is_rising ns

at_least : (m n k : ℕ) → nat_le m k ≡ true → n ≡ k → m ≤ n
at_least m n k h e = grind (arith, nat_tests)

above : (m n : ℕ) (ns : List ℕ) → list_all (nat_le m) ns ≡ true → IsOneOf ns n → m ≤ n
above m n [] h i = absurd i
above m n (k ∷ ns) h (inl e) = at_least m n k (and_parts (nat_le m k) (list_all (nat_le m) ns) h).0 e
above m n (k ∷ ns) h (inr i) = above m n ns (and_parts (nat_le m k) (list_all (nat_le m) ns) h).1 i

rising_of : (ns : List ℕ) → is_rising ns ≡ true → IsRising ns
rising_of [] h = tt
rising_of (m ∷ ns) h = (λ n i. above m n ns (and_parts (list_all (nat_le m) ns) (is_rising ns) h).0 i, rising_of ns (and_parts (list_all (nat_le m) ns) (is_rising ns) h).1)

pub rising : IsRising rule_numbers
rising = rising_of rule_numbers refl

-- tests, each with the numbers of rules alone
of_either : {X : Type 0} (a b : Bool) → (IsTrue a → X) → (IsTrue b → X) → IsTrue (a || b) → X
of_either true b f g h = f refl
of_either false b f g h = g h

of_three : (n : ℕ) (a b c : Bool) → (IsTrue a → IsNumber n) → (IsTrue b → IsNumber n) → (IsTrue c → IsNumber n) → IsTrue (a || b || c) → IsNumber n
of_three n a b c f g i h = of_either (a || b) c (of_either a b f g) i h

of_if : (n : ℕ) (b x y : Bool) → (IsTrue x → IsNumber n) → (IsTrue y → IsNumber n) → IsTrue (cond b x y) → IsNumber n
of_if n true x y f g h = f h
of_if n false x y f g h = g h

of_any : {X : Type 0} (p : ℕ → Bool) (ks : List ℕ) → ((k : ℕ) → IsTrue (p k) → X) → IsTrue (list_any p ks) → X
of_any p [] f h = absurd (cc)
of_any p (k ∷ ks) f h = of_either (p k) (list_any p ks) (f k) (of_any p ks f) h

of_one : (n k : ℕ) (a : Bool) → IsNumber k → IsTrue ((n == k) && a) → IsNumber n
of_one n k a i h = subst IsNumber (sym (eqb-true n k (and_parts (n == k) a h).0)) i

of_two : (n j k : ℕ) (a b : Bool) → IsNumber j → IsNumber k → IsTrue (((n == j) && a) || ((n == k) && b)) → IsNumber n
of_two n j k a b f g h = of_either ((n == j) && a) ((n == k) && b) (of_one n j a f) (of_one n k b g) h

of_four : (n : ℕ) (a b c d e : Bool) → IsTrue (((n == 11) && a) || ((n == 12) && b) || ((n == 13) && c && d) || ((n == 15) && c && e)) → IsNumber n
of_four n a b c d e h = record { some = grind (arith, nat_tests); few = grind (arith, nat_tests) }

of_same : (n k : ℕ) → IsNumber k → IsTrue (n == k) → IsNumber n
of_same n k i h = subst IsNumber (sym (eqb-true n k h)) i

number : (n : ℕ) → (nat_le 1 n && nat_le n 16) ≡ true → IsNumber n
number n h = record { some = grind (arith, nat_tests); few = grind (arith, nat_tests) }

-- the numbers of the rules of a field
name_numbers : (text : List ℕ) (n : ℕ) → IsTrue (breaks_name text n) → IsNumber n
unfolding breaks_name
name_numbers text n h = of_two n 4 10 (not (is_name text)) (nat_lt 32 (length text)) (number 4 refl) (number 10 refl) h

reference_numbers : (text : List ℕ) (n : ℕ) → IsTrue (breaks_reference text n) → IsNumber n
unfolding breaks_reference
reference_numbers text n h = of_two n 4 10 (not (is_reference text)) (nat_lt 33 (length text)) (number 4 refl) (number 10 refl) h

number_numbers : (q : Quantity) (text : List ℕ) (n : ℕ) → IsTrue (breaks_number q text n) → IsNumber n
unfolding breaks_number
number_numbers q text n h = of_two n 4 5 (not (is_spelt (quantity_in q text))) (is_outside (limits q) (quantity_in q text)) (number 4 refl) (number 5 refl) h

friction_numbers : (text : List ℕ) (n : ℕ) → IsTrue (breaks_friction text n) → IsNumber n
unfolding breaks_friction
friction_numbers text n h = of_one n 4 (not (is_some (friction_of text))) (number 4 refl) h

field_numbers : (kind : FieldKind) (text : List ℕ) (n : ℕ) → IsTrue (breaks_field kind text n) → IsNumber n
unfolding breaks_field
field_numbers (Reference kind) text n h = reference_numbers text n h
field_numbers (Number q) text n h = number_numbers q text n h
field_numbers (Value q kind) text n h = of_if n (is_marked text) (breaks_reference text n) (breaks_number q text n) (reference_numbers text n) (number_numbers q text n) h
field_numbers FrictionWord text n h = friction_numbers text n h
field_numbers _ text n h = name_numbers text n h

fields_numbers : (d : Directive) (fields : List (List ℕ)) (m n : ℕ) → IsTrue (breaks_fields d fields m n) → IsNumber n
unfolding breaks_fields
fields_numbers d fields m n h = of_any (λ k. breaks_field (field_kind d k) (field fields k) n) (range_with_len 1 m) (λ k b. field_numbers (field_kind d k) (field fields k) n b) h

-- the numbers of the rules of a line by itself
counted_numbers : (d : Directive) (fields : List (List ℕ)) (n : ℕ) → IsTrue (breaks_counted d fields n) → IsNumber n
unfolding breaks_counted
counted_numbers d fields n h =
    of_three n (breaks_fields d fields (length fields - 1) n) ((n == 10) && has_too_many d (length fields)) ((n == 14) && is_readable d fields && is_disordered d fields)
    (fields_numbers d fields (length fields - 1) n) (of_one n 10 (has_too_many d (length fields)) (number 10 refl)) (λ b. of_one n 14 (is_readable d fields) (number 14 refl) (and_parts ((n == 14) && is_readable d fields) (is_disordered d fields) b).0) h

known_numbers : (d : Option Directive) (fields : List (List ℕ)) (n : ℕ) → IsTrue (breaks_known d fields n) → IsNumber n
known_numbers None fields n h = of_same n 2 (number 2 refl) h
known_numbers (Some d) fields n h = of_if n (has_count d (length fields)) (breaks_counted d fields n) (n == 3) (counted_numbers d fields n) (of_same n 3 (number 3 refl)) h

no_number : (n : ℕ) → IsTrue false → IsNumber n
no_number n h = absurd (cc)

alone_numbers : (version line : ℕ) (fields : List (List ℕ)) (n : ℕ) → IsTrue (breaks_alone version line fields n) → IsNumber n
unfolding breaks_alone
alone_numbers version line fields n h =
    of_if n (line == 1) ((n == 1) && not (is_heading fields)) (cond (length fields == 0) false (breaks_known (directive_in version (directive_of (field fields 0))) fields n)) (of_one n 1 (not (is_heading fields)) (number 1 refl))
    (of_if n (length fields == 0) false (breaks_known (directive_in version (directive_of (field fields 0))) fields n) (no_number n) (known_numbers (directive_in version (directive_of (field fields 0))) fields n)) h

-- and among the others
others_numbers : (before all : List (List (List ℕ))) (d : Directive) (fields : List (List ℕ)) (n : ℕ) → IsTrue (breaks_others before all d fields n) → IsNumber n
unfolding breaks_others
others_numbers before all d fields n h =
    of_three n ((n == 6) && (is_definition fields && list_any (defines (field fields 1)) before)) ((n == 7) && uses_unknown all d fields (length fields - 1)) ((n == 9) && (is_single fields && list_any (is_single_of (field fields 0)) before))
    (of_one n 6 (is_definition fields && list_any (defines (field fields 1)) before) (number 6 refl)) (of_one n 7 (uses_unknown all d fields (length fields - 1)) (number 7 refl)) (of_one n 9 (is_single fields && list_any (is_single_of (field fields 0)) before) (number 9 refl)) h

among_numbers : (before all : List (List (List ℕ))) (d : Option Directive) (fields : List (List ℕ)) (n : ℕ) → IsTrue (breaks_among before all d fields n) → IsNumber n
unfolding breaks_among
among_numbers before all None fields n h = no_number n h
among_numbers before all (Some d) fields n h = others_numbers before all d fields n (and_parts (has_count d (length fields)) (breaks_others before all d fields n) h).1

line_numbers : (before all : List (List (List ℕ))) (line : ℕ) (fields : List (List ℕ)) (n : ℕ) → IsTrue (breaks_line before all line fields n) → IsNumber n
unfolding breaks_line
line_numbers before all line fields n h =
    of_either (breaks_alone (version_of all) line fields n) (not (line == 1) && breaks_among before all (directive_among all fields) fields n)
    (alone_numbers (version_of all) line fields n)
    (λ b. among_numbers before all (directive_among all fields) fields n (and_parts (not (line == 1)) (breaks_among before all (directive_among all fields) fields n) b).1) h

-- a broken rule among those that are searched
record IsListed (count line n : ℕ) : Type 0 where
  before : line < count
  number : IsNumber n

bounded : (count : ℕ) (rules : Rules) → ((line number : ℕ) → IsTrue (rules line number) → IsListed count line number) → IsBounded rule_numbers count rules
bounded count rules f = λ line number h. let l = f line number h in (l.before, one_of number l.number)

in_text : (n l number : ℕ) (p q b : Bool) → nat_lt 0 l ≡ p → nat_le l n ≡ q → (IsTrue b → IsNumber number) → IsTrue ((p && q && b) || ((n == 0) && (l == 1) && (number == 1))) → IsListed (n + 2) l number
in_text n l number true true true e f g h = record { before = grind (arith, nat_tests); number = g refl }
in_text n l number true true false e f g h = record { before = grind (arith, nat_tests); number = record { some = grind (arith, nat_tests); few = grind (arith, nat_tests) } }
in_text n l number true false b e f g h = record { before = grind (arith, nat_tests); number = record { some = grind (arith, nat_tests); few = grind (arith, nat_tests) } }
in_text n l number false q b e f g h = record { before = grind (arith, nat_tests); number = record { some = grind (arith, nat_tests); few = grind (arith, nat_tests) } }

lines_listed : (lines : List (List (List ℕ))) (line number : ℕ) → IsTrue (line_rules lines line number) → IsListed (length lines + 2) line number
unfolding line_rules
lines_listed lines line number h =
    let b = breaks_line (take (line - 1) lines) lines line (line_at lines (line - 1)) number in
    in_text (length lines) line number (nat_lt 0 line) (nat_le line (length lines)) b refl refl (line_numbers (take (line - 1) lines) lines line (line_at lines (line - 1)) number) h

-- no line
on_none : (count line number : ℕ) (b : Bool) → 0 < count → (IsTrue b → IsNumber number) → IsTrue ((line == 0) && b) → IsListed count line number
on_none count line number b c f h =
    let e = eqb-true line 0 (and_parts (line == 0) b h).0 in
    record { before = omega arith; number = f (and_parts (line == 0) b h).1 }

counts_listed : (lines : List (List (List ℕ))) (line number : ℕ) → IsTrue (count_rules lines line number) → IsListed (length lines + 2) line number
unfolding count_rules
counts_listed lines line n h =
    on_none (length lines + 2) line n (((n == 8) && is_incomplete lines) || ((n == 10) && is_too_many lines)) (omega arith)
    (of_two n 8 10 (is_incomplete lines) (is_too_many lines) (number 8 refl) (number 10 refl)) h

-- the rules of a part are on its line
on_part : (count own line n : ℕ) (breaks : ℕ → Bool) → own < count → (IsTrue (breaks n) → IsNumber n) → IsTrue (on_line own breaks line n) → IsListed count line n
on_part count own line n breaks c f h =
    let e = eqb-true own line (and_parts (own == line) (breaks n) h).0 in
    record { before = omega arith; number = f (and_parts (own == line) (breaks n) h).1 }

below_listed : (count line n m : ℕ) (rules : ℕ → Rules) → ((k : ℕ) → IsTrue (rules k line n) → IsListed count line n) → IsTrue (any_below rules m line n) → IsListed count line n
unfolding any_below
below_listed count line n m rules f h = of_any (λ k. rules k line n) (range_with_len 0 m) f h

-- each part of a list that lines say is on one of them
behind : {X : Type 0} (line_of : X → ℕ) (d : X) (m : ℕ) (o : Option X) (rest : List X) → ((x : X) → o ≡ Some x → line_of x < m) → ((k : ℕ) → line_of (get_or rest k d) < m) → (k : ℕ) → line_of (get_or (cons_option o rest) k d) < m
behind line_of d m None rest f g k = g k
behind line_of d m (Some x) rest f g zero = f x refl
behind line_of d m (Some x) rest f g (suc k) = g k

some_line : {X : Type 0} (line_of : X → ℕ) (y x : X) → Some y ≡ Some x → line_of x ≡ line_of y
some_line line_of y x e = let i : y ≡ x = cc in sym (ap line_of i)

node_line : (tables : List Table) (d : Option Directive) (line : ℕ) (fields : List (List ℕ)) (x : Node) → node_by tables d line fields ≡ Some x → x.line ≡ line
node_line tables (Some (OfNode node)) line fields x e = some_line (λ (n : Node). n.line) _ x e
node_line tables _ line fields x e = cc

pipe_line : (nodes : List Node) (d : Option Directive) (line : ℕ) (fields : List (List ℕ)) (x : Pipe) → pipe_by nodes d line fields ≡ Some x → x.line ≡ line
unfolding pipe_of
pipe_line nodes (Some OfPipe) line fields x e = some_line (λ (p : Pipe). p.line) (pipe_of nodes line fields) x e
pipe_line nodes _ line fields x e = cc

probe_line : (pipes : List Pipe) (nodes : List Node) (d : Option Directive) (line : ℕ) (fields : List (List ℕ)) (x : Probe) → probe_by pipes nodes d line fields ≡ Some x → x.line ≡ line
probe_line pipes nodes (Some OfProbe) line fields x e = some_line (λ (q : Probe). q.line) _ x e
probe_line pipes nodes (Some OfWatch) line fields x e = some_line (λ (q : Probe). q.line) _ x e
probe_line pipes nodes _ line fields x e = cc

parts_behind : {X : Type 0} (line_of : X → ℕ) (d : X) (says : ℕ → List (List ℕ) → Option X) → ((at : ℕ) (fields : List (List ℕ)) (x : X) → says at fields ≡ Some x → line_of x ≡ at) → (line m : ℕ) (lines : List (List (List ℕ))) → line_of d < m → line + length lines ≤ m
    → (k : ℕ) → line_of (get_or (parts_from says line lines) k d) < m
parts_behind line_of d says f line m [] low high k = low
parts_behind line_of d says f line m (fields ∷ lines) low high k =
    behind line_of d m (says line fields) (parts_from says (line + 1) lines) (λ x e. let l = f line fields x e in omega arith) (parts_behind line_of d says f (line + 1) m lines low (omega arith)) k

-- the parts of the case that lines say are on lines of the text
pipe_there : (lines : List (List (List ℕ))) (p : ℕ) → (pipe_at (case_of lines) p).line < length lines + 2
unfolding case_of pipe_said
pipe_there lines p = parts_behind (λ (x : Pipe). x.line) no_pipe (pipe_said (nodes_of lines)) (λ at fields x e. pipe_line (nodes_of lines) (directive_said fields) at fields x e) 1 (length lines + 2) lines (omega arith) (omega arith) p

node_there : (lines : List (List (List ℕ))) (k : ℕ) → (node_at (case_of lines) k).line < length lines + 2
unfolding case_of node_said
node_there lines k = parts_behind (λ (x : Node). x.line) no_node (node_said (tables_of lines)) (λ at fields x e. node_line (tables_of lines) (directive_said fields) at fields x e) 1 (length lines + 2) lines (omega arith) (omega arith) k

probe_there : (lines : List (List (List ℕ))) (q : ℕ) → (probe_at (case_of lines) q).line < length lines + 2
unfolding case_of probe_said
probe_there lines q = parts_behind (λ (x : Probe). x.line) no_probe (probe_said (pipes_of lines) (nodes_of lines)) (λ at fields x e. probe_line (pipes_of lines) (nodes_of lines) (directive_said fields) at fields x e) 1 (length lines + 2) lines (omega arith) (omega arith) q

-- the numbers of the rules of parts
pipe_numbers : (dt tolerance : ℤ) (p : Pipe) (n : ℕ) → IsTrue (breaks_pipe dt tolerance p n) → IsNumber n
unfolding breaks_pipe
pipe_numbers dt tolerance p n h =
    of_four n (p.first == p.last) (not (is_count (reach_count dt p))) (is_count (reach_count dt p)) (not (is_adjusted dt tolerance (reach_count dt p) p)) (not (has_coefficients dt (reach_count dt p) p)) h

node_numbers : (case : Case) (x : Node) (ends : List End) (n : ℕ) → IsTrue (breaks_node case x ends n) → IsNumber n
unfolding breaks_node
node_numbers case x ends n h = of_two n 11 15 (not (ends_suit (most_ends case.version) x.kind ends)) (exceeds case x.kind ends) (number 11 refl) (number 15 refl) h

pipe_listed : (case : Case) (count line n p : ℕ) → (pipe_at case p).line < count → IsTrue (pipe_rules case p line n) → IsListed count line n
pipe_listed case count line n p c h = on_part count (pipe_at case p).line line n (breaks_pipe case.dt case.tolerance (pipe_at case p)) c (pipe_numbers case.dt case.tolerance (pipe_at case p) n) h

node_listed : (case : Case) (count line n k : ℕ) → (node_at case k).line < count → IsTrue (node_rules case k line n) → IsListed count line n
node_listed case count line n k c h = on_part count (node_at case k).line line n (breaks_node case (node_at case k) (node_ends case k)) c (node_numbers case (node_at case k) (node_ends case k) n) h

probe_listed : (case : Case) (count line n q : ℕ) → (probe_at case q).line < count → IsTrue (probe_rules case q line n) → IsListed count line n
probe_listed case count line n q c h = on_part count (probe_at case q).line line n (λ m. (m == 16) && is_off case (probe_at case q).at) c (of_one n 16 (is_off case (probe_at case q).at) (number 16 refl)) h

parts_listed : (lines : List (List (List ℕ))) (line n : ℕ) → IsTrue (part_rules (case_of lines) line n) → IsListed (length lines + 2) line n
unfolding part_rules
parts_listed lines line n h =
    let case = case_of lines in
    let count = length lines + 2 in
    of_either (either (any_below (pipe_rules case) (length case.pipes)) (any_below (node_rules case) (length case.nodes)) line n) (any_below (probe_rules case) (length case.probes) line n)
    (of_either (any_below (pipe_rules case) (length case.pipes) line n) (any_below (node_rules case) (length case.nodes) line n)
    (below_listed count line n (length case.pipes) (pipe_rules case) (λ p. pipe_listed case count line n p (pipe_there lines p)))
    (below_listed count line n (length case.nodes) (node_rules case) (λ k. node_listed case count line n k (node_there lines k))))
    (below_listed count line n (length case.probes) (probe_rules case) (λ q. probe_listed case count line n q (probe_there lines q))) h

size_listed : (case : Case) (count line n : ℕ) → 0 < count → IsTrue (size_rules case line n) → IsListed count line n
unfolding size_rules
size_listed case count line n c h = on_part count 0 line n (λ m. (m == 10) && is_too_large case) c (of_one n 10 (is_too_large case) (number 10 refl)) h

-- the search for a refusal goes through all lines and numbers that a pass can have
pub all_bounded : (lines : List (List (List ℕ))) → AreBounded rule_numbers (length lines + 2) (all_passes lines)
all_bounded lines =
    let count = length lines + 2 in (
      bounded count (line_rules lines) (lines_listed lines),
      (
        bounded count (count_rules lines) (counts_listed lines),
        (
          bounded count (part_rules (case_of lines)) (parts_listed lines),
          (bounded count (size_rules (case_of lines)) (λ line n h. size_listed (case_of lines) count line n (omega arith) h), tt),
        ),
      ),
    )
