-- The tables of lines that break no rule lie within their limits, and a reference names one of the kind that is wanted.
use Rattle.std.proofs.Common.{◌≡◌, ◌≤◌, ◌<◌, ◌<ℤ◌, ◌==◌, ◌&&◌, nat_lt, nat_le, ℕ, ◌+◌, ◌-◌, ◌*◌, ◌/◌, ◌%◌, ℤ, pos, Bool, true, false, Option, Some, None, List, [], ◌∷◌, length, get_or, All, refl, sym, subst, arith, ◌∙◌, suc, cond, take, ap}
use Rattle.std.proofs.lemmas.Bool.{ne_eqb, and_parts, not-false, or_left, and_from}
use Rattle.std.proofs.lemmas.Bool.Decides.{nat_tests, Decides-int_eq}
use Rattle.std.proofs.lemmas.Int.{ints}
use Rattle.std.proofs.lemmas.List.Elements.{All-from_recursion}
use Rattle.std.proofs.lemmas.List.Folds.{list_all_at, list_any_at}
use Rattle.std.proofs.lemmas.List.FromFn.{length-range_with_len, get_or-range_with_len, length-map-range_with_len, get_or-map-range_with_len}
use Rattle.std.specs.Prelude.{int_lt, unwrap_or}
use Rattle.std.specs.List.{AllByRecursion, cons_option, list_all, range_with_len, list_any, position_from}
use Rattle.case_model.specs.declared.cases.Table.{Table}
use Rattle.case_model.specs.declared.cases.TableKind.{TableKind}
use Rattle.case_model.specs.declared.cases.TableKind.TheVariants.{Heads, Flows, Openings, Speeds, Curve, Gas}
use Rattle.case_model.specs.Limits.{IsWithin, IsEntry, IsTable, IsInOrder, entry_at, least_entries, most_entries, IsTableOf}
use Rattle.case_model.specs.Sets.{IsEmpty}
use Rattle.case_lines.specs.declared.words.Directive.{Directive}
use Rattle.case_lines.specs.declared.words.Directive.TheVariants.{OfSingle, OfTable, OfNode, OfPipe, OfProbe, OfWatch}
use Rattle.case_lines.specs.declared.fields.FieldKind.TheVariants.{Number}
use Rattle.case_lines.specs.Quantities.{limits, amount}
use Rattle.case_lines.specs.Fields.{field, field_kind, has_count, has_too_many, first_quantity, second_quantity}
use Rattle.case_lines.specs.Tables.{pair_count, pair_at, pairs_of, rises, falls, may_follow, may_begin, follow, is_ordered, is_disordered}
use Rattle.case_rules.specs.Said.{line_at, directive_said, named_by, table_part, same_part, has_part, is_some_part, is_definition, defines, defines_part}
use Rattle.case_rules.specs.Among.{line_rules}
use Rattle.netfile.specs.Built.{table_by, table_said, tables_from, tables_of, table_index}
use Rattle.netfile.proofs.FieldLimits.{IsKept, kept_at, field_kept, size_within, two_fields, name_once}
use Rattle.netfile.proofs.PartsSaid.{all_parts, IsFound, found, listed}
use Rattle.fixed_num.proofs.Orders.{less_of, at_most_of}
use Rattle.std.proofs.lemmas.List.{get_or-take, length-take-le}
use Rattle.std.proofs.lemmas.Slice.Eq.{bytes_eq-Decides}
use Rattle.std.specs.Option.{IfSome}
use Rattle.std.specs.Str.{bytes_eq}
use Rattle.case_rules.specs.declared.parts.Part.{Part}
use Rattle.case_rules.specs.declared.parts.Part.TheVariants.{HeadTable, FlowTable, OpeningTable, SpeedTable, CurveTable, GasTable, ANode, APipe}
use Rattle.case_rules.specs.contracts.parts.Part.{the_type}
use denote.Enum.Bare.{same_true, true_same}

pub false_true : (b : Bool) → b ≡ false → b ≡ true → ⊥
false_true true h k = absurd (grind arith)
false_true false h k = grind arith

-- the kind of the tables that are such a part
kind_of : Part → TableKind
kind_of HeadTable = Heads
kind_of FlowTable = Flows
kind_of OpeningTable = Openings
kind_of SpeedTable = Speeds
kind_of CurveTable = Curve
kind_of _ = Gas

kind_back : (kind : TableKind) → kind_of (table_part kind) ≡ kind
unfolding kind_of
kind_back Heads = refl
kind_back _ = refl

same_kind : (kind other : TableKind) → same_part (table_part kind) (table_part other) ≡ true → kind ≡ other
same_kind kind other h = sym (kind_back kind) ∙ ap kind_of (same_true the_type tt (table_part kind) (table_part other) h) ∙ kind_back other

-- no table is a node or a pipe
pub no_table : (kind : TableKind) → (same_part (table_part kind) ANode ≡ false) × (same_part (table_part kind) APipe ≡ false) × (same_part ANode (table_part kind) ≡ false) × (same_part APipe (table_part kind) ≡ false)
no_table Heads = (refl, refl, refl, refl)
no_table _ = (refl, refl, refl, refl)

-- whether a line with this directive defines the name for a part of this kind
pub defines_by : Part → List ℕ → List (List ℕ) → Option Directive → Bool
defines_by part name fields o = has_part part (named_by o) && nat_lt 1 (length fields) && bytes_eq (field fields 1) name

pub defined_by : (part : Part) (name : List ℕ) (fields : List (List ℕ)) → defines_part part name fields ≡ defines_by part name fields (directive_said fields)
unfolding defines_part defines_by
defined_by part name fields = refl

pub has_part_of : (part : Part) (name : List ℕ) (fields : List (List ℕ)) (o : Option Directive) → defines_by part name fields o ≡ true → has_part part (named_by o) ≡ true
unfolding defines_by
has_part_of part name fields o h = (and_parts (has_part part (named_by o)) (nat_lt 1 (length fields)) (and_parts (has_part part (named_by o) && nat_lt 1 (length fields)) (bytes_eq (field fields 1) name) h).0).0

pub has_name_of : (part : Part) (name : List ℕ) (fields : List (List ℕ)) (o : Option Directive) → defines_by part name fields o ≡ true → bytes_eq (field fields 1) name ≡ true
unfolding defines_by
has_name_of part name fields o h = (and_parts (has_part part (named_by o) && nat_lt 1 (length fields)) (bytes_eq (field fields 1) name) h).1

-- whether a table has this name
abbrev is_table_named : List ℕ → Table → Bool
is_table_named name t = bytes_eq t.name name

pub no_such : (part : Part) (name : List ℕ) (fields : List (List ℕ)) (o : Option Directive) → has_part part (named_by o) ≡ false → defines_by part name fields o ≡ true → ⊥
no_such part name fields o e h = false_true (has_part part (named_by o)) e (has_part_of part name fields o h)

table_here : (name : List ℕ) (kind : TableKind) (o : Option Directive) (line : ℕ) (fields : List (List ℕ)) (more : List Table) → defines_by (table_part kind) name fields o ≡ true
    → list_any (is_table_named name) (cons_option (table_by o line fields) more) ≡ true
table_here name kind (Some (OfTable own)) line fields more h = or_left (bytes_eq (field fields 1) name) (list_any (is_table_named name) more) (has_name_of (table_part kind) name fields (Some (OfTable own)) h)
table_here name kind (Some (OfNode node)) line fields more h = absurd (no_such (table_part kind) name fields (Some (OfNode node)) (no_table kind).2 h)
table_here name kind (Some OfPipe) line fields more h = absurd (no_such (table_part kind) name fields (Some OfPipe) (no_table kind).3 h)
table_here name kind other line fields more h = absurd (no_such (table_part kind) name fields other refl h)

-- no two lines define one name
pub before_no : (lines : List (List (List ℕ))) (name : List ℕ) (j k : ℕ) → j < k → k < length lines → list_any (defines name) (take k lines) ≡ false → defines name (line_at lines j) ≡ true → ⊥
before_no lines name j k l h e d =
    false_true (list_any (defines name) (take k lines)) e (list_any_at (defines name) (take k lines) j [] (omega (arith, length-take-le k lines (omega arith))) (rw (get_or-take k lines j [] l) d))

some_such : (part : Part) (o : Option Part) → has_part part o ≡ true → is_some_part o ≡ true
some_such part None h = h
some_such part (Some own) h = refl

-- a line that defines a name for a part defines it
pub defines_of : (part : Part) (name : List ℕ) (fields : List (List ℕ)) → defines_part part name fields ≡ true → defines name fields ≡ true
unfolding defines is_definition defines_part
defines_of part name fields h =
    let n = (and_parts (has_part part (named_by (directive_said fields)) && nat_lt 1 (length fields)) (bytes_eq (field fields 1) name) h).0 in
    and_from (is_some_part (named_by (directive_said fields)) && nat_lt 1 (length fields)) (bytes_eq (field fields 1) name)
    (and_from (is_some_part (named_by (directive_said fields))) (nat_lt 1 (length fields)) (some_such part (named_by (directive_said fields)) (and_parts (has_part part (named_by (directive_said fields))) (nat_lt 1 (length fields)) n).0) (and_parts (has_part part (named_by (directive_said fields))) (nat_lt 1 (length fields)) n).1)
    (and_parts (has_part part (named_by (directive_said fields)) && nat_lt 1 (length fields)) (bytes_eq (field fields 1) name) h).1

pub some_directive : (o : Option Directive) → is_some_part (named_by o) ≡ true → (d : Directive) × (o ≡ Some d)
some_directive None h = absurd (grind arith)
some_directive (Some d) h = (d, refl)

pub definition_of : (name : List ℕ) (fields : List (List ℕ)) → defines name fields ≡ true → is_definition fields ≡ true
unfolding defines
definition_of name fields h = (and_parts (is_definition fields) (bytes_eq (field fields 1) name) h).0

pub name_of : (name : List ℕ) (fields : List (List ℕ)) → defines name fields ≡ true → field fields 1 ≡ name
unfolding defines
name_of name fields h = (bytes_eq-Decides (field fields 1) name).0 (and_parts (is_definition fields) (bytes_eq (field fields 1) name) h).1

pub directive_of_definition : (fields : List (List ℕ)) → is_definition fields ≡ true → (d : Directive) × (directive_said fields ≡ Some d)
unfolding is_definition
directive_of_definition fields h = some_directive (directive_said fields) (and_parts (is_some_part (named_by (directive_said fields))) (nat_lt 1 (length fields)) h).0

pub name_free : (lines : List (List (List ℕ))) → IsEmpty (line_rules lines) → (name : List ℕ) (k : ℕ) → k < length lines → defines name (line_at lines k) ≡ true → list_any (defines name) (take k lines) ≡ false
name_free lines empty name k h d =
    let i = definition_of name (line_at lines k) d in
    let s = directive_of_definition (line_at lines k) i in
    subst (λ (n : List ℕ). list_any (defines n) (take k lines) ≡ false) (name_of name (line_at lines k) d) (name_once lines empty k s.0 h s.1 i)

pub only_one : (j k : ℕ) → (j < k → ⊥) → (k < j → ⊥) → j ≡ k
only_one j k f g = grind (arith, f, g)

same_place : (lines : List (List (List ℕ))) → IsEmpty (line_rules lines) → (name : List ℕ) (j k : ℕ) → j < length lines → k < length lines → defines name (line_at lines j) ≡ true → defines name (line_at lines k) ≡ true → j ≡ k
same_place lines empty name j k a b d e = only_one j k (λ l. before_no lines name j k l b (name_free lines empty name k b e) d) (λ l. before_no lines name k j l a (name_free lines empty name j a d) e)

-- what holds of each table that a line can say
pub by_table : (P : Table → Type 0) (o : Option Directive) (at : ℕ) (fields : List (List ℕ)) → ((own : TableKind) → o ≡ Some (OfTable own) → P (record { name = field fields 1; line = at; kind = own; points = pairs_of own fields })) → IfSome (table_by o at fields) P
by_table P (Some (OfTable kind)) at fields f = f kind refl
by_table P _ at fields f = tt

defines_own : (name : List ℕ) (own : TableKind) (fields : List (List ℕ)) → nat_lt 1 (length fields) ≡ true → bytes_eq (field fields 1) name ≡ true → defines_by (table_part own) name fields (Some (OfTable own)) ≡ true
unfolding defines_by
defines_own name own fields n b =
    and_from ((same_part (table_part own) (table_part own)) && nat_lt 1 (length fields)) (bytes_eq (field fields 1) name)
    (and_from (same_part (table_part own) (table_part own)) (nat_lt 1 (length fields)) (true_same the_type (table_part own) (table_part own) refl) n) b

table_defines : (name : List ℕ) (own : TableKind) (fields : List (List ℕ)) → directive_said fields ≡ Some (OfTable own) → nat_lt 1 (length fields) ≡ true → bytes_eq (field fields 1) name ≡ true → defines_part (table_part own) name fields ≡ true
table_defines name own fields s n b =
    defined_by (table_part own) name fields ∙ ap (defines_by (table_part own) name fields) s ∙ defines_own name own fields n b

own_kind : (name : List ℕ) (kind own : TableKind) (fields : List (List ℕ)) → directive_said fields ≡ Some (OfTable own) → defines_part (table_part kind) name fields ≡ true → own ≡ kind
own_kind name kind own fields s d =
    let e : defines_by (table_part kind) name fields (Some (OfTable own)) ≡ true =
    sym (defined_by (table_part kind) name fields ∙ ap (defines_by (table_part kind) name fields) s) ∙ d in
    same_kind own kind (has_part_of (table_part kind) name fields (Some (OfTable own)) e)

-- the one line that defines a name tells the kind of its table
kind_at : (lines : List (List (List ℕ))) → IsEmpty (line_rules lines) → (name : List ℕ) (kind : TableKind) (j k : ℕ) → IsFound (defines_part (table_part kind) name) lines j → k < length lines → (own : TableKind) → directive_said (line_at lines k) ≡ Some (OfTable own)
    → bytes_eq (field (line_at lines k) 1) name ≡ true → own ≡ kind
kind_at lines empty name kind j k f h own s b =
    let n = two_fields own (length (line_at lines k)) (kept_at lines k h empty (OfTable own) s).counted in
    let d = table_defines name own (line_at lines k) s n b in
    let e : j ≡ k = same_place lines empty name j k f.there h (defines_of (table_part kind) name (line_at lines j) (f.passes [])) (defines_of (table_part own) name (line_at lines k) d) in
    own_kind name kind own (line_at lines k) s (subst (λ (i : ℕ). defines_part (table_part kind) name (line_at lines i) ≡ true) e (f.passes []))

kinds : (lines : List (List (List ℕ))) → IsEmpty (line_rules lines) → (name : List ℕ) (kind : TableKind) (j : ℕ) → IsFound (defines_part (table_part kind) name) lines j → All (λ (t : Table). is_table_named name t ≡ true → t.kind ≡ kind) (tables_of lines)
unfolding table_said
kinds lines empty name kind j f = All-from_recursion (λ (t : Table). is_table_named name t ≡ true → t.kind ≡ kind) (tables_of lines)
    (all_parts (λ (t : Table). is_table_named name t ≡ true → t.kind ≡ kind) table_said 1 lines
    (λ k at h. by_table (λ (t : Table). is_table_named name t ≡ true → t.kind ≡ kind) (directive_said (line_at lines k)) at (line_at lines k) (λ own s b. kind_at lines empty name kind j k f h own s b)))

-- the index of a name that a line defines for a table of a kind is that of a table of this kind
pub table_found : (lines : List (List (List ℕ))) → IsEmpty (line_rules lines) → (name : List ℕ) (kind : TableKind) → list_any (defines_part (table_part kind) name) lines ≡ true → IsTableOf kind (tables_of lines) (table_index (tables_of lines) name)
unfolding table_index table_said
table_found lines empty name kind h =
    let f = found (is_table_named name) (tables_of lines) (listed (is_table_named name) (defines_part (table_part kind) name) table_said 1 lines
    (λ at fields more e. table_here name kind (directive_said fields) at fields more (sym (defined_by (table_part kind) name fields) ∙ e)) h) in
    let all = kinds lines empty name kind (unwrap_or (position_from (defines_part (table_part kind) name) 0 lines) 0) (found (defines_part (table_part kind) name) lines h) in record {
      there = f.there;
      wanted = λ d. all (unwrap_or (position_from (is_table_named name) 0 (tables_of lines)) 0) d f.there (f.passes d);
    }

-- so many fields make so many pairs
record IsCount (least most n : ℕ) : Type 0 where
  even : n % 2 ≡ 0
  some : least ≤ (n - 2) / 2
  few : (n - 2) / 2 ≤ most

pairs_counted : (least most n : ℕ) → ((n % 2 == 0) && nat_le (2 * least + 2) n) ≡ true → nat_lt (2 * most + 2) n ≡ false → IsCount least most n
pairs_counted least most n h f = record { even = grind (arith, nat_tests); some = grind (arith, nat_tests); few = grind (arith, nat_tests) }

table_count : (kind : TableKind) (n : ℕ) → has_count (OfTable kind) n ≡ true → has_too_many (OfTable kind) n ≡ false → IsCount (least_entries kind) (most_entries kind) n
unfolding has_count has_too_many
table_count kind n h f = pairs_counted (least_entries kind) (most_entries kind) n h f

first_kind : (kind : TableKind) (j : ℕ) → field_kind (OfTable kind) (2 * j + 2) ≡ Number (first_quantity kind)
unfolding field_kind
first_kind kind j =
    let a : (2 * j + 2 == 1) ≡ false = ne_eqb (2 * j + 2) 1 (λ z. absurd (omega arith)) in
    let b : ((2 * j + 2) % 2 == 0) ≡ true = grind (arith, nat_tests) in
    rw (a, b) refl

second_kind : (kind : TableKind) (j : ℕ) → field_kind (OfTable kind) (2 * j + 3) ≡ Number (second_quantity kind)
unfolding field_kind
second_kind kind j =
    let a : (2 * j + 3 == 1) ≡ false = ne_eqb (2 * j + 3) 1 (λ z. absurd (omega arith)) in
    let b : ((2 * j + 3) % 2 == 0) ≡ false = ne_eqb ((2 * j + 3) % 2) 0 (λ z. absurd (omega arith)) in
    rw (a, b) refl

-- a pair of numbers within their limits
entry_of : (kind : TableKind) (e : ℤ × ℤ) → IsWithin (limits (first_quantity kind)).least (limits (first_quantity kind)).most e.0 → IsWithin (limits (second_quantity kind)).least (limits (second_quantity kind)).most e.1 → IsEntry kind e
entry_of Heads e a b = (a, size_within 100_000_000_000 e.1 b)
entry_of Flows e a b = (a, size_within 1_000_000_000_000 e.1 b)
entry_of Gas e a b = (a, size_within 100_000_000_000 e.1 b)
entry_of _ e a b = (a, b)

pair_in : (lines : List (List (List ℕ))) (kind : TableKind) (fields : List (List ℕ)) (j : ℕ) → IsKept lines (OfTable kind) fields → j < pair_count (length fields) → IsEntry kind (pair_at kind fields j)
unfolding pair_at
pair_in lines kind fields j h l =
    let c = table_count kind (length fields) h.counted h.few in
    let e = c.even in
    entry_of kind (amount (first_quantity kind) (field fields (2 * j + 2)), amount (second_quantity kind) (field fields (2 * j + 3)))
    (field_kept lines (OfTable kind) fields (2 * j + 2) (first_quantity kind) h (omega arith) (omega arith) (first_kind kind j))
    (field_kept lines (OfTable kind) fields (2 * j + 3) (second_quantity kind) h (omega arith) (omega arith) (second_kind kind j))

points_count : (kind : TableKind) (fields : List (List ℕ)) → length (pairs_of kind fields) ≡ pair_count (length fields)
unfolding pairs_of
points_count kind fields = length-map-range_with_len (pair_at kind fields) 0 (pair_count (length fields))

point_is : (kind : TableKind) (fields : List (List ℕ)) (k : ℕ) (d : ℤ × ℤ) → k < pair_count (length fields) → get_or (pairs_of kind fields) k d ≡ pair_at kind fields k
unfolding pairs_of
point_is kind fields k d l = get_or-map-range_with_len (pair_at kind fields) 0 (pair_count (length fields)) k k d l (omega arith)

entries_in : (lines : List (List (List ℕ))) (kind : TableKind) (fields : List (List ℕ)) → IsKept lines (OfTable kind) fields → All (IsEntry kind) (pairs_of kind fields)
entries_in lines kind fields h = λ k d l.
    let m : k < pair_count (length fields) = omega (arith, points_count kind fields) in
    subst (IsEntry kind) (sym (point_is kind fields k d m)) (pair_in lines kind fields k h m)

-- each pair follows the one before it
following : (kind : TableKind) (fields : List (List ℕ)) (n j : ℕ) (b : Bool) → may_follow kind (pair_at kind fields j) (pair_at kind fields (j + 1)) ≡ b → j + 1 < n → follow kind fields n ≡ true → b ≡ true
unfolding follow
following kind fields n j true e l f = refl
following kind fields n j false e l f =
    let i : get_or (range_with_len 0 (n - 1)) j 0 ≡ j = get_or-range_with_len 0 (n - 1) j 0 (omega arith) ∙ omega arith in
    let t : list_all (λ k. may_follow kind (pair_at kind fields k) (pair_at kind fields (k + 1))) (range_with_len 0 (n - 1)) ≡ false =
    list_all_at (λ k. may_follow kind (pair_at kind fields k) (pair_at kind fields (k + 1))) (range_with_len 0 (n - 1)) j 0 (omega (arith, length-range_with_len 0 (n - 1))) (rw i e) in
    absurd (cc)

-- pairs each of which follows the one before it
record IsSorted (kind : TableKind) (points : List (ℤ × ℤ)) : Type 0 where
  begins : may_begin kind (entry_at points 0) ≡ true
  follows : (k : ℕ) → k + 1 < length points → may_follow kind (entry_at points k) (entry_at points (k + 1)) ≡ true

sorted_of : (kind : TableKind) (fields : List (List ℕ)) → 0 < pair_count (length fields) → is_ordered kind fields ≡ true → IsSorted kind (pairs_of kind fields)
unfolding is_ordered
sorted_of kind fields some h =
    let n = pair_count (length fields) in
    let f : follow kind fields n ≡ true = (and_parts (may_begin kind (pair_at kind fields 0)) (follow kind fields n) h).1 in
    record {
      begins = subst (λ e. may_begin kind e ≡ true) (sym (point_is kind fields 0 (pos 0, pos 0) some)) (and_parts (may_begin kind (pair_at kind fields 0)) (follow kind fields n) h).0;
      follows = λ k l.
          let m : k + 1 < n = omega (arith, points_count kind fields) in
          rw (point_is kind fields k (pos 0, pos 0) (omega arith), point_is kind fields (k + 1) (pos 0, pos 0) m) (following kind fields n k (may_follow kind (pair_at kind fields k) (pair_at kind fields (k + 1))) refl m f);
    }

rising : (kind : TableKind) (e f : ℤ × ℤ) → may_follow kind e f ≡ true → rises kind e.0 f.0 ≡ true
unfolding may_follow
rising kind e f h = (and_parts (rises kind e.0 f.0) (falls kind e.1 f.1) h).0

falling : (kind : TableKind) (e f : ℤ × ℤ) → may_follow kind e f ≡ true → falls kind e.1 f.1 ≡ true
unfolding may_follow
falling kind e f h = (and_parts (rises kind e.0 f.0) (falls kind e.1 f.1) h).1

in_order : (kind : TableKind) (points : List (ℤ × ℤ)) → IsSorted kind points → IsInOrder kind points
in_order Curve points s = (
  (Decides-int_eq (entry_at points 0).0 (pos 0)).0 s.begins,
  λ k h. at_most_of _ _ (rising Curve (entry_at points k) (entry_at points (k + 1)) (s.follows k h)),
  λ k h. less_of _ _ (falling Curve (entry_at points k) (entry_at points (k + 1)) (s.follows k h)),
)
in_order Gas points s = (
  λ k h. at_most_of _ _ (rising Gas (entry_at points k) (entry_at points (k + 1)) (s.follows k h)),
  λ k h. less_of _ _ (falling Gas (entry_at points k) (entry_at points (k + 1)) (s.follows k h)),
)
in_order other points s = λ k h. at_most_of _ _ (rising other (entry_at points k) (entry_at points (k + 1)) (s.follows k h))

ordered_of : (kind : TableKind) (fields : List (List ℕ)) → is_disordered (OfTable kind) fields ≡ false → is_ordered kind fields ≡ true
unfolding is_disordered
ordered_of kind fields h = not-false (is_ordered kind fields) h

pub least_some : (kind : TableKind) → 1 ≤ least_entries kind
least_some Heads = omega arith
least_some _ = omega arith

abbrev table_on : TableKind → ℕ → List (List ℕ) → Table
table_on kind line fields = record { name = field fields 1; line = line; kind = kind; points = pairs_of kind fields }

table_in : (lines : List (List (List ℕ))) (kind : TableKind) (line : ℕ) (fields : List (List ℕ)) → IsKept lines (OfTable kind) fields → IsTable (table_on kind line fields)
table_in lines kind line fields h =
    let c = table_count kind (length fields) h.counted h.few in
    let n = points_count kind fields in
    record {
      some = omega (arith, c.some);
      few = omega (arith, c.few);
      entries = entries_in lines kind fields h;
      sorted = in_order kind (pairs_of kind fields) (sorted_of kind fields (omega (arith, c.some, least_some kind)) (ordered_of kind fields h.ordered));
    }

-- the tables of a text whose lines break no rule
pub tables_in : (lines : List (List (List ℕ))) → IsEmpty (line_rules lines) → All IsTable (tables_of lines)
unfolding table_said
tables_in lines empty = All-from_recursion IsTable (tables_of lines) (all_parts IsTable table_said 1 lines
    (λ k at h. by_table IsTable (directive_said (line_at lines k)) at (line_at lines k) (λ kind s. table_in lines kind at (line_at lines k) (kept_at lines k h empty (OfTable kind) s))))
