-- What a tally knows, line by line and at the end, and what it says of the rules on counts.
use Rattle.std.proofs.Common.{ℕ, ◌+◌, ◌<◌, ◌≤◌, ◌≡◌, ◌⊎◌, ◌==◌, ◌&&◌, ◌||◌, nat_lt, Bool, true, false, cond, IsTrue, Option, Some, None, List, [], ◌∷◌, length, sym, ◌∙◌, refl, arith, lt-ltb}
use Rattle.std.proofs.Math.Bool.{or-false}
use Rattle.std.specs.List.{list_any}
use mir.Val.{bool_byte}
use Rattle.std.specs.HashMap.{get}
use Rattle.std.specs.HashSet.{contains}
use Rattle.std.specs.Str.{bytes_eq}
use Rattle.std.proofs.lemmas.List.Sums.{sum_by-cons}
use Rattle.case_model.specs.Sets.{IsEmpty, IsLeast}
use Rattle.case_lines.specs.declared.words.Single.TheVariants.{Step, Steps}
use Rattle.case_lines.specs.declared.words.Directive.{Directive}
use Rattle.case_lines.specs.Fields.{field}
use Rattle.case_rules.specs.declared.parts.Part.{Part}
use Rattle.case_rules.specs.declared.tally.SortTally.{SortTally}
use Rattle.case_rules.specs.declared.tally.Tally.{Tally}
use Rattle.case_rules.specs.Said.{version_of, directive_said, named_by, same_part, defines_part}
use Rattle.case_rules.specs.Counts.{is_table, is_node, is_pipe, is_sampled, count_of, most_parts, are_many, is_incomplete, is_too_large, count_rules}
use Rattle.case_rules.specs.Known.{same_bytes, same_key, or_index, one_if, is_every, is_named, names_such, index_from, single_here, single_from, given_at, lacks_single}
use Rattle.case_rules.specs.Tallies.{IsFew, IsSortTally, IsTally, IsPartAdded, IsAdded, IsSortTallied, IsTallied}
use Rattle.case_rules.proofs.SinglesKept.{or_none, some_single}
use Rattle.std.specs.Option.{option_or}
use Rattle.case_model.proofs.ListFacts.{option_or-assoc}

pub count_more : (p : Option Directive → Bool) (fields : List (List ℕ)) (lines : List (List (List ℕ))) → count_of p (fields ∷ lines) ≡ one_if (p (directive_said fields)) + count_of p lines
unfolding count_of
count_more p fields lines = sum_by-cons (λ f. one_if (p (directive_said f))) fields lines

pub count_none : (p : Option Directive → Bool) (n m : ℕ) → n + count_of p [] ≡ m → n ≡ m
unfolding count_of
count_none p n m h = omega (arith, h)

count_step : (p : Option Directive → Bool) (fields : List (List ℕ)) (lines : List (List (List ℕ))) (n m all : ℕ) → m ≡ n + one_if (p (directive_said fields)) → n + count_of p (fields ∷ lines) ≡ all → m + count_of p lines ≡ all
count_step p fields lines n m all e h = omega (arith, e, h, count_more p fields lines)

moved : (old : Option ℕ) (b : Bool) (n : ℕ) (later : Option ℕ) → option_or (or_index old b n) later ≡ option_or old (cond b (Some n) later)
moved (Some x) true n later = refl
moved None true n later = refl
moved old false n later = refl

index_step : (counts : Option Directive → Bool) (test : List (List ℕ) → Bool) (n m : ℕ) (fields : List (List ℕ)) (rest : List (List (List ℕ))) (old new all : Option ℕ) → new ≡ or_index old (test fields) n → m ≡ n + one_if (counts (directive_said fields))
    → option_or old (index_from counts test n (fields ∷ rest)) ≡ all → option_or new (index_from counts test m rest) ≡ all
index_step counts test n m fields rest old new all e k h = rw (e, k) (moved old (test fields) n (index_from counts test (n + one_if (counts (directive_said fields))) rest) ∙ h)

or_moved : (a b c : Bool) → ((b || a) || c) ≡ (a || (b || c))
or_moved true true c = refl
or_moved true false c = refl
or_moved false true c = refl
or_moved false false c = refl

sort_none : (s : SortTally) (is_such : Option Directive → Bool) (all : List (List (List ℕ))) → (s.count ≡ 0) × (s.indices.entries ≡ []) → IsSortTallied s is_such all all
sort_none s is_such all e = let c = e.0 in let i = e.1 in record { count = rw c (omega arith); indices = λ few name. rw (i, c) refl }

sort_more : (s u : SortTally) (is_such : Option Directive → Bool) (fields : List (List ℕ)) (rest all : List (List (List ℕ))) → IsPartAdded s u is_such fields → IsSortTallied s is_such (fields ∷ rest) all → IsSortTallied u is_such rest all
sort_more s u is_such fields rest all a h =
    let c = count_step is_such fields rest s.count u.count _ a.count h.count in record {
      count = c;
      indices = λ few name. index_step is_such (names_such is_such name.now) s.count u.count fields rest (get same_bytes s.indices name) (get same_bytes u.indices name) _ (a.indices (omega (arith, c, few)) name) a.count (h.indices few name);
    }

sort_all : (s : SortTally) (is_such : Option Directive → Bool) (all : List (List (List ℕ))) → IsSortTallied s is_such [] all → IsSortTally s is_such all
sort_all s is_such all h = record { count = count_none is_such _ _ h.count; indices = λ few name. sym (or_none (get same_bytes s.indices name)) ∙ h.indices few name }

-- no line is read
pub tallied_none : (t : Tally) (all : List (List (List ℕ))) → t.version ≡ version_of all → t.lines ≡ 0 → t.kinds.keys ≡ [] → t.names.entries ≡ [] → (t.tables.count ≡ 0) × (t.tables.indices.entries ≡ []) → (t.nodes.count ≡ 0) × (t.nodes.indices.entries ≡ []) → (t.pipes.count ≡ 0) × (t.pipes.indices.entries ≡ []) → t.probes ≡ 0 → t.singles.items ≡ [] → IsTallied t all all
tallied_none t all version lines kinds names tables nodes pipes probes singles = record {
  version = version;
  kinds = λ part name. rw kinds refl;
  names = λ name. rw (names, lines) refl;
  tables = sort_none t.tables is_table all tables;
  nodes = sort_none t.nodes is_node all nodes;
  pipes = sort_none t.pipes is_pipe all pipes;
  probes = rw probes (omega arith);
  singles = λ s. rw (singles, lines) refl;
}

-- one more line is read
pub tallied_more : (t u : Tally) (fields : List (List ℕ)) (rest all : List (List (List ℕ))) → IsAdded t u fields → IsTallied t (fields ∷ rest) all → IsTallied u rest all
tallied_more t u fields rest all a h = let lines = a.lines in record {
  version = a.version ∙ h.version;
  kinds = λ part name. rw (a.kinds part name) (or_moved (contains same_key t.kinds (part, name)) (defines_part part name.now fields) (list_any (defines_part part name.now) rest) ∙ h.kinds part name);
  names = λ name. index_step is_every (names_such is_named name.now) t.lines u.lines fields rest (get same_bytes t.names name) (get same_bytes u.names name) _ (a.names name) lines (h.names name);
  tables = sort_more t.tables u.tables is_table fields rest all a.tables h.tables;
  nodes = sort_more t.nodes u.nodes is_node fields rest all a.nodes h.nodes;
  pipes = sort_more t.pipes u.pipes is_pipe fields rest all a.pipes h.pipes;
  probes = count_step is_sampled fields rest t.probes u.probes _ a.probes h.probes;
  singles = λ s. rw (a.singles s, lines) (option_or-assoc (given_at t.singles.items s) (single_here s t.lines fields) (single_from s (t.lines + 1) rest) ∙ h.singles s);
}

-- all lines are read
pub tallied_all : (t : Tally) (all : List (List (List ℕ))) → IsTallied t [] all → IsTally t all
tallied_all t all h = record {
  version = h.version;
  kinds = λ part name. sym (or-false (contains same_key t.kinds (part, name))) ∙ h.kinds part name;
  names = λ name. sym (or_none (get same_bytes t.names name)) ∙ h.names name;
  tables = sort_all t.tables is_table all h.tables;
  nodes = sort_all t.nodes is_node all h.nodes;
  pipes = sort_all t.pipes is_pipe all h.pipes;
  probes = count_none is_sampled _ _ h.probes;
  singles = λ s. sym (or_none (given_at t.singles.items s)) ∙ h.singles s;
}

pub byte_is : (b : Bool) → bool_byte b ≡ one_if b
byte_is true = refl
byte_is false = refl

one_le : (b : Bool) → one_if b ≤ 1
one_le true = omega arith
one_le false = omega arith

-- the counts stay below the count of lines
pub few_next : (t u : Tally) (fields : List (List ℕ)) → IsAdded t u fields → IsFew t.lines t → IsFew u.lines u
few_next t u fields a f = record {
  lines = omega arith;
  tables = omega (arith, a.lines, a.tables.count, f.tables, one_le (is_table (directive_said fields)));
  nodes = omega (arith, a.lines, a.nodes.count, f.nodes, one_le (is_node (directive_said fields)));
  pipes = omega (arith, a.lines, a.pipes.count, f.pipes, one_le (is_pipe (directive_said fields)));
  probes = omega (arith, a.lines, a.probes, f.probes, one_le (is_sampled (directive_said fields)));
}

chosen : (a b d : Bool) → cond (a && b) true d ≡ ((a && true && b) || d)
chosen true true d = refl
chosen true false d = refl
chosen false b d = refl

-- one more line's name among the names of lines
pub added : (part own : Part) (name text : List ℕ) (fields : List (List ℕ)) (d : Bool) → named_by (directive_said fields) ≡ Some own → 1 < length fields → text ≡ field fields 1
    → cond (same_part own part && bytes_eq text name) true d ≡ (defines_part part name fields || d)
unfolding defines_part
added part own name text fields d e l f =
    let t : nat_lt 1 (length fields) ≡ true = lt-ltb 1 (length fields) l in
    rw (e, t, f) (chosen (same_part own part) (bytes_eq (field fields 1) name) d)

-- one that is counted within the most parts has an index
pub still_such : (b : Bool) (n m : ℕ) → m ≡ bool_byte b → n + m ≤ most_parts → (b && nat_lt n most_parts) ≡ b
still_such true n m e h = let e : m ≡ 1 = e in lt-ltb n most_parts (omega (arith, e))
still_such false n m e h = refl

-- the tests of a tally are those of its lines
pub incomplete_is : (t : Tally) (lines : List (List (List ℕ))) → IsTally t lines → is_incomplete lines ≡ (lacks_single t.singles.items Step || lacks_single t.singles.items Steps || (t.pipes.count == 0))
unfolding is_incomplete
incomplete_is t lines h = rw (h.singles Step, h.singles Steps, h.pipes.count, some_single Step 0 lines, some_single Steps 0 lines) refl

pub too_large_is : (t : Tally) (lines : List (List (List ℕ))) → IsTally t lines → is_too_large lines ≡ are_many t.tables.count t.nodes.count t.pipes.count t.probes
unfolding is_too_large
too_large_is t lines h = rw (h.tables.count, h.nodes.count, h.pipes.count, h.probes) refl

-- the refusals on counts
on_zero : (a b : Bool) (l n : ℕ) → IsTrue ((l == 0) && (((n == 8) && a) || ((n == 10) && b))) → (l ≡ 0) × (((n ≡ 8) × (a ≡ true)) ⊎ ((n ≡ 10) × (b ≡ true)))
on_zero true true l n h = (grind arith, grind arith)
on_zero true false l n h = (grind arith, grind arith)
on_zero false true l n h = (grind arith, grind arith)
on_zero false false l n h = absurd (grind arith)

least_eight : (l n : ℕ) (a b : Bool) → (l ≡ 0) × (((n ≡ 8) × (a ≡ true)) ⊎ ((n ≡ 10) × (b ≡ true))) → (0 < l) ⊎ ((0 ≡ l) × (8 ≤ n))
least_eight l n a b h = grind arith

pub incomplete_least : (lines : List (List (List ℕ))) → is_incomplete lines ≡ true → IsLeast (count_rules lines) 0 8
unfolding count_rules
incomplete_least lines e = record { broken = rw e refl; least = λ l n h. least_eight l n (is_incomplete lines) (is_too_large lines) (on_zero (is_incomplete lines) (is_too_large lines) l n h) }

pub too_large_least : (lines : List (List (List ℕ))) → is_incomplete lines ≡ false → is_too_large lines ≡ true → IsLeast (count_rules lines) 0 10
unfolding count_rules
too_large_least lines e f = record { broken = rw f refl; least = λ l n h. grind (arith, on_zero (is_incomplete lines) (is_too_large lines) l n h) }

pub counts_kept : (lines : List (List (List ℕ))) → is_incomplete lines ≡ false → is_too_large lines ≡ false → IsEmpty (count_rules lines)
unfolding count_rules
counts_kept lines e f = λ l n h. grind (arith, on_zero (is_incomplete lines) (is_too_large lines) l n h)
