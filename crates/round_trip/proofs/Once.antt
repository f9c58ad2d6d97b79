-- What lines name is named once: no name is defined twice, and no single directive stands twice.
use Rattle.std.proofs.Common.{inl, inr, ◌==◌, ℕ, zero, suc, ◌+◌, ◌<◌, ◌≡◌, ◌&&◌, not, Bool, true, false, cond, Some, List, [], ◌∷◌, ◌++◌, map, take, length, get_or, codes, sym, ap, ◌∙◌, refl, arith, length-append}
use Rattle.std.proofs.lemmas.Bool.{and_parts, or_cases, both_ways, false_from_ne_true, lt-ltb, not-true}
use Rattle.std.proofs.lemmas.List.{append_assoc, append-nil, get_or_append_left, get_or-append-add, get_or_at}
use Rattle.std.proofs.lemmas.List.Concat.{flat_map-append}
use Rattle.std.proofs.lemmas.List.Folds.{list_any_at}
use Rattle.std.proofs.lemmas.Slice.Eq.{bytes_eq-Decides}
use Rattle.std.specs.List.{list_any, flat_map}
use Rattle.std.specs.Str.{bytes_eq}
use Rattle.case_model.specs.declared.cases.Case.{Case}
use Rattle.case_model.specs.declared.cases.Friction.{Friction}
use Rattle.case_model.specs.declared.cases.Table.{Table}
use Rattle.case_model.specs.declared.cases.Node.{Node}
use Rattle.case_model.specs.declared.cases.Pipe.{Pipe}
use Rattle.case_model.specs.declared.cases.Probe.{Probe}
use Rattle.case_model.specs.declared.cases.ProbeAt.{ProbeAt}
use Rattle.case_model.specs.declared.cases.ProbeAt.TheVariants.{OnPipe, OnNode}
use Rattle.case_lines.specs.Fields.{field}
use Rattle.case_lines.specs.Words.{single_of, table_of, node_of, directive_of}
use Rattle.case_rules.specs.Said.{line_at, directive_said, named_by, is_some_part, is_definition, defines, is_single_directive, is_single, is_single_of}
use Rattle.case_writing.specs.CaseText.{friction_word}
use Rattle.round_trip.specs.Lines.{settings_lines, table_line, node_line, pipe_line, probe_line, case_lines}
use Rattle.round_trip.specs.Writable.{case_names, AreApart}
use Rattle.round_trip.proofs.CaseBack.{table_rest, lines_right}
use Rattle.round_trip.proofs.Directives.{spot_directive, of_table, of_node, of_pipe, of_probe}
use Rattle.round_trip.proofs.Indices.{same_name}

-- what one line names, by a test and by the field that says it
abbrev pub named : (List (List ℕ) → Bool) → ℕ → List (List ℕ) → List (List ℕ)
named names k fields = cond (names fields) (field fields k ∷ []) []

-- the names before a line that names, and its own
split_at : (names : List (List ℕ) → Bool) (f : ℕ) (lines : List (List (List ℕ))) (k : ℕ) → k < length lines → names (line_at lines k) ≡ true
    → (rest : List (List ℕ)) × (flat_map (named names f) lines ≡ flat_map (named names f) (take k lines) ++ field (line_at lines k) f ∷ rest)
split_at names f [] k h t = absurd (omega arith)
split_at names f (line ∷ lines) zero h t = (flat_map (named names f) lines, rw t refl)
split_at names f (line ∷ lines) (suc k) h t =
    let s = split_at names f lines k (omega arith) t in
    (s.0, ap (λ (xs : List (List ℕ)). named names f line ++ xs) s.1 ∙ sym (append_assoc (named names f line) (flat_map (named names f) (take k lines)) (field (line_at lines k) f ∷ s.0)))

-- a place of a list at which this text stands
abbrev IsAt : List (List ℕ) → List ℕ → ℕ → Type 0
IsAt texts text i = (i < length texts) × (get_or texts i [] ≡ text)

later : (xs ys : List (List ℕ)) (text : List ℕ) (i : ℕ) → IsAt ys text i → IsAt (xs ++ ys) text (length xs + i)
later xs ys text i h = (let l = length-append xs ys in omega (arith, h.0), get_or-append-add xs ys i [] ∙ h.1)

here : (a : Bool) (own : List ℕ) (rest : List (List ℕ)) (text : List ℕ) → (a && bytes_eq own text) ≡ true → IsAt (cond a (own ∷ []) [] ++ rest) text 0
here a own rest text t =
    let p = and_parts a (bytes_eq own text) t in rw p.0 (omega arith, (bytes_eq-Decides own text).0 p.1)

found_in : (names : List (List ℕ) → Bool) (f : ℕ) (text : List ℕ) (lines : List (List (List ℕ))) → list_any (λ fields. names fields && bytes_eq (field fields f) text) lines ≡ true
    → (i : ℕ) × IsAt (flat_map (named names f) lines) text i
found_in names f text [] t = absurd (grind arith)
found_in names f text (line ∷ lines) t = elim (or_cases (names line && bytes_eq (field line f) text) (list_any (λ fields. names fields && bytes_eq (field fields f) text) lines) t) [
  | inl e ↦ (0, here (names line) (field line f) (flat_map (named names f) lines) text e)
  | inr e ↦ let r = found_in names f text lines e in (length (named names f line) + r.0, later (named names f line) (flat_map (named names f) lines) text r.0 r.1)
]

not_twice : (front rest : List (List ℕ)) (text : List ℕ) (i : ℕ) → AreApart (front ++ text ∷ rest) → IsAt front text i → ⊥
not_twice front rest text i h at =
    let l = length-append front (text ∷ rest) in
    let e : get_or (front ++ text ∷ rest) i [] ≡ get_or (front ++ text ∷ rest) (length front) [] = get_or_append_left front (text ∷ rest) [] i at.0 ∙ at.1 ∙ sym (get_or_at front text rest [] (length front) refl) in
    let s : i ≡ length front = h i (length front) (omega (arith, at.0)) (omega arith) e in
    omega (arith, at.0)

apart_of : (xs ys : List (List ℕ)) → xs ≡ ys → AreApart xs → AreApart ys
apart_of xs ys e h = rw e at h

-- no line names what a line before it names
pub named_once : (names : List (List ℕ) → Bool) (f : ℕ) (lines : List (List (List ℕ))) → AreApart (flat_map (named names f) lines) → (k : ℕ) → k < length lines
    → (names (line_at lines k) && list_any (λ fields. names fields && bytes_eq (field fields f) (field (line_at lines k) f)) (take k lines)) ≡ false
named_once names f lines h k l = false_from_ne_true _ (λ t.
    let p = and_parts (names (line_at lines k)) (list_any (λ fields. names fields && bytes_eq (field fields f) (field (line_at lines k) f)) (take k lines)) t in
    let s = split_at names f lines k l p.0 in
    let r = found_in names f (field (line_at lines k) f) (take k lines) p.1 in
    not_twice (flat_map (named names f) (take k lines)) s.0 (field (line_at lines k) f) r.0 (apart_of (flat_map (named names f) lines) (flat_map (named names f) (take k lines) ++ field (line_at lines k) f ∷ s.0) s.1 h) r.1)

pub defined_once : (lines : List (List (List ℕ))) → AreApart (flat_map (named is_definition 1) lines) → (k : ℕ) → k < length lines → (is_definition (line_at lines k) && list_any (defines (field (line_at lines k) 1)) (take k lines)) ≡ false
unfolding defines
defined_once lines h k l = named_once is_definition 1 lines h k l

pub single_once : (lines : List (List (List ℕ))) → AreApart (flat_map (named is_single 0) lines) → (k : ℕ) → k < length lines → (is_single (line_at lines k) && list_any (is_single_of (field (line_at lines k) 0)) (take k lines)) ≡ false
unfolding is_single_of
single_once lines h k l = named_once is_single 0 lines h k l

-- the names of lines that are made of parts
each_names : {A : Type 0} (names : List (List ℕ) → Bool) (f : ℕ) (line_of : A → List (List ℕ)) (name_of : A → List ℕ) → ((a : A) → named names f (line_of a) ≡ name_of a ∷ []) → (parts : List A)
    → flat_map (named names f) (map line_of parts) ≡ map name_of parts
each_names names f line_of name_of s [] = refl
each_names names f line_of name_of s (a ∷ parts) = rw (s a) (ap (λ (xs : List (List ℕ)). name_of a ∷ xs) (each_names names f line_of name_of s parts))

none_names : {A : Type 0} (names : List (List ℕ) → Bool) (f : ℕ) (line_of : A → List (List ℕ)) → ((a : A) → named names f (line_of a) ≡ []) → (parts : List A) → flat_map (named names f) (map line_of parts) ≡ []
none_names names f line_of s [] = refl
none_names names f line_of s (a ∷ parts) = rw (s a) (none_names names f line_of s parts)

-- which lines define a name
table_defines : (t : Table) → named is_definition 1 (table_line t) ≡ t.name ∷ []
unfolding is_definition table_line
table_defines t = rw (of_table t, lt-ltb 1 (length (table_line t)) (omega arith)) refl

node_defines : (tables : List Table) (n : Node) → named is_definition 1 (node_line tables n) ≡ n.name ∷ []
unfolding is_definition node_line
node_defines tables n = rw (of_node tables n, lt-ltb 1 (length (node_line tables n)) (omega arith)) refl

pipe_defines : (nodes : List Node) (p : Pipe) → named is_definition 1 (pipe_line nodes p) ≡ p.name ∷ []
unfolding is_definition pipe_line
pipe_defines nodes p = rw (of_pipe nodes p) refl

spot_part : (at : ProbeAt) → is_some_part (named_by (Some (spot_directive at))) ≡ false
spot_part (OnPipe pipe place) = refl
spot_part (OnNode node) = refl

probe_defines : (pipes : List Pipe) (nodes : List Node) (q : Probe) → named is_definition 1 (probe_line pipes nodes q) ≡ []
unfolding is_definition
probe_defines pipes nodes q = rw (of_probe pipes nodes q, spot_part q.at) refl

friction_define : (b : Bool) (f : Friction) (rest : List (List (List ℕ))) → flat_map (named is_definition 1) (cond b [] ((codes "friction" ∷ friction_word f ∷ []) ∷ []) ++ rest) ≡ flat_map (named is_definition 1) rest
unfolding is_definition directive_said directive_of single_of table_of node_of
friction_define true f rest = refl
friction_define false f rest = refl

settings_define : (case : Case) (rest : List (List (List ℕ))) → flat_map (named is_definition 1) (settings_lines case ++ rest) ≡ flat_map (named is_definition 1) rest
unfolding settings_lines is_definition directive_said directive_of single_of table_of node_of
settings_define case rest = friction_define (case.version == 1) case.friction rest

four : (f : List (List ℕ) → List (List ℕ)) (a b c d : List (List (List ℕ))) → flat_map f (a ++ (b ++ (c ++ (d ++ [])))) ≡ flat_map f a ++ flat_map f b ++ flat_map f c ++ flat_map f d
four f a b c d = simp (flat_map-append, append_assoc, append-nil)

pub names_defined : (case : Case) → flat_map (named is_definition 1) (case_lines case) ≡ case_names case
unfolding case_names
names_defined case =
    ap (λ (lines : List (List (List ℕ))). flat_map (named is_definition 1) lines) (lines_right case) ∙ settings_define case (table_rest case)
    ∙ four (named is_definition 1) (map table_line case.tables) (map (node_line case.tables) case.nodes) (map (pipe_line case.nodes) case.pipes) (map (probe_line case.pipes case.nodes) case.probes)
    ∙ rw (
      each_names is_definition 1 table_line (λ t. t.name) table_defines case.tables,
      each_names is_definition 1 (node_line case.tables) (λ n. n.name) (node_defines case.tables) case.nodes,
      each_names is_definition 1 (pipe_line case.nodes) (λ p. p.name) (pipe_defines case.nodes) case.pipes,
      none_names is_definition 1 (probe_line case.pipes case.nodes) (probe_defines case.pipes case.nodes) case.probes,
    )
    (append-nil (map (λ (t : Table). t.name) case.tables ++ map (λ (n : Node). n.name) case.nodes ++ map (λ (p : Pipe). p.name) case.pipes))

-- which lines have a single directive
abbrev friction_words : Bool → List (List ℕ)
friction_words first = cond first [] (codes "friction" ∷ [])

abbrev single_words : Bool → List (List ℕ)
single_words first =
    codes "step" ∷ codes "steps" ∷ codes "vapour" ∷ codes "weight" ∷ codes "tolerance" ∷ codes "every" ∷ friction_words first

friction_single : (b : Bool) (f : Friction) (rest : List (List (List ℕ))) → flat_map (named is_single 0) (cond b [] ((codes "friction" ∷ friction_word f ∷ []) ∷ []) ++ rest) ≡ friction_words b ++ flat_map (named is_single 0) rest
unfolding is_single directive_said directive_of single_of table_of node_of
friction_single true f rest = refl
friction_single false f rest = refl

settings_single : (case : Case) (rest : List (List (List ℕ))) → flat_map (named is_single 0) (settings_lines case ++ rest) ≡ single_words (case.version == 1) ++ flat_map (named is_single 0) rest
unfolding settings_lines is_single directive_said directive_of single_of table_of node_of
settings_single case rest =
    ap (λ (words : List (List ℕ)). codes "step" ∷ codes "steps" ∷ codes "vapour" ∷ codes "weight" ∷ codes "tolerance" ∷ codes "every" ∷ words)
    (friction_single (case.version == 1) case.friction rest)

table_single : (t : Table) → named is_single 0 (table_line t) ≡ []
unfolding is_single
table_single t = rw (of_table t) refl

node_single : (tables : List Table) (n : Node) → named is_single 0 (node_line tables n) ≡ []
unfolding is_single
node_single tables n = rw (of_node tables n) refl

pipe_single : (nodes : List Node) (p : Pipe) → named is_single 0 (pipe_line nodes p) ≡ []
unfolding is_single
pipe_single nodes p = rw (of_pipe nodes p) refl

spot_single : (at : ProbeAt) → is_single_directive (Some (spot_directive at)) ≡ false
spot_single (OnPipe pipe place) = refl
spot_single (OnNode node) = refl

probe_single : (pipes : List Pipe) (nodes : List Node) (q : Probe) → named is_single 0 (probe_line pipes nodes q) ≡ []
unfolding is_single
probe_single pipes nodes q = rw (of_probe pipes nodes q, spot_single q.at) refl

singles_said : (case : Case) → flat_map (named is_single 0) (case_lines case) ≡ single_words (case.version == 1)
singles_said case =
    let none : flat_map (named is_single 0) (table_rest case) ≡ [] =
    four (named is_single 0) (map table_line case.tables) (map (node_line case.tables) case.nodes) (map (pipe_line case.nodes) case.pipes) (map (probe_line case.pipes case.nodes) case.probes)
    ∙ rw (
      none_names is_single 0 table_line table_single case.tables,
      none_names is_single 0 (node_line case.tables) (node_single case.tables) case.nodes,
      none_names is_single 0 (pipe_line case.nodes) (pipe_single case.nodes) case.pipes,
      none_names is_single 0 (probe_line case.pipes case.nodes) (probe_single case.pipes case.nodes) case.probes,
    ) refl in
    ap (λ (lines : List (List (List ℕ))). flat_map (named is_single 0) lines) (lines_right case) ∙ settings_single case (table_rest case)
    ∙ ap (λ (xs : List (List ℕ)). single_words (case.version == 1) ++ xs) none ∙ append-nil (single_words (case.version == 1))

-- that no two texts are equal, as a test
abbrev are_apart : List (List ℕ) → Bool
are_apart [] = true
are_apart (x ∷ xs) = not (list_any (λ y. bytes_eq y x) xs) && are_apart xs

not_later : (x : List ℕ) (xs : List (List ℕ)) (j : ℕ) → list_any (λ y. bytes_eq y x) xs ≡ false → j < length xs → get_or xs j [] ≡ x → ⊥
not_later x xs j h l e = both_ways (list_any (λ y. bytes_eq y x) xs) h (list_any_at (λ y. bytes_eq y x) xs j [] l (same_name (get_or xs j []) x e))

apart_tested : (xs : List (List ℕ)) → are_apart xs ≡ true → AreApart xs
apart_tested [] t i j a b e = absurd (omega arith)
apart_tested (x ∷ xs) t zero zero a b e = refl
apart_tested (x ∷ xs) t zero (suc j) a b e =
    let n = not-true (list_any (λ y. bytes_eq y x) xs) (and_parts (not (list_any (λ y. bytes_eq y x) xs)) (are_apart xs) t).0 in absurd (not_later x xs j n (omega arith) (sym e))
apart_tested (x ∷ xs) t (suc i) zero a b e =
    let n = not-true (list_any (λ y. bytes_eq y x) xs) (and_parts (not (list_any (λ y. bytes_eq y x) xs)) (are_apart xs) t).0 in absurd (not_later x xs i n (omega arith) e)
apart_tested (x ∷ xs) t (suc i) (suc j) a b e =
    ap (λ (n : ℕ). suc n) (apart_tested xs (and_parts (not (list_any (λ y. bytes_eq y x) xs)) (are_apart xs) t).1 i j (omega arith) (omega arith) e)

pub names_once : (case : Case) → AreApart (case_names case) → AreApart (flat_map (named is_definition 1) (case_lines case))
names_once case h = apart_of (case_names case) (flat_map (named is_definition 1) (case_lines case)) (sym (names_defined case)) h

words_once : (first : Bool) → AreApart (single_words first)
words_once true = apart_tested (single_words true) refl
words_once false = apart_tested (single_words false) refl

pub singles_once : (case : Case) → AreApart (flat_map (named is_single 0) (case_lines case))
singles_once case =
    apart_of (single_words (case.version == 1)) (flat_map (named is_single 0) (case_lines case)) (sym (singles_said case))
    (words_once (case.version == 1))
