-- The lines of a written case break no rule of lines.
use Rattle.std.proofs.Common.{inl, inr, ℕ, zero, suc, ◌+◌, ◌-◌, ◌<◌, ◌≤◌, ◌^◌, ◌≡◌, ◌==◌, ◌&&◌, ◌||◌, not, nat_lt, nat_le, Bool, true, false, cond, pos, Some, List, [], ◌∷◌, ◌++◌, map, take, length, codes, subst, ap, refl, arith}
use Rattle.std.proofs.lemmas.Bool.{and_right, and_parts, or_from, or_cases, ne_eqb, eqb-true, leb-true, ltb-true, both_ways}
use Rattle.std.proofs.lemmas.Int.{ints}
use Rattle.std.proofs.lemmas.List.Elements.{All-nil, All-append, All-from_recursion, All-map, All-weaker}
use Rattle.std.specs.List.{list_any, range_with_len, All, AllByRecursion}
use Rattle.fixed_num.specs.Written.{written}
use Rattle.case_model.specs.declared.cases.Case.{Case}
use Rattle.case_model.specs.declared.cases.Friction.{Friction}
use Rattle.case_model.specs.Limits.{IsWithin, IsTable, IsNode, IsPipe, IsJoined, IsSpot, IsRead}
use Rattle.case_model.specs.Sets.{IsEmpty}
use Rattle.case_lines.specs.declared.words.Single.{Single}
use Rattle.case_lines.specs.declared.words.Single.TheVariants.{Step, Steps, Vapour, Weight, Tolerance, Every, FrictionForm}
use Rattle.case_lines.specs.declared.words.Directive.{Directive}
use Rattle.case_lines.specs.declared.words.Directive.TheVariants.{OfSingle, OfTable, OfNode, OfPipe}
use Rattle.case_lines.specs.declared.quantities.Quantity.TheVariants.{TimeStep, StepCount, VapourHead, GrowthWeight, SpeedTolerance, SampleStep}
use Rattle.case_lines.specs.Words.{directive_of, single_of, table_of, node_of, has_single}
use Rattle.case_lines.specs.Fields.{field, field_kind, has_count, has_too_many, single_field, is_heading}
use Rattle.case_lines.specs.Tables.{is_disordered}
use Rattle.case_lines.specs.Alone.{breaks_field, breaks_fields, is_readable, breaks_counted, breaks_known, breaks_alone}
use Rattle.case_rules.specs.Said.{line_at, version_of, directive_said, is_definition, defines, is_single, is_single_of}
use Rattle.case_rules.specs.Among.{directive_among, is_unknown, uses_unknown, breaks_counted as breaks_others, breaks_among, breaks_line, line_rules}
use Rattle.surge_io.specs.Fields.{count_text}
use Rattle.case_writing.specs.CaseText.{version_word, friction_word}
use Rattle.round_trip.specs.Lines.{settings_lines, friction_lines, table_line, node_line, pipe_line, probe_line, case_lines}
use Rattle.round_trip.specs.Writable.{IsNameText, IsWritable}
use Rattle.round_trip.proofs.Amounts.{small_between}
use Rattle.round_trip.proofs.CaseBack.{table_rest, node_rest, pipe_rest, probe_rest, lines_right, version_back}
use Rattle.round_trip.proofs.Directives.{kind_word, spot_directive}
use Rattle.round_trip.proofs.FieldsFit.{IsFit, IsAmount, amount_fit, word_fit, above}
use Rattle.round_trip.proofs.LinesFit.{IsFitLine, table_line_fit, node_line_fit, pipe_line_fit, probe_line_fit}
use Rattle.round_trip.proofs.KnownBack.{AreNamed, parts_named, names_known}
use Rattle.round_trip.proofs.Once.{defined_once, single_once, names_once, singles_once}
use Rattle.case_model.proofs.ListFacts.{all_both}

-- a test that fails at each place of a range fails on the range
none_of_range : (p : ℕ → Bool) (i n : ℕ) → ((k : ℕ) → i ≤ k → k < i + n → p k ≡ false) → list_any p (range_with_len i n) ≡ false
none_of_range p i zero f = refl
none_of_range p i (suc n) f = or_from (p i) (list_any p (range_with_len (i + 1) n)) (f i (omega arith) (omega arith)) (none_of_range p (i + 1) n (λ k a l. f k (omega arith) (omega arith)))

fields_unbroken : (all : List (List (List ℕ))) (d : Directive) (fields : List (List ℕ)) (number : ℕ) → IsFitLine all d fields → breaks_fields d fields (length fields - 1) number ≡ false
unfolding breaks_fields
fields_unbroken all d fields number f =
    let some = f.some in
    none_of_range (λ k. breaks_field (field_kind d k) (field fields k) number) 1 (length fields - 1) (λ k a l. (f.fit k a (omega arith)).alone number)

names_found : (all : List (List (List ℕ))) (d : Directive) (fields : List (List ℕ)) → IsFitLine all d fields → uses_unknown all d fields (length fields - 1) ≡ false
unfolding uses_unknown
names_found all d fields f =
    let some = f.some in
    none_of_range (λ k. is_unknown all (field_kind d k) (field fields k)) 1 (length fields - 1) (λ k a l. (f.fit k a (omega arith)).known)

counted_unbroken : (all : List (List (List ℕ))) (d : Directive) (fields : List (List ℕ)) (number : ℕ) → IsFitLine all d fields → breaks_counted d fields number ≡ false
unfolding breaks_counted
counted_unbroken all d fields number f =
    rw (fields_unbroken all d fields number f, f.few, f.ordered) (or_from (false || ((number == 10) && false)) ((number == 14) && is_readable d fields && false)
    (or_from false ((number == 10) && false) refl (and_right (number == 10) false refl)) (and_right ((number == 14) && is_readable d fields) false refl))

known_unbroken : (all : List (List (List ℕ))) (d : Directive) (fields : List (List ℕ)) (number : ℕ) → IsFitLine all d fields → breaks_known (Some d) fields number ≡ false
known_unbroken all d fields number f = rw f.count (counted_unbroken all d fields number f)

alone_unbroken : (all : List (List (List ℕ))) (d : Directive) (fields : List (List ℕ)) (line number : ℕ) → (line == 1) ≡ false → IsFitLine all d fields → breaks_alone (version_of all) line fields number ≡ false
unfolding breaks_alone directive_said
alone_unbroken all d fields line number e f =
    let some = f.some in
    let n : (length fields == 0) ≡ false = ne_eqb (length fields) 0 (λ z. omega arith) in
    let s : directive_of (field fields 0) ≡ Some d = f.directive_said in
    rw (e, n, s, f.allowed) (known_unbroken all d fields number f)

others_unbroken : (before all : List (List (List ℕ))) (d : Directive) (fields : List (List ℕ)) (number : ℕ) → (is_definition fields && list_any (defines (field fields 1)) before) ≡ false → uses_unknown all d fields (length fields - 1) ≡ false
    → (is_single fields && list_any (is_single_of (field fields 0)) before) ≡ false → breaks_others before all d fields number ≡ false
unfolding breaks_others
others_unbroken before all d fields number a b c =
    or_from (((number == 6) && (is_definition fields && list_any (defines (field fields 1)) before)) || ((number == 7) && uses_unknown all d fields (length fields - 1)))
    ((number == 9) && (is_single fields && list_any (is_single_of (field fields 0)) before))
    (or_from ((number == 6) && (is_definition fields && list_any (defines (field fields 1)) before)) ((number == 7) && uses_unknown all d fields (length fields - 1))
    (and_right (number == 6) (is_definition fields && list_any (defines (field fields 1)) before) a) (and_right (number == 7) (uses_unknown all d fields (length fields - 1)) b))
    (and_right (number == 9) (is_single fields && list_any (is_single_of (field fields 0)) before) c)

among_unbroken : (before all : List (List (List ℕ))) (d : Directive) (fields : List (List ℕ)) (number : ℕ) → IsFitLine all d fields → (is_definition fields && list_any (defines (field fields 1)) before) ≡ false
    → (is_single fields && list_any (is_single_of (field fields 0)) before) ≡ false → breaks_among before all (directive_among all fields) fields number ≡ false
unfolding breaks_among
among_unbroken before all d fields number f a c =
    rw (f.directive_said, f.allowed) (and_right (has_count d (length fields)) (breaks_others before all d fields number) (others_unbroken before all d fields number a (names_found all d fields f) c))

-- a line behind the first one
later_unbroken : (before all : List (List (List ℕ))) (d : Directive) (fields : List (List ℕ)) (line number : ℕ) → (line == 1) ≡ false → IsFitLine all d fields → (is_definition fields && list_any (defines (field fields 1)) before) ≡ false
    → (is_single fields && list_any (is_single_of (field fields 0)) before) ≡ false → breaks_line before all line fields number ≡ false
unfolding breaks_line
later_unbroken before all d fields line number e f a c =
    or_from (breaks_alone (version_of all) line fields number) (not (line == 1) && breaks_among before all (directive_among all fields) fields number)
    (alone_unbroken all d fields line number e f)
    (and_right (not (line == 1)) (breaks_among before all (directive_among all fields) fields number) (among_unbroken before all d fields number f a c))

-- the first line
heading_unbroken : (before all : List (List (List ℕ))) (fields : List (List ℕ)) (number : ℕ) → is_heading fields ≡ true → breaks_line before all 1 fields number ≡ false
unfolding breaks_line breaks_alone
heading_unbroken before all fields number h = rw h (or_from ((number == 1) && false) false (and_right (number == 1) false refl) refl)

-- a line with a directive that fits it
record IsLineFit (all : List (List (List ℕ))) (fields : List (List ℕ)) : Type 0 where
  directive : Directive
  fit : IsFitLine all directive fields

-- lines of which each fits, behind a heading
record AreLinesFit (lines : List (List (List ℕ))) : Type 0 where
  some : 0 < length lines
  heading : is_heading (line_at lines 0) ≡ true
  behind : (k : ℕ) → k + 1 < length lines → IsLineFit lines (line_at lines (k + 1))
  defined : (k : ℕ) → k < length lines → (is_definition (line_at lines k) && list_any (defines (field (line_at lines k) 1)) (take k lines)) ≡ false
  single : (k : ℕ) → k < length lines → (is_single (line_at lines k) && list_any (is_single_of (field (line_at lines k) 0)) (take k lines)) ≡ false

line_unbroken : (lines : List (List (List ℕ))) (k number : ℕ) → AreLinesFit lines → k < length lines → breaks_line (take k lines) lines (k + 1) (line_at lines k) number ≡ false
line_unbroken lines zero number f l = heading_unbroken (take 0 lines) lines (line_at lines 0) number f.heading
line_unbroken lines (suc k) number f l =
    let e : k + 1 ≡ suc k = omega arith in
    let b : IsLineFit lines (line_at lines (suc k)) = subst (λ (j : ℕ). IsLineFit lines (line_at lines j)) e (f.behind k (omega arith)) in
    later_unbroken (take (suc k) lines) lines b.directive (line_at lines (suc k)) (suc k + 1) number (ne_eqb (suc k + 1) 1 (λ z. omega arith)) b.fit (f.defined (suc k) l) (f.single (suc k) l)

on_line : (lines : List (List (List ℕ))) (line number : ℕ) → AreLinesFit lines → (nat_lt 0 line && nat_le line (length lines) && breaks_line (take (line - 1) lines) lines line (line_at lines (line - 1)) number) ≡ true → ⊥
on_line lines line number f t =
    let b = breaks_line (take (line - 1) lines) lines line (line_at lines (line - 1)) number in
    let p = and_parts (nat_lt 0 line && nat_le line (length lines)) b t in
    let q = and_parts (nat_lt 0 line) (nat_le line (length lines)) p.0 in
    let low : 0 < line = ltb-true 0 line q.0 in
    let high : line ≤ length lines = leb-true line (length lines) q.1 in
    let e : line - 1 + 1 ≡ line = omega arith in
    let u : breaks_line (take (line - 1) lines) lines line (line_at lines (line - 1)) number ≡ false =
    subst (λ (j : ℕ). breaks_line (take (line - 1) lines) lines j (line_at lines (line - 1)) number ≡ false) e (line_unbroken lines (line - 1) number f (omega arith)) in
    both_ways b u p.1

rules_empty : (lines : List (List (List ℕ))) → AreLinesFit lines → IsEmpty (line_rules lines)
unfolding line_rules
rules_empty lines f line number t =
    let some = f.some in
    elim (or_cases (nat_lt 0 line && nat_le line (length lines) && breaks_line (take (line - 1) lines) lines line (line_at lines (line - 1)) number) ((length lines == 0) && (line == 1) && (number == 1)) t) [
      | inl h ↦ on_line lines line number f h
      | inr h ↦ let p = and_parts ((length lines == 0) && (line == 1)) (number == 1) h in let q = and_parts (length lines == 0) (line == 1) p.0 in let z = eqb-true (length lines) 0 q.0 in omega arith
    ]

-- the settings
single_fields_fit : (all : List (List (List ℕ))) (s : Single) (word text : List ℕ) → IsFit all (single_field s) text → (k : ℕ) → 1 ≤ k → k < length (word ∷ text ∷ []) → IsFit all (field_kind (OfSingle s) k) (field (word ∷ text ∷ []) k)
unfolding field_kind
single_fields_fit all s word text f zero a l = absurd (omega arith)
single_fields_fit all s word text f (suc zero) a l = f
single_fields_fit all s word text f (suc (suc k)) a l = absurd (omega arith)

single_fit : (all : List (List (List ℕ))) (s : Single) (word text : List ℕ) → directive_said (word ∷ text ∷ []) ≡ Some (OfSingle s) → has_single (version_of all) s ≡ true → IsFit all (single_field s) text → IsLineFit all (word ∷ text ∷ [])
unfolding has_count has_too_many is_disordered
single_fit all s word text e a f = record {
  directive = OfSingle s;
  fit = record { directive_said = e; allowed = a; some = omega arith; count = refl; few = refl; ordered = refl; fit = single_fields_fit all s word text f };
}

step_said : (rest : List (List ℕ)) → directive_said (codes "step" ∷ rest) ≡ Some (OfSingle Step)
unfolding directive_said directive_of single_of table_of node_of
step_said rest = refl

steps_said : (rest : List (List ℕ)) → directive_said (codes "steps" ∷ rest) ≡ Some (OfSingle Steps)
unfolding directive_said directive_of single_of table_of node_of
steps_said rest = refl

vapour_said : (rest : List (List ℕ)) → directive_said (codes "vapour" ∷ rest) ≡ Some (OfSingle Vapour)
unfolding directive_said directive_of single_of table_of node_of
vapour_said rest = refl

weight_said : (rest : List (List ℕ)) → directive_said (codes "weight" ∷ rest) ≡ Some (OfSingle Weight)
unfolding directive_said directive_of single_of table_of node_of
weight_said rest = refl

tolerance_said : (rest : List (List ℕ)) → directive_said (codes "tolerance" ∷ rest) ≡ Some (OfSingle Tolerance)
unfolding directive_said directive_of single_of table_of node_of
tolerance_said rest = refl

every_said : (rest : List (List ℕ)) → directive_said (codes "every" ∷ rest) ≡ Some (OfSingle Every)
unfolding directive_said directive_of single_of table_of node_of
every_said rest = refl

friction_said : (rest : List (List ℕ)) → directive_said (codes "friction" ∷ rest) ≡ Some (OfSingle FrictionForm)
unfolding directive_said directive_of single_of table_of node_of
friction_said rest = refl

count_within : (n : ℕ) → 1 ≤ n → n ≤ 100_000_000 → IsWithin (pos 1) (pos 100_000_000) (pos n)
count_within n a b = record { low = omega (arith, ints); high = omega (arith, ints) }

vapour_amount : (case : Case) → IsRead case → IsAmount VapourHead case.vapour
vapour_amount case h = record { small = small_between 100_000_000 0 (10 ^ 18) case.vapour h.vapour (omega arith) (omega arith); within = h.vapour }

-- the settings behind the heading
abbrev setting_lines : Case → List (List (List ℕ))
setting_lines case =
    (codes "step" ∷ written 6 case.dt ∷ [])
    ∷ (codes "steps" ∷ count_text case.steps ∷ [])
    ∷ (codes "vapour" ∷ written 6 case.vapour ∷ [])
    ∷ (codes "weight" ∷ written 1 case.weight ∷ [])
    ∷ (codes "tolerance" ∷ written 3 case.tolerance ∷ [])
    ∷ (codes "every" ∷ count_text case.every ∷ [])
    ∷ friction_lines case.version case.friction

-- the line on friction, in the version that has it
friction_fit : (all : List (List (List ℕ))) (f : Friction) (b : Bool) → (version_of all == 1) ≡ b
    → AllByRecursion (IsLineFit all) (cond b [] ((codes "friction" ∷ friction_word f ∷ []) ∷ []))
friction_fit all f true e = tt
friction_fit all f false e =
    (single_fit all FrictionForm (codes "friction") (friction_word f) (friction_said _) (rw e refl) (word_fit all f), tt)

settings_fit : (all : List (List (List ℕ))) (case : Case) → IsRead case → (version_of all == 1) ≡ (case.version == 1) → All (IsLineFit all) (setting_lines case)
settings_fit all case h e = All-from_recursion (IsLineFit all) (setting_lines case) (
  single_fit all Step _ _ (step_said _) refl (amount_fit all TimeStep case.dt (above TimeStep 1 1_000_000 case.dt refl refl (omega arith) h.dt)),
  (
    single_fit all Steps _ _ (steps_said _) refl (amount_fit all StepCount (pos case.steps) (above StepCount 1 100_000_000 (pos case.steps) refl refl (omega arith) (count_within case.steps h.some_steps h.few_steps))),
    (
      single_fit all Vapour _ _ (vapour_said _) refl (amount_fit all VapourHead case.vapour (vapour_amount case h)),
      (
        single_fit all Weight _ _ (weight_said _) refl (amount_fit all GrowthWeight case.weight (above GrowthWeight 5 10 case.weight refl refl (omega arith) h.weight)),
        (
          single_fit all Tolerance _ _ (tolerance_said _) refl (amount_fit all SpeedTolerance case.tolerance (above SpeedTolerance 0 500 case.tolerance refl refl (omega arith) h.tolerance)),
          (
            single_fit all Every _ _ (every_said _) refl (amount_fit all SampleStep (pos case.every) (above SampleStep 1 100_000_000 (pos case.every) refl refl (omega arith) (count_within case.every h.some_every h.few_every))),
            friction_fit all case.friction (case.version == 1) e,
          ),
        ),
      ),
    ),
  ),
)

-- the lines of the parts
each_line : {A : Type 0} (all : List (List (List ℕ))) (P : A → Type 0) (line_of : A → List (List ℕ)) → ((a : A) → P a → IsLineFit all (line_of a)) → (parts : List A) → All P parts → All (IsLineFit all) (map line_of parts)
each_line {A} all P line_of s parts h = All-map (IsLineFit all) line_of parts (All-weaker P (λ (a : A). IsLineFit all (line_of a)) s parts h)

parts_fit : (case : Case) → IsRead case → AreNamed case → All (IsLineFit (case_lines case)) (table_rest case)
parts_fit case h n =
    let all = case_lines case in
    let known = names_known case n in
    let fits = IsLineFit all in
    All-append fits (map table_line case.tables) (node_rest case)
    (each_line all (λ t. IsTable t × IsNameText t.name) table_line (λ t k. record { directive = OfTable t.kind; fit = table_line_fit all t k.0 k.1 }) case.tables (all_both IsTable (λ t. IsNameText t.name) case.tables h.tables n.tables))
    (All-append fits (map (node_line case.tables) case.nodes) (pipe_rest case)
    (each_line all (λ x. IsNode case.tables x × IsNameText x.name) (node_line case.tables) (λ x k. record { directive = OfNode (kind_word x.kind); fit = node_line_fit all case x known k.0 k.1 }) case.nodes (all_both (IsNode case.tables) (λ x. IsNameText x.name) case.nodes h.nodes n.nodes))
    (All-append fits (map (pipe_line case.nodes) case.pipes) (probe_rest case)
    (each_line all (λ p. (IsPipe p × IsJoined (length case.nodes) p) × IsNameText p.name) (pipe_line case.nodes) (λ p k. record { directive = OfPipe; fit = pipe_line_fit all case p known k.0.0 k.0.1 k.1 }) case.pipes
    (all_both (λ p. IsPipe p × IsJoined (length case.nodes) p) (λ p. IsNameText p.name) case.pipes (all_both IsPipe (IsJoined (length case.nodes)) case.pipes h.pipes h.joins) n.pipes))
    (All-append fits (map (probe_line case.pipes case.nodes) case.probes) []
    (each_line all (λ q. IsSpot (length case.pipes) (length case.nodes) q.at) (probe_line case.pipes case.nodes) (λ q k. record { directive = spot_directive q.at; fit = probe_line_fit all case q known k }) case.probes h.spots) (All-nil fits))))

heading_first : (case : Case) → case_lines case ≡ (codes "surge" ∷ version_word case.version ∷ []) ∷ (setting_lines case ++ table_rest case)
unfolding settings_lines
heading_first case = lines_right case

fit_behind : (all lines rest : List (List (List ℕ))) (heading : List (List ℕ)) → lines ≡ heading ∷ rest → All (IsLineFit all) rest → (k : ℕ) → k + 1 < length lines → IsLineFit all (line_at lines (k + 1))
fit_behind all lines rest heading e h k l =
    let s : k + 1 ≡ suc k = omega arith in
    let n : length lines ≡ suc (length rest) = ap length e in
    rw (e, s) (h k [] (omega arith))

first_of : (lines rest : List (List (List ℕ))) (heading : List (List ℕ)) → lines ≡ heading ∷ rest → is_heading heading ≡ true → is_heading (line_at lines 0) ≡ true
first_of lines rest heading e h = rw e h

heading_good : (b : Bool) → is_heading (codes "surge" ∷ cond b (codes "1") (codes "2") ∷ []) ≡ true
heading_good true = refl
heading_good false = refl

lines_fit : (case : Case) → IsWritable case → AreLinesFit (case_lines case)
lines_fit case w =
    let h = w.read in
    let n = parts_named case w.names in
    let e = heading_first case in
    let rest = setting_lines case ++ table_rest case in
    let heading : List (List ℕ) = codes "surge" ∷ version_word case.version ∷ [] in
    let m : length (case_lines case) ≡ suc (length rest) = ap length e in record {
      some = omega arith;
      heading = first_of (case_lines case) rest heading e (heading_good (case.version == 1));
      behind = fit_behind (case_lines case) (case_lines case) rest heading e (All-append (IsLineFit (case_lines case)) (setting_lines case) (table_rest case) (settings_fit (case_lines case) case h (ap (λ (v : ℕ). v == 1) (version_back case h))) (parts_fit case h n));
      defined = defined_once (case_lines case) (names_once case w.once);
      single = single_once (case_lines case) (singles_once case);
    }

pub lines_kept : (case : Case) → IsWritable case → IsEmpty (line_rules (case_lines case))
lines_kept case w = rules_empty (case_lines case) (lines_fit case w)
