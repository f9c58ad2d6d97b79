-- The lines of a case that reads back have plain fields.
use Rattle.std.proofs.Common.{ℕ, ℤ, pos, ◌<◌, ◌≡◌, ◌==◌, cond, Bool, true, false, List, [], ◌∷◌, ◌++◌, length, map, get_or, refl, arith}
use Rattle.std.specs.Prelude.{codes}
use Rattle.std.specs.List.{All, flat_map}
use Rattle.std.proofs.lemmas.List.Elements.{All-append, All-cons, All-nil, All-head, All-tail, All-map, All-weaker}
use Rattle.fixed_num.specs.Written.{written}
use Rattle.case_model.specs.Limits.{IsHead, IsFlow, IsWithin, IsValue, IsKind, IsNode, IsJoined, IsSpot}
use Rattle.case_model.specs.Parts.{no_table, no_node, no_pipe}
use Rattle.case_model.specs.declared.cases.Case.{Case}
use Rattle.case_model.specs.declared.cases.Friction.{Friction}
use Rattle.case_model.specs.declared.cases.Friction.TheVariants.{Explicit, Linear}
use Rattle.case_model.specs.declared.cases.Table.{Table}
use Rattle.case_model.specs.declared.cases.TableKind.{TableKind}
use Rattle.case_model.specs.declared.cases.TableKind.TheVariants.{Heads, Flows, Openings, Speeds, Curve, Gas}
use Rattle.case_model.specs.declared.cases.Value.{Value}
use Rattle.case_model.specs.declared.cases.Value.TheVariants.{Fixed, ByTable}
use Rattle.case_model.specs.declared.cases.Node.{Node}
use Rattle.case_model.specs.declared.cases.NodeKind.{NodeKind}
use Rattle.case_model.specs.declared.cases.NodeKind.TheVariants.{Reservoir, Junction, Discharge, Inline, Pump, Tank, Vessel}
use Rattle.case_model.specs.declared.cases.Pipe.{Pipe}
use Rattle.case_model.specs.declared.cases.Probe.{Probe}
use Rattle.case_model.specs.declared.cases.ProbeAt.{ProbeAt}
use Rattle.case_model.specs.declared.cases.ProbeAt.TheVariants.{OnPipe, OnNode}
use Rattle.surge_io.specs.Fields.{count_text}
use Rattle.case_writing.specs.CaseText.{version_word, friction_word, value_text, reference_text, name_of_table, name_of_node, name_of_pipe, table_word, first_places, second_places, entry_fields, node_word, kind_fields, pipe_names, pipe_numbers, spot_fields}
use Rattle.round_trip.specs.Lines.{settings_lines, friction_lines, table_line, node_line, pipe_line, probe_line, case_lines}
use Rattle.round_trip.specs.Plain.{is_plain, IsPlainLine}
use Rattle.round_trip.specs.Writable.{IsNameText, IsWritable, case_names}
use Rattle.round_trip.proofs.Tests.{name_plain, marked_plain}
use Rattle.round_trip.proofs.Numbers.{written_plain}
use Rattle.case_model.proofs.ListFacts.{all_left, all_right}

all_unmapped : {X Y : Type 0} (P : X → Type 0) (f : Y → X) (ys : List Y) → All P (map f ys) → All (λ y. P (f y)) ys
all_unmapped P f [] h = All-nil (λ y. P (f y))
all_unmapped P f (y ∷ ys) h = All-cons (λ y. P (f y)) y ys (All-head P (f y) (map f ys) h) (all_unmapped P f ys (All-tail P (f y) (map f ys) h))

-- the names of a case are plain fields
pub record HasPlainNames (case : Case) : Type 0 where
  pub tables : All (λ t. is_plain t.name ≡ true) case.tables
  pub nodes : All (λ n. is_plain n.name ≡ true) case.nodes
  pub pipes : All (λ p. is_plain p.name ≡ true) case.pipes

plain_names : (case : Case) → All IsNameText (case_names case) → HasPlainNames case
unfolding case_names
plain_names case h =
    let ts = map (λ (t : Table). t.name) case.tables in
    let ns = map (λ (n : Node). n.name) case.nodes in
    let ps = map (λ (p : Pipe). p.name) case.pipes in
    let P = λ (name : List ℕ). is_plain name ≡ true in
    let all : All P (ts ++ ns ++ ps) = All-weaker IsNameText P (λ name i. name_plain name i.spelt) (ts ++ ns ++ ps) h in
    let front : All P (ts ++ ns) = all_left P (ts ++ ns) ps all in
    record {
      tables = all_unmapped P (λ (t : Table). t.name) case.tables (all_left P ts ns front);
      nodes = all_unmapped P (λ (n : Node). n.name) case.nodes (all_right P ts ns front);
      pipes = all_unmapped P (λ (p : Pipe). p.name) case.pipes (all_right P (ts ++ ns) ps all);
    }

-- fields that are plain
record ArePlain (fields : List (List ℕ)) : Type 0 where
  pub each : All (λ f. is_plain f ≡ true) fields

one : (f : List ℕ) (fs : List (List ℕ)) → is_plain f ≡ true → ArePlain fs → ArePlain (f ∷ fs)
one f fs h k = record { each = All-cons (λ (x : List ℕ). is_plain x ≡ true) f fs h k.each }

none : ArePlain []
none = record { each = All-nil (λ (x : List ℕ). is_plain x ≡ true) }

number : (places : ℕ) (x : ℤ) (fs : List (List ℕ)) → ArePlain fs → ArePlain (written places x ∷ fs)
number places x fs h = one (written places x) fs (written_plain places x) h

line : (f : List ℕ) (fs : List (List ℕ)) → is_plain f ≡ true → ArePlain fs → IsPlainLine (f ∷ fs)
line f fs h k = record { some = omega arith; plain = (one f fs h k).each }

-- a list of plain lines
record ArePlainLines (lines : List (List (List ℕ))) : Type 0 where
  pub each : All IsPlainLine lines

more : (fields : List (List ℕ)) (lines : List (List (List ℕ))) → IsPlainLine fields → ArePlainLines lines → ArePlainLines (fields ∷ lines)
more fields lines h k = record { each = All-cons IsPlainLine fields lines h k.each }

setting : (word text : List ℕ) (lines : List (List (List ℕ))) → is_plain word ≡ true → is_plain text ≡ true → ArePlainLines lines → ArePlainLines ((word ∷ text ∷ []) ∷ lines)
setting word text lines h i k = more (word ∷ text ∷ []) lines (line word (text ∷ []) h (one text [] i none)) k

version_plain : (b : Bool) → is_plain (cond b (codes "1") (codes "2")) ≡ true
version_plain true = refl
version_plain false = refl

friction_word_plain : (f : Friction) → is_plain (friction_word f) ≡ true
friction_word_plain Explicit = refl
friction_word_plain Linear = refl

friction_plain : (b : Bool) (f : Friction) → ArePlainLines (cond b [] ((codes "friction" ∷ friction_word f ∷ []) ∷ []))
friction_plain true f = record { each = All-nil IsPlainLine }
friction_plain false f =
    setting (codes "friction") (friction_word f) [] refl (friction_word_plain f) (record { each = All-nil IsPlainLine })

settings_plain : (case : Case) → ArePlainLines (settings_lines case)
unfolding settings_lines
settings_plain case =
    setting (codes "surge") (version_word case.version) _ refl (version_plain (case.version == 1))
    (setting (codes "step") (written 6 case.dt) _ refl (written_plain 6 case.dt)
    (setting (codes "steps") (count_text case.steps) _ refl (written_plain 0 (pos case.steps))
    (setting (codes "vapour") (written 6 case.vapour) _ refl (written_plain 6 case.vapour)
    (setting (codes "weight") (written 1 case.weight) _ refl (written_plain 1 case.weight)
    (setting (codes "tolerance") (written 3 case.tolerance) _ refl (written_plain 3 case.tolerance)
    (setting (codes "every") (count_text case.every) (friction_lines case.version case.friction) refl (written_plain 0 (pos case.every))
    (friction_plain (case.version == 1) case.friction)))))))

entries_plain : (kind : TableKind) (points : List (ℤ × ℤ)) → ArePlain (flat_map (entry_fields kind) points)
entries_plain kind [] = none
entries_plain kind (p ∷ ps) =
    number (first_places kind) p.0 (written (second_places kind) p.1 ∷ flat_map (entry_fields kind) ps)
    (number (second_places kind) p.1 (flat_map (entry_fields kind) ps) (entries_plain kind ps))

table_word_plain : (kind : TableKind) → is_plain (table_word kind) ≡ true
table_word_plain Heads = refl
table_word_plain Flows = refl
table_word_plain Openings = refl
table_word_plain Speeds = refl
table_word_plain Curve = refl
table_word_plain Gas = refl

table_plain : (t : Table) → is_plain t.name ≡ true → IsPlainLine (table_line t)
unfolding table_line
table_plain t h = line (table_word t.kind) (t.name ∷ flat_map (entry_fields t.kind) t.points) (table_word_plain t.kind)
    (one t.name (flat_map (entry_fields t.kind) t.points) h (entries_plain t.kind t.points))

reference_plain : (tables : List Table) (k : ℕ) → All (λ t. is_plain t.name ≡ true) tables → k < length tables → is_plain (reference_text tables k) ≡ true
reference_plain tables k h l = marked_plain (name_of_table tables k) (h k no_table l)

value_plain : (P : ℤ → Type 0) (kind : TableKind) (places : ℕ) (tables : List Table) (v : Value) → All (λ t. is_plain t.name ≡ true) tables → IsValue P kind tables v → is_plain (value_text places tables v) ≡ true
value_plain P kind places tables (Fixed x) h i = written_plain places x
value_plain P kind places tables (ByTable k) h i = reference_plain tables k h i.there

node_word_plain : (kind : NodeKind) → is_plain (node_word kind) ≡ true
node_word_plain (Reservoir head) = refl
node_word_plain (Junction demand start) = refl
node_word_plain (Discharge q0 h0 outlet opening start) = refl
node_word_plain (Inline q0 h0 opening start start2) = refl
node_word_plain (Pump curve speed start start2) = refl
node_word_plain (Tank area start) = refl
node_word_plain (Vessel gas volume) = refl

kind_plain : (tables : List Table) (kind : NodeKind) → All (λ t. is_plain t.name ≡ true) tables → IsKind tables kind → ArePlain (kind_fields tables kind)
kind_plain tables (Reservoir head) h i = one _ _ (value_plain IsHead Heads 6 tables head h i) none
kind_plain tables (Junction demand start) h i = one _ _ (value_plain IsFlow Flows 9 tables demand h i.0) (number 6 start [] none)
kind_plain tables (Discharge q0 h0 outlet opening start) h i =
    number 9 q0 _ (number 6 h0 _ (number 6 outlet _ (one _ _ (value_plain (IsWithin (pos 0) (pos 1_000_000)) Openings 6 tables opening h i.2) (number 6 start [] none))))
kind_plain tables (Inline q0 h0 opening start start2) h i =
    number 9 q0 _ (number 6 h0 _ (one _ _ (value_plain (IsWithin (pos 0) (pos 1_000_000)) Openings 6 tables opening h i.1) (number 6 start _ (number 6 start2 [] none))))
kind_plain tables (Pump curve speed start start2) h i =
    one _ _ (reference_plain tables curve h i.0.there)
    (one _ _ (value_plain (IsWithin (pos 0) (pos 2_000_000)) Speeds 6 tables speed h i.1) (number 6 start _ (number 6 start2 [] none)))
kind_plain tables (Tank area start) h i = number 6 area _ (number 6 start [] none)
kind_plain tables (Vessel gas volume) h i = one _ _ (reference_plain tables gas h i.0.there) (number 9 volume [] none)

node_plain : (tables : List Table) (n : Node) → All (λ t. is_plain t.name ≡ true) tables → is_plain n.name ≡ true → IsNode tables n → IsPlainLine (node_line tables n)
unfolding node_line
node_plain tables n h i k = line (node_word n.kind) (n.name ∷ written 6 n.elevation ∷ kind_fields tables n.kind) (node_word_plain n.kind)
    (one n.name _ i (number 6 n.elevation _ (kind_plain tables n.kind h k.kind)))

pipe_plain : (nodes : List Node) (p : Pipe) → All (λ n. is_plain n.name ≡ true) nodes → is_plain p.name ≡ true → IsJoined (length nodes) p → IsPlainLine (pipe_line nodes p)
unfolding pipe_line
pipe_plain nodes p h i k = line (codes "pipe") (pipe_names nodes p ++ pipe_numbers p) refl
    (one p.name _ i (one _ _ (h p.first no_node k.first) (one _ _ (h p.last no_node k.last)
    (number 3 p.length _ (number 3 p.diameter _ (number 3 p.speed _ (number 6 p.friction _ (number 9 p.flow [] none))))))))

spot_plain : (pipes : List Pipe) (nodes : List Node) (at : ProbeAt) → All (λ p. is_plain p.name ≡ true) pipes → All (λ n. is_plain n.name ≡ true) nodes → IsSpot (length pipes) (length nodes) at → IsPlainLine (spot_fields pipes nodes at)
spot_plain pipes nodes (OnPipe pipe place) h i k = line (codes "probe") (name_of_pipe pipes pipe ∷ count_text place ∷ []) refl
    (one _ _ (h pipe no_pipe k.0) (number 0 (pos place) [] none))
spot_plain pipes nodes (OnNode node) h i k = line (codes "watch") (name_of_node nodes node ∷ []) refl (one _ _ (i node no_node k) none)

probe_plain : (pipes : List Pipe) (nodes : List Node) (q : Probe) → All (λ p. is_plain p.name ≡ true) pipes → All (λ n. is_plain n.name ≡ true) nodes → IsSpot (length pipes) (length nodes) q.at → IsPlainLine (probe_line pipes nodes q)
unfolding probe_line
probe_plain pipes nodes q h i k = spot_plain pipes nodes q.at h i k

pub case_plain : (case : Case) → IsWritable case → All IsPlainLine (case_lines case)
unfolding case_lines
case_plain case w =
    let names = plain_names case w.names in
    let ts : All IsPlainLine (map table_line case.tables) = All-map IsPlainLine table_line case.tables (λ k d l. table_plain (get_or case.tables k d) (names.tables k d l)) in
    let ns : All IsPlainLine (map (node_line case.tables) case.nodes) =
    All-map IsPlainLine (node_line case.tables) case.nodes (λ k d l. node_plain case.tables (get_or case.nodes k d) names.tables (names.nodes k d l) (w.read.nodes k d l)) in
    let ps : All IsPlainLine (map (pipe_line case.nodes) case.pipes) =
    All-map IsPlainLine (pipe_line case.nodes) case.pipes (λ k d l. pipe_plain case.nodes (get_or case.pipes k d) names.nodes (names.pipes k d l) (w.read.joins k d l)) in
    let qs : All IsPlainLine (map (probe_line case.pipes case.nodes) case.probes) =
    All-map IsPlainLine (probe_line case.pipes case.nodes) case.probes (λ k d l. probe_plain case.pipes case.nodes (get_or case.probes k d) names.pipes names.nodes (w.read.spots k d l)) in
    All-append IsPlainLine (settings_lines case) _ (settings_plain case).each
    (All-append IsPlainLine (map table_line case.tables ++ map (node_line case.tables) case.nodes ++ map (pipe_line case.nodes) case.pipes) _
    (All-append IsPlainLine (map table_line case.tables ++ map (node_line case.tables) case.nodes) _
    (All-append IsPlainLine (map table_line case.tables) _ ts ns) ps) qs)
