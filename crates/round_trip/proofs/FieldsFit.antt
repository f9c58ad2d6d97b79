-- The fields of the written text break no rule of a field.
use Rattle.std.proofs.Common.{ℕ, ◌<◌, ◌≤◌, ◌^◌, ◌≡◌, ◌==◌, ◌&&◌, ◌||◌, not, nat_lt, Bool, true, false, ℤ, pos, neg_ℤ, unsigned_abs, Ok, List, ◌∷◌, length, refl, arith}
use Rattle.std.proofs.lemmas.Bool.{and_right, or_from, le-ltb}
use Rattle.std.proofs.lemmas.Int.{ints}
use Rattle.std.specs.List.{list_any}
use Rattle.fixed_num.specs.Written.{written}
use Rattle.case_model.specs.declared.cases.Case.{Case}
use Rattle.case_model.specs.declared.cases.Friction.{Friction}
use Rattle.case_model.specs.declared.cases.Friction.TheVariants.{Explicit, Linear}
use Rattle.case_model.specs.declared.cases.TableKind.{TableKind}
use Rattle.case_model.specs.declared.cases.Value.{Value}
use Rattle.case_model.specs.declared.cases.Value.TheVariants.{Fixed, ByTable}
use Rattle.case_model.specs.Limits.{IsWithin, IsTableOf, IsValue}
use Rattle.case_lines.specs.declared.quantities.Quantity.{Quantity}
use Rattle.case_lines.specs.declared.fields.FieldKind.{FieldKind}
use Rattle.case_lines.specs.declared.fields.FieldKind.TheVariants.{NewName, NodeName, PipeName, Reference, Number, Value as ValueField, FrictionWord}
use Rattle.case_lines.specs.Quantities.{limits, is_spelt, is_outside}
use Rattle.case_lines.specs.Fields.{is_name, is_reference}
use Rattle.case_lines.specs.Words.{friction_of}
use Rattle.case_lines.specs.Alone.{breaks_name, breaks_reference, breaks_number, breaks_friction, breaks_field}
use Rattle.case_rules.specs.declared.parts.Part.TheVariants.{ANode, APipe}
use Rattle.case_rules.specs.Said.{table_part, defines_part}
use Rattle.case_rules.specs.Among.{is_unknown}
use Rattle.case_writing.specs.CaseText.{friction_word, name_of_table, name_of_node, name_of_pipe, value_text, reference_text}
use Rattle.round_trip.specs.Writable.{IsNameText}
use Rattle.round_trip.proofs.Amounts.{IsSmall, quantity_back, unmarked, small_above}
use Rattle.fixed_num.proofs.Orders.{at_most_at}

-- a field that breaks no rule by itself, nor among these lines
pub record IsFit (all : List (List (List ℕ))) (kind : FieldKind) (text : List ℕ) : Type 0 where
  pub alone : (number : ℕ) → breaks_field kind text number ≡ false
  pub known : is_unknown all kind text ≡ false

-- the names that a case uses are names, and these lines define each for a part of its kind
pub record AreKnown (all : List (List (List ℕ))) (case : Case) : Type 0 where
  pub tables : (kind : TableKind) (t : ℕ) → IsTableOf kind case.tables t → list_any (defines_part (table_part kind) (name_of_table case.tables t)) all ≡ true
  pub nodes : (k : ℕ) → k < length case.nodes → list_any (defines_part ANode (name_of_node case.nodes k)) all ≡ true
  pub pipes : (p : ℕ) → p < length case.pipes → list_any (defines_part APipe (name_of_pipe case.pipes p)) all ≡ true
  pub table_names : (t : ℕ) → t < length case.tables → IsNameText (name_of_table case.tables t)
  pub node_names : (k : ℕ) → k < length case.nodes → IsNameText (name_of_node case.nodes k)
  pub pipe_names : (p : ℕ) → p < length case.pipes → IsNameText (name_of_pipe case.pipes p)

none_of_two : (a p b q : Bool) → p ≡ false → q ≡ false → ((a && p) || (b && q)) ≡ false
none_of_two a p b q e f = or_from (a && p) (b && q) (and_right a p e) (and_right b q f)

name_unbroken : (text : List ℕ) → IsNameText text → (number : ℕ) → breaks_name text number ≡ false
unfolding breaks_name
name_unbroken text h number =
    let s : is_name text ≡ true = h.spelt in
    none_of_two (number == 4) (not (is_name text)) (number == 10) (nat_lt 32 (length text)) (rw s refl) (le-ltb 32 (length text) h.short)

reference_unbroken : (name : List ℕ) → IsNameText name → (number : ℕ) → breaks_reference (64 ∷ name) number ≡ false
unfolding breaks_reference
reference_unbroken name h number =
    let s : is_name name ≡ true = h.spelt in
    let l = h.short in
    none_of_two (number == 4) (not (is_reference (64 ∷ name))) (number == 10) (nat_lt 33 (length (64 ∷ name))) (rw s refl) (le-ltb 33 (length (64 ∷ name)) (omega arith))

number_unbroken : (q : Quantity) (x : ℤ) → IsSmall x → IsWithin (limits q).least (limits q).most x → (number : ℕ) → breaks_number q (written (limits q).places x) number ≡ false
unfolding breaks_number
number_unbroken q x s h number =
    rw (quantity_back q x s) (none_of_two (number == 4) (not (is_spelt (Ok x))) (number == 5) (is_outside (limits q) (Ok x)) refl (rw (at_most_at (limits q).least x h.low, at_most_at x (limits q).most h.high) refl))

pub new_fit : (all : List (List (List ℕ))) (text : List ℕ) → IsNameText text → IsFit all NewName text
unfolding breaks_field is_unknown
new_fit all text h = record { alone = name_unbroken text h; known = refl }

not_of : (b : Bool) → b ≡ true → not b ≡ false
not_of b e = rw e refl

pub node_fit : (all : List (List (List ℕ))) (case : Case) (k : ℕ) → AreKnown all case → k < length case.nodes → IsFit all NodeName (name_of_node case.nodes k)
unfolding breaks_field is_unknown
node_fit all case k a l = record {
  alone = name_unbroken (name_of_node case.nodes k) (a.node_names k l);
  known = not_of (list_any (defines_part ANode (name_of_node case.nodes k)) all) (a.nodes k l);
}

pub pipe_fit : (all : List (List (List ℕ))) (case : Case) (p : ℕ) → AreKnown all case → p < length case.pipes → IsFit all PipeName (name_of_pipe case.pipes p)
unfolding breaks_field is_unknown
pipe_fit all case p a l = record {
  alone = name_unbroken (name_of_pipe case.pipes p) (a.pipe_names p l);
  known = not_of (list_any (defines_part APipe (name_of_pipe case.pipes p)) all) (a.pipes p l);
}

pub reference_fit : (all : List (List (List ℕ))) (case : Case) (kind : TableKind) (t : ℕ) → AreKnown all case → IsTableOf kind case.tables t → IsFit all (Reference kind) (reference_text case.tables t)
unfolding breaks_field is_unknown
reference_fit all case kind t a h = record {
  alone = reference_unbroken (name_of_table case.tables t) (a.table_names t h.there);
  known = not_of (list_any (defines_part (table_part kind) (name_of_table case.tables t)) all) (a.tables kind t h);
}

pub number_fit : (all : List (List (List ℕ))) (q : Quantity) (x : ℤ) → IsSmall x → IsWithin (limits q).least (limits q).most x → IsFit all (Number q) (written (limits q).places x)
unfolding breaks_field is_unknown
number_fit all q x s h = record { alone = number_unbroken q x s h; known = refl }

fixed_fit : (all : List (List (List ℕ))) (q : Quantity) (kind : TableKind) (x : ℤ) → IsSmall x → IsWithin (limits q).least (limits q).most x → IsFit all (ValueField q kind) (written (limits q).places x)
unfolding breaks_field is_unknown
fixed_fit all q kind x s h = record { alone = λ number. rw (unmarked (limits q).places x) (number_unbroken q x s h number); known = rw (unmarked (limits q).places x) refl }

table_fit : (all : List (List (List ℕ))) (case : Case) (q : Quantity) (kind : TableKind) (t : ℕ) → AreKnown all case → IsTableOf kind case.tables t → IsFit all (ValueField q kind) (reference_text case.tables t)
unfolding breaks_field is_unknown
table_fit all case q kind t a h = record {
  alone = reference_unbroken (name_of_table case.tables t) (a.table_names t h.there);
  known = not_of (list_any (defines_part (table_part kind) (name_of_table case.tables t)) all) (a.tables kind t h);
}

-- a word on friction
word_unbroken : (f : Friction) (number : ℕ) → breaks_friction (friction_word f) number ≡ false
unfolding breaks_friction friction_of
word_unbroken Explicit number = and_right (number == 4) false refl
word_unbroken Linear number = and_right (number == 4) false refl

pub word_fit : (all : List (List (List ℕ))) (f : Friction) → IsFit all FrictionWord (friction_word f)
unfolding breaks_field is_unknown
word_fit all f = record { alone = word_unbroken f; known = refl }

-- what a number of a quantity must be
pub record IsAmount (q : Quantity) (x : ℤ) : Type 0 where
  pub small : IsSmall x
  pub within : IsWithin (limits q).least (limits q).most x

pub amount_fit : (all : List (List (List ℕ))) (q : Quantity) (x : ℤ) → IsAmount q x → IsFit all (Number q) (written (limits q).places x)
amount_fit all q x h = number_fit all q x h.small h.within

pub value_fit : (all : List (List (List ℕ))) (case : Case) (q : Quantity) (kind : TableKind) (P : ℤ → Type 0) (v : Value) → AreKnown all case → ((x : ℤ) → P x → IsAmount q x) → IsValue P kind case.tables v
    → IsFit all (ValueField q kind) (value_text (limits q).places case.tables v)
value_fit all case q kind P (Fixed x) a s h = let k = s x h in fixed_fit all q kind x k.small k.within
value_fit all case q kind P (ByTable t) a s h = table_fit all case q kind t a h

-- a number between 0 or more and a greatest one, and one of so much size
pub above : (q : Quantity) (a b : ℕ) (x : ℤ) → (limits q).least ≡ pos a → (limits q).most ≡ pos b → b ≤ 10 ^ 18 → IsWithin (pos a) (pos b) x → IsAmount q x
above q a b x e f l h = record { small = small_above a b (10 ^ 18) x h l; within = rw (e, f) h }

within_size : (m : ℕ) (x : ℤ) → unsigned_abs x ≤ m → IsWithin (neg_ℤ (pos m)) (pos m) x
within_size m x h = record { low = omega (arith, ints); high = omega (arith, ints) }

pub sized : (q : Quantity) (m : ℕ) (x : ℤ) → (limits q).least ≡ neg_ℤ (pos m) → (limits q).most ≡ pos m → m ≤ 10 ^ 18 → unsigned_abs x ≤ m → IsAmount q x
sized q m x e f l h = record { small = omega arith; within = rw (e, f) (within_size m x h) }
