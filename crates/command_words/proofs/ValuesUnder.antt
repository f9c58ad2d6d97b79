-- Which parser stands under a name, and what it says of the text that was found there.
use Rattle.std.proofs.Common.{◌≡◌, ◌∙◌, ◌<◌, ap, sym, subst, refl, zero, suc, inl, inr, arith, ℕ, Bool, true, false, List, [], ◌∷◌, length, map, Option, Some, None, codes, pos}
use Rattle.std.specs.List.{All, slice_index_or}
use Rattle.std.specs.Str.{bytes_eq}
use Rattle.std.specs.Prelude.{option_map, slice_get}
use Rattle.std.specs.Borrow.{Bor}
use Rattle.std.proofs.lemmas.List.Elements.{All-get_or}
use Rattle.std.proofs.lemmas.Slice.Eq.{bytes_eq-Decides}
use Rattle.clap.specs.Facts.{args_of, groups_of, IsParsed, Entry, EntryPasses, ValuesPass, PassesArg, HasReading, parser_of, parser_of_value}
use Rattle.clap.specs.Matches.{matched_of}
use Rattle.clap.specs.Simple.{shape_of}
use Rattle.clap.specs.Words.{Accepts, BuildsOrBreaks, Rule, Text, app_of, built, is_broken, is_buildable, one_text, read_as, reading_of, rule_of}
use Rattle.clap.specs.declared.builder.arg.Arg.{Arg}
use Rattle.clap.specs.declared.builder.command.Command.{Command}
use Rattle.clap.specs.declared.builder.command.Command.TheViews.{out-Command}
use Rattle.clap.specs.declared.builder.value_parser.Reading.{Reading}
use Rattle.clap.specs.declared.builder.value_parser.ValueParser.{ValueParser}
use Rattle.clap.specs.declared.builder.value_parser.ValueParser.TheVariants as vp
use Rattle.clap.specs.declared.parser.matches.Found.{Found}
use Rattle.clap.specs.declared.parser.matches.MatchedArg.{MatchedArg}
use Rattle.clap.proofs.CallerLemmas.{entry_by_id}
use Rattle.clap.proofs.SimpleLemmas.{plain_fields}
use Rattle.command_words.specs.CommandLine.{HasNumbers, IsIn, line}
use Rattle.command_words.proofs.Numbers.{signed_in, unsigned_in}

abbrev Where : Bool → Type 0 → Type 0
Where true X = X
Where false X = Unit {0}

-- each of the rules that has the name has this parser
abbrev EachIs : ValueParser → Text → List Rule → Type 0
EachIs p id [] = Unit {0}
EachIs p id (r ∷ rs) = Where (bytes_eq r.id id) (parser_of_value r.parser ≡ p) × EachIs p id rs

holds : (b : Bool) (X : Type 0) → b ≡ true → Where b X → X
holds true X e h = h
holds false X e h = cc

is_at : (p : ValueParser) (id : Text) (xs : List Arg) (k : ℕ) (a : Arg) → EachIs p id (map rule_of xs) → k < length xs → slice_index_or xs k a ≡ a
    → bytes_eq a.id.now id ≡ true → parser_of a ≡ p
is_at p id [] k a h lt at same = absurd (omega arith)
is_at p id (x ∷ xs) zero a h lt at same =
    let here : bytes_eq x.id.now id ≡ true = subst (λ (y : Arg). bytes_eq y.id.now id ≡ true) (sym at) same in
    subst (λ (y : Arg). parser_of y ≡ p) at (holds (bytes_eq x.id.now id) _ here h.0)
is_at p id (x ∷ xs) (suc k) a h lt at same = is_at p id xs k a h.1 (omega arith) at same

-- a text that a value of this parser is read as
abbrev IsRead : ValueParser → Text → Type 0
IsRead p text = (value : Text) × (ignore_case : Bool) × (text ≡ read_as (reading_of p) value) × Accepts ignore_case p value

passes_is : (c : Command) (p : ValueParser) (id value : Text) → EachIs p id (map rule_of (args_of c)) → PassesArg c id value
    → (ignore_case : Bool) × Accepts ignore_case p value
passes_is c p id value each pass =
    let is = is_at p id (args_of c) pass.0 pass.1 each pass.2 pass.3 pass.4.0 in
    (pass.1.ignore_case, subst (λ (q : ValueParser). Accepts pass.1.ignore_case q value) is pass.4.1)

reading_is : (c : Command) (p : ValueParser) (id : Text) (r : Reading) → EachIs p id (map rule_of (args_of c)) → HasReading c id r → r ≡ reading_of p
reading_is c p id r each has =
    let is = is_at p id (args_of c) has.0 has.1 each has.2 has.3 has.4.0 in
    sym has.4.1 ∙ ap reading_of is

-- no entry is a group's, where the command has no groups
no_group : (c : Command) (id : Text) (e : Entry) → groups_of c ≡ [] → (id ≡ [] → ⊥) → e.0.now ≡ id → EntryPasses c e → e.1.is_group ≡ true → ⊥
no_group c id e none named key pass g = elim (pass.3 g) [
  | inl empty ↦ named (sym key ∙ empty)
  | inr lots ↦
      let bad : 0 < 0 = rw none at lots in
      omega arith
]

entry_passes : (c : Command) (id : Text) (e : Entry) → (e.1.is_group ≡ true → ⊥) → e.0.now ≡ id → EntryPasses c e → All (λ v. PassesArg c id v.now) e.1.vals.items
entry_passes c id e not_group key pass = elim pass.0 [
  | inl g ↦ absurd (not_group g)
  | inr vals ↦ subst (λ (w : Text). All (λ v. PassesArg c w v.now) e.1.vals.items) key vals
]

entry_reading : (c : Command) (id : Text) (e : Entry) → (e.1.is_group ≡ true → ⊥) → e.0.now ≡ id → EntryPasses c e → HasReading c id e.1.reading
entry_reading c id e not_group key pass = elim pass.4 [
  | inl g ↦ absurd (not_group g)
  | inr h ↦ subst (λ (w : Text). HasReading c w e.1.reading) key h
]

-- the first value
first_read : (c : Command) (p : ValueParser) (id text : Text) (how : Reading) (vs : List (Bor Text)) → EachIs p id (map rule_of (args_of c))
    → All (λ v. PassesArg c id v.now) vs → HasReading c id how
    → option_map (λ s. read_as how s.now) (slice_get vs 0) ≡ Some text → IsRead p text
first_read c p id text how [] each all reading e = cc
first_read c p id text how (v ∷ vs) each all reading e =
    let got = passes_is c p id v.now each (All-get_or (λ v. PassesArg c id v.now) (v ∷ vs) 0 v (omega arith) all) in
    let is : read_as how v.now ≡ text = cc in
    (v.now, got.0, sym is ∙ ap (λ (r : Reading). read_as r v.now) (reading_is c p id how each reading), got.1)

from_entry : (c : Command) (p : ValueParser) (id text : Text) (a : MatchedArg) (e : Entry) → EachIs p id (map rule_of (args_of c)) → groups_of c ≡ []
    → (id ≡ [] → ⊥) → e.1 ≡ a → bytes_eq e.0.now id ≡ true → EntryPasses c e
    → option_map (λ s. read_as a.reading s.now) (slice_get a.vals.items 0) ≡ Some text → IsRead p text
from_entry c p id text a e each none named is same pass first =
    let key : e.0.now ≡ id = (bytes_eq-Decides e.0.now id).0 same in
    let no = no_group c id e none named key pass in
    first_read c p id text e.1.reading e.1.vals.items each (entry_passes c id e no key pass) (entry_reading c id e no key pass)
    (subst (λ (x : MatchedArg). option_map (λ s. read_as x.reading s.now) (slice_get x.vals.items 0) ≡ Some text) (sym is) first)

from_found : (c : Command) (p : ValueParser) (id text : Text) (a : MatchedArg) → EachIs p id (map rule_of (args_of c)) → groups_of c ≡ []
    → (id ≡ [] → ⊥) → ((e : Entry) × (e.1 ≡ a) × (bytes_eq e.0.now id ≡ true) × EntryPasses c e)
    → option_map (λ s. read_as a.reading s.now) (slice_get a.vals.items 0) ≡ Some text → IsRead p text
from_found c p id text a each none named got first = from_entry c p id text a got.0 each none named got.1 got.2 got.3 first

-- the text under a name is read from a value that passed the parser there
text_under : (c : Command) (f : Found) (p : ValueParser) (id text : Text) → ValuesPass c f → groups_of c ≡ [] → (id ≡ [] → ⊥)
    → EachIs p id (map rule_of (args_of c)) → one_text f id ≡ Some text → IsRead p text
text_under c f p id text values none named each is = go (matched_of f id) refl
  where
    go : (o : Option MatchedArg) → matched_of f id ≡ o → IsRead p text
    go None e =
        let no : one_text f id ≡ None = rw e refl in
        cc
    go (Some a) e =
        from_found c p id text a each none named (entry_by_id (EntryPasses c) f.entries.items id a values e) (rw e at is)

signed_has : (low high : ℕ) (text : Text) → IsRead (vp.Signed (pos low) (pos high)) text → IsIn low high text
signed_has low high text r = subst (λ (t : Text). IsIn low high t) (sym r.2) (signed_in low high r.0 r.3)

unsigned_has : (low high : ℕ) (text : Text) → IsRead (vp.Unsigned low high) text → IsIn low high text
unsigned_has low high text r = subst (λ (t : Text). IsIn low high t) (sym r.2) (unsigned_in low high r.0 r.3)

-- the parsers of the four numbers among these rules
record HasParsers (rules : List Rule) : Type 0 where
  of_number : EachIs (vp.Signed (pos 0) (pos 999_999)) (codes "number") rules
  of_workers : EachIs (vp.Signed (pos 1) (pos 64)) (codes "workers") rules
  of_slots : EachIs (vp.Unsigned 1 8) (codes "slots") rules
  of_window : EachIs (vp.Unsigned 1 256) (codes "window") rules

line_parsers : HasParsers line.top.rules
unfolding line
line_parsers = record {
  of_number = (tt, (refl, (tt, (tt, (tt, tt)))));
  of_workers = (tt, (tt, (refl, (tt, (tt, tt)))));
  of_slots = (tt, (tt, (tt, (refl, (tt, tt)))));
  of_window = (tt, (tt, (tt, (tt, (refl, tt)))));
}

built_parsers : HasParsers (built line).top.rules
unfolding line
built_parsers = record {
  of_number = (tt, (refl, (tt, (tt, (tt, (tt, tt))))));
  of_workers = (tt, (tt, (refl, (tt, (tt, (tt, tt))))));
  of_slots = (tt, (tt, (tt, (refl, (tt, (tt, tt))))));
  of_window = (tt, (tt, (tt, (tt, (refl, (tt, tt))))));
}

line_plain : line.top.is_plain ≡ true
unfolding line
line_plain = refl

built_plain : (built line).top.is_plain ≡ true
unfolding line
built_plain = refl

line_buildable : is_buildable line ≡ true
unfolding line
line_buildable = refl

numbers_of : (c : Command) (f : Found) (used : Bool) → (shape_of c).is_plain ≡ true → HasParsers (map rule_of (args_of c))
    → ((out-Command c).has_globals ≡ false → IsParsed c f used) → HasNumbers f
numbers_of c f used plain parsers parsed =
    let fields = plain_fields c plain in
    let values = (parsed fields.globals).values in
    record {
      of_number = λ t e. signed_has 0 999_999 t (text_under c f (vp.Signed (pos 0) (pos 999_999)) (codes "number") t values fields.groups (λ no. cc) parsers.of_number e);
      of_workers = λ t e. signed_has 1 64 t (text_under c f (vp.Signed (pos 1) (pos 64)) (codes "workers") t values fields.groups (λ no. cc) parsers.of_workers e);
      of_slots = λ t e. unsigned_has 1 8 t (text_under c f (vp.Unsigned 1 8) (codes "slots") t values fields.groups (λ no. cc) parsers.of_slots e);
      of_window = λ t e. unsigned_has 1 256 t (text_under c f (vp.Unsigned 1 256) (codes "window") t values fields.groups (λ no. cc) parsers.of_window e);
    }

-- the numbers of a parse by the command line lie within their limits
pub has_numbers : (old new : Command) (f : Found) (used : Bool) → app_of old ≡ line → (is_broken new ≡ true → ⊥) → BuildsOrBreaks old new
    → ((out-Command new).has_globals ≡ false → IsParsed new f used) → HasNumbers f
has_numbers old new f used is whole (inl broken) parsed = absurd (whole broken)
has_numbers old new f used is whole (inr (builds, names, inl same)) parsed =
    let now : app_of new ≡ line = same ∙ is in
    numbers_of new f used (ap (λ a. a.top.is_plain) now ∙ line_plain) (subst (λ a. HasParsers a.top.rules) (sym now) line_parsers) parsed
has_numbers old new f used is whole (inr (builds, names, inr made)) parsed =
    let now : app_of new ≡ built line = made (ap is_buildable is ∙ line_buildable) ∙ ap built is in
    numbers_of new f used (ap (λ a. a.top.is_plain) now ∙ built_plain) (subst (λ a. HasParsers a.top.rules) (sym now) built_parsers) parsed
