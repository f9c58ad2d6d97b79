-- What is known of the names that lines define, and of their single directives.
use Rattle.std.specs.Prelude.{ℕ, ◌≡◌, ◌+◌, ◌&&◌, not, nat_lt, Bool, true, false, Option}
use Rattle.std.specs.Prelude.{Some, None, if◌then◌else◌, List, [], ◌∷◌, length, codes}
use Rattle.std.specs.List.{list_any}
use Rattle.std.specs.HashMap.{HashMap, get}
use Rattle.std.specs.HashSet.{HashSet, contains}
use Rattle.std.specs.Option.{is_some, option_or}
use Rattle.std.specs.Str.{bytes_eq}
use denote.Ref.{Bor}
use denote.Enum.Bare.{sameb}
use Rattle.case_lines.specs.contracts.words.Single.{the_type}
use Rattle.case_lines.specs.declared.words.Single.{Single}
use Rattle.case_lines.specs.declared.words.Single.TheVariants.{Step, Steps, Vapour, Weight}
use Rattle.case_lines.specs.declared.words.Single.TheVariants.{Tolerance, Every, FrictionForm}
use Rattle.case_lines.specs.declared.words.Directive.{Directive}
use Rattle.case_lines.specs.declared.words.Directive.TheVariants.{OfSingle}
use Rattle.case_lines.specs.Fields.{field}
use Rattle.case_rules.specs.declared.parts.Part.{Part}
use Rattle.case_rules.specs.declared.singles.Given.{Given}
use Rattle.case_rules.specs.Said.{directive_said, named_by, is_some_part, same_part, defines_part}
use Rattle.case_rules.specs.Said.{is_single_of}

abbrev pub same_bytes : Bor (List ℕ) → Bor (List ℕ) → Bool
same_bytes x y = bytes_eq x.now y.now

abbrev pub same_key : Part × Bor (List ℕ) → Part × Bor (List ℕ) → Bool
same_key x y = same_part x.0 y.0 && bytes_eq x.1.now y.1.now

-- the names that these lines define, by the kind of part
abbrev pub AreNames : {S : Type 0} → HashSet (Part × Bor (List ℕ)) S → List (List (List ℕ))
    → Type 0
AreNames names lines =
    (part : Part) (name : Bor (List ℕ))
    → contains same_key names (part, name) ≡ list_any (defines_part part name.now) lines

-- an index that is there already, or else a new one where a test passes
abbrev pub or_index : Option ℕ → Bool → ℕ → Option ℕ
or_index old passes index = if passes then option_or old (Some index) else old

abbrev pub one_if : Bool → ℕ
one_if b = if b then 1 else 0

-- every line counts
abbrev pub is_every : Option Directive → Bool
is_every directive = true

-- whether a directive gives a name to a part
abbrev pub is_named : Option Directive → Bool
is_named directive = is_some_part (named_by directive)

-- whether a line with such a directive defines this name
unfoldable pub names_such : (Option Directive → Bool) → List ℕ → List (List ℕ) → Bool
names_such is_such name fields =
    is_such (directive_said fields) && nat_lt 1 (length fields) && bytes_eq (field fields 1) name

-- how many lines that count stand before the first that passes a test, with those before all of
-- these lines
abbrev pub index_from : (Option Directive → Bool) → (List (List ℕ) → Bool) → ℕ
    → List (List (List ℕ)) → Option ℕ
index_from counts test before [] = None
index_from counts test before (fields ∷ more) =
    if test fields then Some before
    else index_from counts test (before + one_if (counts (directive_said fields))) more

-- each name has the index, among the lines that count, of the first line with such a directive that
-- defines it
abbrev pub AreIndexed : {S : Type 0} → HashMap (Bor (List ℕ)) ℕ S → (Option Directive → Bool)
    → (Option Directive → Bool) → List (List (List ℕ)) → Type 0
AreIndexed indices counts is_such lines =
    (name : Bor (List ℕ)) → get same_bytes indices name
    ≡ index_from counts (names_such is_such name.now) 0 lines

-- whether an index is below this count
abbrev pub is_earlier : ℕ → Option ℕ → Bool
is_earlier count (Some index) = nat_lt index count
is_earlier count None = false

-- the single directive that a directive is, if any
abbrev pub single_in : Option Directive → Option Single
single_in None = None
single_in (Some (OfSingle single)) = Some single
single_in _ = None

-- the word of a single directive
abbrev pub single_word : Single → List ℕ
single_word Step = codes "step"
single_word Steps = codes "steps"
single_word Vapour = codes "vapour"
single_word Weight = codes "weight"
single_word Tolerance = codes "tolerance"
single_word Every = codes "every"
single_word FrictionForm = codes "friction"

abbrev pub same_single : Single → Single → Bool
same_single own single = sameb the_type own single

-- what a line gives for a single directive, if anything, with the count of the lines before it
abbrev pub single_here : Single → ℕ → List (List ℕ) → Option (ℕ × List ℕ)
single_here single before fields =
    if is_single_of (single_word single) fields then Some (before, field fields 1) else None

-- what the first line of a single directive gives
abbrev pub single_from : Single → ℕ → List (List (List ℕ)) → Option (ℕ × List ℕ)
single_from single before [] = None
single_from single before (fields ∷ more) =
    option_or (single_here single before fields) (single_from single (before + 1) more)

-- what is kept of a single directive
abbrev pub given_at : List Given → Single → Option (ℕ × List ℕ)
given_at [] single = None
given_at (given ∷ more) single =
    if same_single given.single single then Some (given.before, given.text.now)
    else given_at more single

abbrev pub told : Option Given → Option (ℕ × List ℕ)
told (Some given) = Some (given.before, given.text.now)
told None = None

abbrev pub seen : Option (Bor (List ℕ)) → Option (List ℕ)
seen (Some text) = Some text.now
seen None = None

-- what is told: the field, and how many lines stand before its line
abbrev pub text_told : Option (ℕ × List ℕ) → Option (List ℕ)
text_told (Some given) = Some given.1
text_told None = None

abbrev pub line_told : Option (ℕ × List ℕ) → Option ℕ
line_told (Some given) = Some given.0
line_told None = None

-- whether nothing is kept of a single directive
abbrev pub lacks_single : List Given → Single → Bool
lacks_single singles single = not (is_some (given_at singles single))

-- the first line of each single directive is kept, and nothing else
abbrev pub AreSingles : List Given → List (List (List ℕ)) → Type 0
AreSingles singles lines =
    (single : Single) → given_at singles single ≡ single_from single 0 lines
