-- What a walk over the lines of a text collects.
use Rattle.std.specs.Prelude.{ℕ, ◌≡◌, ◌+◌, ◌≤◌, ◌||◌, Bool, Option, List}
use Rattle.std.specs.List.{list_any}
use Rattle.std.specs.HashMap.{HashMap, get}
use Rattle.std.specs.HashSet.{HashSet, contains}
use denote.Ref.{Bor}
use Rattle.case_lines.specs.declared.words.Single.{Single}
use Rattle.case_lines.specs.declared.words.Directive.{Directive}
use Rattle.case_rules.specs.declared.parts.Part.{Part}
use Rattle.case_rules.specs.declared.tally.SortTally.{SortTally}
use Rattle.case_rules.specs.declared.tally.Tally.{Tally}
use Rattle.case_rules.specs.Said.{version_of, directive_said, defines_part}
use Rattle.case_rules.specs.Counts.{is_table, is_node, is_pipe, is_sampled, count_of}
use Rattle.case_rules.specs.Counts.{most_parts}
use Rattle.case_rules.specs.Known.{same_bytes, same_key, AreNames, or_index, one_if}
use Rattle.case_rules.specs.Known.{is_every, is_named, names_such, index_from, AreIndexed}
use Rattle.case_rules.specs.Known.{single_here, single_from, given_at, AreSingles}
use Rattle.std.specs.Option.{option_or}

-- each count is at most this
pub record IsFew (most : ℕ) (tally : Tally) : Type 0 where
  pub lines : tally.lines ≤ most
  pub tables : tally.tables.count ≤ most
  pub nodes : tally.nodes.count ≤ most
  pub pipes : tally.pipes.count ≤ most
  pub probes : tally.probes ≤ most

-- the parts of a sort that all lines of a text say
pub record IsSortTally (sort : SortTally) (is_such : Option Directive → Bool)
    (lines : List (List (List ℕ))) : Type 0 where
  pub count : sort.count ≡ count_of is_such lines
  pub indices : count_of is_such lines ≤ most_parts
      → AreIndexed sort.indices is_such is_such lines

-- what is known of all lines of a text
pub record IsTally (tally : Tally) (lines : List (List (List ℕ))) : Type 0 where
  pub version : tally.version ≡ version_of lines
  pub kinds : AreNames tally.kinds lines
  pub names : AreIndexed tally.names is_every is_named lines
  pub tables : IsSortTally tally.tables is_table lines
  pub nodes : IsSortTally tally.nodes is_node lines
  pub pipes : IsSortTally tally.pipes is_pipe lines
  pub probes : tally.probes ≡ count_of is_sampled lines
  pub singles : AreSingles tally.singles.items lines

-- the name that a line with such a directive defines is in the map, where it was not
abbrev pub IsNameAdded : {S : Type 0} → HashMap (Bor (List ℕ)) ℕ S → HashMap (Bor (List ℕ)) ℕ S
    → (Option Directive → Bool) → ℕ → List (List ℕ) → Type 0
IsNameAdded old new is_such index fields =
    (name : Bor (List ℕ)) → get same_bytes new name
    ≡ or_index (get same_bytes old name) (names_such is_such name.now fields) index

abbrev pub IsKindAdded : {S : Type 0} → HashSet (Part × Bor (List ℕ)) S
    → HashSet (Part × Bor (List ℕ)) S → List (List ℕ) → Type 0
IsKindAdded old new fields =
    (part : Part) (name : Bor (List ℕ)) → contains same_key new (part, name)
    ≡ (defines_part part name.now fields || contains same_key old (part, name))

-- the parts of a sort after one more line
pub record IsPartAdded (old new : SortTally) (is_such : Option Directive → Bool)
    (fields : List (List ℕ)) : Type 0 where
  pub count : new.count ≡ old.count + one_if (is_such (directive_said fields))
  pub indices : new.count ≤ most_parts
      → IsNameAdded old.indices new.indices is_such old.count fields

-- a tally after one more line
pub record IsAdded (old new : Tally) (fields : List (List ℕ)) : Type 0 where
  pub version : new.version ≡ old.version
  pub lines : new.lines ≡ old.lines + 1
  pub kinds : IsKindAdded old.kinds new.kinds fields
  pub names : IsNameAdded old.names new.names is_named old.lines fields
  pub tables : IsPartAdded old.tables new.tables is_table fields
  pub nodes : IsPartAdded old.nodes new.nodes is_node fields
  pub pipes : IsPartAdded old.pipes new.pipes is_pipe fields
  pub probes : new.probes ≡ old.probes + one_if (is_sampled (directive_said fields))
  pub singles : (single : Single) → given_at new.singles.items single
      ≡ option_or (given_at old.singles.items single) (single_here single old.lines fields)

-- a map and the lines that are left give what all lines give
abbrev pub IsRestIndexed : {S : Type 0} → HashMap (Bor (List ℕ)) ℕ S → (Option Directive → Bool)
    → (Option Directive → Bool) → ℕ → List (List (List ℕ)) → List (List (List ℕ)) → Type 0
IsRestIndexed indices counts is_such before rest all =
    (name : Bor (List ℕ))
    → option_or (get same_bytes indices name)
    (index_from counts (names_such is_such name.now) before rest)
    ≡ index_from counts (names_such is_such name.now) 0 all

-- the parts of a sort that the lines before the rest say
pub record IsSortTallied (sort : SortTally) (is_such : Option Directive → Bool)
    (rest all : List (List (List ℕ))) : Type 0 where
  pub count : sort.count + count_of is_such rest ≡ count_of is_such all
  pub indices : count_of is_such all ≤ most_parts
      → IsRestIndexed sort.indices is_such is_such sort.count rest all

-- a tally of the lines before the rest
pub record IsTallied (tally : Tally) (rest all : List (List (List ℕ))) : Type 0 where
  pub version : tally.version ≡ version_of all
  pub kinds : (part : Part) (name : Bor (List ℕ))
      → (contains same_key tally.kinds (part, name) || list_any (defines_part part name.now) rest)
      ≡ list_any (defines_part part name.now) all
  pub names : IsRestIndexed tally.names is_every is_named tally.lines rest all
  pub tables : IsSortTallied tally.tables is_table rest all
  pub nodes : IsSortTallied tally.nodes is_node rest all
  pub pipes : IsSortTallied tally.pipes is_pipe rest all
  pub probes : tally.probes + count_of is_sampled rest ≡ count_of is_sampled all
  pub singles : (single : Single) → option_or (given_at tally.singles.items single)
      (single_from single tally.lines rest) ≡ single_from single 0 all
