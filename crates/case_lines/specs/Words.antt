-- The words with which lines begin.
use Rattle.std.specs.Prelude.{ℕ, ◌==◌, not, Bool, true, Option, Some, None, if◌then◌else◌, List}
use Rattle.std.specs.Prelude.{codes}
use Rattle.std.specs.Str.{bytes_eq}
use Rattle.case_model.specs.declared.cases.Friction.{Friction}
use Rattle.case_model.specs.declared.cases.Friction.TheVariants.{Explicit, Linear}
use Rattle.case_model.specs.declared.cases.TableKind.{TableKind}
use Rattle.case_model.specs.declared.cases.TableKind.TheVariants.{Heads, Flows, Openings, Speeds}
use Rattle.case_model.specs.declared.cases.TableKind.TheVariants.{Curve, Gas}
use Rattle.case_lines.specs.declared.words.Single.{Single}
use Rattle.case_lines.specs.declared.words.Single.TheVariants.{Step, Steps, Vapour, Weight}
use Rattle.case_lines.specs.declared.words.Single.TheVariants.{Tolerance, Every, FrictionForm}
use Rattle.case_lines.specs.declared.words.NodeWord.{NodeWord}
use Rattle.case_lines.specs.declared.words.NodeWord.TheVariants.{Reservoir, Junction, Discharge}
use Rattle.case_lines.specs.declared.words.NodeWord.TheVariants.{Inline, Pump, Tank, Vessel}
use Rattle.case_lines.specs.declared.words.Directive.{Directive}
use Rattle.case_lines.specs.declared.words.Directive.TheVariants.{OfSingle, OfTable, OfNode, OfPipe}
use Rattle.case_lines.specs.declared.words.Directive.TheVariants.{OfProbe, OfWatch}

-- the single directive of this word, if any
unfoldable pub single_of : List ℕ → Option Single
single_of word =
    if bytes_eq word (codes "step") then Some Step
    else if bytes_eq word (codes "steps") then Some Steps
    else if bytes_eq word (codes "vapour") then Some Vapour
    else if bytes_eq word (codes "weight") then Some Weight
    else if bytes_eq word (codes "tolerance") then Some Tolerance
    else if bytes_eq word (codes "every") then Some Every
    else if bytes_eq word (codes "friction") then Some FrictionForm
    else None

-- the kind of table of this word, if any
unfoldable pub table_of : List ℕ → Option TableKind
table_of word =
    if bytes_eq word (codes "heads") then Some Heads
    else if bytes_eq word (codes "flows") then Some Flows
    else if bytes_eq word (codes "openings") then Some Openings
    else if bytes_eq word (codes "speeds") then Some Speeds
    else if bytes_eq word (codes "curve") then Some Curve
    else if bytes_eq word (codes "gas") then Some Gas
    else None

-- the kind of node of this word, if any
unfoldable pub node_of : List ℕ → Option NodeWord
node_of word =
    if bytes_eq word (codes "reservoir") then Some Reservoir
    else if bytes_eq word (codes "junction") then Some Junction
    else if bytes_eq word (codes "discharge") then Some Discharge
    else if bytes_eq word (codes "inline") then Some Inline
    else if bytes_eq word (codes "pump") then Some Pump
    else if bytes_eq word (codes "tank") then Some Tank
    else if bytes_eq word (codes "vessel") then Some Vessel
    else None

-- the other directives
abbrev pub other_of : List ℕ → Option Directive
other_of word =
    if bytes_eq word (codes "pipe") then Some OfPipe
    else if bytes_eq word (codes "probe") then Some OfProbe
    else if bytes_eq word (codes "watch") then Some OfWatch
    else None

abbrev pub node_or_other : Option NodeWord → List ℕ → Option Directive
node_or_other (Some node) word = Some (OfNode node)
node_or_other None word = other_of word

abbrev pub table_or_other : Option TableKind → List ℕ → Option Directive
table_or_other (Some kind) word = Some (OfTable kind)
table_or_other None word = node_or_other (node_of word) word

abbrev pub single_or_other : Option Single → List ℕ → Option Directive
single_or_other (Some single) word = Some (OfSingle single)
single_or_other None word = table_or_other (table_of word) word

-- the directive of this word in whatever version, if any
unfoldable pub directive_of : List ℕ → Option Directive
directive_of word = single_or_other (single_of word) word

-- whether a version of the case text has a directive: version 1 has none on friction
abbrev pub has_single : ℕ → Single → Bool
has_single version FrictionForm = not (version == 1)
has_single version _ = true

abbrev pub has_directive : ℕ → Directive → Bool
has_directive version (OfSingle single) = has_single version single
has_directive version _ = true

-- a directive where a version of the case text has it
abbrev pub directive_in : ℕ → Option Directive → Option Directive
directive_in version None = None
directive_in version (Some directive) =
    if has_directive version directive then Some directive else None

-- how friction is taken, by its word, if any
unfoldable pub friction_of : List ℕ → Option Friction
friction_of word =
    if bytes_eq word (codes "explicit") then Some Explicit
    else if bytes_eq word (codes "linear") then Some Linear
    else None
