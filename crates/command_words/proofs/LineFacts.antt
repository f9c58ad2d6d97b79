-- What a parse by the command line says.
use Rattle.std.proofs.Common.{◌≡◌, ◌∙◌, ap, ap₂, codes, sym, refl, inl, inr, List, [], ◌∷◌, true}
use Rattle.clap.specs.Words.{App, Rule, new_app, with_rule, Text, HasMatchesOf, HasKind, fault_of, found_of, is_simple, is_simple_and_free, kind_of, matches_of, rows_of}
use Rattle.clap.specs.Kinds.{Kinds}
use Rattle.clap.specs.declared.error.Error.{Error}
use Rattle.clap.specs.declared.error.kind.ErrorKind.TheVariants as kind
use Rattle.clap.specs.declared.parser.matches.ArgMatches.{ArgMatches}
use Rattle.command_words.specs.CommandLine.{command_rule, faults, found, line, number_rule, slots_rule, window_rule, workers_rule}

pub line_free : is_simple_and_free line ≡ true
unfolding line
line_free = refl

pub line_simple : is_simple line ≡ true
unfolding line
line_simple = refl

-- words that are taken have no fault, and their values are those of the command line
pub none_taken : (a : App) (words : List Text) → a ≡ line → (is_simple_and_free a ≡ true → fault_of a words ≡ []) → faults words ≡ []
unfolding faults
none_taken a words is kinds = ap (λ (b : App). fault_of b words) (sym is) ∙ kinds (ap is_simple_and_free is ∙ line_free)

pub rows_taken : (a : App) (words : List Text) (m : ArgMatches) → a ≡ line → HasMatchesOf a words m → rows_of (found_of m) ≡ found words
unfolding found
rows_taken a words m is has = (has (ap is_simple is ∙ line_simple)).0 ∙ ap (λ (b : App). matches_of b words) is

-- words that are refused have a fault
pub refused : (a : App) (words : List Text) (e : Error) → a ≡ line → (is_simple_and_free a ≡ true → HasKind (fault_of a words) e)
    → (kind_of e ≡ kind.OutOfMemory → ⊥) → faults words ≡ [] → ⊥
unfolding faults
refused a words e is kinds other none = go (fault_of a words) (kinds (ap is_simple_and_free is ∙ line_free)) (ap (λ (b : App). fault_of b words) is ∙ none)
  where
    go : (ks : Kinds) → HasKind ks e → ks ≡ [] → ⊥
    go [] (inl memory) empty = other memory
    go [] (inr among) empty = among
    go (k ∷ ks) h empty = cc

-- the command line with its arguments one by one
pub built_up : (a1 a2 a3 a4 a5 a6 : App) (r1 r2 r3 r4 r5 : Rule) → a1 ≡ new_app (codes "surge")
    → r1 ≡ command_rule → r2 ≡ number_rule → r3 ≡ workers_rule → r4 ≡ slots_rule → r5 ≡ window_rule
    → a2 ≡ with_rule a1 r1 → a3 ≡ with_rule a2 r2 → a4 ≡ with_rule a3 r3 → a5 ≡ with_rule a4 r4 → a6 ≡ with_rule a5 r5 → a6 ≡ line
unfolding line
built_up a1 a2 a3 a4 a5 a6 r1 r2 r3 r4 r5 h h1 h2 h3 h4 h5 s1 s2 s3 s4 s5 =
    s5 ∙ ap₂ with_rule (s4 ∙ ap₂ with_rule (s3 ∙ ap₂ with_rule (s2 ∙ ap₂ with_rule (s1 ∙ ap₂ with_rule h h1) h2) h3) h4) h5
