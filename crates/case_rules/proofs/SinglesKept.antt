-- The single directives that are kept, and those of the lines.
use Rattle.std.proofs.Common.{ℕ, ◌+◌, ◌≡◌, ◌||◌, Bool, true, false, cond, Option, Some, None, List, [], ◌∷◌, ◌++◌, refl, ap, sym, subst, ◌∙◌}
use denote.Enum.Bare.{same_true}
use Rattle.std.specs.List.{list_any}
use Rattle.std.specs.Option.{is_some, option_or}
use Rattle.case_lines.specs.contracts.words.Single.{the_type}
use Rattle.case_lines.specs.declared.words.Single.{Single}
use Rattle.case_lines.specs.Fields.{field}
use Rattle.case_rules.specs.declared.singles.Given.{Given}
use Rattle.case_rules.specs.Said.{directive_said, is_single_of}
use Rattle.case_rules.specs.Known.{single_in, single_word, same_single, single_here, single_from, given_at, line_told}
use Rattle.case_rules.proofs.SingleWords.{single_is}

pub or_none : {X : Type 0} (o : Option X) → option_or o None ≡ o
or_none None = refl
or_none (Some x) = refl

-- one more is kept
kept_here : (b : Bool) (x : ℕ × List ℕ) (p more new : Option (ℕ × List ℕ)) → p ≡ option_or more new → cond b (Some x) p ≡ option_or (cond b (Some x) more) new
kept_here true x p more new e = refl
kept_here false x p more new e = e

kept_more : (singles : List Given) (given : Given) (s : Single)
    → given_at (singles ++ given ∷ []) s ≡ option_or (given_at singles s) (cond (same_single given.single s) (Some (given.before, given.text.now)) None)
kept_more [] given s = refl
kept_more (g ∷ singles) given s =
    kept_here (same_single g.single s) (g.before, g.text.now) (given_at (singles ++ given ∷ []) s) (given_at singles s) (cond (same_single given.single s) (Some (given.before, given.text.now)) None)
    (kept_more singles given s)

-- the line of a single directive adds it
pub added_new : (singles : List Given) (given : Given) (fields : List (List ℕ)) (s : Single) → single_in (directive_said fields) ≡ Some given.single → given.text.now ≡ field fields 1
    → given_at (singles ++ given ∷ []) s ≡ option_or (given_at singles s) (single_here s given.before fields)
added_new singles given fields s e f = kept_more singles given s
    ∙ ap (option_or (given_at singles s)) (rw (single_is s fields, e, f) refl)

old_or : (o : Option (ℕ × List ℕ)) (b : Bool) (new : Option (ℕ × List ℕ)) → (b ≡ true → is_some o ≡ true) → o ≡ option_or o (cond b new None)
old_or (Some x) b new h = refl
old_or None true new h = absurd (let e = h refl in cc)
old_or None false new h = refl

same_kept : (singles : List Given) (t s : Single) → same_single t s ≡ true → is_some (given_at singles t) ≡ true → is_some (given_at singles s) ≡ true
same_kept singles t s e h = subst (λ (x : Single). is_some (given_at singles x) ≡ true) (same_true the_type tt t s e) h

-- one that is kept already
pub added_again : (singles : List Given) (t : Single) (before : ℕ) (fields : List (List ℕ)) (s : Single) → single_in (directive_said fields) ≡ Some t → is_some (given_at singles t) ≡ true
    → given_at singles s ≡ option_or (given_at singles s) (single_here s before fields)
added_again singles t before fields s e h = rw (single_is s fields, e)
    (old_or (given_at singles s) (same_single t s) (Some (before, field fields 1)) (λ k. same_kept singles t s k h))

pub told_some : (o : Option (ℕ × List ℕ)) → is_some (line_told o) ≡ true → is_some o ≡ true
told_some None h = h
told_some (Some given) h = refl

-- a line without one
pub added_none : (singles : List Given) (before : ℕ) (fields : List (List ℕ)) (s : Single) → single_in (directive_said fields) ≡ None
    → given_at singles s ≡ option_or (given_at singles s) (single_here s before fields)
added_none singles before fields s e = rw (single_is s fields, e) (sym (or_none (given_at singles s)))

some_or : (b : Bool) (x : ℕ × List ℕ) (o : Option (ℕ × List ℕ)) → is_some (option_or (cond b (Some x) None) o) ≡ (b || is_some o)
some_or true x o = refl
some_or false x o = refl

-- whether one of the lines has it
pub some_single : (s : Single) (before : ℕ) (lines : List (List (List ℕ))) → is_some (single_from s before lines) ≡ list_any (is_single_of (single_word s)) lines
some_single s before [] = refl
some_single s before (fields ∷ lines) = some_or (is_single_of (single_word s) fields) (before, field fields 1) (single_from s (before + 1) lines) ∙ ap (λ (b : Bool). is_single_of (single_word s) fields || b) (some_single s (before + 1) lines)
