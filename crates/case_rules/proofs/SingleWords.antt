-- A line has a single directive exactly where its first field is the word of it.
use Rattle.std.proofs.Common.{ℕ, ◌≡◌, ◌&&◌, Bool, true, false, cond, Option, Some, None, List, refl, ap, sym, subst, ◌∙◌}
use denote.Enum.Bare.{same_true, true_same}
use Rattle.std.specs.Option.{is_some}
use Rattle.std.specs.Str.{bytes_eq}
use Rattle.std.proofs.lemmas.Slice.Eq.{bytes_eq-Decides}
use Rattle.case_model.specs.declared.cases.TableKind.{TableKind}
use Rattle.case_lines.specs.contracts.words.Single.{the_type}
use Rattle.case_lines.specs.declared.words.Single.{Single}
use Rattle.case_lines.specs.declared.words.Single.TheVariants.{Step, Steps, Vapour, Weight, Tolerance, Every, FrictionForm}
use Rattle.case_lines.specs.declared.words.NodeWord.{NodeWord}
use Rattle.case_lines.specs.declared.words.Directive.{Directive}
use Rattle.case_lines.specs.declared.words.Directive.TheVariants.{OfSingle, OfPipe, OfProbe, OfWatch}
use Rattle.case_lines.specs.Fields.{field}
use Rattle.case_lines.specs.Words.{single_of, table_of, node_of, single_or_other, table_or_other, node_or_other, directive_of}
use Rattle.case_rules.specs.Said.{directive_said, is_single_directive, is_single, is_single_of}
use Rattle.case_rules.specs.Known.{single_in, single_word, same_single}
use Rattle.case_model.proofs.ListFacts.{same-tests}

-- the test of a word among the seven
abbrev pick : Bool → Bool → Bool → Bool → Bool → Bool → Bool → Single → Bool
pick a b c d e f g Step = a
pick a b c d e f g Steps = b
pick a b c d e f g Vapour = c
pick a b c d e f g Weight = d
pick a b c d e f g Tolerance = e
pick a b c d e f g Every = f
pick a b c d e f g FrictionForm = g

picked : (a b c d e f g : Bool) (s : Single)
    → cond a (Some Step) (cond b (Some Steps) (cond c (Some Vapour) (cond d (Some Weight) (cond e (Some Tolerance) (cond f (Some Every) (cond g (Some FrictionForm) None)))))) ≡ Some s
    → pick a b c d e f g s ≡ true
picked true b c d e f g s h = let i : Step ≡ s = cc in subst (λ (x : Single). pick true b c d e f g x ≡ true) i refl
picked false true c d e f g s h = let i : Steps ≡ s = cc in subst (λ (x : Single). pick false true c d e f g x ≡ true) i refl
picked false false true d e f g s h = let i : Vapour ≡ s = cc in subst (λ (x : Single). pick false false true d e f g x ≡ true) i refl
picked false false false true e f g s h = let i : Weight ≡ s = cc in subst (λ (x : Single). pick false false false true e f g x ≡ true) i refl
picked false false false false true f g s h = let i : Tolerance ≡ s = cc in subst (λ (x : Single). pick false false false false true f g x ≡ true) i refl
picked false false false false false true g s h = let i : Every ≡ s = cc in subst (λ (x : Single). pick false false false false false true g x ≡ true) i refl
picked false false false false false false true s h = let i : FrictionForm ≡ s = cc in subst (λ (x : Single). pick false false false false false false true x ≡ true) i refl
picked false false false false false false false s h = absurd (cc)

-- the tests of a word for the seven
tests : (word : List ℕ) (s : Single)
    → pick (bytes_eq word (single_word Step)) (bytes_eq word (single_word Steps)) (bytes_eq word (single_word Vapour)) (bytes_eq word (single_word Weight))
    (bytes_eq word (single_word Tolerance)) (bytes_eq word (single_word Every)) (bytes_eq word (single_word FrictionForm)) s ≡ bytes_eq word (single_word s)
tests word Step = refl
tests word _ = refl

single_is_word : (word : List ℕ) (s : Single) → single_of word ≡ Some s → word ≡ single_word s
unfolding single_of
single_is_word word s h = (bytes_eq-Decides word (single_word s)).0 (sym (tests word s) ∙ picked (bytes_eq word (single_word Step)) (bytes_eq word (single_word Steps)) (bytes_eq word (single_word Vapour))
    (bytes_eq word (single_word Weight)) (bytes_eq word (single_word Tolerance)) (bytes_eq word (single_word Every)) (bytes_eq word (single_word FrictionForm)) s h)

no_single : (a b c : Bool) (s : Single) → cond a (Some OfPipe) (cond b (Some OfProbe) (cond c (Some OfWatch) None)) ≡ Some (OfSingle s) → ⊥
no_single true b c s h = cc
no_single false true c s h = cc
no_single false false true s h = cc
no_single false false false s h = cc

node_no : (o : Option NodeWord) (word : List ℕ) (s : Single) → node_or_other o word ≡ Some (OfSingle s) → ⊥
node_no (Some node) word s h = cc
node_no None word s h = no_single _ _ _ s h

table_no : (o : Option TableKind) (word : List ℕ) (s : Single) → table_or_other o word ≡ Some (OfSingle s) → ⊥
table_no (Some kind) word s h = cc
table_no None word s h = node_no (node_of word) word s h

single_only : (o : Option Single) (word : List ℕ) (s : Single) → single_or_other o word ≡ Some (OfSingle s) → o ≡ Some s
single_only (Some t) word s h = cc
single_only None word s h = absurd (table_no (table_of word) word s h)

-- the word of a single directive
pub word_of_single : (word : List ℕ) (s : Single) → directive_of word ≡ Some (OfSingle s) → word ≡ single_word s
unfolding directive_of
word_of_single word s h = single_is_word word s (single_only (single_of word) word s h)

-- and what that word says
pub word_says : (s : Single) → directive_of (single_word s) ≡ Some (OfSingle s)
unfolding directive_of single_of
word_says Step = refl
word_says _ = refl

-- two of them have one word where they are the same
words_apart : (s t : Single) → bytes_eq (single_word s) (single_word t) ≡ same_single s t
words_apart s t = same-tests _ _
    (λ h. let e : Some s ≡ Some t = let w = ap directive_of ((bytes_eq-Decides (single_word s) (single_word t)).0 h) in let a = word_says s in let b = word_says t in cc in true_same the_type s t (let i : s ≡ t = cc in i))
    (λ h. (bytes_eq-Decides (single_word s) (single_word t)).1 (ap single_word (same_true the_type tt s t h)))

-- whether a single directive is this one
abbrev pub is_this : Single → Option Single → Bool
is_this s None = false
is_this s (Some t) = same_single t s

this_by : (s : Single) (word : List ℕ) (o : Option Directive) → directive_of word ≡ o → (is_single_directive o && bytes_eq word (single_word s)) ≡ is_this s (single_in o)
this_by s word (Some (OfSingle t)) e = ap (λ (w : List ℕ). bytes_eq w (single_word s)) (word_of_single word t e) ∙ words_apart t s
this_by s word _ e = refl

pub single_is : (s : Single) (fields : List (List ℕ)) → is_single_of (single_word s) fields ≡ is_this s (single_in (directive_said fields))
unfolding is_single_of is_single directive_said
single_is s fields = this_by s (field fields 0) (directive_of (field fields 0)) refl

single_by : (o : Option Directive) → is_single_directive o ≡ is_some (single_in o)
single_by (Some OfPipe) = refl
single_by _ = refl

pub is_single_in : (fields : List (List ℕ)) → is_single fields ≡ is_some (single_in (directive_said fields))
unfolding is_single
is_single_in fields = single_by (directive_said fields)

single_only_in : (o : Option Directive) (t : Single) → single_in o ≡ Some t → o ≡ Some (OfSingle t)
single_only_in (Some (OfSingle s)) t e = cc
single_only_in _ t e = absurd (cc)

-- the first field of a line with a single directive
pub word_in : (fields : List (List ℕ)) (t : Single) → single_in (directive_said fields) ≡ Some t → field fields 0 ≡ single_word t
unfolding directive_said
word_in fields t e = word_of_single (field fields 0) t (single_only_in (directive_of (field fields 0)) t e)
