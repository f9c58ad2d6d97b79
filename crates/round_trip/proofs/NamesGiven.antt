-- The names that lines define for one kind of parts, in file order, and the lines that define them.
use Rattle.std.proofs.Common.{ℕ, zero, suc, ◌+◌, ◌<◌, ◌≡◌, Bool, true, false, cond, List, [], ◌∷◌, length, get_or, map, Option, Some, None, refl, ap, subst, arith}
use Rattle.std.proofs.lemmas.List.Elements.{All-from_get_or}
use Rattle.std.specs.List.{All, cons_option}
use Rattle.case_model.specs.declared.cases.Table.{Table}
use Rattle.case_model.specs.declared.cases.Node.{Node}
use Rattle.case_model.specs.declared.cases.Pipe.{Pipe}
use Rattle.case_lines.specs.declared.words.Directive.{Directive}
use Rattle.case_lines.specs.declared.words.Directive.TheVariants.{OfSingle, OfTable, OfNode, OfPipe, OfProbe, OfWatch}
use Rattle.case_lines.specs.Fields.{field}
use Rattle.case_rules.specs.Said.{line_at, directive_said, defines}
use Rattle.case_rules.specs.Counts.{is_table, is_node, is_pipe}
use Rattle.netfile.specs.Built.{table_by, table_said, tables_from, node_by, node_said, nodes_from, pipe_of, pipe_by, pipe_said, pipes_from}
use Rattle.round_trip.specs.Writable.{AreApart}
use Rattle.round_trip.proofs.Apart.{IsNew, AreNew, apart_cons}

-- the second fields of the lines with such directives
abbrev pub names_by : (Option Directive → Bool) → List (List (List ℕ)) → List (List ℕ)
names_by p [] = []
names_by p (fields ∷ lines) = cond (p (directive_said fields)) (field fields 1 ∷ names_by p lines) (names_by p lines)

-- the names of the parts that lines say
table_one : (o : Option Directive) (line : ℕ) (fields : List (List ℕ)) (rest : List Table) (names : List (List ℕ)) → map (λ t. t.name) rest ≡ names
    → map (λ t. t.name) (cons_option (table_by o line fields) rest) ≡ cond (is_table o) (field fields 1 ∷ names) names
table_one None line fields rest names e = e
table_one (Some (OfSingle single)) line fields rest names e = e
table_one (Some (OfTable kind)) line fields rest names e = ap (λ l. field fields 1 ∷ l) e
table_one (Some (OfNode node)) line fields rest names e = e
table_one (Some OfPipe) line fields rest names e = e
table_one (Some OfProbe) line fields rest names e = e
table_one (Some OfWatch) line fields rest names e = e

node_one : (tables : List Table) (o : Option Directive) (line : ℕ) (fields : List (List ℕ)) (rest : List Node) (names : List (List ℕ)) → map (λ n. n.name) rest ≡ names
    → map (λ n. n.name) (cons_option (node_by tables o line fields) rest) ≡ cond (is_node o) (field fields 1 ∷ names) names
node_one tables None line fields rest names e = e
node_one tables (Some (OfSingle single)) line fields rest names e = e
node_one tables (Some (OfTable kind)) line fields rest names e = e
node_one tables (Some (OfNode node)) line fields rest names e = ap (λ l. field fields 1 ∷ l) e
node_one tables (Some OfPipe) line fields rest names e = e
node_one tables (Some OfProbe) line fields rest names e = e
node_one tables (Some OfWatch) line fields rest names e = e

pipe_one : (nodes : List Node) (o : Option Directive) (line : ℕ) (fields : List (List ℕ)) (rest : List Pipe) (names : List (List ℕ)) → map (λ p. p.name) rest ≡ names
    → map (λ p. p.name) (cons_option (pipe_by nodes o line fields) rest) ≡ cond (is_pipe o) (field fields 1 ∷ names) names
unfolding pipe_of
pipe_one nodes None line fields rest names e = e
pipe_one nodes (Some (OfSingle single)) line fields rest names e = e
pipe_one nodes (Some (OfTable kind)) line fields rest names e = e
pipe_one nodes (Some (OfNode node)) line fields rest names e = e
pipe_one nodes (Some OfPipe) line fields rest names e = ap (λ l. field fields 1 ∷ l) e
pipe_one nodes (Some OfProbe) line fields rest names e = e
pipe_one nodes (Some OfWatch) line fields rest names e = e

pub table_names : (line : ℕ) (lines : List (List (List ℕ))) → map (λ t. t.name) (tables_from line lines) ≡ names_by is_table lines
unfolding table_said
table_names line [] = refl
table_names line (fields ∷ lines) = table_one (directive_said fields) line fields (tables_from (line + 1) lines) (names_by is_table lines) (table_names (line + 1) lines)

pub node_names : (tables : List Table) (line : ℕ) (lines : List (List (List ℕ))) → map (λ n. n.name) (nodes_from tables line lines) ≡ names_by is_node lines
unfolding node_said
node_names tables line [] = refl
node_names tables line (fields ∷ lines) = node_one tables (directive_said fields) line fields (nodes_from tables (line + 1) lines) (names_by is_node lines) (node_names tables (line + 1) lines)

pub pipe_names : (nodes : List Node) (line : ℕ) (lines : List (List (List ℕ))) → map (λ p. p.name) (pipes_from nodes line lines) ≡ names_by is_pipe lines
unfolding pipe_said
pipe_names nodes line [] = refl
pipe_names nodes line (fields ∷ lines) = pipe_one nodes (directive_said fields) line fields (pipes_from nodes (line + 1) lines) (names_by is_pipe lines) (pipe_names nodes (line + 1) lines)

-- a line with such a directive, and this name behind it
record IsNameOf (p : Option Directive → Bool) (lines : List (List (List ℕ))) (name : List ℕ) (k : ℕ) : Type 0 where
  there : k < length lines
  such : p (directive_said (line_at lines k)) ≡ true
  named : field (line_at lines k) 1 ≡ name

name_later : (p : Option Directive → Bool) (fields : List (List ℕ)) (lines : List (List (List ℕ))) (name : List ℕ) (k : ℕ) → IsNameOf p lines name k → IsNameOf p (fields ∷ lines) name (suc k)
name_later p fields lines name k n = record { there = omega (arith, n.there); such = n.such; named = n.named }

place_later : (p : Option Directive → Bool) (fields : List (List ℕ)) (lines : List (List (List ℕ))) (name : List ℕ) → (k : ℕ) × IsNameOf p lines name k → (k : ℕ) × IsNameOf p (fields ∷ lines) name k
place_later p fields lines name h = (suc h.0, name_later p fields lines name h.0 h.1)

place_here : (p : Option Directive → Bool) (fields : List (List ℕ)) (lines : List (List (List ℕ))) (b : Bool) → p (directive_said fields) ≡ b
    → ((j : ℕ) → j < length (names_by p lines) → (k : ℕ) × IsNameOf p lines (get_or (names_by p lines) j []) k)
    → (i : ℕ) → i < length (cond b (field fields 1 ∷ names_by p lines) (names_by p lines)) → (k : ℕ) × IsNameOf p (fields ∷ lines) (get_or (cond b (field fields 1 ∷ names_by p lines) (names_by p lines)) i []) k
place_here p fields lines true e f zero h = (0, record { there = omega arith; such = e; named = refl })
place_here p fields lines true e f (suc i) h = place_later p fields lines (get_or (names_by p lines) i []) (f i (omega arith))
place_here p fields lines false e f i h = place_later p fields lines (get_or (names_by p lines) i []) (f i h)

-- the place of the line that defines a name
place_of : (p : Option Directive → Bool) (lines : List (List (List ℕ))) (i : ℕ) → i < length (names_by p lines) → (k : ℕ) × IsNameOf p lines (get_or (names_by p lines) i []) k
place_of p [] i h = absurd (omega arith)
place_of p (fields ∷ lines) i h = place_here p fields lines (p (directive_said fields)) refl (λ j l. place_of p lines j l) i h

-- what holds of the names on the lines holds of the names
pub all_given : (P : List ℕ → Type 0) (p : Option Directive → Bool) (lines : List (List (List ℕ))) → ((k : ℕ) → k < length lines → p (directive_said (line_at lines k)) ≡ true → P (field (line_at lines k) 1)) → All P (names_by p lines)
all_given P p lines f = All-from_get_or P (names_by p lines) [] (λ i h. let n = place_of p lines i h in subst P n.1.named (f n.0 n.1.there n.1.such))

-- no two lines define one name
abbrev pub AreOnce : List (List (List ℕ)) → Type 0
AreOnce lines = (name : List ℕ) (j k : ℕ) → j < length lines → k < length lines → defines name (line_at lines j) ≡ true → defines name (line_at lines k) ≡ true → j ≡ k

-- each line with such a directive defines its second field
abbrev pub AreDefining : (Option Directive → Bool) → List (List (List ℕ)) → Type 0
AreDefining p lines = (k : ℕ) → k < length lines → p (directive_said (line_at lines k)) ≡ true → defines (field (line_at lines k) 1) (line_at lines k) ≡ true

-- a line that gives a name defines it
defining : (p : Option Directive → Bool) (lines : List (List (List ℕ))) (name : List ℕ) (k : ℕ) → AreDefining p lines → IsNameOf p lines name k → defines name (line_at lines k) ≡ true
defining p lines name k d n = subst (λ (x : List ℕ). defines x (line_at lines k) ≡ true) n.named (d k n.there n.such)

-- two lines that give one name are one line
one_line : (p q : Option Directive → Bool) (lines : List (List (List ℕ))) (x y : List ℕ) (j k : ℕ) → AreOnce lines → AreDefining p lines → AreDefining q lines → IsNameOf p lines x j → IsNameOf q lines y k → x ≡ y → j ≡ k
one_line p q lines x y j k once d e m n same =
    once y j k m.there n.there (subst (λ (z : List ℕ). defines z (line_at lines j) ≡ true) same (defining p lines x j d m)) (defining q lines y k e n)

once_later : (fields : List (List ℕ)) (lines : List (List (List ℕ))) → AreOnce (fields ∷ lines) → AreOnce lines
once_later fields lines once name j k a b d e = let s : suc j ≡ suc k = once name (suc j) (suc k) (omega arith) (omega arith) d e in omega (arith, s)

defining_later : (p : Option Directive → Bool) (fields : List (List ℕ)) (lines : List (List (List ℕ))) → AreDefining p (fields ∷ lines) → AreDefining p lines
defining_later p fields lines d k h s = d (suc k) (omega arith) s

first_new : (p : Option Directive → Bool) (fields : List (List ℕ)) (lines : List (List (List ℕ))) → p (directive_said fields) ≡ true → AreOnce (fields ∷ lines) → AreDefining p (fields ∷ lines) → IsNew (field fields 1) (names_by p lines)
first_new p fields lines e once d j h same =
    let n = place_of p lines j h in
    let later = name_later p fields lines (get_or (names_by p lines) j []) n.0 n.1 in
    let m : IsNameOf p (fields ∷ lines) (field fields 1) 0 = record { there = omega arith; such = e; named = refl } in
    let z : 0 ≡ suc n.0 = one_line p p (fields ∷ lines) (field fields 1) (get_or (names_by p lines) j []) 0 (suc n.0) once d d m later same in
    omega (arith, z)

apart_here : (p : Option Directive → Bool) (fields : List (List ℕ)) (lines : List (List (List ℕ))) (b : Bool) → p (directive_said fields) ≡ b → AreOnce (fields ∷ lines) → AreDefining p (fields ∷ lines) → AreApart (names_by p lines)
    → AreApart (cond b (field fields 1 ∷ names_by p lines) (names_by p lines))
apart_here p fields lines true e once d f = apart_cons (field fields 1) (names_by p lines) (first_new p fields lines e once d) f
apart_here p fields lines false e once d f = f

-- the names of one kind are apart
pub apart_given : (p : Option Directive → Bool) (lines : List (List (List ℕ))) → AreOnce lines → AreDefining p lines → AreApart (names_by p lines)
apart_given p [] once d = λ i j h k e. absurd (omega arith)
apart_given p (fields ∷ lines) once d =
    apart_here p fields lines (p (directive_said fields)) refl once d (apart_given p lines (once_later fields lines once) (defining_later p fields lines d))

-- and so are those of two kinds, where no directive is of both
pub new_given : (p q : Option Directive → Bool) (lines : List (List (List ℕ))) → ((o : Option Directive) → p o ≡ true → q o ≡ true → ⊥) → AreOnce lines → AreDefining p lines → AreDefining q lines
    → AreNew (names_by p lines) (names_by q lines)
new_given p q lines other once d e = λ i h j l same.
    let m = place_of p lines i h in
    let n = place_of q lines j l in
    let s : m.0 ≡ n.0 = one_line p q lines (get_or (names_by p lines) i []) (get_or (names_by q lines) j []) m.0 n.0 once d e m.1 n.1 same in
    other (directive_said (line_at lines n.0)) (subst (λ (k : ℕ). p (directive_said (line_at lines k)) ≡ true) s m.1.such) n.1.such
