-- Pieces of a text that pass through a page one behind the other.
use Rattle.std.proofs.Common.{◌≡◌, ℕ, ◌+◌, ◌≤◌, List, [], ◌++◌, length, take, Option, sym, ◌∙◌, ap, subst, append_assoc, append-nil, arith, length-append}
use Rattle.std.proofs.Math.Seq.{take-append-add}
use Rattle.std.proofs.lemmas.List.{take-append-le}
use Rattle.surge_io.specs.Bytes.{Appends, AppendsFront}
use Rattle.surge_io.proofs.ByteLaws.{Appends-append}
use Rattle.surge_io.specs.Pages.{Passes, Adds, AddsFront, Finishes, FinishesFront}

-- a first part of what waits and of a piece lies behind what is gone
front_text : (gone waiting piece rest : List ℕ) (n : ℕ) → n ≤ length (waiting ++ piece) → gone ++ take n (waiting ++ piece) ≡ take (length gone + n) (((gone ++ waiting) ++ piece) ++ rest)
front_text gone waiting piece rest n h =
    let e : ((gone ++ waiting) ++ piece) ++ rest ≡ gone ++ ((waiting ++ piece) ++ rest) = ap (λ l. l ++ rest) (append_assoc gone waiting piece) ∙ append_assoc gone (waiting ++ piece) rest in
    sym (ap (take (length gone + n)) e ∙ take-append-add gone ((waiting ++ piece) ++ rest) n ∙ ap (λ l. gone ++ l) (take-append-le n (waiting ++ piece) rest h))

front_length : (gone waiting piece rest : List ℕ) (n : ℕ) → n ≤ length (waiting ++ piece) → length gone + n ≤ length (((gone ++ waiting) ++ piece) ++ rest)
front_length gone waiting piece rest n h =
    omega (arith, length-append ((gone ++ waiting) ++ piece) rest, length-append (gone ++ waiting) piece, length-append gone waiting, length-append waiting piece)

-- where only a first part of what waits and of a piece was appended, it is one of the text, the piece and the rest
pub front_of : (start before now : Option (List ℕ)) (waiting piece text rest : List ℕ) → Passes start before waiting text → AppendsFront before now (waiting ++ piece) → AppendsFront start now (text ++ piece ++ rest)
front_of start before now waiting piece text rest h f =
    let P : List ℕ → Type 0 = λ t. AppendsFront start now (t ++ piece ++ rest) in
    subst P h.2 (
      length h.0 + f.0,
      front_length h.0 waiting piece rest f.0 f.1,
      subst (Appends start now) (front_text h.0 waiting piece rest f.0 f.1) (Appends-append start before now h.0 (take f.0 (waiting ++ piece)) h.1 f.2),
    )

-- a page that was written
pub finishes_all : (before now : Option (List ℕ)) (waiting : List ℕ) → Appends before now waiting → Finishes before waiting now
finishes_all before now waiting a start text h =
    subst (Appends start now) h.2 (Appends-append start before now h.0 waiting h.1 a)

-- a page that was written in part
pub finishes_front : (before now : Option (List ℕ)) (waiting : List ℕ) → AppendsFront before now waiting → FinishesFront before waiting now
finishes_front before now waiting f start text rest h =
    let P : List ℕ → Type 0 = λ w. AppendsFront before now w in
    let Q : List ℕ → Type 0 = λ w. AppendsFront start now (w ++ rest) in
    subst Q (append-nil text) (front_of start before now waiting [] text rest h (subst P (sym (append-nil waiting)) f))

-- a page that was written in part before a piece was added
pub adds_nothing : (before now : Option (List ℕ)) (waiting piece : List ℕ) → FinishesFront before waiting now → AddsFront before waiting now piece
adds_nothing before now waiting piece f start text rest h =
    let P : List ℕ → Type 0 = λ w. AppendsFront start now w in
    subst P (sym (append_assoc text piece rest)) (f start text (piece ++ rest) h)

-- a piece that was written behind an empty page
pub adds_written : (before mid now : Option (List ℕ)) (waiting still piece : List ℕ) → Finishes before waiting mid → still ≡ [] → Appends mid now piece → Adds before waiting now still piece
adds_written before mid now waiting still piece f e k start text h = (
  text ++ piece,
  Appends-append start mid now text piece (f start text h) k,
  rw e (append-nil (text ++ piece)),
)

-- a piece that was written in part behind an empty page
pub adds_front : (before mid now : Option (List ℕ)) (waiting piece : List ℕ) → Finishes before waiting mid → AppendsFront mid now piece → AddsFront before waiting now piece
adds_front before mid now waiting piece f k start text rest h =
    front_of start mid now [] piece text rest (text, f start text h, append-nil text) k

-- ---- one behind the other

pub Adds-nothing : (before : Option (List ℕ)) (waiting : List ℕ) → Adds before waiting before waiting []
Adds-nothing before waiting start text h = subst (Passes start before waiting) (sym (append-nil text)) h

pub Adds-then : (before mid now : Option (List ℕ)) (waiting between still first next : List ℕ) → Adds before waiting mid between first → Adds mid between now still next → Adds before waiting now still (first ++ next)
Adds-then before mid now waiting between still first next h k start text p =
    subst (Passes start now still) (append_assoc text first next) (k start (text ++ first) (h start text p))

pub AddsFront-then : (before mid now : Option (List ℕ)) (waiting between first next rest : List ℕ) → Adds before waiting mid between first → AddsFront mid between now next → AddsFront before waiting now (first ++ next ++ rest)
AddsFront-then before mid now waiting between first next rest h k start text more p =
    let P : List ℕ → Type 0 = λ whole. AppendsFront start now whole in
    let e : ((text ++ first) ++ next) ++ (rest ++ more) ≡ (text ++ ((first ++ next) ++ rest)) ++ more = simp append_assoc in
    subst P e (k start (text ++ first) (rest ++ more) (h start text p))

pub AddsFront-more : (before now : Option (List ℕ)) (waiting first rest : List ℕ) → AddsFront before waiting now first → AddsFront before waiting now (first ++ rest)
AddsFront-more before now waiting first rest k start text more p =
    let P : List ℕ → Type 0 = λ whole. AppendsFront start now whole in
    let e : (text ++ first) ++ (rest ++ more) ≡ (text ++ (first ++ rest)) ++ more = simp append_assoc in
    subst P e (k start text (rest ++ more) p)
