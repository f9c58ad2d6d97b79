-- Each kind of step, made where its needs are met, keeps the rule and tells the view after it.
use Rattle.std.proofs.Common.{◌≡◌, ℕ, ◌+◌, ◌<◌, ◌≤◌, List, length, get_or, set, sym, refl, ap, ◌∙◌, subst, arith}
use mathlib.Core.Option.{none}
use Rattle.std.proofs.lemmas.List.{length-set, set-get_or}
use Rattle.atomic_table.specs.Table.{Allows, step, keeps}
use Rattle.endhistory.specs.declared.views.Sizes.{Sizes}
use Rattle.endhistory.specs.declared.views.Writing.{Writing}
use Rattle.endhistory.specs.declared.views.Reading.{Reading}
use Rattle.endhistory.specs.declared.views.Role.{Role}
use Rattle.endhistory.specs.declared.views.Role.TheVariants.{AsWriter, AsReader}
use Rattle.endhistory.specs.declared.views.View.{View}
use Rattle.endhistory.specs.Blocks.{block, word_count}
use Rattle.endhistory.specs.Steps.{CheckNeeds, FillNeeds, PublishNeeds, TakeNeeds, PassNeeds, checked_view, filled_view, published_view, looked_view, taken_view, passed_view}
use Rattle.endhistory.specs.Rule.{Parts, Bounded}
use Rattle.endhistory.specs.Tells.{Here, in_role, Writes, Reads, checked, filled, published, looked, taken, passed}
use Rattle.endhistory.specs.Seats.{writing_of, reading_of, number_in}
use Rattle.endhistory.proofs.Functions.{put}
use Rattle.endhistory.proofs.SeatsKept.{St, reader_knows, writer_parts, reader_parts, writer_step, reader_step}
use Rattle.endhistory.proofs.PartsKept as kept

-- a load leaves the words
loaded : (z : Sizes) (s : St) (i : ℕ) (views : List View) → Bounded z record { words = s.words; homes = s.homes; views = views }
    → Bounded z record { words = set s.words i (get_or s.words i 0); homes = s.homes; views = views }
loaded z s i views r = subst (λ (ws : List ℕ). Bounded z record { words = ws; homes = s.homes; views = views }) (sym (set-get_or s.words i 0)) r

-- one writer has one view, and one reader one number and one view
as_writer : (me : Here) (f : Writing → Writing) (w w' : Writing) → me.0.role ≡ AsWriter w → me.0.role ≡ AsWriter w' → Writes me (f w') (in_role me.0 (AsWriter (f w)), me.1)
as_writer me f w w' is is' = ap (λ (v : Writing). let m : Here = (in_role me.0 (AsWriter (f v)), me.1) in m) (ap (writing_of me.0.sizes) (sym is ∙ is'))

as_reader : (me : Here) (f : Reading → Reading) (i i' : ℕ) (y y' : Reading) → me.0.role ≡ AsReader i y → me.0.role ≡ AsReader i' y' → Reads me i' (f y') (in_role me.0 (AsReader i (f y)), me.1)
as_reader me f i i' y y' is is' = ap (λ (t : Role). let m : Here = (in_role me.0 (AsReader (number_in t) (f (reading_of t))), me.1) in m) (sym is ∙ is')

module _ (z : Sizes) (slots id : ℕ) (me : Here) where
  pub checks : (w : Writing) (r word : ℕ) → me.0.role ≡ AsWriter w → CheckNeeds z word r → Allows (Bounded z) slots id me word (λ n. n) (checked (step slots word 0 0 none) me)
  checks w i word is needs s r _ at _ =
      let n : ℕ = get_or s.words word 0 in
      let did = kept.checks z me.0.blocks s.words w r.reading i n needs.reader (ap (λ (k : ℕ). get_or s.words k 0) needs.place) (writer_parts z s r id me.0 w at is) in (
        in_role me.0 (AsWriter (checked_view w i n)),
        keeps,
        tt,
        loaded z s word _ (writer_step z s r id me.0 w (checked_view w i n) s.words at is refl did.0),
        λ w' i' is' place. let same : i ≡ i' = let a : word ≡ 1 + i = needs.place in let b : word ≡ 1 + i' = place in omega arith in
            subst (λ (k : ℕ). Writes me (checked_view w' k n) (in_role me.0 (AsWriter (checked_view w i n)), me.1) × (get_or w'.known k 0 ≤ n)) same
            (as_writer me (λ v. checked_view v i n) w w' is is', subst (λ (v : Writing). get_or v.known i 0 ≤ n) (ap (writing_of me.0.sizes) (sym is ∙ is')) did.1),
      )

  pub fills : (w : Writing) (word x : ℕ) → me.0.role ≡ AsWriter w → FillNeeds z me.0.blocks w word x → Allows (Bounded z) slots id me word (λ _. x) (λ _. filled (step slots word x 0 none) me x)
  fills w word x is needs s r _ at _ = (
    in_role me.0 (AsWriter (filled_view w)),
    keeps,
    tt,
    writer_step z s r id me.0 w (filled_view w) (set s.words word x) at is (length-set s.words word x)
        (kept.fills z me.0.blocks s.words w r.reading word x r.sized.0 r.wide needs (writer_parts z s r id me.0 w at is)),
    λ w' is'. as_writer me filled_view w w' is is',
  )

  pub publishes : (w : Writing) (word x : ℕ) → me.0.role ≡ AsWriter w → PublishNeeds z w word x → Allows (Bounded z) slots id me word (λ _. x) (λ _. published (step slots word x 0 none) me x)
  publishes w word x is needs s r _ at _ = (
    in_role me.0 (AsWriter (published_view w)),
    keeps,
    tt,
    writer_step z s r id me.0 w (published_view w) (set s.words word x) at is (length-set s.words word x)
        (kept.publishes z me.0.blocks s.words w r.reading word x (let l : length s.words ≡ word_count z = r.wide in omega arith) r.sized.1 needs (writer_parts z s r id me.0 w at is)),
    λ w' is'. as_writer me published_view w w' is is',
  )

  pub looks : (i : ℕ) (y : Reading) → me.0.role ≡ AsReader i y → Allows (Bounded z) slots id me 0 (λ n. n) (looked (step slots 0 0 0 none) me)
  looks i y is s r _ at _ =
      let n : ℕ = get_or s.words 0 0 in
      let k = reader_knows z s r id me.0 i y at is in
      let did : Parts z me.0.blocks s.words r.writing (put r.reading i (looked_view y n)) × (y.seen ≤ n) × (n ≤ length me.0.blocks) =
      subst (λ (x : Reading). Parts z me.0.blocks s.words r.writing (put r.reading i (looked_view x n)) × (x.seen ≤ n) × (n ≤ length me.0.blocks)) (sym k.2)
      (kept.looks z me.0.blocks s.words r.writing r.reading i n k.0 refl (reader_parts z s r id me.0 i y at is)) in (
        in_role me.0 (AsReader i (looked_view y n)),
        keeps,
        tt,
        loaded z s 0 _ (reader_step z s r id me.0 i y (looked_view y n) s.words at is refl did.0),
        λ i' y' is'. (as_reader me (λ v. looked_view v n) i i' y y' is is', subst (λ (v : Reading). v.seen ≤ n) (ap reading_of (sym is ∙ is')) did.1, did.2),
      )

  pub takes : (i : ℕ) (y : Reading) (word : ℕ) → me.0.role ≡ AsReader i y → TakeNeeds z y word → Allows (Bounded z) slots id me word (λ n. n) (taken (step slots word 0 0 none) me)
  takes i y word is needs s r _ at _ =
      let n : ℕ = get_or s.words word 0 in
      let k = reader_knows z s r id me.0 i y at is in
      let did : Parts z me.0.blocks s.words r.writing (put r.reading i (taken_view y)) × (n ≡ get_or (block me.0.blocks y.next) y.taken 0) =
      subst (λ (x : Reading). Parts z me.0.blocks s.words r.writing (put r.reading i (taken_view x)) × (n ≡ get_or (block me.0.blocks x.next) x.taken 0)) (sym k.2)
      (kept.takes z me.0.blocks s.words r.writing r.reading i n word k.0 (subst (λ (x : Reading). TakeNeeds z x word) k.2 needs) refl (reader_parts z s r id me.0 i y at is)) in (
        in_role me.0 (AsReader i (taken_view y)),
        keeps,
        tt,
        loaded z s word _ (reader_step z s r id me.0 i y (taken_view y) s.words at is refl did.0),
        λ i' y' is'. (as_reader me taken_view i i' y y' is is', subst (λ (v : Reading). n ≡ get_or (block me.0.blocks v.next) v.taken 0) (ap reading_of (sym is ∙ is')) did.1),
      )

  pub passes : (i : ℕ) (y : Reading) (word x : ℕ) → me.0.role ≡ AsReader i y → PassNeeds z i y word x → Allows (Bounded z) slots id me word (λ _. x) (λ _. passed (step slots word x 0 none) me x)
  passes i y word x is needs s r _ at _ =
      let k = reader_knows z s r id me.0 i y at is in
      let inside : 1 + i < length s.words = let l : length s.words ≡ word_count z = r.wide in let m = k.0 in omega arith in
      let did : Parts z me.0.blocks (set s.words word x) r.writing (put r.reading i (passed_view y)) =
      subst (λ (v : Reading). Parts z me.0.blocks (set s.words word x) r.writing (put r.reading i (passed_view v))) (sym k.2)
      (kept.passes z me.0.blocks s.words r.writing r.reading i word x k.0 inside r.sized.1 (subst (λ (v : Reading). PassNeeds z i v word x) k.2 needs) (reader_parts z s r id me.0 i y at is)) in (
        in_role me.0 (AsReader i (passed_view y)),
        keeps,
        tt,
        reader_step z s r id me.0 i y (passed_view y) (set s.words word x) at is (length-set s.words word x) did,
        λ i' y' is'. as_reader me passed_view i i' y y' is is',
      )
