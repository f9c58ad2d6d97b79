use Rattle.std.proofs.Common.{rules, ◌≡◌, ℕ, List, [], ◌∷◌, ◌++◌, map, sym, ap, ◌∙◌, subst}
use Rattle.std.proofs.lemmas.List.{map-append}
use Rattle.std.proofs.lemmas.List.Elements.{All-append}
use Rattle.std.specs.List.{All, range_with_len}
use Rattle.endhistory.specs.declared.views.View.{View}
use Rattle.endhistory.specs.declared.history.Reader.{Reader}
use Rattle.endhistory.specs.Tells.{Here, dealing, dealt_of}
use Rattle.endhistory.specs.Seats.{Place, IsNewReader, blocks_of, reading, reading_of, number_of, number_in}
use Rattle.endhistory.proofs.InARow.{numbers_more, all_one}
use Rattle.endhistory.proofs.dealing.deal_readers.Goals as goal

pub loop-number-preserved : goal.loop-number-preserved
loop-number-preserved c =
    let inv = c.loop-number.invariant in
    let n : ℕ = c.loop-number.number in
    let reader : Reader = c.new.result in
    let number : Reader → ℕ = λ r. number_of r.seat in
    let items : c.push.new.self.items ≡ c.loop-number.readers.items ++ reader ∷ [] = c.in_ok-push.ensures.items in
    let New : Reader → Type 0 = λ r. IsNewReader c.args.top.now.table_id c.args.sizes (blocks_of c.args.seat.now) r.seat in
    let place = c.add_reader-place.ensures.reader in
    let new : New reader = record {
      at = record {
        table = ap (λ (s : Place). s.table_id) c.new.ensures ∙ place.0 ∙ inv.0 ∙ c.requires.at.0.table;
        words = c.requires.at.0.words;
        sizes = ap (λ (s : Place). s.me.0.sizes) c.new.ensures ∙ ap (λ (m : Here). m.0.sizes) place.1 ∙ ap (λ (v : View). v.sizes) inv.1 ∙ c.requires.at.0.sizes;
      };
      blocks_are = ap (λ (s : Place). blocks_of s) c.new.ensures ∙ ap (λ (m : Here). m.0.blocks) place.1 ∙ ap (λ (v : View). v.blocks) inv.1;
      view = ap (λ (s : Place). reading s) c.new.ensures ∙ ap (λ (m : Here). reading_of m.0.role) place.1;
    } in
    let numbered : number_of reader.seat ≡ n =
    ap (λ (s : Place). number_of s) c.new.ensures ∙ ap (λ (m : Here). number_in m.0.role) c.add_reader-place.ensures.reader.1 ∙ ap (λ (v : View). dealt_of v.role) inv.1 in (
      c.add_reader-place.ensures.seat.0 ∙ inv.0,
      c.add_reader-place.ensures.seat.1 ∙ ap dealing inv.1,
      search rules,
      subst (λ (rs : List Reader). All New rs) (sym items) (All-append New c.loop-number.readers.items (reader ∷ []) inv.3 (all_one New reader new)),
      ap (map number) items ∙ map-append number c.loop-number.readers.items (reader ∷ []) ∙ ap (λ (l : List ℕ). l ++ number_of reader.seat ∷ []) inv.4 ∙ ap (λ (k : ℕ). range_with_len 0 n ++ k ∷ []) numbered ∙ numbers_more [] n,
    )
