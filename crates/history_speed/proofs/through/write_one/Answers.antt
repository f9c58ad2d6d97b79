use Rattle.std.proofs.Common.{◌≡◌, ℕ, ◌<◌, List, length, sym, ◌∙◌, subst}
use Rattle.endhistory.specs.Blocks.{Blocks, block}
use Rattle.endhistory.specs.Seats.{writing, blocks_of}
use Rattle.history_speed.specs.Same.{same_blocks}
use Rattle.history_speed.proofs.SameBlocks.{same_length, same_at}
use Rattle.history_speed.proofs.through.write_one.Goals as goal

pub publish-requires-clause-words : goal.publish-requires-clause-words
publish-requires-clause-words c =
    let seat = c.vacancy.new.writer.seat in
    let width : ℕ = c.args.history.now.sizes.width in
    let count : ℕ = c.args.count in
    let number : ℕ = c.args.number in
    let words : List ℕ = c.args.words.now in
    let next : (writing seat).next ≡ number = c.vacancy.ensures.next ∙ c.requires.stands.2 in
    let blocks : blocks_of seat ≡ same_blocks count width = c.vacancy.ensures.blocks ∙ c.requires.stands.1 in
    let inside : number < length (same_blocks count width) = subst (λ (n : ℕ). number < n) (sym (same_length count width)) c.requires.words.0 in
    subst (λ (t : ℕ × Blocks). (t.0 < length t.1) × (words ≡ block t.1 t.0)) (λ i. (sym next i, sym blocks i))
    (inside, c.requires.words.1 ∙ sym (same_at count width number c.requires.words.0))
