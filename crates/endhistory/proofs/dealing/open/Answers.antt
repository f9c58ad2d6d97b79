use Rattle.std.proofs.Common.{◌≡◌, ℕ, List, [], replicate, sym, subst, ◌∙◌, rules}
use Rattle.atomic_table.specs.Table.{opening}
use Rattle.endhistory.specs.Blocks.{word_count}
use Rattle.endhistory.specs.Rule.{Bounded}
use Rattle.endhistory.specs.Tells.{first_view}
use Rattle.endhistory.proofs.SeatsKept.{starts}
use Rattle.endhistory.proofs.dealing.open.Goals as goal

pub of_words-requires : goal.of_words-requires
of_words-requires g c =
    let z = c.args.sizes in
    let items : c.in_ok-words.words.items ≡ replicate (word_count z) 0 = search rules in
    subst (λ (ws : List ℕ). Bounded z (opening {S = Unit {0}} ws [] (first_view z))) (sym (c.as_slice.ensures.value ∙ items)) (starts z c.requires.sizes.some_slots c.requires.sizes.some_width)
