use Rattle.std.proofs.Common.{◌≡◌, ◌∙◌, ◌++◌, ap, refl}
use Rattle.drill.specs.Network.{drill_text, heading, junctions_text, pipes_text}
use Rattle.drill.proofs.network.drill_text.Goals as goal

pub returns : goal.returns
unfolding drill_text heading
returns c =
    let first : c.extend_from_slice.new.self.items ≡ heading = rw (c.in_ok-extend_from_slice.ensures.items, c.new-text.ensures.items) refl in
    let second : c.add_junctions.new.text.items ≡ heading ++ junctions_text 100 = c.in_ok-add_junctions.ensures ∙ ap (λ l. l ++ junctions_text 100) first in
    c.in_ok-add_pipes.ensures ∙ ap (λ l. l ++ pipes_text c.args.number 100) second
