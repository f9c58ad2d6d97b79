use Rattle.std.proofs.Common.{refl, subst, sym}
use Rattle.std.proofs.lemmas.List.{get_or_read}
use Rattle.strands.proofs.Nodes.{hub-at-set, same-hub-set, side-loaded}
use Rattle.strands.specs.Spokes.{IsSameSpoke, IsSpokeAt, spoke_outer}
use Rattle.strands.specs.Blocks.{HasPoints}
use Rattle.strands.proofs.hubs.Hub.load.Goals as goal

pub returns-clause-loaded : goal.returns-clause-loaded
returns-clause-loaded g c =
    let old = c.args.self.now in
    let side = c.args.side in
    let x = c.index_mut.result.now in
    side-loaded old _ side c.load.new.self refl refl refl c.requires.there
    (λ d. subst (λ z. IsSameSpoke z c.load.new.self)
    (get_or_read old.spokes.items side x c.requires.there c.index_mut.ensures.value d)
    c.load.ensures.same)
    c.load.ensures.loaded

pub returns-clause-at : goal.returns-clause-at
returns-clause-at g c = λ law h points.
    let old = c.args.self.now in
    let side = c.args.side in
    let w = c.args.window in
    let s = c.args.start in
    let x = c.index_mut.result.now in
    let read = get_or_read old.spokes.items side x c.requires.there c.index_mut.ensures.value in
    let now = c.load.ensures.at law (subst (IsSpokeAt law w s) (sym (read x))
    (h.spokes side x c.requires.there))
    (subst (λ z. HasPoints w (spoke_outer law w s z) (g.B.Block.tells c.args.block.now)) (sym (read x)) (points x)) in
    hub-at-set law w s old _ side c.load.new.self
    (same-hub-set old _ side c.load.new.self refl refl c.requires.there
    (λ d. subst (λ z. IsSameSpoke z c.load.new.self) (read d) c.load.ensures.same)) refl refl now h
