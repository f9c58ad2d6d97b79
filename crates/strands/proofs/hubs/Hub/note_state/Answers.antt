use Rattle.std.proofs.Common.{ℕ}
use Rattle.envelope.specs.Notings.{only, union}
use Rattle.envelope.specs.Notings.Noting.{OfNode}
use Rattle.strands.proofs.Marking.{IsSplit, agree-marked, union-marked}
use Rattle.strands.proofs.Nodes.{split-node}
use Rattle.strands.specs.Marks.{is_only, marked, or_marked}
use Rattle.strands.proofs.hubs.Hub.note_state.Goals as goal

pub returns-clause-stands : goal.returns-clause-stands
returns-clause-stands c = λ law marks numbered there e st.
    let node = c.args.self.now.node in
    let one = only c.args.step node (OfNode c.args.self.now.state) in
    let more = is_only c.args.step node in
    let split : (s k : ℕ) → IsSplit law one more s k = λ s k. split-node law node c.args.step
    c.args.self.now.state s k
    c.numbers_tell_places.ensures.place numbered there e in
    c.stands_for_equal_maps.ensures c.note_node.new.self (union (marked law marks) one)
    (marked law (or_marked marks more))
    (λ s k l i. union-marked law one marks more s k (split s k))
    (c.note_node.ensures.stands (marked law marks) st (agree-marked law one marks more split))
