use Rattle.std.proofs.Common.{ℕ, ◌+◌, ◌<◌, ◌∙◌, List, length, get_or, ap, subst, sym}
use Rattle.std.specs.List.{All}
use Rattle.case_model.specs.declared.points.Point.{Point}
use Rattle.case_model.specs.Range.{IsPoint, IsState}
use Rattle.case_model.specs.Rows.{row}
use Rattle.case_model.proofs.RowLaws.{near-good, node_ends-good, row-good}
use Rattle.strands.proofs.Nodes.{ends-made, near-is, state-made}
use Rattle.strands.specs.Spokes.{IsBeside}
use Rattle.strands.specs.declared.spokes.Spoke.{Spoke}
use Rattle.strands.proofs.hubs.Hub.ask.Goals as goal

pub node-requires-clause-own_in : goal.node-requires-clause-own_in
node-requires-clause-own_in g c =
    let law = g.L.Law.meaning c.args.law.now in
    let hub = c.args.self.now in
    subst IsState (sym c.requires.computed.state_is)
    ((row-good law c.keeps_range.ensures (c.args.at.start + c.args.at.done)).states hub.node)

pub node-requires-clause-near_in : goal.node-requires-clause-near_in
node-requires-clause-near_in g c =
    let law = g.L.Law.meaning c.args.law.now in
    let hub = c.args.self.now in
    let t = c.args.at.start + c.args.at.done in
    let is = near-is law c.args.at.window c.args.at.start c.args.at.done hub c.gather.new.near
    c.requires.computed c.requires.inside
    (c.gather.ensures.each ∙ ap length c.deref.ensures.value)
    (subst (λ (ys : List Spoke). (i : ℕ) (d : Point) (e : Spoke) → i < length ys
    → IsBeside t (get_or ys i e) (get_or c.gather.new.near i d))
    c.deref.ensures.value c.gather.ensures.beside) in
    subst (All IsPoint) (sym is) (near-good law.mesh (row law t) hub.node
    (row-good law c.keeps_range.ensures t))

pub returns-clause-state : goal.returns-clause-state
returns-clause-state g c =
    let law = g.L.Law.meaning c.args.law.now in
    let hub = c.args.self.now in
    let t = c.args.at.start + c.args.at.done in
    let is = near-is law c.args.at.window c.args.at.start c.args.at.done hub c.gather.new.near
    c.requires.computed c.requires.inside
    (c.gather.ensures.each ∙ ap length c.deref.ensures.value)
    (subst (λ (ys : List Spoke). (i : ℕ) (d : Point) (e : Spoke) → i < length ys
    → IsBeside t (get_or ys i e) (get_or c.gather.new.near i d))
    c.deref.ensures.value c.gather.ensures.beside) in
    state-made law t hub.node hub.state c.node.result c.gather.new.near c.requires.computed.state_is
    is c.node.ensures.state

pub returns-clause-ends : goal.returns-clause-ends
returns-clause-ends g c =
    let law = g.L.Law.meaning c.args.law.now in
    let hub = c.args.self.now in
    let t = c.args.at.start + c.args.at.done in
    let is = near-is law c.args.at.window c.args.at.start c.args.at.done hub c.gather.new.near
    c.requires.computed c.requires.inside
    (c.gather.ensures.each ∙ ap length c.deref.ensures.value)
    (subst (λ (ys : List Spoke). (i : ℕ) (d : Point) (e : Spoke) → i < length ys
    → IsBeside t (get_or ys i e) (get_or c.gather.new.near i d))
    c.deref.ensures.value c.gather.ensures.beside) in
    ends-made law t hub.node hub.state c.gather.new.near c.node.new.ends
    c.requires.computed.state_is is c.node.ensures.points

pub returns-clause-in_range : goal.returns-clause-in_range
returns-clause-in_range g c =
    let law = g.L.Law.meaning c.args.law.now in
    let hub = c.args.self.now in
    let t = c.args.at.start + c.args.at.done in
    let is = near-is law c.args.at.window c.args.at.start c.args.at.done hub c.gather.new.near
    c.requires.computed c.requires.inside
    (c.gather.ensures.each ∙ ap length c.deref.ensures.value)
    (subst (λ (ys : List Spoke). (i : ℕ) (d : Point) (e : Spoke) → i < length ys
    → IsBeside t (get_or ys i e) (get_or c.gather.new.near i d))
    c.deref.ensures.value c.gather.ensures.beside) in
    let made = ends-made law t hub.node hub.state c.gather.new.near c.node.new.ends
    c.requires.computed.state_is is c.node.ensures.points in
    subst (All IsPoint) (sym made) (node_ends-good law (t + 1) (row law t) hub.node
    c.keeps_range.ensures (row-good law c.keeps_range.ensures t))
