use Rattle.std.proofs.Common.{◌≡◌, ◌<◌, get_or, length, sym, subst}
use Rattle.std.proofs.lemmas.List.Elements.{All-get_or}
use Rattle.case_model.specs.Limits.{IsJoined}
use Rattle.case_model.specs.Parts.{no_pipe}
use Rattle.reaches.proofs.Read.{read_as}
use Rattle.reaches.proofs.Joined.{met_more}
use Rattle.reaches.proofs.ends.all_ends.Goals as goal

pub loop-pipe-preserved : goal.loop-pipe-preserved
loop-pipe-preserved c =
    let case = c.args.case.now in
    let i = c.loop-pipe.pipe in
    let p = c.line-item.result in
    let s = c.as_slice-line-items.ensures in
    let h : i < length case.pipes = rw (← s) c.loop-pipe-test.true in
    let e : p ≡ get_or case.pipes i no_pipe = read_as c.as_slice-line-items.result.now case.pipes i p no_pipe c.line-item.is s h in
    let j : IsJoined (length case.nodes) p = subst (IsJoined (length case.nodes)) (sym e) (All-get_or (IsJoined (length case.nodes)) case.pipes i no_pipe h c.requires.joins) in
    met_more (length case.nodes) case.pipes i c.loop-pipe.ends.items c.add_both.new.ends.items p no_pipe c.loop-pipe.invariant (c.in_ok-add_both.ensures {u = tt}) h e j.first j.last
