use Rattle.std.proofs.Common.{arith, to_z-of_z}
use Rattle.case_lines.specs.Texts.{lines_of}
use Rattle.netfile.specs.Built.{case_of}
use Rattle.netfile.proofs.building.case_of.Goals as goal

pub returns : goal.returns
unfolding case_of
returns c =
    let all = lines_of c.args.bytes.now in
    let t = c.requires.tally in
    grind (arith, to_z-of_z, t.version, c.in_ok-parts.ensures.tables, c.in_ok-parts.ensures.nodes, c.in_ok-parts.ensures.pipes, c.in_ok-parts.ensures.probes, c.single_amount-dt.ensures all t, c.single_amount-steps.ensures all t, c.single_amount-vapour.ensures all t, c.single_amount-weight.ensures all t, c.single_amount-tolerance.ensures all t, c.single_amount-every.ensures all t, c.friction_from.ensures all t)
