use Rattle.std.proofs.Common.{◌≡◌, ◌+◌, refl, arith}
use Rattle.case_lines.specs.Texts.{lines_of}
use Rattle.case_rules.proofs.Tallied.{tallied_none, tallied_more, tallied_all, few_next}
use Rattle.case_rules.proofs.tally.tally_lines.Goals as goal

pub lines-init : goal.lines-init
lines-init c = record {
  tallied = tallied_none _ (lines_of c.args.bytes.now) c.in_ok-text_version.ensures refl c.new.ensures.empty c.new-2.ensures.empty c.no_parts.ensures c.no_parts-2.ensures c.no_parts-3.ensures refl c.new-3.ensures.items;
  few = record { lines = omega arith; tables = omega (arith, c.no_parts.ensures.0); nodes = omega (arith, c.no_parts-2.ensures.0); pipes = omega (arith, c.no_parts-3.ensures.0); probes = omega arith };
  within = omega arith;
}

pub lines-preserved : goal.lines-preserved
lines-preserved c =
    let e = rw c.in-Some.is at c.in_ok-line.ensures in
    let a = c.in_ok-add_line.ensures in
    record {
      tallied = tallied_more c.lines.tally c.add_line.new.tally c.in-Some.line (lines_of c.in-Some.others.now) (lines_of c.args.bytes.now) a (rw e.0 at c.lines.invariant.tallied);
      few = few_next c.lines.tally c.add_line.new.tally c.in-Some.line a c.lines.invariant.few;
      within = omega (arith, a.lines, e.1, c.lines.invariant.within);
    }

pub returns : goal.returns
returns c = let e = rw c.in_default.is at c.in_ok-line.ensures in tallied_all c.lines.tally (lines_of c.args.bytes.now) (rw e at c.lines.invariant.tallied)
