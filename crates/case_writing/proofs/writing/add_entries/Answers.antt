use Rattle.std.proofs.Common.{arith, ◌∙◌}
use Rattle.std.specs.Prelude.{pos}
use Rattle.case_writing.specs.CaseText.{entry_text}
use Rattle.surge_io.proofs.Chains.{all_items, next_item, stopped_item}
use Rattle.case_writing.proofs.writing.add_entries.Goals as goal

pub returns-in_err-add : goal.returns-in_err-add
returns-in_err-add g c =
    stopped_item (entry_text c.args.kind) c.args.entries.now c.loop-entry.entry-index (pos 0, pos 0) (omega arith) (c.as_bytes.ensures ∙ c.entry_piece-piece.ensures) c.from_residual.ensures.0 c.loop-entry.invariant c.in_err-add.ensures.added

pub loop-entry-preserved : goal.loop-entry-preserved
loop-entry-preserved g c =
    next_item (entry_text c.args.kind) c.args.entries.now c.loop-entry.entry-index (pos 0, pos 0) (omega arith) (c.as_bytes.ensures ∙ c.entry_piece-piece.ensures) c.loop-entry.invariant c.in_ok-add.ensures.added

pub returns : goal.returns
returns g c = all_items (entry_text c.args.kind) c.args.entries.now c.loop-entry.entry-index (omega arith) c.loop-entry.invariant
