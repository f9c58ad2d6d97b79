use Rattle.std.proofs.Common.{arith, sym, length, ◌==◌}
use Rattle.std.proofs.lemmas.List.Sums.{position_or_len_is}
use Rattle.case_lines.proofs.cutting.mark_place.Goals as goal

pub returns-then-b-mark-clause-value : goal.returns-then-b-mark-clause-value
returns-then-b-mark-clause-value c =
    sym (position_or_len_is (λ b. b == c.args.mark) c.args.bytes.now c.loop-i.i 0 (omega arith) c.loop-i.invariant (λ _. grind arith))

pub returns-clause-value : goal.returns-clause-value
returns-clause-value c =
    sym (position_or_len_is (λ b. b == c.args.mark) c.args.bytes.now (length c.args.bytes.now) 0 (omega arith) (λ k h. c.loop-i.invariant k (omega arith)) (λ h. absurd (omega arith)))
