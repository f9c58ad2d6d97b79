use Rattle.std.proofs.Common.{arith, sym, length, rules}
use Rattle.std.proofs.lemmas.List.Sums.{position_or_len_is}
use Rattle.case_lines.specs.Texts.{is_blank}
use Rattle.case_lines.proofs.cutting.blank_place.Goals as goal

pub returns-then-is_blank-clause-value : goal.returns-then-is_blank-clause-value
returns-then-is_blank-clause-value c =
    sym (position_or_len_is is_blank c.args.bytes.now c.loop-i.i 0 (omega arith) c.loop-i.invariant (λ _. search rules))

pub returns-clause-value : goal.returns-clause-value
returns-clause-value c =
    sym (position_or_len_is is_blank c.args.bytes.now (length c.args.bytes.now) 0 (omega arith) (λ k h. c.loop-i.invariant k (omega arith)) (λ h. absurd (omega arith)))
