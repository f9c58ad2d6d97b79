use Rattle.std.proofs.Common.{◌≡◌, map}
use Rattle.std.specs.List.{range_with_len}
use Rattle.case_lines.specs.Tables.{pair_at}
use Rattle.netfile.proofs.tables.pairs.Given as goal

abbrev pub invariant-loop-pair : goal.invariant-loop-pair
invariant-loop-pair l = l.found.items ≡ map (pair_at l.kind (map (λ f. f.now) l.fields)) (range_with_len 0 l.pair)
