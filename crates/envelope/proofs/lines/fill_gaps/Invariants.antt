use Rattle.std.proofs.Common.{◌≡◌, ℕ, ◌<◌, ◌≤◌, get_or, None}
use Rattle.envelope.specs.Lines.{told}
use Rattle.envelope.proofs.lines.fill_gaps.Given as goal
use Rattle.std.specs.Option.{option_or}

abbrev pub invariant-loop-index : goal.invariant-loop-index
invariant-loop-index l = record {
  filled : (j : ℕ) → j < l.index → told (get_or l.line j None) ≡ option_or (told (get_or l.fn.line j None)) (told (get_or l.other j None));
  later : (j : ℕ) → l.index ≤ j → get_or l.line j None ≡ get_or l.fn.line j None;
}
