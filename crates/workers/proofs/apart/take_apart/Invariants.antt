-- What holds while runners are taken apart.
use Rattle.std.specs.Prelude.{◌≡◌, ◌≤◌, ◌++◌, length, vec_capacity}
use Rattle.std.specs.Vec.Iter.{into_iter_items, into_iter_len}
use Rattle.workers.specs.Runs.{AreApart}
use Rattle.workers.proofs.apart.take_apart.Given as goal

abbrev pub invariant-loop-runner : goal.invariant-loop-runner
invariant-loop-runner g l = record {
  all : l.yielded ++ into_iter_items l.runner-iterator ≡ l.fn.runners.items;
  left : into_iter_len l.runner-iterator ≡ length (into_iter_items l.runner-iterator);
  apart : AreApart l.yielded l.parts.strands.items l.parts.writers.items l.parts.readers.items;
  strands : length l.fn.runners.items ≤ vec_capacity l.parts.strands;
  writers : length l.fn.runners.items ≤ vec_capacity l.parts.writers;
  readers : length l.fn.runners.items ≤ vec_capacity l.parts.readers;
}
