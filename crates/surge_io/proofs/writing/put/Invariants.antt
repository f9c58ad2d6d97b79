use Rattle.std.proofs.Common.{ℕ, ◌-◌, ◌≤◌, List, Option, length, take}
use Rattle.surge_io.specs.Bytes.{Appends}
use Rattle.surge_io.proofs.writing.put.Given as goal

-- what has been written before a turn of the loop: the first `done` of the bytes
pub record IsWritten (before now : Option (List ℕ)) (faults_before faults_now done : ℕ) (bytes : List ℕ) : Type 0 where
  pub within : done ≤ length bytes
  pub appended : Appends before now (take done bytes)
  pub later : faults_before ≤ faults_now

abbrev pub invariant-loop-done : goal.invariant-loop-done
invariant-loop-done g l =
    IsWritten (g.K.Sink.held l.initial.out) (g.K.Sink.held l.out) (g.K.Sink.faults l.initial.out) (g.K.Sink.faults l.out) l.done l.bytes

abbrev pub decreases-loop-done : goal.decreases-loop-done
decreases-loop-done g l = length l.bytes - l.done
