-- What sources and sinks over memory show.
use Rattle.std.specs.Prelude.{ℕ, List}

-- what a source over memory has left, the most that one read gives, the calls that fail, counted
-- from 1, and its two counts
pub record Feed : Type 0 where
  pub left : List ℕ
  pub piece : ℕ
  pub failing : List ℕ
  pub calls : ℕ
  pub faults : ℕ

-- what a sink over memory holds, the most that it can hold, the calls that fail, counted from 1,
-- and its two counts
pub record Store : Type 0 where
  pub held : List ℕ
  pub room : ℕ
  pub failing : List ℕ
  pub calls : ℕ
  pub faults : ℕ
