-- What a call that writes tells of its sink, by what the sink holds and its count of faults: an
-- error comes only where the count rose in the call, and the count never falls.
use Rattle.std.specs.Prelude.{ℕ, ◌≤◌, List, Option, Result, OnOk, OnErr}
use Rattle.surge_io.specs.Bytes.{Appends, AppendsFront}
use Rattle.surge_io.specs.Faults.{Rose}
use Rattle.surge_io.specs.Pages.{Adds, AddsFront, Finishes, FinishesFront}

-- the sink got all of a text, or with an error a first part of it
pub record IsWritten {K T E : Type 0} (held : K → Option (List ℕ)) (faults : K → ℕ)
    (result : Result T E) (before now : K) (text : List ℕ) : Type 0 where
  pub all : OnOk result (Appends (held before) (held now) text)
  pub front : OnErr result (AppendsFront (held before) (held now) text)
  pub cause : OnErr result (Rose (faults before) (faults now))
  pub later : faults before ≤ faults now

-- a text was added behind all that had come through a page, or with an error the sink got a first
-- part of it
pub record IsAdded {K T E : Type 0} (held : K → Option (List ℕ)) (faults : K → ℕ)
    (result : Result T E) (before : K) (waiting : List ℕ) (now : K) (still text : List ℕ)
    : Type 0 where
  pub all : OnOk result (Adds (held before) waiting (held now) still text)
  pub front : OnErr result (AddsFront (held before) waiting (held now) text)
  pub cause : OnErr result (Rose (faults before) (faults now))
  pub later : faults before ≤ faults now

-- the sink got all that had come through a page, or with an error a first part of it
pub record IsFinished {K T E : Type 0} (held : K → Option (List ℕ)) (faults : K → ℕ)
    (result : Result T E) (before : K) (waiting : List ℕ) (now : K) : Type 0 where
  pub all : OnOk result (Finishes (held before) waiting (held now))
  pub front : OnErr result (FinishesFront (held before) waiting (held now))
  pub cause : OnErr result (Rose (faults before) (faults now))
  pub later : faults before ≤ faults now
