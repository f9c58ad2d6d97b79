-- What a count of faults tells.
use Rattle.std.specs.Prelude.{ℕ, ◌+◌, ◌^◌, ◌-◌, ◌<◌, ◌≤◌, ◌⊎◌, ◌==◌, ◌&&◌, nat_lt, min}
use Rattle.std.specs.Prelude.{if◌then◌else◌, List, length, Result, Ok, Err}

-- a count of faults rose from before to now, or stands at the end of its type
abbrev pub Rose : ℕ → ℕ → Type 0
Rose before now = (before < now) ⊎ (2 ^ 64 - 1 ≤ now)

-- a count one higher, where its type has room for that
abbrev pub raised : ℕ → ℕ
raised count = min (count + 1) (2 ^ 64 - 1)

-- the count of faults behind a read: one higher where the read failed
abbrev pub faults_after_read : {E : Type 0} → Result ℕ E → ℕ → ℕ
faults_after_read (Ok _) faults = faults
faults_after_read (Err _) faults = raised faults

-- the count of faults behind a write of bytes: one higher where the write failed, or took none of a
-- nonempty piece
abbrev pub faults_after_write : {E : Type 0} → Result ℕ E → List ℕ → ℕ → ℕ
faults_after_write (Ok n) bytes faults =
    if (n == 0) && nat_lt 0 (length bytes) then raised faults else faults
faults_after_write (Err _) bytes faults = raised faults
