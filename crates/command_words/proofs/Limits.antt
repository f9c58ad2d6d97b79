-- The numbers of a job lie within their limits.
use Rattle.std.proofs.Common.{◌≡◌, ◌≤◌, arith, refl, ap, subst, ℕ, Bool, true, false, Option, Some, None, codes}
use Rattle.std.specs.Prelude.{unwrap_or, option_map, option_and_then, if◌then◌else◌, is_some}
use Rattle.std.specs.Str.Parse.{digits_value, without_leading_plus}
use Rattle.clap.specs.Words.{Text, first_of, one_text, rows_of}
use Rattle.clap.specs.declared.parser.matches.Found.{Found}
use Rattle.clap.proofs.WalkLemmas.{one_text-rows}
use Rattle.command_words.specs.declared.job.Job.{Job}
use Rattle.command_words.specs.declared.job.Command.{Command}
use Rattle.command_words.specs.CommandLine.{HasIn, HasNumbers, IsJob, command_of, job_among, job_with, number_at, same, wants_number}

-- a number under a name, or another within the limits
within : (f : Found) (id : Text) (low high other : ℕ) → HasIn low high id f → low ≤ other → other ≤ high
    → (low ≤ unwrap_or (number_at id (rows_of f)) other) × (unwrap_or (number_at id (rows_of f)) other ≤ high)
unfolding number_at
within f id low high other has least most = rw (← one_text-rows f id) (go (one_text f id) refl)
  where
    go : (o : Option Text) → one_text f id ≡ o → (low ≤ unwrap_or (option_map (λ text. digits_value 10 (without_leading_plus text)) o) other)
        × (unwrap_or (option_map (λ text. digits_value 10 (without_leading_plus text)) o) other ≤ high)
    go None e = (least, most)
    go (Some t) e = ((has t e).least, (has t e).most)

record Limits (number : Option ℕ) (workers slots window : ℕ) : Type 0 where
  of_number : unwrap_or number 0 ≤ 999_999
  of_workers : (1 ≤ workers) × (workers ≤ 64)
  of_slots : (1 ≤ slots) × (slots ≤ 8)
  of_window : (1 ≤ window) × (window ≤ 256)

job_within : (wanted : Command) (number : Option ℕ) (workers slots window : ℕ) (job : Job) → Limits number workers slots window
    → job_with wanted number workers slots window ≡ Some job → IsJob job
unfolding job_with
job_within wanted number workers slots window job limits is = go (same (wants_number wanted) (is_some number)) is
  where
    go : (b : Bool) → (if b then Some (record { command = wanted; number = unwrap_or number 0; workers = workers; slots = slots; window = window }) else None) ≡ Some job → IsJob job
    go true e =
        let this : record { command = wanted; number = unwrap_or number 0; workers = workers; slots = slots; window = window } ≡ job = ap (λ (o : Option Job). unwrap_or o job) e in
        subst IsJob this (record {
          number_most = limits.of_number;
          workers_least = limits.of_workers.0;
          workers_most = limits.of_workers.1;
          slots_least = limits.of_slots.0;
          slots_most = limits.of_slots.1;
          window_least = limits.of_window.0;
          window_most = limits.of_window.1;
        })
    go false e = cc

pub job_limits : (f : Found) (job : Job) → HasNumbers f → job_among (rows_of f) ≡ Some job → IsJob job
unfolding job_among
job_limits f job has is = go (option_and_then command_of (first_of (codes "command") (rows_of f))) is
  where
    go : (o : Option Command) → option_and_then (λ wanted. job_with wanted (number_at (codes "number") (rows_of f))
        (unwrap_or (number_at (codes "workers") (rows_of f)) 4)
        (unwrap_or (number_at (codes "slots") (rows_of f)) 4)
        (unwrap_or (number_at (codes "window") (rows_of f)) 64)) o ≡ Some job → IsJob job
    go None e = cc
    go (Some wanted) e = job_within wanted _ _ _ _ job (record {
      of_number = (within f (codes "number") 0 999_999 0 has.of_number (omega arith) (omega arith)).1;
      of_workers = within f (codes "workers") 1 64 4 has.of_workers (omega arith) (omega arith);
      of_slots = within f (codes "slots") 1 8 4 has.of_slots (omega arith) (omega arith);
      of_window = within f (codes "window") 1 256 64 has.of_window (omega arith) (omega arith);
    }) e
