-- The command line as data, what it refuses, and the job that the words name.
use Rattle.std.specs.Prelude.{◌≡◌, ◌≤◌, ℕ, Bool, true, false, List, Option, Some, None, codes, pos}
use Rattle.std.specs.Prelude.{is_some}
use Rattle.std.specs.Prelude.{option_map, option_and_then, unwrap_or, if◌then◌else◌, not, length}
use Rattle.std.specs.Prelude.{◌==◌}
use Rattle.std.specs.Str.{bytes_eq}
use Rattle.std.specs.Str.Parse.{IsNumeral, digits_value, without_leading_plus}
use Rattle.clap.specs.Words.{App, Row, Rule, Text, fault_of, first_of, matches_of, new_app}
use Rattle.clap.specs.Words.{new_rule, one_of, one_text, with_rule}
use Rattle.clap.specs.declared.parser.matches.Found.{Found}
use Rattle.clap.specs.Kinds.{Kinds}
use Rattle.clap.specs.declared.builder.value_parser.ValueParser.{ValueParser}
use Rattle.clap.specs.declared.builder.value_parser.ValueParser.TheVariants as vp
use Rattle.command_words.specs.declared.job.Job.{Job}
use Rattle.command_words.specs.declared.job.Command.{Command}
use Rattle.command_words.specs.declared.job.Command.TheVariants as command

-- ---- the most workers, the most slots of a history, and the most steps of a window

abbrev pub most_workers : ℕ
most_workers = 64

abbrev pub most_slots : ℕ
most_slots = 8

abbrev pub widest_window : ℕ
widest_window = 256

-- ---- the command line: two positionals and three options of one value each

abbrev pub command_rule : Rule
command_rule = record (new_rule (codes "command")) { required = true }

abbrev pub number_rule : Rule
number_rule = record (new_rule (codes "number")) { parser = Some (vp.Signed (pos 0) (pos 999_999)) }

abbrev pub option_rule : Text → ValueParser → Rule
option_rule name parser = record (new_rule name) { long = Some name; parser = Some parser }

abbrev pub workers_rule : Rule
workers_rule = option_rule (codes "workers") (vp.Signed (pos 1) (pos most_workers))

abbrev pub slots_rule : Rule
slots_rule = option_rule (codes "slots") (vp.Unsigned 1 most_slots)

abbrev pub window_rule : Rule
window_rule = option_rule (codes "window") (vp.Unsigned 1 widest_window)

unfoldable pub line : App
line = with_rule (with_rule (with_rule (with_rule (with_rule (new_app (codes "surge"))
    command_rule) number_rule) workers_rule) slots_rule) window_rule

-- ---- what the words say

-- the kinds of fault that this command line finds in the words; a request for help is one
unfoldable pub faults : List Text → Kinds
faults words = fault_of line words

-- and the values that it finds in them
unfoldable pub found : List Text → List Row
found words = matches_of line words

-- the command of this name
unfoldable pub command_of : Text → Option Command
command_of word =
    if bytes_eq word (codes "check") then Some command.Check
    else if bytes_eq word (codes "mesh") then Some command.Mesh
    else if bytes_eq word (codes "rounds") then Some command.Rounds
    else if bytes_eq word (codes "run") then Some command.Run
    else if bytes_eq word (codes "drill") then Some command.Drill
    else if bytes_eq word (codes "upgrade") then Some command.Upgrade
    else None

abbrev pub wants_number : Command → Bool
wants_number command.Drill = true
wants_number _ = false

-- the number that stands under this name, if any
unfoldable pub number_at : Text → List Row → Option ℕ
number_at id rows =
    option_map (λ text. digits_value 10 (without_leading_plus text)) (one_of id rows)

abbrev pub same : Bool → Bool → Bool
same true b = b
same false b = not b

-- a drill has a number, and nothing else has one; a job without one has the number 0
unfoldable pub job_with : Command → Option ℕ → ℕ → ℕ → ℕ → Option Job
job_with wanted number workers slots window =
    if same (wants_number wanted) (is_some number) then Some (record {
      command = wanted;
      number = unwrap_or number 0;
      workers = workers;
      slots = slots;
      window = window;
    }) else None

-- the job among the values that were found; an option that wasn't given has its default
unfoldable pub job_among : List Row → Option Job
job_among rows = option_and_then (λ wanted. job_with wanted (number_at (codes "number") rows)
    (unwrap_or (number_at (codes "workers") rows) 4)
    (unwrap_or (number_at (codes "slots") rows) 4)
    (unwrap_or (number_at (codes "window") rows) 64))
    (option_and_then command_of (first_of (codes "command") rows))

-- the job that the words name, or None where they are refused
unfoldable pub job_of : List Text → Option Job
job_of words = if length (faults words) == 0 then job_among (found words) else None

-- ---- what words without a fault have

-- the text is a number from low to high
pub record IsIn (low high : ℕ) (text : Text) : Type 0 where
  pub numeral : IsNumeral 10 (without_leading_plus text)
  pub least : low ≤ digits_value 10 (without_leading_plus text)
  pub most : digits_value 10 (without_leading_plus text) ≤ high

-- each text under this name is such a number
abbrev pub HasIn : ℕ → ℕ → Text → Found → Type 0
HasIn low high id f = (text : Text) → one_text f id ≡ Some text → IsIn low high text

pub record HasNumbers (f : Found) : Type 0 where
  pub of_number : HasIn 0 999_999 (codes "number") f
  pub of_workers : HasIn 1 most_workers (codes "workers") f
  pub of_slots : HasIn 1 most_slots (codes "slots") f
  pub of_window : HasIn 1 widest_window (codes "window") f

-- the numbers of a job lie within their limits
pub record IsJob (job : Job) : Type 0 where
  pub number_most : job.number ≤ 999_999
  pub workers_least : 1 ≤ job.workers
  pub workers_most : job.workers ≤ most_workers
  pub slots_least : 1 ≤ job.slots
  pub slots_most : job.slots ≤ most_slots
  pub window_least : 1 ≤ job.window
  pub window_most : job.window ≤ widest_window
