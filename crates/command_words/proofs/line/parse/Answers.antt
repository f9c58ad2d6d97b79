use Rattle.std.proofs.Common.{map}
use Rattle.clap.specs.Words.{app_of, found_of, has_subcommand}
use Rattle.command_words.proofs.LineFacts.{none_taken, refused, rows_taken}
use Rattle.command_words.proofs.ValuesUnder.{has_numbers}
use Rattle.command_words.proofs.line.parse.Goals as goal

pub returns-in-Ok-try_get_matches_from_mut-clause-rows : goal.returns-in-Ok-try_get_matches_from_mut-clause-rows
returns-in-Ok-try_get_matches_from_mut-clause-rows c =
    rows_taken (app_of c.in-Ok.command) (map (λ w. w.now) c.args.words.now) c.in-Ok-try_get_matches_from_mut.matches c.in-Ok.ensures c.in-Ok-try_get_matches_from_mut.ensures.ok.2

pub returns-in-Ok-try_get_matches_from_mut-clause-taken : goal.returns-in-Ok-try_get_matches_from_mut-clause-taken
returns-in-Ok-try_get_matches_from_mut-clause-taken c =
    none_taken (app_of c.in-Ok.command) (map (λ w. w.now) c.args.words.now) c.in-Ok.ensures c.in-Ok-try_get_matches_from_mut.ensures.kinds

pub returns-in-Ok-try_get_matches_from_mut-clause-numbers : goal.returns-in-Ok-try_get_matches_from_mut-clause-numbers
returns-in-Ok-try_get_matches_from_mut-clause-numbers c =
    has_numbers c.in-Ok.command c.try_get_matches_from_mut.new.self (found_of c.in-Ok-try_get_matches_from_mut.matches) (has_subcommand c.in-Ok-try_get_matches_from_mut.matches)
    c.in-Ok.ensures c.in-Ok-try_get_matches_from_mut.ensures.fails c.in-Ok-try_get_matches_from_mut.ensures.after c.in-Ok-try_get_matches_from_mut.ensures.ok.1

pub returns-clause-refused : goal.returns-clause-refused
returns-clause-refused c = λ is.
    refused (app_of c.in-Ok.command) (map (λ w. w.now) c.args.words.now) c.in-Err-try_get_matches_from_mut.error c.in-Ok.ensures c.in-Err-try_get_matches_from_mut.ensures.kinds
    (c.fault.ensures is)
