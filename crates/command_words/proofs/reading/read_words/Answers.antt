use Rattle.std.proofs.Common.{◌∙◌, sym}
use Rattle.clap.specs.Words.{found_of}
use Rattle.command_words.proofs.Limits.{job_limits}
use Rattle.command_words.proofs.reading.read_words.Goals as goal

pub returns-in-Some-clause-limits : goal.returns-in-Some-clause-limits
returns-in-Some-clause-limits c =
    job_limits (found_of c.in_ok-matches.matches) c.in-Some.job c.in_ok-matches.ensures.numbers (sym c.job_among_matches.ensures ∙ c.in-Some.is)
