use Rattle.std.proofs.Common.{arith}
use Rattle.std.specs.Str.Parse.{ParsesUnsigned, ExplainsUnsignedError, HasUnsignedDigitsIfOk}
use Rattle.clap.specs.Words.{found_of}
use Rattle.command_words.proofs.Numbers.{read_number}
use Rattle.command_words.proofs.reading.wide_number.Goals as goal

pub returns : goal.returns
returns c =
    read_number (λ bs r. ParsesUnsigned 64 10 bs r × ExplainsUnsignedError 10 bs r × HasUnsignedDigitsIfOk bs r) 64 0 999_999 (found_of c.args.matches.now) c.args.id.now c.get_one.result
    c.requires (omega arith) (λ u x g. g.0) c.get_one.ensures.none c.get_one.ensures.value
