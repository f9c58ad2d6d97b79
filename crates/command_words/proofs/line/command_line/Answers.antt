use Rattle.std.proofs.lemmas.Result.{IfOk-weaker}
use Rattle.clap.specs.Words.{app_of, rule_of}
use Rattle.command_words.proofs.LineFacts.{built_up}
use Rattle.command_words.proofs.line.command_line.Goals as goal

pub returns : goal.returns
returns c = IfOk-weaker c.arg-5.result _ _ (λ last added. built_up
    (app_of c.new.result) (app_of c.in_ok-arg.field-0) (app_of c.in_ok-arg-2.field-0) (app_of c.in_ok-arg-3.field-0) (app_of c.in_ok-arg-4.field-0) (app_of last)
    (rule_of c.command_arg.result) (rule_of c.number_arg.result) (rule_of c.workers_arg.result) (rule_of c.slots_arg.result) (rule_of c.window_arg.result)
    c.new.ensures.app c.command_arg.ensures.rule c.number_arg.ensures.rule c.workers_arg.ensures.rule c.slots_arg.ensures.rule c.window_arg.ensures.rule
    (c.in_ok-arg.ensures.shape c.command_arg.ensures.local) (c.in_ok-arg-2.ensures.shape c.number_arg.ensures.local)
    (c.in_ok-arg-3.ensures.shape c.workers_arg.ensures.local) (c.in_ok-arg-4.ensures.shape c.slots_arg.ensures.local) (added.shape c.window_arg.ensures.local)) c.arg-5.ensures
