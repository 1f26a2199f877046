use Rattle.std.proofs.Common.{◌≡◌, codes, rules}
use Rattle.std.proofs.lemmas.Result.{IfOk-weaker}
use Rattle.clap.specs.Words.{app_of, rule_of, with_rule}
use Rattle.command_line.specs.Command.{history_argument, option_argument, program_argument}
use Rattle.command_line.proofs.Building.{bare, with_argument, with_option, without_help}
use Rattle.command_line.proofs.command.launch_command.Goals as goal

pub returns : goal.returns
returns c =
    let history_is : rule_of c.action.result ≡ history_argument = search rules in
    let program_is : rule_of c.required.result ≡ program_argument = search rules in
    let start : app_of c.disable_help_flag.result ≡ bare = without_help c.new.result c.disable_help_flag.result c.new.ensures.app c.disable_help_flag.ensures in
    let tree : app_of c.in_ok-arg.field-0 ≡ with_rule bare (option_argument (codes "tree")) =
    with_option c.disable_help_flag.result c.in_ok-arg.field-0 c.option.result bare (codes "tree") start c.option.ensures.rule c.option.ensures.local c.in_ok-arg.ensures in
    let stdin : app_of c.in_ok-arg-2.field-0 ≡ with_rule (with_rule bare (option_argument (codes "tree"))) (option_argument (codes "stdin")) =
    with_option c.in_ok-arg.field-0 c.in_ok-arg-2.field-0 c.option-2.result (with_rule bare (option_argument (codes "tree"))) (codes "stdin") tree c.option-2.ensures.rule c.option-2.ensures.local c.in_ok-arg-2.ensures in
    let workers : app_of c.in_ok-arg-3.field-0 ≡ with_rule (with_rule (with_rule bare (option_argument (codes "tree"))) (option_argument (codes "stdin"))) (option_argument (codes "workers")) =
    with_option c.in_ok-arg-2.field-0 c.in_ok-arg-3.field-0 c.option-3.result (with_rule (with_rule bare (option_argument (codes "tree"))) (option_argument (codes "stdin"))) (codes "workers") stdin c.option-3.ensures.rule c.option-3.ensures.local c.in_ok-arg-3.ensures in
    let turns : app_of c.in_ok-arg-4.field-0 ≡ with_rule (with_rule (with_rule (with_rule bare (option_argument (codes "tree"))) (option_argument (codes "stdin"))) (option_argument (codes "workers"))) (option_argument (codes "turns")) =
    with_option c.in_ok-arg-3.field-0 c.in_ok-arg-4.field-0 c.option-4.result (with_rule (with_rule (with_rule bare (option_argument (codes "tree"))) (option_argument (codes "stdin"))) (option_argument (codes "workers"))) (codes "turns") workers c.option-4.ensures.rule c.option-4.ensures.local c.in_ok-arg-4.ensures in
    let key : app_of c.in_ok-arg-5.field-0 ≡ with_rule (with_rule (with_rule (with_rule (with_rule bare (option_argument (codes "tree"))) (option_argument (codes "stdin"))) (option_argument (codes "workers"))) (option_argument (codes "turns"))) (option_argument (codes "key")) =
    with_option c.in_ok-arg-4.field-0 c.in_ok-arg-5.field-0 c.option-5.result (with_rule (with_rule (with_rule (with_rule bare (option_argument (codes "tree"))) (option_argument (codes "stdin"))) (option_argument (codes "workers"))) (option_argument (codes "turns"))) (codes "key") turns c.option-5.ensures.rule c.option-5.ensures.local c.in_ok-arg-5.ensures in
    let epoch : app_of c.in_ok-arg-6.field-0 ≡ with_rule (with_rule (with_rule (with_rule (with_rule (with_rule bare (option_argument (codes "tree"))) (option_argument (codes "stdin"))) (option_argument (codes "workers"))) (option_argument (codes "turns"))) (option_argument (codes "key"))) (option_argument (codes "epoch")) =
    with_option c.in_ok-arg-5.field-0 c.in_ok-arg-6.field-0 c.option-6.result (with_rule (with_rule (with_rule (with_rule (with_rule bare (option_argument (codes "tree"))) (option_argument (codes "stdin"))) (option_argument (codes "workers"))) (option_argument (codes "turns"))) (option_argument (codes "key"))) (codes "epoch") key c.option-6.ensures.rule c.option-6.ensures.local c.in_ok-arg-6.ensures in
    let history : app_of c.in_ok-arg-7.field-0 ≡ with_rule (with_rule (with_rule (with_rule (with_rule (with_rule (with_rule bare (option_argument (codes "tree"))) (option_argument (codes "stdin"))) (option_argument (codes "workers"))) (option_argument (codes "turns"))) (option_argument (codes "key"))) (option_argument (codes "epoch"))) history_argument =
    with_argument c.in_ok-arg-6.field-0 c.in_ok-arg-7.field-0 c.action.result (with_rule (with_rule (with_rule (with_rule (with_rule (with_rule bare (option_argument (codes "tree"))) (option_argument (codes "stdin"))) (option_argument (codes "workers"))) (option_argument (codes "turns"))) (option_argument (codes "key"))) (option_argument (codes "epoch"))) history_argument epoch history_is (search rules) c.in_ok-arg-7.ensures in
    IfOk-weaker c.arg-8.result _ _ (λ command adds. with_argument c.in_ok-arg-7.field-0 command c.required.result (with_rule (with_rule (with_rule (with_rule (with_rule (with_rule (with_rule bare (option_argument (codes "tree"))) (option_argument (codes "stdin"))) (option_argument (codes "workers"))) (option_argument (codes "turns"))) (option_argument (codes "key"))) (option_argument (codes "epoch"))) history_argument) program_argument history program_is (search rules) adds) c.arg-8.ensures
