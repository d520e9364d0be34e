use Rattle.command_words.proofs.Common.{App, IfOk-weaker, app_of, app_of_fields, bare_command, generate_command, new_rule, on_top, option_rule, rule_of, run_command, with_rule, with_subcommand, ap, ap₂, codes, rules, true, ◌∙◌, ◌≡◌}
use Rattle.command_words.proofs.parser.program.Goals as goal

pub returns : goal.returns
returns c =
    let workers_is : rule_of c.option_arg.result ≡ option_rule (codes "workers") = c.option_arg.ensures.rule in
    let seed_is : rule_of c.option_arg-2.result ≡ option_rule (codes "seed") = c.option_arg-2.ensures.rule in
    let rules_is : rule_of c.option_arg-3.result ≡ option_rule (codes "rules") = c.option_arg-3.ensures.rule in
    let count_is : rule_of c.new-3.result ≡ new_rule (codes "count") = c.new-3.ensures.rule in
    let run_is : app_of c.in_ok-run.run' ≡ run_command = c.in_ok-run.ensures.shape c.option_arg-3.ensures.local
    ∙ ap₂ with_rule (c.in_ok-arg-2.ensures.shape c.option_arg-2.ensures.local
    ∙ ap₂ with_rule (c.in_ok-arg.ensures.shape c.option_arg.ensures.local ∙ ap₂ with_rule c.new.ensures.app workers_is) seed_is) rules_is in
    let generate_is : app_of c.in_ok-generate.generate ≡ generate_command = c.in_ok-generate.ensures.shape c.new-3.ensures.optional.1 ∙ ap₂ with_rule c.new-2.ensures.app count_is in
    let bare_is : app_of c.disable_help_subcommand.result ≡ bare_command = ap app_of_fields c.disable_help_subcommand.ensures
    ∙ ap (on_top (λ s. record s { disable_help_subcommand = true })) (ap app_of_fields c.disable_help_flag.ensures
    ∙ ap (on_top (λ s. record s { disable_help_flag = true })) (ap app_of_fields c.no_binary_name.ensures
    ∙ ap (on_top (λ s. record s { no_binary_name = true })) c.new-4.ensures.app)) in
    IfOk-weaker c.subcommand-2.result _ _ (λ command added. added.shape (search rules)
    ∙ ap₂ with_subcommand (c.in_ok-subcommand.ensures.shape (search rules) ∙ ap₂ with_subcommand bare_is (ap (λ (a : App). a.top) run_is)) (ap (λ (a : App). a.top) generate_is)) c.subcommand-2.ensures
