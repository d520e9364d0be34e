use Rattle.command_words.proofs.{Common.App, Common.IfErr-weaker, Common.IfOk-weaker, Common.app_of, Common.asked_of, Common.is_simple, Common.program, Common.subcommand_of, Common.takes, Common.ap, Common.map, Common.rules, Common.◌∙◌, Common.◌≡◌, Accepted.accepted}
use Rattle.command_words.proofs.parser.matches_of.Goals as goal

pub returns : goal.returns
returns c =
    let words = map (λ w. w.now) c.args.words.now in
    let program_is : app_of c.in_ok-program.field-0 ≡ program = search rules in
    let parse = c.try_get_matches_from in
    record {
      command = IfOk-weaker parse.result _ _ (λ m has given known.
          ap (asked_of given) ((has (ap is_simple program_is)).1 ∙ ap (λ (a : App). subcommand_of a words) program_is)
          ∙ (accepted given words known).command) parse.ensures.matches;
      memory = IfErr-weaker parse.result _ _ (λ e passes given known.
          passes (ap (λ (a : App). takes a words) program_is ∙ (accepted given words known).takes)) parse.ensures.passes;
    }
