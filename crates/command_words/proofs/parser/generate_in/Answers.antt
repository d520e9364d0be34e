use Rattle.command_words.proofs.{Common.Generate, Common.found_of, Common.None, Common.Some, Common.ap, Common.option_map, Common.◌∙◌, Asked.asks_count}
use Rattle.command_words.proofs.parser.generate_in.Goals as goal

pub returns-in_err-get_str-clause-value : goal.returns-in_err-get_str-clause-value
returns-in_err-get_str-clause-value c = λ given. c.from_residual.ensures ∙ asks_count given (found_of c.args.matches.now) None c.in_err-get_str.ensures

pub returns-in_err-count-clause-value : goal.returns-in_err-count-clause-value
returns-in_err-count-clause-value c = λ given.
    c.from_residual-in_err-count.ensures ∙ ap (option_map (λ count. Generate count)) c.in_err-count.ensures.value
    ∙ asks_count given (found_of c.args.matches.now) (Some c.in_ok-get_str.field-0.now) c.in_ok-get_str.ensures

pub returns-clause-value : goal.returns-clause-value
returns-clause-value c = λ given.
    ap (option_map (λ count. Generate count)) c.in_ok-count.ensures.value
    ∙ asks_count given (found_of c.args.matches.now) (Some c.in_ok-get_str.field-0.now) c.in_ok-get_str.ensures
