use Rattle.command_words.proofs.Common.{Rules, Seed, Workers, first_value-rows, found_of, option_id, ◌∙◌}
use Rattle.command_words.proofs.parser.settings_in.Goals as goal

pub returns : goal.returns
returns c =
    let found = found_of c.args.matches.now in λ i. record {
      workers = (c.get_str.ensures ∙ first_value-rows found (option_id Workers)) i;
      seed = (c.get_str-2.ensures ∙ first_value-rows found (option_id Seed)) i;
      rules = (c.get_str-3.ensures ∙ first_value-rows found (option_id Rules)) i;
    }
