use Rattle.command_words.proofs.{Common.found_of, Common.rows_of, Common.codes, Common.◌∙◌, Asked.Met, Asked.asks}
use Rattle.command_words.proofs.parser.command_in.Goals as goal

pub returns-in-Some-generate-default-clause-value : goal.returns-in-Some-generate-default-clause-value
returns-in-Some-generate-default-clause-value g c =
    let arm = c.in-Some-generate-default in
    let given = g.L.RuleList.labels c.args.rules.now in
    let rows = rows_of (found_of arm.count.now) in
    let met : Met c.args.matches.now arm.field-0-0.now rows = record { named = arm.ensures.name; kept = arm.ensures.rows } in
    c.generate_in.ensures.value given ∙ asks given c.args.matches.now (codes "generate") arm.field-0-0.now rows met arm.is-generate
