use Rattle.std.proofs.Common.{arith, sym, ◌∙◌}
use Rattle.command_words.proofs.Numbers.{written, unread, read_other, same_texts, other_texts}
use Rattle.command_words.proofs.values.number_to.Goals as goal

pub returns-in_default-clause-value : goal.returns-in_default-clause-value
returns-in_default-clause-value c = sym (unread c.args.most c.args.text.now _ c.parse.result (omega arith) c.parse.ensures.value.0 c.in_default.is)

pub returns-then-number-lt1-clause-value : goal.returns-then-number-lt1-clause-value
returns-then-number-lt1-clause-value c =
    sym (read_other c.args.most c.in-Ok.number c.args.text.now c.parse.result (omega arith) c.parse.ensures.value.0 c.in-Ok.is
    (λ low high same. let either = c.then-number-lt1.either in absurd (omega (arith, low, high, either))))

pub returns-then-ne-clause-value : goal.returns-then-ne-clause-value
returns-then-ne-clause-value c =
    sym (read_other c.args.most c.in-Ok.number c.args.text.now c.parse.result (omega arith) c.parse.ensures.value.0 c.in-Ok.is
    (λ low high same. other_texts c.format.result.now c.args.text.now c.ne.result c.ne.ensures c.if-ne.true (c.format.ensures.text ∙ same)))

pub returns-clause-value : goal.returns-clause-value
returns-clause-value c =
    sym (written c.args.most c.in-Ok.number c.args.text.now (omega arith) (omega arith) (omega arith)
    (sym c.format.ensures.text ∙ same_texts c.format.result.now c.args.text.now c.ne.result c.ne.ensures c.if-ne.false))
