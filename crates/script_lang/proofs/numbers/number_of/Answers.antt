use Rattle.std.proofs.Common.{Some, ap, arith, drop, refl, sym, ◌+◌, ◌∙◌}
use Rattle.script_lang.proofs.{Common.number_from, Digits.number_is, Digits.found, Digits.not_found, Digits.no_number, Digits.next_digit, Digits.at_end}
use Rattle.script_lang.proofs.numbers.number_of.Goals as goal

pub returns-in-None : goal.returns-in-None
returns-in-None c =
    sym (number_is c.args.base c.args.most (c.args.greatest + 1) c.args.text.now _ (omega arith) (omega arith) c.loop-c.invariant
    ∙ no_number c.args.base c.loop-c.value c.loop-c.c-index _ (c.args.greatest + 1) c.args.text.now (omega arith) (omega arith) (omega arith) refl c.in-None.ensures.none)

pub loop-c-preserved : goal.loop-c-preserved
loop-c-preserved c =
    let p = c.in-Some.ensures.some in
    ap (λ v. number_from c.args.base v (drop (c.loop-c.c-index + 1) c.args.text.now)) p.2
    ∙ next_digit c.args.base c.loop-c.value c.loop-c.c-index _ p.0 c.args.text.now (omega arith) refl p.1 ∙ c.loop-c.invariant

pub returns-then-value-greatest : goal.returns-then-value-greatest
returns-then-value-greatest c =
    sym (number_is c.args.base c.args.most (c.args.greatest + 1) c.args.text.now (Some c.loop-c.value) (omega arith) (omega arith)
    (sym (at_end c.args.base c.loop-c.value c.loop-c.c-index c.args.text.now (omega arith)) ∙ c.loop-c.invariant)
    ∙ found (c.args.greatest + 1) c.loop-c.value (omega (arith, c.if-value-greatest.true)))

pub returns-else-value-greatest : goal.returns-else-value-greatest
returns-else-value-greatest c =
    sym (number_is c.args.base c.args.most (c.args.greatest + 1) c.args.text.now (Some c.loop-c.value) (omega arith) (omega arith)
    (sym (at_end c.args.base c.loop-c.value c.loop-c.c-index c.args.text.now (omega arith)) ∙ c.loop-c.invariant)
    ∙ not_found (c.args.greatest + 1) c.loop-c.value (omega (arith, c.if-value-greatest.false)))
