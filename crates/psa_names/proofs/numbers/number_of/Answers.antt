use Rattle.std.proofs.Common.{arith, refl, sym, ◌+◌, ◌∙◌}
use Rattle.psa_names.proofs.Digits.{at_digit, at_end, below_next, fits, found, not_found, number_is}
use Rattle.psa_names.proofs.numbers.number_of.Goals as goal

pub returns-in-None : goal.returns-in-None
returns-in-None c =
    let none = at_digit c.args.base c.loop-c.value c.loop-c.c-index _ _ c.args.text.now c.loop-c-test.true refl c.in-None.ensures.value in
    sym (number_is c.args.base c.args.most (c.args.greatest + 1) c.args.text.now _ (omega arith) (omega arith) (sym none ∙ c.loop-c.invariant.read))

pub overflow_mul-value : goal.overflow_mul-value
overflow_mul-value c =
    let next = below_next c.args.base c.loop-c.c-index c.loop-c.value c.in-Some.digit (omega arith) (omega (arith, c.in-Some.ensures.below)) c.loop-c.invariant.below in
    omega (arith, fits (c.loop-c.c-index + 1) _ (omega arith) next)

pub overflow_add-value : goal.overflow_add-value
overflow_add-value c =
    let next = below_next c.args.base c.loop-c.c-index c.loop-c.value c.in-Some.digit (omega arith) (omega (arith, c.in-Some.ensures.below)) c.loop-c.invariant.below in
    omega (arith, fits (c.loop-c.c-index + 1) _ (omega arith) next)

pub loop-c-preserved : goal.loop-c-preserved
loop-c-preserved c = record {
  read = sym (at_digit c.args.base c.loop-c.value c.loop-c.c-index _ _ c.args.text.now c.loop-c-test.true refl c.in-Some.ensures.value) ∙ c.loop-c.invariant.read;
  below = below_next c.args.base c.loop-c.c-index c.loop-c.value c.in-Some.digit (omega arith) (omega (arith, c.in-Some.ensures.below)) c.loop-c.invariant.below;
}

pub returns-then-value-greatest : goal.returns-then-value-greatest
returns-then-value-greatest c =
    let all = sym (at_end c.args.base c.loop-c.value c.loop-c.c-index c.args.text.now c.loop-c-test.false) ∙ c.loop-c.invariant.read in
    sym (number_is c.args.base c.args.most (c.args.greatest + 1) c.args.text.now _ (omega arith) (omega arith) all
    ∙ found (c.args.greatest + 1) c.loop-c.value (omega (arith, c.if-value-greatest.true)))

pub returns-else-value-greatest : goal.returns-else-value-greatest
returns-else-value-greatest c =
    let all = sym (at_end c.args.base c.loop-c.value c.loop-c.c-index c.args.text.now c.loop-c-test.false) ∙ c.loop-c.invariant.read in
    sym (number_is c.args.base c.args.most (c.args.greatest + 1) c.args.text.now _ (omega arith) (omega arith) all
    ∙ not_found (c.args.greatest + 1) c.loop-c.value (omega (arith, c.if-value-greatest.false)))
