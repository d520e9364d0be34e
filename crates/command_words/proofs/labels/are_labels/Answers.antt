use Rattle.command_words.proofs.{Common.first_word, Common.label_named, Common.labels_in, Common.last_word, Common.split_once_first, Common.arith, Common.rules, Common.sym, Parts.is_label, Parts.is_no_label, Parts.at_last}
use Rattle.command_words.proofs.labels.are_labels.Goals as goal

pub returns-then-is_none : goal.returns-then-is_none
returns-then-is_none g c =
    let given = g.L.RuleList.labels c.args.rules.now in
    let parts = rw c.in-Some.is at (split_once_first 44 c.loop-word.rest.now c.split_once.result c.split_once.ensures.cases (omega arith)) in
    sym (is_no_label _ (labels_in given c.loop-word.rest.now) (labels_in given c.in-Some.more.now) (label_named given c.in-Some.word.now) c.labelled.result _ c.loop-word.invariant.read
    (first_word given c.loop-word.rest.now c.in-Some.word.now c.in-Some.more.now parts.0 parts.1 parts.2) c.labelled.ensures c.is_none.ensures c.if-is_none.true)

pub loop-word-preserved : goal.loop-word-preserved
loop-word-preserved g c =
    let given = g.L.RuleList.labels c.args.rules.now in
    let parts = rw c.in-Some.is at (split_once_first 44 c.loop-word.rest.now c.split_once.result c.split_once.ensures.cases (omega arith)) in
    record {
      text = search rules;
      read = is_label _ (labels_in given c.loop-word.rest.now) (labels_in given c.in-Some.more.now) (label_named given c.in-Some.word.now) c.labelled.result _ c.loop-word.invariant.read
          (first_word given c.loop-word.rest.now c.in-Some.word.now c.in-Some.more.now parts.0 parts.1 parts.2) c.labelled.ensures c.is_none.ensures c.if-is_none.false;
    }

pub returns : goal.returns
returns g c =
    let given = g.L.RuleList.labels c.args.rules.now in
    let parts = rw c.in_default.is at (split_once_first 44 c.loop-word.rest.now c.split_once.result c.split_once.ensures.cases (omega arith)) in
    at_last _ c.is_some.result (labels_in given c.loop-word.rest.now) (label_named given c.loop-word.rest.now) c.labelled-2.result c.loop-word.invariant.read (last_word given c.loop-word.rest.now parts)
    c.labelled-2.ensures c.is_some.ensures
