use Rattle.command_words.proofs.Common.{behind, first_word, labels_in, last_word, read_none, read_on, split_once_first, Some, [], ap, append-nil, arith, rules, sym, ◌∙◌}
use Rattle.command_words.proofs.labels.read_labels.Goals as goal

pub returns-in_default-labelled : goal.returns-in_default-labelled
returns-in_default-labelled g c =
    let given = g.L.RuleList.labels c.args.rules.now in
    let parts = rw c.in-Some.is at (split_once_first 44 c.loop-word.rest.now c.split_once.result c.split_once.ensures.cases (omega arith)) in
    sym (read_none _ _ (labels_in given c.in-Some.more.now) c.loop-word.labels.items _ c.loop-word.invariant.read (first_word given c.loop-word.rest.now c.in-Some.word.now c.in-Some.more.now parts.0 parts.1 parts.2)
    (sym c.labelled.ensures ∙ c.in_default-labelled.is))

pub loop-word-preserved : goal.loop-word-preserved
loop-word-preserved g c =
    let given = g.L.RuleList.labels c.args.rules.now in
    let parts = rw c.in-Some.is at (split_once_first 44 c.loop-word.rest.now c.split_once.result c.split_once.ensures.cases (omega arith)) in
    record {
      text = search rules;
      read =
          read_on _ _ (labels_in given c.in-Some.more.now) c.loop-word.labels.items _ c.in-Some-labelled.label c.loop-word.invariant.read
          (first_word given c.loop-word.rest.now c.in-Some.word.now c.in-Some.more.now parts.0 parts.1 parts.2)
          (sym c.labelled.ensures ∙ c.in-Some-labelled.is)
          ∙ ap (λ done. behind done (labels_in given c.in-Some.more.now)) (search rules);
    }

pub returns-in_default-labelled-2 : goal.returns-in_default-labelled-2
returns-in_default-labelled-2 g c =
    let given = g.L.RuleList.labels c.args.rules.now in
    let parts = rw c.in_default.is at (split_once_first 44 c.loop-word.rest.now c.split_once.result c.split_once.ensures.cases (omega arith)) in
    sym (read_none _ _ (Some []) c.loop-word.labels.items _ c.loop-word.invariant.read (last_word given c.loop-word.rest.now parts)
    (sym c.labelled-2.ensures ∙ c.in_default-labelled-2.is))

pub returns-in-Ok : goal.returns-in-Ok
returns-in-Ok g c =
    let given = g.L.RuleList.labels c.args.rules.now in
    let parts = rw c.in_default.is at (split_once_first 44 c.loop-word.rest.now c.split_once.result c.split_once.ensures.cases (omega arith)) in
    sym (read_on _ _ (Some []) c.loop-word.labels.items _ c.in-Some-labelled-2.label c.loop-word.invariant.read (last_word given c.loop-word.rest.now parts)
    (sym c.labelled-2.ensures ∙ c.in-Some-labelled-2.is)
    ∙ ap Some (append-nil _ ∙ sym c.in-Ok.ensures.items))
