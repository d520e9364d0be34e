use Rattle.admission.proofs.{Common.Some, Common.[], Common.ap, Common.append-nil, Common.arith, Common.labels_in, Common.map, Common.rules, Common.sym, Common.◌∙◌, Texts.first_word, Texts.last_word, Texts.read_on, Texts.read_none, Texts.behind}
use Rattle.std.proofs.lemmas.Str.Pattern.{split_once_first}
use Rattle.admission.proofs.words.read_labels.Goals as goal

pub returns-in_default-label_of : goal.returns-in_default-label_of
returns-in_default-label_of g c =
    let parts = rw c.in-Some.is at (split_once_first 44 c.loop-word.rest.now c.split_once.result c.split_once.ensures.cases (omega arith)) in
    sym (read_none _ _ (labels_in (map (λ rule. rule.label) c.args.rules.now) c.in-Some.more.now) c.loop-word.labels.items _ c.loop-word.invariant.read (first_word (map (λ rule. rule.label) c.args.rules.now) c.loop-word.rest.now c.in-Some.word.now c.in-Some.more.now parts.0 parts.1 parts.2)
    (sym c.label_of.ensures ∙ c.in_default-label_of.is))

pub loop-word-preserved : goal.loop-word-preserved
loop-word-preserved g c =
    let parts = rw c.in-Some.is at (split_once_first 44 c.loop-word.rest.now c.split_once.result c.split_once.ensures.cases (omega arith)) in
    record {
      text = search rules;
      read =
          read_on _ _ (labels_in (map (λ rule. rule.label) c.args.rules.now) c.in-Some.more.now) c.loop-word.labels.items _ c.in-Some-label_of.label c.loop-word.invariant.read
          (first_word (map (λ rule. rule.label) c.args.rules.now) c.loop-word.rest.now c.in-Some.word.now c.in-Some.more.now parts.0 parts.1 parts.2)
          (sym c.label_of.ensures ∙ c.in-Some-label_of.is)
          ∙ ap (λ done. behind done (labels_in (map (λ rule. rule.label) c.args.rules.now) c.in-Some.more.now)) (search rules);
    }

pub returns-in_default-label_of-2 : goal.returns-in_default-label_of-2
returns-in_default-label_of-2 g c =
    let parts = rw c.in_default.is at (split_once_first 44 c.loop-word.rest.now c.split_once.result c.split_once.ensures.cases (omega arith)) in
    sym (read_none _ _ (Some []) c.loop-word.labels.items _ c.loop-word.invariant.read (last_word (map (λ rule. rule.label) c.args.rules.now) c.loop-word.rest.now parts)
    (sym c.label_of-2.ensures ∙ c.in_default-label_of-2.is))

pub returns-in-Ok : goal.returns-in-Ok
returns-in-Ok g c =
    let parts = rw c.in_default.is at (split_once_first 44 c.loop-word.rest.now c.split_once.result c.split_once.ensures.cases (omega arith)) in
    sym (read_on _ _ (Some []) c.loop-word.labels.items _ c.in-Some-label_of-2.label c.loop-word.invariant.read (last_word (map (λ rule. rule.label) c.args.rules.now) c.loop-word.rest.now parts)
    (sym c.label_of-2.ensures ∙ c.in-Some-label_of-2.is)
    ∙ ap Some (append-nil _ ∙ sym c.in-Ok.ensures.items))
