use Rattle.turn_history.proofs.{Common.[], Common.ap, Common.boxed_base, Common.boxed_stands, Common.replicate, Common.rules, Common.subst, Common.sym, Common.◌∙◌, Ends.opens}
use Rattle.turn_history.proofs.lock.HistoryLock.new.Goals as goal

pub new-requires-2 : goal.new-requires-2
new-requires-2 g c =
    let is = c.in-Ok-new.ensures.ok in
    rw c.in-Ok-slot_with.ensures.ok
    (opens g.V.Historic.by (boxed_stands g.V.Historic.stands) (boxed_base g.V.Historic.base) (g.V.Historic.base c.of.result.value) c.args.passes c.in-Ok-new.boxed c.requires.count.0 c.requires.count.1
    (subst (λ x. g.V.Historic.stands x [] (replicate c.args.passes [])) (sym is) c.requires.stands) (ap g.V.Historic.base (is ∙ sym c.of.ensures)))

pub out_of-requires : goal.out_of-requires
out_of-requires g c = (c.in-Ok-new.boxed, search rules)
