use Rattle.cipher_states.proofs.{Common.ap, Common.ap₂, Common.arith, Common.cipher_fresh, Common.due_now, Common.length, Common.sym, Common.takes_text, Common.total_limit, Common.true, Common.unless, Common.with_text, Common.◌+◌, Common.◌∙◌, Common.◌≡◌, Common.◌≤◌, RunningTexts.length-fresh, RunningTexts.update_rows, RunningTexts.no_room, RunningTexts.has_room}
use Rattle.cipher_states.proofs.running.RunningCipher.check_update.Goals as goal

pub returns-then-room-due-clause-value : goal.returns-then-room-due-clause-value
returns-then-room-due-clause-value c = λ w h input e.
    let s = c.args.self.now in
    let ready : takes_text w ≡ true = sym (c.takes_text.ensures w h) ∙ c.if-not-takes_text.false in
    let fits : length w.text + length input ≤ total_limit = omega (arith, s.limited, h.total, e, c.if-more-self.false) in
    let size = length-fresh s w h ready input ∙ ap (due_now s) e ∙ sym c.due-due.ensures in
    ap (λ o. unless o (length (cipher_fresh w (with_text w input)))) (sym (update_rows w input c.args.room c.due-due.result ready fits size ∙ no_room c.due-due.result c.args.room c.if-room-due.true))

pub returns-clause-value : goal.returns-clause-value
returns-clause-value c = λ w h input e.
    let s = c.args.self.now in
    let ready : takes_text w ≡ true = sym (c.takes_text.ensures w h) ∙ c.if-not-takes_text.false in
    let fits : length w.text + length input ≤ total_limit = omega (arith, s.limited, h.total, e, c.if-more-self.false) in
    let size = length-fresh s w h ready input ∙ ap (due_now s) e ∙ sym c.due-due.ensures in
    ap₂ unless (sym (update_rows w input c.args.room c.due-due.result ready fits size ∙ has_room c.due-due.result c.args.room c.if-room-due.false)) (sym size)
