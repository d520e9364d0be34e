use Rattle.session_host.proofs.{Common.IfOk, Common.IsNoted, Common.reply_of, Common.subst, Common.sym, Noted.noted}
use Rattle.session_host.proofs.answers.note.Goals as goal

pub returns-in-Ok-clause-noted : goal.returns-in-Ok-clause-noted
returns-in-Ok-clause-noted c =
    subst (λ answer. IfOk c.note_output.result (IsNoted c.args.replies.now c.note_output.new.replies c.args.rank (reply_of answer c.args.out.now))) (sym c.in-Ok.is) c.note_output.ensures.noted

pub returns-in-Err-clause-noted : goal.returns-in-Err-clause-noted
returns-in-Err-clause-noted c =
    subst (λ answer. IfOk c.note_bytes.result (IsNoted c.args.replies.now c.note_bytes.new.replies c.args.rank (reply_of answer c.args.out.now))) (sym c.in-Err.is)
    (noted c.note_bytes.result c.args.replies.now c.note_bytes.new.replies c.args.rank _ c.note_bytes.ensures.noted c.note_bytes.ensures.id)
