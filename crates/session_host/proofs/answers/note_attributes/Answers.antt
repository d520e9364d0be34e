use Rattle.session_host.proofs.Common.{IfOk, NotesLine, Success, subst, ◌∙◌}
use Rattle.session_host.proofs.answers.note_attributes.Goals as goal

pub returns-in-Ok-clause-noted : goal.returns-in-Ok-clause-noted
returns-in-Ok-clause-noted c =
    subst (λ bytes. IfOk c.note_bytes.result (λ given. NotesLine c.args.replies.now c.note_bytes.new.replies c.args.rank Success bytes)) (c.deref.ensures.value ∙ c.in-Ok.ensures) c.note_bytes.ensures.noted
