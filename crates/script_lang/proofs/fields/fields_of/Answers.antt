use Rattle.std.proofs.{Common.Ok, Common.ap, Common.subst, Common.sym, Common.◌∙◌, lemmas.Result.err_from_is_err_and}
use Rattle.script_lang.proofs.{Common.Fails, Common.Fields, Common.read_field, Common.read_fields, Common.shape, Rows.fields_end, Rows.fields_turn, Rows.fields_fail}
use Rattle.script_lang.proofs.fields.fields_of.Goals as goal

pub returns-in_err-field : goal.returns-in_err-field
returns-in_err-field c =
    let p = err_from_is_err_and c.from_residual.result c.from_residual.ensures.1 in
    let failed = fields_fail c.in_err-field.field-0.0 (shape c.args.row) c.loop-word.done.items c.loop-word.words c.in-Some.word.now _ c.in-Some.ensures
    (subst (λ (done : Fields). Fails c.in_err-field.field-0.0 (read_field (shape c.args.row) done c.in-Some.word.now)) c.deref.ensures.value c.in_err-field.ensures) in
    rw (p.1, p.2) (subst (Fails c.in_err-field.field-0.0) c.loop-word.invariant failed)

pub loop-word-preserved : goal.loop-word-preserved
loop-word-preserved c =
    ap (λ (done : Fields). read_fields (shape c.args.row) done c.next.new.self) c.in_ok-push.ensures.items
    ∙ sym (fields_turn (shape c.args.row) c.loop-word.done.items c.loop-word.words c.in-Some.word.now c.next.new.self c.in_ok-field.field c.in-Some.ensures
    (ap (λ (done : Fields). read_field (shape c.args.row) done c.in-Some.word.now) (sym c.deref.ensures.value) ∙ c.in_ok-field.ensures))
    ∙ c.loop-word.invariant

pub returns : goal.returns
returns c = sym c.loop-word.invariant ∙ fields_end (shape c.args.row) c.loop-word.done.items c.loop-word.words c.in_default-next.ensures.0 ∙ ap Ok (sym c.of.ensures)
