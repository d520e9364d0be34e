use Rattle.callers.proofs.Common.{None, Some, Status, sym, ◌∙◌, ◌≡◌}
use Rattle.callers.proofs.caller.Caller.output_key.Goals as goal

clash : {s : Status} → Some s ≡ None → ⊥
clash e = cc

pub refuse_output_key-requires-clause-refused : goal.refuse_output_key-requires-clause-refused
refuse_output_key-requires-clause-refused g c κs within = λ cell operation at is none. clash (sym c.in-Some.is ∙ (c.output_key_refusal.ensures.refusal cell operation at is ∙ none))

pub derive_key-answer-requires-clause-due : goal.derive_key-answer-requires-clause-due
derive_key-answer-requires-clause-due g c κs within = λ cell operation at is. sym (c.output_key_refusal.ensures.refusal cell operation at is) ∙ c.in-None.is
