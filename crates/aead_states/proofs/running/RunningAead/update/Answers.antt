use Rattle.std.proofs.{Common.ap, Common.arith, Common.drop, Common.false, Common.length, Common.ℕ, Common.◌++◌, Common.◌+◌, Common.◌∙◌, Common.◌≡◌, lemmas.List.length-append, lemmas.List.length-drop}
use Rattle.psa_status.specs.Rows.{first_row}
use Rattle.store_model.specs.Prelude.{aead_update_rows, is_past_payload}
use Rattle.aead_states.specs.Counted.{with_begun_text}
use Rattle.aead_states.proofs.Passing.{text_passed, update_passed, fresh_given}
use Rattle.aead_states.proofs.running.RunningAead.update.Goals as goal

pub returns-clause-holds : goal.returns-clause-holds
returns-clause-holds c = λ w h.
    let p = text_passed w (length c.args.input.now) (c.in_ok-total.ensures.refusal w h) in
    let total : c.in_ok-total.total ≡ length w.text + length c.args.input.now = c.in_ok-total.ensures.total ∙ ap (λ (n : ℕ). n + length c.args.input.now) h.text in
    let past : is_past_payload w.lengths c.in_ok-total.total ≡ false = ap (is_past_payload w.lengths) total ∙ p.1 in
    c.xor_into.ensures.holds (with_begun_text w) (c.begin_text.ensures.holds w h p.0) past

pub returns-clause-buffer : goal.returns-clause-buffer
returns-clause-buffer c = λ w h.
    let input = c.args.input.now in
    let old = c.args.out.now in
    let out = c.xor_into.new.out in
    let passed = c.in_ok-total.ensures.refusal w h in
    let p = text_passed w (length input) passed in
    let total : c.in_ok-total.total ≡ length w.text + length input = c.in_ok-total.ensures.total ∙ ap (λ (n : ℕ). n + length input) h.text in
    let past : is_past_payload w.lengths c.in_ok-total.total ≡ false = ap (is_past_payload w.lengths) total ∙ p.1 in
    let long : length input ≡ length out = omega (arith, length-append out (drop (length input) old), length-drop (length input) old) in
    ap (λ (n : ℕ). out ++ drop n old) long
    ∙ fresh_given w input out old (first_row (aead_update_rows w input (length old))) (update_passed w input (length old) passed c.if-out-input.false)
    (c.xor_into.ensures.due (with_begun_text w) (c.begin_text.ensures.holds w h p.0) past)
