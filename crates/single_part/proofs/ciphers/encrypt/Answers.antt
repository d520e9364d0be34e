use Rattle.std.proofs.Common.{None, Ok, ap, arith, length, refl, subst, sym, take, ◌++◌, ◌∙◌, ◌≡◌, ◌≤◌}
use Rattle.single_part.proofs.Common.{AnswersLength, buffer_after, Computed, computed_unless, drawn_from, enciphered, encrypt_rows, encrypted, err_from_is_err_and, first_row, given, iv_length, length-take, model_mode, next_bytes, unless-err, unless-ok}
use Rattle.single_part.proofs.{Ciphering.vector_fits, Ciphering.sealed_is, Ciphering.sealed_buffer, Ciphering.part_length, Replies.refused_answer, Replies.kept_buffer, Replies.kept_stream}
use Rattle.single_part.proofs.ciphers.encrypt.Goals as goal

-- no row refuses the call
passed : (c : goal.After-drop-aes) → first_row (encrypt_rows (model_mode c.args.mode) (length c.args.input.now) (length c.args.out.now)) ≡ None
passed c = (unless-ok _ _ c.in_ok-needed.needed (sym c.in_ok-needed.ensures.value)).0

-- how many bytes are drawn
fits : (c : goal.After-drop-aes) → (c.iv_length.result ≤ c.in_ok-needed.needed) × (c.iv_length.result ≤ length c.args.out.now)
fits c =
    vector_fits (model_mode c.args.mode) (length c.args.input.now) c.in_ok-needed.needed (length c.args.out.now) c.iv_length.result c.in_ok-needed.ensures.value c.in_ok-needed.ensures.room
    c.iv_length.ensures.value

size : (c : goal.After-drop-aes) → length (take c.iv_length.result c.args.out.now) ≡ c.iv_length.result
size c = omega (arith, length-take c.iv_length.result c.args.out.now, (fits c).1)

vector_size : (c : goal.After-drop-aes) → length (take c.iv_length.result c.args.out.now) ≡ iv_length (model_mode c.args.mode)
vector_size c = size c ∙ c.iv_length.ensures.value

drawn_size : (c : goal.After-drop-aes) → length c.fill.new.out ≡ c.iv_length.result
drawn_size c = c.fill.auto.out ∙ size c

-- what is written
abbrev Sealed : goal.After-drop-aes → Type 0
Sealed c = c.encipher_behind.new.out ≡ c.fill.new.out ++ enciphered (model_mode c.args.mode) c.args.key.now c.fill.new.out c.args.input.now

sealed : (c : goal.After-drop-aes) → Sealed c
sealed c =
    sealed_is (model_mode c.args.mode) c.aes_key-aes.result c.args.key.now c.fill.new.out c.args.input.now c.args.out.now c.encipher_behind.new.out c.iv_length.result c.in_ok-needed.needed
    c.aes_key-aes.ensures c.iv_length.ensures.value (drawn_size c) (fits c).0 c.encipher_behind.ensures

vector : (c : goal.After-drop-aes) → c.fill.new.out ≡ next_bytes c.args.stream.now (iv_length (model_mode c.args.mode))
vector c = c.fill.ensures.bytes ∙ ap (next_bytes c.args.stream.now) (vector_size c)

sealed_size : (c : goal.After-drop-aes) → length c.encipher_behind.new.out ≡ c.in_ok-needed.needed
sealed_size c = c.encipher_behind.auto.out ∙ part_length c.args.out.now c.fill.new.out c.iv_length.result c.in_ok-needed.needed (drawn_size c) (fits c).1 c.in_ok-needed.ensures.room

-- what the call computes, by the vector
abbrev text : goal.After-drop-aes → Computed
text c = record { reply = given (c.fill.new.out ++ enciphered (model_mode c.args.mode) c.args.key.now c.fill.new.out c.args.input.now); drawn = iv_length (model_mode c.args.mode) }

pub returns-clause-reply : goal.returns-clause-reply
returns-clause-reply c =
    subst (λ iv. AnswersLength (Ok c.in_ok-needed.needed) (encrypted (model_mode c.args.mode) iv c.args.key.now c.args.input.now (length c.args.out.now)).reply) (vector c)
    (subst (λ o. AnswersLength (Ok c.in_ok-needed.needed) (computed_unless o (text c)).reply) (sym (passed c)) (refl, sym (sealed_size c) ∙ ap length (sealed c), refl))

pub returns-clause-buffer : goal.returns-clause-buffer
returns-clause-buffer c =
    sealed_buffer c.args.out.now c.fill.new.out c.encipher_behind.new.out _ c.iv_length.result c.in_ok-needed.needed (fits c).0 (drawn_size c) (sealed c) (ap length (sym (sealed c)) ∙ sealed_size c)
    ∙ ap (λ o. buffer_after c.args.out.now (computed_unless o (text c)).reply) (sym (passed c))
    ∙ ap (λ iv. buffer_after c.args.out.now (encrypted (model_mode c.args.mode) iv c.args.key.now c.args.input.now (length c.args.out.now)).reply) (vector c)

pub returns-clause-stream : goal.returns-clause-stream
returns-clause-stream c =
    c.fill.ensures.place ∙ ap (drawn_from c.args.stream.now) (vector_size c)
    ∙ ap (λ o. drawn_from c.args.stream.now (computed_unless o (text c)).drawn) (sym (passed c))
    ∙ ap (λ iv. drawn_from c.args.stream.now (encrypted (model_mode c.args.mode) iv c.args.key.now c.args.input.now (length c.args.out.now)).drawn) (vector c)

-- a refusal of the table
pub returns-in_err-needed : goal.returns-in_err-needed
returns-in_err-needed c =
    let p = err_from_is_err_and c.from_residual.result c.from_residual.ensures.1 in
    let refused = unless-err _ _ _ (sym c.in_err-needed.ensures.value) in record {
      reply = refused_answer c.from_residual.result _ _ p.0 c.in_err-needed.field-0.0 p.1 p.2 refused;
      buffer = kept_buffer c.args.out.now _ _ _ refused;
      stream = kept_stream c.args.stream.now _ _ _ refused;
    }
