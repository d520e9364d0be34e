use Rattle.std.proofs.Common.{ap, drop, length, refl, subst, sym, take, ◌-◌, ◌∙◌}
use Rattle.single_part.proofs.{Common.AnswersOrSpoils, Common.deciphered, Common.decrypt_rows, Common.err_from_is_err_and, Common.first_row, Common.iv_length, Common.model_mode, Common.plain_or_zeros, Common.unless-err, Ciphering.refused_or_spoilt, Ciphering.decrypted_buffer, Ciphering.decrypted_is, Replies.refused_buffer}
use Rattle.single_part.proofs.ciphers.decrypt.Goals as goal

pub returns-in_err-needed : goal.returns-in_err-needed
returns-in_err-needed c =
    let p = err_from_is_err_and c.from_residual.result c.from_residual.ensures.1 in
    let mode = model_mode c.args.mode in
    let refused = unless-err _ _ _ (sym c.in_err-needed.ensures.value) in record {
      reply = refused_or_spoilt (first_row (decrypt_rows mode (length c.args.input.now) (length c.args.out.now)))
          (plain_or_zeros (length c.args.input.now - iv_length mode) (deciphered mode c.args.key.now (take (iv_length mode) c.args.input.now) (drop (iv_length mode) c.args.input.now)))
          c.from_residual.result _ c.in_err-needed.field-0.0 p.1 p.2 refused;
      buffer = refused_buffer c.args.out.now _ _ c.in_err-needed.field-0.0 refused;
    }

pub returns : goal.returns
returns c =
    let mode = model_mode c.args.mode in
    let vector = c.split_at.ensures.front ∙ ap (λ n. take n c.args.input.now) c.iv_length.ensures.value in
    let rest = c.split_at.ensures.back ∙ ap (λ n. drop n c.args.input.now) c.iv_length.ensures.value in record {
      reply = subst (AnswersOrSpoils c.decipher-answer.result) (decrypted_is mode c.args.key.now c.aes_key-aes.result c.args.input.now c.split_at.result.0.now c.split_at.result.1.now (length c.args.out.now) c.in_ok-needed.needed c.in_ok-needed.ensures.value vector rest c.aes_key-aes.ensures) c.decipher-answer.ensures.reply;
      buffer = decrypted_buffer mode c.args.key.now c.aes_key-aes.result c.args.input.now c.split_at.result.0.now c.split_at.result.1.now (length c.args.out.now) c.in_ok-needed.needed c.in_ok-needed.ensures.value vector rest c.aes_key-aes.ensures
          c.args.out.now c.decipher-answer.new.out refl c.in_ok-needed.ensures.room c.decipher-answer.ensures.buffer;
    }
