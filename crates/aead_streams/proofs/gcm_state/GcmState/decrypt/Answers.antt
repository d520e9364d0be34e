use Rattle.aead_streams.proofs.{Common.length, Common.refl, GcmTexts.further}
use Rattle.aead_streams.proofs.gcm_state.GcmState.decrypt.Goals as goal

pub returns-clause-text : goal.returns-clause-text
returns-clause-text c = λ nonce ad cipher holds.
    further c.args.key.now nonce cipher c.args.piece.now c.xor.new.piece (length cipher) refl (c.xor.ensures.text _ _ _ holds.stream)
