use Rattle.aead_streams.proofs.{Common.HasTaken, Common.IsAt, Common.List, Common.Low32, Common.aes_encrypt, Common.arith, Common.gcm_text, Common.ghash_from, Common.hash_subkey, Common.increased, Common.initial_counter_block, Common.length, Common.length-append, Common.numbers_of, Common.subst, Common.sym, Common.ℕ, Common.◌++◌, Common.◌+◌, Common.◌≡◌, GcmTexts.further, GcmTexts.length-gcm_text}
use Rattle.aead_streams.proofs.gcm_state.GcmState.encrypt.Goals as goal

pub returns-clause-text : goal.returns-clause-text
returns-clause-text c = λ nonce ad plain holds.
    let key = c.args.key.now in
    further key nonce plain c.args.piece.now c.xor.new.piece _ (length-gcm_text key nonce plain) (c.xor.ensures.text _ _ _ holds.stream)

pub returns-clause-holds : goal.returns-clause-holds
returns-clause-holds c = λ nonce ad plain holds.
    let key = c.args.key.now in
    let piece = c.args.piece.now in
    let e = aes_encrypt key in
    let h : ℕ = hash_subkey e in
    let before = gcm_text e nonce plain in
    let after = returns-clause-text c nonce ad plain holds in
    let place : length before + length piece ≡ length (gcm_text e nonce (plain ++ piece)) =
    omega (arith, length-gcm_text key nonce plain, length-gcm_text key nonce (plain ++ piece), length-append plain piece) in
    record {
      hash = subst (λ (l : List ℕ). HasTaken c.update.new.self h (ghash_from h 0 (numbers_of ad)) l) (sym after) (c.update.ensures _ _ before holds.hash);
      stream = subst (λ (n : ℕ). IsAt c.xor.new.self e Low32 (increased (initial_counter_block e nonce) 1) n) place (c.xor.ensures.at _ _ _ holds.stream);
      first = holds.first;
    }
