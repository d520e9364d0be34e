use Rattle.std.proofs.Common.{arith, false, length, refl, subst, sym, true, ℕ, ◌∙◌, ◌≡◌}
use Rattle.crypto_specs.specs.Prelude.{aes_encrypt, ccm_text, gcm_text}
use Rattle.aead_streams.specs.CcmStates.{HoldsCcmText}
use Rattle.store_model.specs.Prelude.{aead_text, is_ccm, tag_bytes}
use Rattle.aead_states.specs.Runs.{cipher_of, plain_of}
use Rattle.aead_states.proofs.Parting.{text_by_ccm, text_by_gcm, length-plain, length-cipher, tag_is_ccm, tag_is_gcm}
use Rattle.aead_states.proofs.parts.Parts.tag.Goals as goal

pub returns-then-is_ccm : goal.returns-then-is_ccm
returns-then-is_ccm c = λ alg is encrypts nonce p ad text whole ea et h.
    let key = c.args.key.now in
    let t = tag_bytes alg in
    let e : is_ccm alg ≡ true = sym is ∙ sym c.is_ccm.ensures ∙ c.if-is_ccm.true in
    let plain = plain_of encrypts (ccm_text (aes_encrypt key) nonce) text in
    let s = text_by_ccm c.args.self.now encrypts alg key nonce p ad text plain e refl h in
    let n : length text ≡ p = whole e in
    let l : length plain ≡ length text = length-plain c.args.self.now encrypts alg key nonce p ad text (omega arith) s in
    c.tag.ensures t nonce ad plain (subst (λ (k : ℕ). HoldsCcmText c.args.self.now.ccm key t nonce k ad plain) (sym n ∙ sym l) s)
    ∙ tag_is_ccm encrypts alg key nonce ad text (cipher_of encrypts (aead_text alg key nonce) text) e

pub returns-else-is_ccm : goal.returns-else-is_ccm
returns-else-is_ccm c = λ alg is encrypts nonce p ad text whole ea et h.
    let key = c.args.key.now in
    let t = tag_bytes alg in
    let e : is_ccm alg ≡ false = sym is ∙ sym c.is_ccm.ensures ∙ c.if-is_ccm.false in
    let cipher = cipher_of encrypts (gcm_text (aes_encrypt key) nonce) text in
    let s = text_by_gcm c.args.self.now encrypts alg key nonce p ad text cipher e refl h in
    c.tag-else-is_ccm.ensures nonce ad cipher t s ea (et ∙ sym (length-cipher encrypts key nonce text))
    ∙ tag_is_gcm encrypts alg key nonce ad text (plain_of encrypts (aead_text alg key nonce) text) e
