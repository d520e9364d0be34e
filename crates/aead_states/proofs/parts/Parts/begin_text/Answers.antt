use Rattle.std.proofs.Common.{[], false, subst, sym, true, ℕ, ◌∙◌, ◌≡◌}
use Rattle.aead_streams.specs.CcmStates.{HoldsCcmData}
use Rattle.store_model.specs.Prelude.{is_ccm, tag_bytes}
use Rattle.aead_states.proofs.Parting.{ccm_data, gcm_data, ccm_by_text, gcm_by_text, no_plain, no_cipher}
use Rattle.aead_states.proofs.parts.Parts.begin_text.Goals as goal

pub returns-then-is_ccm : goal.returns-then-is_ccm
returns-then-is_ccm c = λ alg is encrypts nonce a p ad whole h.
    let key = c.args.key.now in
    let t = tag_bytes alg in
    let e : is_ccm alg ≡ true = sym is ∙ sym c.is_ccm.ensures ∙ c.if-is_ccm.true in
    ccm_by_text _ encrypts alg key nonce p ad [] [] e (no_plain encrypts key nonce)
    (c.begin_text.ensures t nonce p ad
    (subst (λ (n : ℕ). HoldsCcmData c.args.self.now.ccm key t nonce n p ad) (sym (whole e)) (ccm_data c.args.self.now alg key nonce a p ad e h)))

pub returns-else-is_ccm : goal.returns-else-is_ccm
returns-else-is_ccm c = λ alg is encrypts nonce a p ad whole h.
    let key = c.args.key.now in
    let e : is_ccm alg ≡ false = sym is ∙ sym c.is_ccm.ensures ∙ c.if-is_ccm.false in
    gcm_by_text _ encrypts alg key nonce p ad [] [] e (no_cipher encrypts key nonce)
    (c.begin_text-else-is_ccm.ensures key nonce ad (gcm_data c.args.self.now alg key nonce a p ad e h))
