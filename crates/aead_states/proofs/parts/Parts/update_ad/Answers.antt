use Rattle.std.proofs.Common.{sym, true, ◌++◌, ◌∙◌, ◌≡◌}
use Rattle.store_model.specs.Prelude.{is_ccm, tag_bytes}
use Rattle.aead_states.proofs.Parting.{ccm_data, data_of_ccm}
use Rattle.aead_states.proofs.parts.Parts.update_ad.Goals as goal

pub returns-then-is_ccm : goal.returns-then-is_ccm
returns-then-is_ccm c = λ alg is nonce a p ad fits h.
    let e : is_ccm alg ≡ true = sym is ∙ sym c.is_ccm.ensures ∙ c.if-is_ccm.true in
    data_of_ccm _ alg c.args.key.now nonce a p (ad ++ c.args.piece.now) e
    (c.update_ad.ensures (tag_bytes alg) nonce a p ad (fits e) (ccm_data c.args.self.now alg c.args.key.now nonce a p ad e h))
