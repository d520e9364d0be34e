use Rattle.std.proofs.Common.{Bool, List, ap, false, sym, true, ℕ, ◌++◌, ◌∙◌, ◌≡◌}
use Rattle.crypto_specs.specs.Prelude.{aes_encrypt, ccm_text, gcm_text}
use Rattle.store_model.specs.Prelude.{is_ccm, tag_bytes}
use Rattle.key_policy.specs.Names.{is_ccm as is_ccm_kind}
use Rattle.aead_states.specs.Runs.{cipher_of, plain_of}
use Rattle.aead_states.proofs.Parting.{text_by_ccm, text_by_gcm, ccm_by_text, text_is_ccm, text_is_gcm}
use Rattle.aead_states.proofs.parts.Parts.xor.Goals as goal

pub returns-in-Ccm-true-clause-text : goal.returns-in-Ccm-true-clause-text
returns-in-Ccm-true-clause-text c = λ alg is nonce p ad text fits h.
    let key = c.args.key.now in
    let e : is_ccm alg ≡ true = sym is ∙ ap is_ccm_kind c.in-Ccm-true.is-0 in
    let s = text_by_ccm c.args.self.now c.args.encrypts alg key nonce p ad text text e (ap (λ (b : Bool). plain_of b (ccm_text (aes_encrypt key) nonce) text) c.in-Ccm-true.is-1) h in
    text_is_ccm alg key nonce (text ++ c.args.piece.now) e ∙ c.encrypt.ensures.text (tag_bytes alg) nonce p ad text (fits e) s
    ∙ ap (λ (l : List ℕ). l ++ c.encrypt.new.piece) (sym (text_is_ccm alg key nonce text e))

pub returns-in-Ccm-true-clause-holds : goal.returns-in-Ccm-true-clause-holds
returns-in-Ccm-true-clause-holds c = λ alg is nonce p ad text fits h.
    let key = c.args.key.now in
    let more = text ++ c.args.piece.now in
    let e : is_ccm alg ≡ true = sym is ∙ ap is_ccm_kind c.in-Ccm-true.is-0 in
    let s = text_by_ccm c.args.self.now c.args.encrypts alg key nonce p ad text text e (ap (λ (b : Bool). plain_of b (ccm_text (aes_encrypt key) nonce) text) c.in-Ccm-true.is-1) h in
    ccm_by_text _ c.args.encrypts alg key nonce p ad more more e (ap (λ (b : Bool). plain_of b (ccm_text (aes_encrypt key) nonce) more) c.in-Ccm-true.is-1)
    (c.encrypt.ensures.holds (tag_bytes alg) nonce p ad text (fits e) s)

pub returns-in-Ccm-false-clause-text : goal.returns-in-Ccm-false-clause-text
returns-in-Ccm-false-clause-text c = λ alg is nonce p ad text fits h.
    let key = c.args.key.now in
    let f = ccm_text (aes_encrypt key) nonce in
    let e : is_ccm alg ≡ true = sym is ∙ ap is_ccm_kind c.in-Ccm-false.is-0 in
    let s = text_by_ccm c.args.self.now c.args.encrypts alg key nonce p ad text (f text) e (ap (λ (b : Bool). plain_of b f text) c.in-Ccm-false.is-1) h in
    text_is_ccm alg key nonce (text ++ c.args.piece.now) e ∙ c.decrypt.ensures.text (tag_bytes alg) nonce p ad text (fits e) s
    ∙ ap (λ (l : List ℕ). l ++ c.decrypt.new.piece) (sym (text_is_ccm alg key nonce text e))

pub returns-in-Ccm-false-clause-holds : goal.returns-in-Ccm-false-clause-holds
returns-in-Ccm-false-clause-holds c = λ alg is nonce p ad text fits h.
    let key = c.args.key.now in
    let more = text ++ c.args.piece.now in
    let f = ccm_text (aes_encrypt key) nonce in
    let e : is_ccm alg ≡ true = sym is ∙ ap is_ccm_kind c.in-Ccm-false.is-0 in
    let s = text_by_ccm c.args.self.now c.args.encrypts alg key nonce p ad text (f text) e (ap (λ (b : Bool). plain_of b f text) c.in-Ccm-false.is-1) h in
    ccm_by_text _ c.args.encrypts alg key nonce p ad more (f more) e (ap (λ (b : Bool). plain_of b f more) c.in-Ccm-false.is-1)
    (c.decrypt.ensures.holds (tag_bytes alg) nonce p ad text (fits e) s)

pub returns-in-Gcm-true-clause-text : goal.returns-in-Gcm-true-clause-text
returns-in-Gcm-true-clause-text c = λ alg is nonce p ad text fits h.
    let key = c.args.key.now in
    let g = gcm_text (aes_encrypt key) nonce in
    let e : is_ccm alg ≡ false = sym is ∙ ap is_ccm_kind c.in-Gcm-true.is-0 in
    let s = text_by_gcm c.args.self.now c.args.encrypts alg key nonce p ad text (g text) e (ap (λ (b : Bool). cipher_of b g text) c.in-Gcm-true.is-1) h in
    text_is_gcm alg key nonce (text ++ c.args.piece.now) e ∙ c.encrypt-in-Gcm-true.ensures.text nonce ad text s
    ∙ ap (λ (l : List ℕ). l ++ c.encrypt-in-Gcm-true.new.piece) (sym (text_is_gcm alg key nonce text e))

pub returns-in-Gcm-false-clause-text : goal.returns-in-Gcm-false-clause-text
returns-in-Gcm-false-clause-text c = λ alg is nonce p ad text fits h.
    let key = c.args.key.now in
    let g = gcm_text (aes_encrypt key) nonce in
    let e : is_ccm alg ≡ false = sym is ∙ ap is_ccm_kind c.in-Gcm-false.is-0 in
    let s = text_by_gcm c.args.self.now c.args.encrypts alg key nonce p ad text text e (ap (λ (b : Bool). cipher_of b g text) c.in-Gcm-false.is-1) h in
    text_is_gcm alg key nonce (text ++ c.args.piece.now) e ∙ c.decrypt-in-Gcm-false.ensures.text nonce ad text s
    ∙ ap (λ (l : List ℕ). l ++ c.decrypt-in-Gcm-false.new.piece) (sym (text_is_gcm alg key nonce text e))
