-- What runs, by the algorithm and the direction.
use Rattle.std.proofs.{Common.Bool, Common.List, Common.MatchBool, Common.[], Common.false, Common.length, Common.refl, Common.subst, Common.sym, Common.true, Common.ℕ, Common.◌≡◌, Common.◌≤◌, lemmas.Bool.MatchBool-at_true, lemmas.Bool.MatchBool-at_false}
use Rattle.crypto_specs.specs.Prelude.{aes_encrypt, ccm_tag, ccm_text, gcm_tag, gcm_text}
use Rattle.aead_streams.specs.{GcmStates.HoldsGcmData, GcmStates.HoldsGcmText, CcmStates.HoldsCcmData, CcmStates.HoldsCcmText}
use Rattle.aead_streams.proofs.{GcmTexts.length-gcm_text, CcmPayloads.length-ccm_text}
use Rattle.store_model.specs.Prelude.{aead_tag, aead_text, is_ccm, tag_bytes}
use Rattle.aead_states.specs.{declared.parts.Parts.Parts, Runs.cipher_of, Runs.plain_of, Runs.HoldsData, Runs.HoldsPayload}

module _ (r : Parts) (alg : ℕ) (key nonce : List ℕ) (a p : ℕ) (ad : List ℕ) where
  pub ccm_data : is_ccm alg ≡ true → HoldsData r alg key nonce a p ad → HoldsCcmData r.ccm key (tag_bytes alg) nonce a p ad
  ccm_data e h = MatchBool-at_true (HoldsCcmData r.ccm key (tag_bytes alg) nonce a p ad) (HoldsGcmData r.gcm key nonce ad) e h.part

  pub gcm_data : is_ccm alg ≡ false → HoldsData r alg key nonce a p ad → HoldsGcmData r.gcm key nonce ad
  gcm_data e h = MatchBool-at_false (HoldsCcmData r.ccm key (tag_bytes alg) nonce a p ad) (HoldsGcmData r.gcm key nonce ad) e h.part

  pub data_of_ccm : is_ccm alg ≡ true → HoldsCcmData r.ccm key (tag_bytes alg) nonce a p ad → HoldsData r alg key nonce a p ad
  data_of_ccm e h = record { part = subst (λ b. MatchBool b (HoldsCcmData r.ccm key (tag_bytes alg) nonce a p ad) (HoldsGcmData r.gcm key nonce ad)) (sym e) h }

module _ (r : Parts) (encrypts : Bool) (alg : ℕ) (key nonce : List ℕ) (p : ℕ) (ad text : List ℕ) where
  abbrev ByCcm : List ℕ → Type 0
  ByCcm plain = HoldsCcmText r.ccm key (tag_bytes alg) nonce p ad plain

  abbrev ByGcm : List ℕ → Type 0
  ByGcm cipher = HoldsGcmText r.gcm key nonce ad cipher

  abbrev plain : List ℕ
  plain = plain_of encrypts (ccm_text (aes_encrypt key) nonce) text

  abbrev cipher : List ℕ
  cipher = cipher_of encrypts (gcm_text (aes_encrypt key) nonce) text

  pub text_by_ccm : (other : List ℕ) → is_ccm alg ≡ true → plain ≡ other → HoldsPayload r encrypts alg key nonce p ad text → ByCcm other
  text_by_ccm other e q h = subst ByCcm q (MatchBool-at_true (ByCcm plain) (ByGcm cipher) e h.part)

  pub text_by_gcm : (other : List ℕ) → is_ccm alg ≡ false → cipher ≡ other → HoldsPayload r encrypts alg key nonce p ad text → ByGcm other
  text_by_gcm other e q h = subst ByGcm q (MatchBool-at_false (ByCcm plain) (ByGcm cipher) e h.part)

  pub ccm_by_text : (other : List ℕ) → is_ccm alg ≡ true → plain ≡ other → ByCcm other → HoldsPayload r encrypts alg key nonce p ad text
  ccm_by_text other e q h = record { part = subst (λ b. MatchBool b (ByCcm plain) (ByGcm cipher)) (sym e) (subst ByCcm (sym q) h) }

  pub gcm_by_text : (other : List ℕ) → is_ccm alg ≡ false → cipher ≡ other → ByGcm other → HoldsPayload r encrypts alg key nonce p ad text
  gcm_by_text other e q h = record { part = subst (λ b. MatchBool b (ByCcm plain) (ByGcm cipher)) (sym e) (subst ByGcm (sym q) h) }

-- ---- the text of no bytes

pub no_plain : (encrypts : Bool) (key nonce : List ℕ) → plain_of encrypts (ccm_text (aes_encrypt key) nonce) [] ≡ []
unfolding ccm_text
no_plain true key nonce = refl
no_plain false key nonce = refl

pub no_cipher : (encrypts : Bool) (key nonce : List ℕ) → cipher_of encrypts (gcm_text (aes_encrypt key) nonce) [] ≡ []
unfolding gcm_text
no_cipher true key nonce = refl
no_cipher false key nonce = refl

-- ---- text and tag of either algorithm

pub text_is_ccm : (alg : ℕ) (key nonce text : List ℕ) → is_ccm alg ≡ true → aead_text alg key nonce text ≡ ccm_text (aes_encrypt key) nonce text
text_is_ccm alg key nonce text e = rw e refl

pub text_is_gcm : (alg : ℕ) (key nonce text : List ℕ) → is_ccm alg ≡ false → aead_text alg key nonce text ≡ gcm_text (aes_encrypt key) nonce text
text_is_gcm alg key nonce text e = rw e refl

pub tag_is_ccm : (encrypts : Bool) (alg : ℕ) (key nonce ad text other : List ℕ) → is_ccm alg ≡ true →
    ccm_tag (aes_encrypt key) (tag_bytes alg) nonce ad (plain_of encrypts (ccm_text (aes_encrypt key) nonce) text) ≡ aead_tag alg key nonce ad (plain_of encrypts (aead_text alg key nonce) text) other
tag_is_ccm encrypts alg key nonce ad text other e = rw e refl

pub tag_is_gcm : (encrypts : Bool) (alg : ℕ) (key nonce ad text other : List ℕ) → is_ccm alg ≡ false →
    gcm_tag (aes_encrypt key) (tag_bytes alg) nonce ad (cipher_of encrypts (gcm_text (aes_encrypt key) nonce) text) ≡ aead_tag alg key nonce ad other (cipher_of encrypts (aead_text alg key nonce) text)
tag_is_gcm encrypts alg key nonce ad text other e = rw e refl

pub length-cipher : (encrypts : Bool) (key nonce text : List ℕ) → length (cipher_of encrypts (gcm_text (aes_encrypt key) nonce) text) ≡ length text
length-cipher true key nonce text = length-gcm_text key nonce text
length-cipher false key nonce text = refl

pub length-plain : (r : Parts) (encrypts : Bool) (alg : ℕ) (key nonce : List ℕ) (p : ℕ) (ad text : List ℕ) → length text ≤ p →
    HoldsCcmText r.ccm key (tag_bytes alg) nonce p ad (plain_of encrypts (ccm_text (aes_encrypt key) nonce) text) → length (plain_of encrypts (ccm_text (aes_encrypt key) nonce) text) ≡ length text
length-plain r true alg key nonce p ad text fits h = refl
length-plain r false alg key nonce p ad text fits h = length-ccm_text key nonce text h.counts.start p h.counts.nonce_length h.counts.payload_length h.counts.next fits
