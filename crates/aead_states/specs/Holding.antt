-- What the state of an AEAD operation stands for.
use Rattle.std.specs.Prelude.{◌≡◌, true, false, [], length, is_some, IfSome, MatchBool}
use Rattle.store_model.specs.Prelude.{is_ccm, tag_bytes, Operation, bytes_or_empty, AeadWork, declared_payload}
use Rattle.key_policy.specs.Names.{is_ccm as is_ccm_kind}
use Rattle.multipart.specs.States.{StandsForOptional}
use Rattle.aead_states.specs.{declared.running.RunningAead.RunningAead, declared.state.AeadState.AeadState, DeclaredLengths.declared_ad, DeclaredLengths.declared_lengths, Runs.HoldsData, Runs.HoldsPayload, Runs.IsClearParts}

-- no key, and nothing that runs
pub record IsClearRunningAead (s : RunningAead) : Type 0 where
  pub key : s.key ≡ []
  pub parts : IsClearParts s.parts

abbrev pub IsClearAead : AeadState → Type 0
IsClearAead s = IfSome s.state.work IsClearRunningAead

-- before the nonce is there nothing was given
pub record IsUnbegun (w : AeadWork) : Type 0 where
  pub ad : w.ad ≡ []
  pub text : w.text ≡ []
  pub has_text : w.has_text ≡ false

-- the associated data is taken in, and no text
pub record IsInData (s : RunningAead) (w : AeadWork) : Type 0 where
  pub none : w.text ≡ []
  pub taken : HoldsData s.parts w.alg w.key (bytes_or_empty w.nonce) (declared_ad w.lengths) (declared_payload w.lengths) w.ad

-- the nonce is there, and with CCM so are the lengths
pub record IsBegun (s : RunningAead) (w : AeadWork) : Type 0 where
  pub lengths : is_ccm w.alg ≡ true → is_some w.lengths ≡ true
  pub part : MatchBool s.has_text
      (HoldsPayload s.parts w.encrypts w.alg w.key (bytes_or_empty w.nonce) (declared_payload w.lengths) w.ad w.text)
      (IsInData s w)

-- what was said and given, and what runs over it
pub record HoldsAead (s : RunningAead) (w : AeadWork) : Type 0 where
  pub encrypts : s.encrypts ≡ w.encrypts
  pub kind : is_ccm_kind s.aead.kind ≡ is_ccm w.alg
  pub tag : s.aead.tag_length ≡ tag_bytes w.alg
  pub key : s.key ≡ w.key
  pub has_key : s.has_key ≡ true
  pub lengths : declared_lengths s.lengths ≡ w.lengths
  pub has_nonce : s.has_nonce ≡ is_some w.nonce
  pub has_text : s.has_text ≡ w.has_text
  pub ad : s.ad ≡ length w.ad
  pub text : s.text ≡ length w.text
  pub stage : MatchBool s.has_nonce (IsBegun s w) (IsUnbegun w)

-- the state stands for this operation
abbrev pub IsAeadOperation : AeadState → Operation AeadWork → Type 0
IsAeadOperation s op = StandsForOptional IsClearRunningAead HoldsAead s.state op
