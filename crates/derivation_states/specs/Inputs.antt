-- What the inputs of a derivation stand for.
use Rattle.std.specs.{Prelude.◌≡◌, Prelude.ℕ, Prelude.true, Prelude.false, Prelude.List, Prelude.[], Prelude.Option, Prelude.Some, Prelude.None, Prelude.is_some, Prelude.if◌then◌else◌, Prelude.◌==◌, Option.option_map}
use Rattle.secret_bytes.specs.Buffer.{IsClear, bytes_of}
use Rattle.store_model.specs.Prelude.{bytes_or_empty, DerivationWork, is_hkdf, salt_step}
use Rattle.derivation_states.specs.{Streams.hmac_key, declared.input.Input.Input, declared.inputs.Inputs.Inputs}

-- the bytes of an input, once it was given
abbrev pub given_bytes : Input → Option (List ℕ)
given_bytes i = if i.is_given then Some (bytes_of i.bytes) else None

-- an input that wasn't given, whose buffer is all zeros
pub record IsClearInput (i : Input) : Type 0 where
  pub absent : i.is_given ≡ false
  pub bytes : IsClear i.bytes

-- what stands at a step already, to which more is added
abbrev pub stands_at : Inputs → ℕ → List ℕ
stands_at i step = if step == salt_step then bytes_or_empty (given_bytes i.salt) else []

pub record IsClearInputs (i : Inputs) : Type 0 where
  pub cost : i.cost ≡ None
  pub salt : IsClearInput i.salt
  pub key : IsClearInput i.key
  pub info : IsClearInput i.info
  pub by_key : i.by_key ≡ false

-- the inputs are those of the work; and a PBKDF2 that has a salt or a password has a cost
pub record HoldsInputs (i : Inputs) (w : DerivationWork) : Type 0 where
  pub cost : i.cost ≡ w.cost
  pub salt : given_bytes i.salt ≡ w.salt
  pub key : given_bytes i.key ≡ option_map (hmac_key w) w.secret
  pub info : given_bytes i.info ≡ w.info
  pub by_key : i.by_key ≡ w.by_key
  pub salted : is_hkdf w.alg ≡ false → is_some w.salt ≡ true → is_some w.cost ≡ true
  pub costed : is_hkdf w.alg ≡ false → is_some w.secret ≡ true → is_some w.cost ≡ true
