-- What a running CMAC (SP 800-38B) stands for.
use Rattle.std.specs.Prelude.{◌≡◌, ℕ, List, []}
use Rattle.crypto_specs.specs.Prelude.{IsKey}
use Rattle.cmac_ops.specs.{Chains.ChainHolds, Chains.IsWipedChain, declared.state.CmacState.CmacState}

-- the state has a key: it isn't wiped
abbrev pub IsKeyed : CmacState → Type 0
IsKeyed s = IsKey s.key

-- the state has this key, and has taken in this message
pub record HoldsCmac (s : CmacState) (k message : List ℕ) : Type 0 where
  pub key : s.key ≡ k
  pub chain : ChainHolds s.chain k message

-- the key's schedule and the buffers are zeros: a key that shows no bytes has none in its schedule
pub record IsWipedCmac (s : CmacState) : Type 0 where
  pub key : s.key ≡ []
  pub chain : IsWipedChain s.chain
