-- What a running chain stands for.
use Rattle.std.specs.Prelude.{◌≡◌, ℕ, List, [], ◌++◌, cond, eqb}
use Rattle.crypto_specs.specs.Prelude.{number_block, encoded_length, filled_blocks}
use Rattle.aead_ccm.specs.Chaining.{chained_from}
use Rattle.aead_streams.specs.declared.ccm_chain.Chain.{Chain}

-- the value of the chain once the rest of its text is taken in, and zeros fill the last block
abbrev pub chain_after : (List ℕ → List ℕ) → Chain → List ℕ → List ℕ
chain_after e c rest = chained_from e (number_block c.value) (filled_blocks (c.waiting ++ rest))

pub record IsClearChain (c : Chain) : Type 0 where
  pub value : c.value ≡ 0
  pub waiting : c.waiting ≡ []

-- what stands before a bytes of associated data: nothing where there are none (A.2.2)
abbrev pub data_front : ℕ → List ℕ
data_front a = cond (eqb a 0) [] (encoded_length a)
