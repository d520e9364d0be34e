-- Calls and replies.
use Rattle.std.specs.{Prelude.ℕ, Prelude.◌-◌, Prelude.◌==◌, Prelude.List, Prelude.[], Prelude.◌++◌, Prelude.length, Prelude.drop, Prelude.replicate, Prelude.if◌then◌else◌, Int.w16, Int.w32, Int.w64, Int.to_be_bytes}
use Rattle.psa_status.specs.declared.Status.{Status}
use Rattle.key_attributes.specs.declared.Attributes.{Attributes}

-- a call, with its arguments; an output buffer stands here by its length
pub data Call : Type 0 where
  Import : (attributes : Attributes) (bytes : List ℕ) → Call
  Export : (id room : ℕ) → Call
  GetAttributes : (id : ℕ) → Call
  Destroy : (id : ℕ) → Call
  Purge : (id : ℕ) → Call
  Copy : (source : ℕ) (attributes : Attributes) → Call
  Generate : (attributes : Attributes) → Call
  HashCompute : (alg : ℕ) (input : List ℕ) (room : ℕ) → Call
  HashCompare : (alg : ℕ) (input hash : List ℕ) → Call
  MacCompute : (id alg : ℕ) (input : List ℕ) (room : ℕ) → Call
  MacVerify : (id alg : ℕ) (input mac : List ℕ) → Call
  CipherEncrypt : (id alg : ℕ) (input : List ℕ) (room : ℕ) → Call
  CipherDecrypt : (id alg : ℕ) (input : List ℕ) (room : ℕ) → Call
  AeadEncrypt : (id alg : ℕ) (nonce ad input : List ℕ) (room : ℕ) → Call
  AeadDecrypt : (id alg : ℕ) (nonce ad input : List ℕ) (room : ℕ) → Call

-- what a call gives back: `Nothing` is a refusal's, `Done` that of a success without a result
pub data Output : Type 0 where
  Nothing : Output
  Done : Output
  Identifier : (id : ℕ) → Output
  Description : (attributes : Attributes) → Output
  Bytes : (bytes : List ℕ) → Output
  Number : (number : ℕ) → Output

-- what a call answers: its status, what it gives back, and how much of an output buffer it writes
pub record Reply : Type 0 where
  pub status : Status
  pub output : Output
  pub needed : ℕ

-- attributes as bytes: lifetime, identifier, type, bits, usage, algorithm, and the second one where there is one, big-endian
abbrev pub attribute_bytes : Attributes → List ℕ
attribute_bytes a =
    to_be_bytes w32 a.lifetime.0 ++ to_be_bytes w32 a.id.0 ++ to_be_bytes w16 a.key_type.0 ++ to_be_bytes w16 a.bits
    ++ to_be_bytes w32 a.policy.usage.0 ++ to_be_bytes w32 a.policy.alg.0 ++ (if a.policy.alg2.0 == 0 then [] else to_be_bytes w32 a.policy.alg2.0)

abbrev pub output_bytes : Output → List ℕ
output_bytes (Identifier id) = to_be_bytes w32 id
output_bytes (Description attributes) = attribute_bytes attributes
output_bytes (Bytes bytes) = bytes
output_bytes (Number number) = to_be_bytes w64 number
output_bytes _ = []

-- what is given through an output buffer
abbrev pub buffer_bytes : Output → List ℕ
buffer_bytes (Bytes bytes) = bytes
buffer_bytes _ = []

-- the output buffer after a call: the bytes that are given, zeros up to the needed length, and then what was there
abbrev pub buffer_after : List ℕ → Reply → List ℕ
buffer_after old reply =
    let written = buffer_bytes reply.output in
    written ++ replicate (reply.needed - length written) 0 ++ drop reply.needed old
