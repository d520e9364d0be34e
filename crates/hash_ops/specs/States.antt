-- What a running hash stands for.
use Rattle.std.specs.Prelude.{ℕ, List, []}
use Rattle.sha2.specs.Hashers.{Holds224, Holds256, Holds384, Holds512}
use Rattle.hash_ops.specs.{declared.state.Hasher.Hasher, declared.state.HashState.HashState, declared.Hash.Hash}
use Rattle.hash_ops.specs.declared.state.Hasher.TheVariants as hasher
use Rattle.hash_ops.specs.declared.Hash.TheVariants as function

-- the hasher is one of this function, and holds this message
abbrev pub HasherHolds : Hasher → Hash → List ℕ → Type 0
HasherHolds (hasher.Sha224 s) function.Sha224 m = Holds224 s m
HasherHolds (hasher.Sha256 s) function.Sha256 m = Holds256 s m
HasherHolds (hasher.Sha384 s) function.Sha384 m = Holds384 s m
HasherHolds (hasher.Sha512 s) function.Sha512 m = Holds512 s m
HasherHolds _ _ m = ⊥

abbrev pub hasher_function : Hasher → Hash
hasher_function (hasher.Sha224 s) = function.Sha224
hasher_function (hasher.Sha256 s) = function.Sha256
hasher_function (hasher.Sha384 s) = function.Sha384
hasher_function (hasher.Sha512 s) = function.Sha512

-- the state is one of this function, and holds this message
abbrev pub HashHolds : HashState → Hash → List ℕ → Type 0
HashHolds s which m = HasherHolds s.hasher which m

-- the state's function
abbrev pub function_of : HashState → Hash
function_of s = hasher_function s.hasher

-- the state is that of the empty message
abbrev pub IsEmpty : HashState → Type 0
IsEmpty s = HashHolds s (function_of s) []
