-- What a key for PBKDF2's turns stands for.
use Rattle.std.specs.Prelude.{ℕ, List}
use Rattle.hash_ops.specs.declared.Hash.{Hash}
use Rattle.hash_ops.specs.declared.Hash.TheVariants as function
use Rattle.hmac_ops.specs.{ShortMessages.IsShortMessageKey, ShortMessages.IsWipedShortMessageKey, States.IsHmacKey, States.IsWipedHmacKey}
use Rattle.kdf_core.specs.declared.pbkdf2.TurnKey.{TurnKey}
use Rattle.kdf_core.specs.declared.pbkdf2.TurnKey.TheVariants as form

-- the key has this function and these bytes
abbrev pub IsTurnKey : TurnKey → Hash → List ℕ → Type 0
IsTurnKey (form.Other k) which key = IsHmacKey k which key
IsTurnKey (form.Sha256 k) function.Sha256 key = IsShortMessageKey k key
IsTurnKey _ _ _ = ⊥

-- nothing of a password is left in the key
abbrev pub IsWipedTurnKey : TurnKey → Type 0
IsWipedTurnKey (form.Other k) = IsWipedHmacKey k
IsWipedTurnKey (form.Sha256 k) = IsWipedShortMessageKey k
