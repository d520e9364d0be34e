-- Calls by their shapes, as a clause writes them.
use Rattle.std.specs.Prelude.{ℕ}
use Rattle.alg_encoding.specs.declared.algorithm.Alg.{Alg}
use Rattle.key_attributes.specs.declared.KeyId.{KeyId}
use Rattle.service_calls.specs.{declared.call.Call.Call, declared.call.Call.TheVariants.OnStore, declared.call.Call.TheVariants.OnHandle, declared.store_calls.Creation.Creation, declared.store_calls.KeyChange.KeyChange, declared.store_calls.HashCall.HashCall, declared.store_calls.KeyedCall.KeyedCall, declared.handle_calls.HandleCall.TheVariants.Setup, declared.handle_calls.Purpose.Purpose}
use Rattle.service_calls.specs.{declared.store_calls.StoreCall.TheVariants.Create, declared.store_calls.StoreCall.TheVariants.Change, declared.store_calls.StoreCall.TheVariants.Hash, declared.store_calls.StoreCall.TheVariants.Compute, declared.handle_calls.KeylessSetup.KeylessSetup, declared.handle_calls.Setup.TheVariants.Keyless, declared.handle_calls.Setup.TheVariants.Keyed}

abbrev pub creates : Creation → Call
creates c = OnStore (Create c)

abbrev pub changes : KeyChange → Call
changes c = OnStore (Change c)

abbrev pub hashes : HashCall → Call
hashes c = OnStore (Hash c)

abbrev pub computes : KeyId → KeyedCall → Call
computes key c = OnStore (Compute (record { key = key; call = c }))

abbrev pub sets_up : (op : ℕ) → KeylessSetup → Call
sets_up op s = OnHandle op (Setup (Keyless s))

abbrev pub sets_up_with : (op : ℕ) → KeyId → Purpose → Alg → Call
sets_up_with op key purpose alg = OnHandle op (Setup (Keyed (record { key = key; purpose = purpose; alg = alg })))
