-- What begins a hash and a MAC.
use Rattle.std.specs.Prelude.{ℕ, Bool, List, None}
use Rattle.alg_encoding.specs.declared.table.Class.TheVariants.{Hash}
use Rattle.psa_status.specs.Rows.{first_row}
use Rattle.store_model.specs.Prelude.{class_rows, Operation, After, set_up, HashWork, hash_work, MacWork, mac_work}

-- hash_setup
abbrev pub hash_setup : Operation HashWork → ℕ → After HashWork
hash_setup operation alg = set_up operation (first_row (class_rows Hash alg)) (hash_work alg)

-- mac_sign_setup and mac_verify_setup, once the key is known to be for it
abbrev pub mac_setup : Operation MacWork → Bool → ℕ → List ℕ → After MacWork
mac_setup operation verifies alg key = set_up operation None (mac_work verifies alg key)
