-- Hashes of a whole message.
use Rattle.std.specs.Prelude.{ℕ, not, bytes_eq, List, [], ◌∷◌, ◌++◌}
use Rattle.store_model.specs.{Common.Hash, Common.InvalidSignature, Common.Reply, Common.Rows, Common.done, Common.first_row, Common.given, Common.hash_length_of, Common.hash_of, Common.reply_unless, Rules.class_rows, Rules.room_rows}

abbrev pub compute_rows : (alg room : ℕ) → Rows
compute_rows alg room = class_rows Hash alg ++ room_rows (hash_length_of alg) room

abbrev pub hash_reply : ℕ → List ℕ → ℕ → Reply
hash_reply alg input room = reply_unless (first_row (compute_rows alg room)) (given (hash_of alg input))

-- hash_compare: the hash that was given is compared whole
abbrev pub compare_rows : ℕ → List ℕ → List ℕ → Rows
compare_rows alg input hash = class_rows Hash alg ++ (not (bytes_eq hash (hash_of alg input)), InvalidSignature) ∷ []

abbrev pub compared_reply : ℕ → (input hash : List ℕ) → Reply
compared_reply alg input hash = reply_unless (first_row (compare_rows alg input hash)) done
