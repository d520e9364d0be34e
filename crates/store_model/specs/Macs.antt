-- MACs of a whole message.
use Rattle.std.specs.Prelude.{ℕ, not, nat_lt, length, bytes_eq, List, [], ◌∷◌}
use Rattle.store_model.specs.{Common.InvalidArgument, Common.InvalidSignature, Common.Reply, Common.Rows, Common.done, Common.first_row, Common.given, Common.mac_of, Common.reply_unless, Common.tag_bytes, Rules.room_rows, Rules.total_limit}

-- mac_compute
abbrev pub compute_rows : (alg bytes room : ℕ) → Rows
compute_rows alg bytes room = (nat_lt total_limit bytes, InvalidArgument) ∷ room_rows (tag_bytes alg) room

abbrev pub mac_reply : ℕ → (key input : List ℕ) → ℕ → Reply
mac_reply alg key input room = reply_unless (first_row (compute_rows alg (length input) room)) (given (mac_of alg key input))

-- mac_verify: the MAC that was given is compared whole
abbrev pub verify_rows : ℕ → (key input mac : List ℕ) → Rows
verify_rows alg key input mac =
    (nat_lt total_limit (length input), InvalidArgument)
    ∷ (not (bytes_eq mac (mac_of alg key input)), InvalidSignature)
    ∷ []

abbrev pub verified_reply : ℕ → (key input mac : List ℕ) → Reply
verified_reply alg key input mac = reply_unless (first_row (verify_rows alg key input mac)) done
