-- The first rows of an update, and the start of the text.
use Rattle.std.specs.Prelude.{ℕ, ◌+◌, not, nat_lt, ◌||◌, true, [], ◌∷◌, length, is_some}
use Rattle.psa_status.specs.{declared.Status.TheVariants.BadState, declared.Status.TheVariants.InvalidArgument, Rows.Rows}
use Rattle.store_model.specs.Prelude.{total_limit, AeadWork, is_past_payload, is_whole_ad}

-- the rows of aead_update before that of the room
abbrev pub aead_text_rows : AeadWork → ℕ → Rows
aead_text_rows w more =
    let n : ℕ = length w.text + more in
    (not (is_some w.nonce), BadState)
    ∷ (not (is_whole_ad w.lengths (length w.ad)) || is_past_payload w.lengths n || nat_lt total_limit n, InvalidArgument)
    ∷ []

-- the text is begun, with no bytes more
abbrev pub with_begun_text : AeadWork → AeadWork
with_begun_text w = record w { has_text = true }
