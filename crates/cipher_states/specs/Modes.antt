-- How the modes give their output.
use Rattle.std.specs.Prelude.{ℕ, ◌-◌, ◌*◌, ◌/◌, Bool, true, false, not, if◌then◌else◌}
use Rattle.store_model.specs.Prelude.{Mode, Ctr, CbcPkcs7}

-- whether each byte is given at once
abbrev pub is_stream : Mode → Bool
is_stream Ctr = true
is_stream _ = false

-- the last block is kept back in decryption, where padding ends the text
abbrev pub keeps_last : Mode → Bool → Bool
keeps_last CbcPkcs7 encrypts = not encrypts
keeps_last _ encrypts = false

-- of n bytes so many are due as output: whole blocks, and not the last one where it is kept back
abbrev pub due_bytes : Bool → ℕ → ℕ
due_bytes keeps_last n = 16 * ((if keeps_last then n - 1 else n) / 16)
