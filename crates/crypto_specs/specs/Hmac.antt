-- HMAC (RFC 2104) over any hash function, whose blocks have n bytes. Steps are those of section 2.
use Rattle.std.specs.Prelude.{ℕ, ◌-◌, List, ◌++◌, length, replicate, map, bit_xor, cond, nat_lt}

-- a key that is longer than a block is hashed first
abbrev pub short_key : (List ℕ → List ℕ) → ℕ → List ℕ → List ℕ
short_key hash n key = cond (nat_lt n (length key)) (hash key) key

-- a key filled with zeros to n bytes (step 1)
abbrev pub zero_padded : ℕ → List ℕ → List ℕ
zero_padded n key = key ++ replicate (n - length key) 0

unfoldable pub key_block : (List ℕ → List ℕ) → ℕ → List ℕ → List ℕ
key_block hash n key = zero_padded n (short_key hash n key)

-- each byte xored with c
abbrev pub xored_with : ℕ → List ℕ → List ℕ
xored_with c bytes = map (λ b. bit_xor b c) bytes

-- the key xored with ipad (step 2) and with opad (step 5)
abbrev pub inner_pad : (List ℕ → List ℕ) → ℕ → List ℕ → List ℕ
inner_pad hash n key = xored_with 0x36 (key_block hash n key)

abbrev pub outer_pad : (List ℕ → List ℕ) → ℕ → List ℕ → List ℕ
outer_pad hash n key = xored_with 0x5c (key_block hash n key)

-- the authentication code of a message under a key (steps 3, 4, 6 and 7)
unfoldable pub hmac : (List ℕ → List ℕ) → ℕ → List ℕ → List ℕ → List ℕ
hmac hash n key message = hash (outer_pad hash n key ++ hash (inner_pad hash n key ++ message))
