-- The blocks of HKDF and PBKDF2 are as long as a digest.
use Rattle.std.proofs.Common.{List, [], arith, length, suc, zero, ℕ, ◌++◌, ◌+◌, ◌∷◌, ◌≡◌, ◌≤◌}
use Rattle.crypto_specs.proofs.{Common.chain, Common.expand_block, Common.fold, Common.hmac, Common.pbkdf2_block, Common.to_be_bytes, Common.w32, Common.xor_all, Common.xor_bytes, XorBytes.length-xor_bytes}

-- over any hash function of h bytes, with blocks of n
module _ (hash : List ℕ → List ℕ) (h n : ℕ) (long : (m : List ℕ) → length (hash m) ≡ h) where
  length-hmac : (key message : List ℕ) → length (hmac hash n key message) ≡ h
  unfolding hmac
  length-hmac key message = long _

  pub length-expand_block : (prk info : List ℕ) (i : ℕ) → length (expand_block hash n prk info (suc i)) ≡ h
  unfolding expand_block
  length-expand_block prk info i = length-hmac prk (expand_block hash n prk info i ++ info ++ (i + 1) ∷ [])

  length-sum : (password sum u : List ℕ) (c : ℕ) → length sum ≡ h → length u ≡ h → length (fold xor_bytes sum (chain hash n password u c)) ≡ h
  unfolding chain
  length-sum password sum u zero e f = e
  length-sum password sum u (suc c) e f =
      length-sum password (xor_bytes sum u) (hmac hash n password u) c (omega (arith, length-xor_bytes sum u)) (length-hmac password u)

  length-turns : (password u : List ℕ) (c : ℕ) → 1 ≤ c → length u ≡ h → length (xor_all (chain hash n password u c)) ≡ h
  unfolding xor_all chain
  length-turns password u zero some e = absurd (omega arith)
  length-turns password u (suc c) some e = length-sum password u (hmac hash n password u) c e (length-hmac password u)

  -- of one turn at least
  pub length-pbkdf2_block : (password salt : List ℕ) (c i : ℕ) → 1 ≤ c → length (pbkdf2_block hash n password salt c i) ≡ h
  unfolding pbkdf2_block
  length-pbkdf2_block password salt c i some =
      length-turns password (hmac hash n password (salt ++ to_be_bytes w32 i)) c some (length-hmac password (salt ++ to_be_bytes w32 i))
