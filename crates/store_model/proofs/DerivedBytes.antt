-- A derivation gives as many bytes as are asked for.
use Rattle.std.proofs.Common.{Bool, List, None, Option, Some, [], ap, arith, cond, false, is_some, length, length-append, refl, suc, true, zero, ℕ, ◌*◌, ◌+◌, ◌-◌, ◌/◌, ◌==◌, ◌∙◌, ◌≡◌, ◌≤◌}
use Rattle.store_model.proofs.Common.{bytes_or_empty, DerivationWork, derived, digest, expand, expand_block, expand_blocks, extract, hash_block_length, hash_length, is_hkdf, IsSoundDerivation, length-drop, length-take-le, low_byte, next_derived, number_or_zero, pbkdf2, pbkdf2_block, pbkdf2_blocks, sha224, sha256}
use Rattle.sha2.specs.Sha512.{sha384, sha512}
use Rattle.sha2.proofs.{Facts256.length-sha224, Facts256.length-sha256, Facts512.length-sha384, Facts512.length-sha512}
use Rattle.alg_encoding.specs.Table as table
use Rattle.crypto_specs.proofs.CodeLengths.{length-expand_block, length-pbkdf2_block}

enough : (l h : ℕ) → 1 ≤ h → l ≤ h * ((l + h - 1) / h)
enough l h first = omega arith

-- over any hash function of h bytes, with blocks of n
module _ (hash : List ℕ → List ℕ) (h n : ℕ) (long : (m : List ℕ) → length (hash m) ≡ h) where
  length-expand_blocks : (prk info : List ℕ) (i : ℕ) → length (expand_blocks hash n prk info i) ≡ h * i
  unfolding expand_blocks
  length-expand_blocks prk info zero = omega arith
  length-expand_blocks prk info (suc i) =
      let before = length-expand_blocks prk info i in
      let number : i + 1 ≡ suc i = omega arith in
      let block : length (expand_block hash n prk info (i + 1)) ≡ h = ap (λ (j : ℕ). length (expand_block hash n prk info j)) number ∙ length-expand_block hash h n long prk info i in
      let both = length-append (expand_blocks hash n prk info i) (expand_block hash n prk info (i + 1)) in
      omega arith

  -- HKDF
  pub length-expand : 1 ≤ h → (prk info : List ℕ) (l : ℕ) → length (expand hash n prk info l) ≡ l
  unfolding expand
  length-expand first prk info l =
      let k : ℕ = hash_length hash in
      let same : k ≡ h = long [] in
      let blocks = length-expand_blocks prk info ((l + k - 1) / k) in
      let fits : l ≤ k * ((l + k - 1) / k) = enough l k (omega arith) in
      let whole : k * ((l + k - 1) / k) ≡ h * ((l + k - 1) / k) = ap (λ (j : ℕ). j * ((l + k - 1) / k)) same in
      length-take-le l (expand_blocks hash n prk info ((l + k - 1) / k)) (omega arith)

  length-pbkdf2_blocks : (password salt : List ℕ) (c : ℕ) → 1 ≤ c → (i : ℕ) → length (pbkdf2_blocks hash n password salt c i) ≡ h * i
  unfolding pbkdf2_blocks
  length-pbkdf2_blocks password salt c first zero = omega arith
  length-pbkdf2_blocks password salt c first (suc i) =
      let before = length-pbkdf2_blocks password salt c first i in
      let block = length-pbkdf2_block hash h n long password salt c (i + 1) first in
      let both = length-append (pbkdf2_blocks hash n password salt c i) (pbkdf2_block hash n password salt c (i + 1)) in
      omega arith

  -- PBKDF2, of one turn at least
  pub length-pbkdf2 : 1 ≤ h → (password salt : List ℕ) (c : ℕ) → 1 ≤ c → (l : ℕ) → length (pbkdf2 hash n password salt c l) ≡ l
  unfolding pbkdf2
  length-pbkdf2 first password salt c some l =
      let k : ℕ = hash_length hash in
      let same : k ≡ h = long [] in
      let blocks = length-pbkdf2_blocks password salt c some ((l + k - 1) / k) in
      let fits : l ≤ k * ((l + k - 1) / k) = enough l k (omega arith) in
      let whole : k * ((l + k - 1) / k) ≡ h * ((l + k - 1) / k) = ap (λ (j : ℕ). j * ((l + k - 1) / k)) same in
      length-take-le l (pbkdf2_blocks hash n password salt c ((l + k - 1) / k)) (omega arith)

-- the hash function of an algorithm number

digest_of : (b c d : Bool) (m : List ℕ) → length (cond b (sha224 m) (cond c (sha256 m) (cond d (sha384 m) (sha512 m)))) ≡ cond b 28 (cond c 32 (cond d 48 64))
digest_of true c d m = length-sha224 m
digest_of false true d m = length-sha256 m
digest_of false false true m = length-sha384 m
digest_of false false false m = length-sha512 m

length-digest : (byte : ℕ) (m : List ℕ) → length (digest byte m) ≡ table.named_hash_length byte
length-digest byte m = digest_of (byte == 8) (byte == 9) (byte == 10) m

some_bytes : (b c d : Bool) → 1 ≤ cond b 28 (cond c 32 (cond d 48 64))
some_bytes b c d = grind arith

length_by_scheme : (w : DerivationWork) (n : ℕ) (hkdf : Bool) → (hkdf ≡ false → 1 ≤ number_or_zero w.cost) →
    let hash : List ℕ → List ℕ = digest (low_byte w.alg) in
    let block : ℕ = hash_block_length (low_byte w.alg) in
    length (cond hkdf (expand hash block (extract hash block (bytes_or_empty w.salt) (bytes_or_empty w.secret)) (bytes_or_empty w.info) n)
    (pbkdf2 hash block (bytes_or_empty w.secret) (bytes_or_empty w.salt) (number_or_zero w.cost) n)) ≡ n
length_by_scheme w n true cost =
    let byte : ℕ = low_byte w.alg in
    length-expand (digest byte) (table.named_hash_length byte) (hash_block_length byte) (length-digest byte) (some_bytes (byte == 8) (byte == 9) (byte == 10)) _ _ n
length_by_scheme w n false cost =
    let byte : ℕ = low_byte w.alg in
    length-pbkdf2 (digest byte) (table.named_hash_length byte) (hash_block_length byte) (length-digest byte) (some_bytes (byte == 8) (byte == 9) (byte == 10)) _ _ (number_or_zero w.cost) (cost refl) n

some_cost : (cost : Option ℕ) → is_some cost ≡ true → ((n : ℕ) → cost ≡ Some n → 1 ≤ n) → 1 ≤ number_or_zero cost
some_cost None e h = cc
some_cost (Some n) e h = h n refl

length-derived : (w : DerivationWork) (n : ℕ) → IsSoundDerivation w → is_some w.secret ≡ true → length (derived w n) ≡ n
length-derived w n sound secret = length_by_scheme w n (is_hkdf w.alg) (λ e. some_cost w.cost (sound.keyed e secret) sound.cost)

-- the next bytes are as many as are asked for
pub length-next_derived : (w : DerivationWork) (n : ℕ) → IsSoundDerivation w → is_some w.secret ≡ true → length (next_derived w n) ≡ n
length-next_derived w n sound secret =
    let whole = length-derived w (w.taken + n) sound secret in
    let rest = length-drop w.taken (derived w (w.taken + n)) in
    omega arith
