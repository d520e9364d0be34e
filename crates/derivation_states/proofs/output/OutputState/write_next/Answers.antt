use Rattle.std.proofs.Common.{List, None, Option, Some, add-one, ap, arith, false, is_some, refl, suc, sym, true, unwrap_or, ℕ, ◌+◌, ◌-◌, ◌∙◌, ◌≡◌, ◌≤◌}
use Rattle.derivation_states.proofs.Common.{block_at, block_length, bytes_or_empty, cond-false, cond-true, DerivationWork, expand_block, given_bytes, hash_of, hmac_key, HoldsInputs, Inputs, is_hkdf, KeyDerivation, NamesDerivation, number_or_zero, option_map, pbkdf2_block}
use Rattle.derivation_states.proofs.Blocks.{block_of_hkdf, block_of_pbkdf2, by_pbkdf2, prk_of}
use Rattle.key_policy.specs.Names.{is_hkdf as is_hkdf_scheme}
use Rattle.derivation_states.proofs.output.OutputState.write_next.Goals as goal

mapped : (f : List ℕ → List ℕ) (o : Option (List ℕ)) → is_some o ≡ true → bytes_or_empty (option_map f o) ≡ f (bytes_or_empty o)
mapped f (Some bytes) e = refl
mapped f None e = cc

counted : (o : Option ℕ) → is_some o ≡ true → unwrap_or o 1 ≡ number_or_zero o
counted (Some n) e = refl
counted None e = cc

module _ (k : KeyDerivation) (i : Inputs) (w : DerivationWork) (kdf : NamesDerivation w.alg k) (holds : HoldsInputs i w) (secret : is_some w.secret ≡ true) where
  key_is : (key : List ℕ) → key ≡ bytes_or_empty (given_bytes i.key) → key ≡ hmac_key w (bytes_or_empty w.secret)
  key_is key e = e ∙ ap bytes_or_empty holds.key ∙ mapped (hmac_key w) w.secret secret

  hkdf_next : (n : ℕ) (key info previous out : List ℕ) → is_hkdf w.alg ≡ true → key ≡ bytes_or_empty (given_bytes i.key) → info ≡ bytes_or_empty (given_bytes i.info) → previous ≡ block_at w n
      → (1 ≤ n + 1 → previous ≡ expand_block (hash_of k.hash) (block_length k.hash) key info (n + 1 - 1) → out ≡ expand_block (hash_of k.hash) (block_length k.hash) key info (n + 1))
      → out ≡ block_at w (n + 1)
  hkdf_next n key info previous out e is_key is_info is_previous made =
      let prk : key ≡ prk_of w = key_is key is_key ∙ cond-true (is_hkdf w.alg) _ _ e in
      let same : (m : ℕ) → expand_block (hash_of k.hash) (block_length k.hash) key info m ≡ block_at w m = λ m. cc (ap bytes_or_empty holds.info, block_of_hkdf w e m) in
      let before : n ≡ n + 1 - 1 = omega arith in
      made (omega arith) (is_previous ∙ ap (block_at w) before ∙ sym (same (n + 1 - 1))) ∙ same (n + 1)

  pbkdf2_next : (n turns : ℕ) (key salt out : List ℕ) → is_hkdf w.alg ≡ false → key ≡ bytes_or_empty (given_bytes i.key) → salt ≡ bytes_or_empty (given_bytes i.salt) → turns ≡ unwrap_or i.cost 1
      → out ≡ pbkdf2_block (hash_of k.hash) (block_length k.hash) key salt turns (n + 1)
      → out ≡ block_at w (n + 1)
  pbkdf2_next n turns key salt out e is_key is_salt is_turns made =
      let password : key ≡ bytes_or_empty w.secret = key_is key is_key ∙ cond-false (is_hkdf w.alg) _ _ e in
      let cost : turns ≡ number_or_zero w.cost = is_turns ∙ ap (λ (o : Option ℕ). unwrap_or o 1) holds.cost ∙ counted w.cost (holds.costed e secret) in
      let same : out ≡ by_pbkdf2 w (suc n) = cc (ap bytes_or_empty holds.salt, add-one n) in
      same ∙ sym (block_of_pbkdf2 w e n) ∙ ap (block_at w) (sym (add-one n))

pub returns-in-Hkdf-clause-block : goal.returns-in-Hkdf-clause-block
returns-in-Hkdf-clause-block c = λ w inputs running secret.
    hkdf_next c.args.self.now.kdf c.args.inputs.now w running.kdf inputs secret c.args.self.now.number c.as_slice-key.result.now c.as_slice.result.now _ _
    (sym running.kdf.scheme ∙ ap is_hkdf_scheme c.in-Hkdf.is) c.as_slice-key.ensures.bytes c.as_slice.ensures.bytes running.block c.hkdf_block.ensures.block

pub returns-in-Pbkdf2-clause-block : goal.returns-in-Pbkdf2-clause-block
returns-in-Pbkdf2-clause-block c = λ w inputs running secret.
    pbkdf2_next c.args.self.now.kdf c.args.inputs.now w running.kdf inputs secret c.args.self.now.number _ c.as_slice-key.result.now c.as_slice-in-Pbkdf2.result.now _
    (sym running.kdf.scheme ∙ ap is_hkdf_scheme c.in-Pbkdf2.is) c.as_slice-key.ensures.bytes c.as_slice-in-Pbkdf2.ensures.bytes c.unwrap_or-turns.ensures c.pbkdf2_block.ensures.block
