use Rattle.std.proofs.Common.{List, ap, refl, subst, sym, ℕ, ◌∙◌, ◌≡◌}
use Rattle.alg_encoding.specs.declared.algorithm.Alg.{Alg}
use Rattle.service_calls.specs.declared.store_calls.Keyed.{Keyed}
use Rattle.single_part.proofs.{Common.algorithm_in, Common.Class, Common.IsKeyFor, Common.KeyedCall, Common.verified_reply, Common.wanted_by, Draws.draws_none}
use Rattle.key_policy.specs.Uses.{FitsUse}
use Rattle.single_part.proofs.computation.Computation.compute.Goals as goal

-- the call that is computed, and its algorithm's number as it was parsed
module _ (asked inside : Keyed) (alg : Alg) (call : KeyedCall) (seen : inside ≡ asked) (named : alg ≡ algorithm_in inside.call) (is : inside.call ≡ call) where
  asks : asked.call ≡ call
  asks = sym (ap (λ (k : Keyed). k.call) seen) ∙ is

  parsed : alg ≡ algorithm_in call
  parsed = named ∙ ap algorithm_in is

  for_call : (key : List ℕ) → FitsUse (wanted_by asked.call) key → FitsUse (wanted_by call) key
  for_call key = subst (λ c. FitsUse (wanted_by c) key) asks

for_number : (class : Class) (a b : Alg) (key : List ℕ) → a ≡ b → IsKeyFor class b.0 key → IsKeyFor class a.0 key
for_number class a b key is = subst (λ (x : Alg). IsKeyFor class x.0 key) (sym is)

pub returns-in-Export : goal.returns-in-Export
returns-in-Export c =
    let is = asks _ _ _ _ c.self.view_is c.self.invariant c.in-Export.is in
    record { reply = rw is (c.bytes.ensures.length _ c.export.ensures.reply); buffer = rw is c.export.ensures.buffer; stream = rw is (draws_none _) }

pub mac_compute-requires : goal.mac_compute-requires
mac_compute-requires c =
    let fits = for_number _ _ _ c.args.key.now (parsed _ _ _ _ c.self.view_is c.self.invariant c.in-MacCompute.is) (for_call _ _ _ _ c.self.view_is c.self.invariant c.in-MacCompute.is c.args.key.now c.requires.fits) in record { algorithm = fits.algorithm; key = fits.cmac }

pub returns-in-MacCompute : goal.returns-in-MacCompute
returns-in-MacCompute c =
    let is = asks _ _ _ _ c.self.view_is c.self.invariant c.in-MacCompute.is in let alg = sym (parsed _ _ _ _ c.self.view_is c.self.invariant c.in-MacCompute.is) in
    record { reply = rw (is, alg) (c.bytes-in-MacCompute.ensures.length _ c.mac_compute.ensures.reply); buffer = rw (is, alg) c.mac_compute.ensures.buffer; stream = rw is (draws_none _) }

pub mac_verify-requires : goal.mac_verify-requires
mac_verify-requires c =
    let fits = for_number _ _ _ c.args.key.now (parsed _ _ _ _ c.self.view_is c.self.invariant c.in-MacVerify.is) (for_call _ _ _ _ c.self.view_is c.self.invariant c.in-MacVerify.is c.args.key.now c.requires.fits) in record { algorithm = fits.algorithm; key = fits.cmac }

pub returns-in-MacVerify : goal.returns-in-MacVerify
returns-in-MacVerify c =
    let is = asks _ _ _ _ c.self.view_is c.self.invariant c.in-MacVerify.is in let alg = sym (parsed _ _ _ _ c.self.view_is c.self.invariant c.in-MacVerify.is) in
    let reply = verified_reply c.self.inside.alg.0 c.args.key.now c.in-MacVerify.input.now c.in-MacVerify.mac.now in
    record { reply = rw (is, alg) (c.plain.ensures.answer reply c.mac_verify.ensures); buffer = rw (is, alg) (c.plain.ensures.unwritten reply _ c.mac_verify.ensures); stream = rw is (draws_none _) }

pub cipher_encrypt-requires : goal.cipher_encrypt-requires
cipher_encrypt-requires c =
    let fits = for_number _ _ _ c.args.key.now (parsed _ _ _ _ c.self.view_is c.self.invariant c.in-CipherEncrypt.is) (for_call _ _ _ _ c.self.view_is c.self.invariant c.in-CipherEncrypt.is c.args.key.now c.requires.fits) in record { algorithm = fits.algorithm; key = fits.cipher refl; words = c.requires.words }

pub returns-in-CipherEncrypt : goal.returns-in-CipherEncrypt
returns-in-CipherEncrypt c =
    let is = asks _ _ _ _ c.self.view_is c.self.invariant c.in-CipherEncrypt.is in let alg = sym (parsed _ _ _ _ c.self.view_is c.self.invariant c.in-CipherEncrypt.is) in
    record { reply = rw (is, alg) (c.bytes-in-CipherEncrypt.ensures.length _ c.cipher_encrypt.ensures.reply); buffer = rw (is, alg) c.cipher_encrypt.ensures.buffer; stream = rw (is, alg) c.cipher_encrypt.ensures.stream }

pub cipher_decrypt-requires : goal.cipher_decrypt-requires
cipher_decrypt-requires c =
    let fits = for_number _ _ _ c.args.key.now (parsed _ _ _ _ c.self.view_is c.self.invariant c.in-CipherDecrypt.is) (for_call _ _ _ _ c.self.view_is c.self.invariant c.in-CipherDecrypt.is c.args.key.now c.requires.fits) in record { algorithm = fits.algorithm; key = fits.cipher refl }

pub returns-in-CipherDecrypt : goal.returns-in-CipherDecrypt
returns-in-CipherDecrypt c =
    let is = asks _ _ _ _ c.self.view_is c.self.invariant c.in-CipherDecrypt.is in let alg = sym (parsed _ _ _ _ c.self.view_is c.self.invariant c.in-CipherDecrypt.is) in
    record { reply = rw (is, alg) (c.bytes-in-CipherDecrypt.ensures.spoils _ c.cipher_decrypt.ensures.reply); buffer = rw (is, alg) c.cipher_decrypt.ensures.buffer; stream = rw is (draws_none _) }

pub aead_encrypt-requires : goal.aead_encrypt-requires
aead_encrypt-requires c =
    let fits = for_number _ _ _ c.args.key.now (parsed _ _ _ _ c.self.view_is c.self.invariant c.in-AeadEncrypt.is) (for_call _ _ _ _ c.self.view_is c.self.invariant c.in-AeadEncrypt.is c.args.key.now c.requires.fits) in record { algorithm = fits.algorithm; key = fits.aead refl }

pub returns-in-AeadEncrypt : goal.returns-in-AeadEncrypt
returns-in-AeadEncrypt c =
    let is = asks _ _ _ _ c.self.view_is c.self.invariant c.in-AeadEncrypt.is in let alg = sym (parsed _ _ _ _ c.self.view_is c.self.invariant c.in-AeadEncrypt.is) in
    record { reply = rw (is, alg) (c.bytes-in-AeadEncrypt.ensures.length _ c.aead_encrypt.ensures.reply); buffer = rw (is, alg) c.aead_encrypt.ensures.buffer; stream = rw is (draws_none _) }

pub aead_decrypt-requires : goal.aead_decrypt-requires
aead_decrypt-requires c =
    let fits = for_number _ _ _ c.args.key.now (parsed _ _ _ _ c.self.view_is c.self.invariant c.in-AeadDecrypt.is) (for_call _ _ _ _ c.self.view_is c.self.invariant c.in-AeadDecrypt.is c.args.key.now c.requires.fits) in record { algorithm = fits.algorithm; key = fits.aead refl }

pub returns-in-AeadDecrypt : goal.returns-in-AeadDecrypt
returns-in-AeadDecrypt c =
    let is = asks _ _ _ _ c.self.view_is c.self.invariant c.in-AeadDecrypt.is in let alg = sym (parsed _ _ _ _ c.self.view_is c.self.invariant c.in-AeadDecrypt.is) in
    record { reply = rw (is, alg) (c.bytes-in-AeadDecrypt.ensures.spoils _ c.aead_decrypt.ensures.reply); buffer = rw (is, alg) c.aead_decrypt.ensures.buffer; stream = rw is (draws_none _) }
