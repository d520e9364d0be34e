-- The lengths of what is computed.
use Rattle.std.proofs.Common.{List, [], ap, arith, drop, length, replicate, sym, take, ℕ, ◌*◌, ◌++◌, ◌∙◌, ◌∷◌, ◌≡◌}
use Rattle.secure_element_calls.proofs.Common.{aes_encrypt, block_count, blocks, chain_step, chained, cmac, ctr_xor, front_count, hmac, key_stream, last_block, length-aes_encrypt, length-take, length-xor_bytes, mac_of, tag_bytes, xor_bytes}
use Rattle.std.specs.List.{fold}
use Rattle.crypto_specs.proofs.KeyStream.{length-key_stream}
use Rattle.hash_ops.proofs.Digests.{length-hash_of}
use Rattle.key_policy.specs.{declared.algorithms.MacAlgorithm.MacAlgorithm, declared.algorithms.MacKind.MacKind, declared.algorithms.MacKind.TheVariants.Hmac, declared.algorithms.MacKind.TheVariants.Cmac, Names.NamesMac, Names.whole_length, Names.whole_mac_by}

length-chain : (key : List ℕ) (bs : List (List ℕ)) (z b : List ℕ) → length (fold (chain_step (aes_encrypt key)) z (bs ++ b ∷ [])) ≡ 16
length-chain key [] z b = length-aes_encrypt key (xor_bytes z b)
length-chain key (x ∷ bs) z b = length-chain key bs (aes_encrypt key (xor_bytes z x)) b

length-cmac : (key message : List ℕ) → length (cmac (aes_encrypt key) message) ≡ 16
unfolding cmac chained
length-cmac key message =
    let n : ℕ = front_count (length message) in
    length-chain key (blocks n message) (replicate 16 0) (last_block (aes_encrypt key) (drop (16 * n) message))

length-whole : (kind : MacKind) (key message : List ℕ) → length (whole_mac_by kind key message) ≡ whole_length kind
unfolding hmac
length-whole (Hmac hash) key message = length-hash_of hash _
length-whole Cmac key message = length-cmac key message

pub length-mac : (alg : ℕ) (mac : MacAlgorithm) (n : ℕ) → NamesMac alg mac → n ≡ mac.length → (key message : List ℕ) → length (mac_of alg key message) ≡ n
length-mac alg mac n names e key message =
    let whole : List ℕ = whole_mac_by mac.kind key message in
    ap (λ l. length (take (tag_bytes alg) l)) (sym (names.whole key message))
    ∙ omega (arith, length-take (tag_bytes alg) whole, length-whole mac.kind key message, names.within, names.length, e)

-- CTR gives as many bytes as it takes
pub length-ctr : (key iv text : List ℕ) → length (ctr_xor (aes_encrypt key) iv text) ≡ length text
unfolding ctr_xor
length-ctr key iv text =
    let e : List ℕ → List ℕ = aes_encrypt key in
    let n : ℕ = block_count (length text) in
    omega (arith, length-xor_bytes text (key_stream e iv n), length-key_stream e (length-aes_encrypt key) iv n)
