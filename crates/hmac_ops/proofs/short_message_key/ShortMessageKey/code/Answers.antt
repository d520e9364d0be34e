use Rattle.hmac_ops.proofs.{Common.List, Common.ap, Common.arith, Common.hash_of, Common.hmac, Common.inner_pad, Common.length, Common.length-hash_of, Common.outer_pad, Common.ℕ, Common.◌++◌, Common.◌∙◌, Common.◌≤◌, Padding.length-pad}
use Rattle.hash_ops.specs.declared.Hash.TheVariants.{Sha256}
use Rattle.hmac_ops.proofs.short_message_key.ShortMessageKey.code.Goals as goal

pub returns : goal.returns
unfolding hmac
returns c = λ key held.
    let hash : List ℕ → List ℕ = hash_of Sha256 in
    let fits : (m : List ℕ) → length (hash m) ≤ 64 = λ m. omega (arith, length-hash_of Sha256 m) in
    let inner = c.digest_with-digest.ensures (inner_pad hash 64 key) (length-pad hash 64 key 0x36 fits) held.inner in
    let outer = c.digest_with-code.ensures (outer_pad hash 64 key) (length-pad hash 64 key 0x5c fits) held.outer in
    outer ∙ ap (λ (d : List ℕ). hash (outer_pad hash 64 key ++ d)) inner
