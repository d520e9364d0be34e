use Rattle.kdf_core.proofs.Common.{ap, hash_of, hmac, ◌∙◌}
use Rattle.hash_ops.specs.declared.Hash.TheVariants.{Sha256}
use Rattle.kdf_core.proofs.pbkdf2.short_turn.Goals as goal

pub returns-clause-code : goal.returns-clause-code
returns-clause-code c = λ k held.
    c.move_to_front.ensures.front ∙ c.code-code.ensures k held
    ∙ ap (hmac (hash_of Sha256) 64 k) (rw c.unwrap.ensures at c.first_chunk.ensures.cases).same
