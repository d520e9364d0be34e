use Rattle.aead_gcm.proofs.GhashSteps.{in_turn}
use Rattle.aead_gcm.proofs.hashing.ghash_of.Goals as goal

pub returns : goal.returns
returns c =
    in_turn c.args.subkey c.value-value.result c.length_block.result c.new-running.result c.absorb.new.running c.absorb-2.new.running c.block.new.self c.args.ad.now c.args.text.now
    c.new-running.ensures c.absorb.ensures c.absorb-2.ensures c.block.ensures c.length_block.ensures c.value-value.ensures
