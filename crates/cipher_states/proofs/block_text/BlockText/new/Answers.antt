use Rattle.cipher_states.proofs.{Common.refl, TextPlaces.fresh_text}
use Rattle.cipher_states.proofs.block_text.BlockText.new.Goals as goal

pub returns-clause-runs : goal.returns-clause-runs
returns-clause-runs c = λ key iv e. record { way = refl; keeps_last = refl; holds = let h = c.told-chain in fresh_text _ key iv refl h e }
