use Rattle.aead_gcm.proofs.{Common.ap, Common.arith, Common.ℕ, Common.◌%◌, Common.◌+◌, Common.◌^◌, Common.◌∙◌, CounterBlocks.one_more}
use Rattle.aead_gcm.proofs.counters.increment.Goals as goal

pub returns : goal.returns
returns c = ap (λ (m : ℕ). m + (c.args.block % 2 ^ 32 + 1) % 2 ^ 32) (omega arith) ∙ one_more c.args.block
