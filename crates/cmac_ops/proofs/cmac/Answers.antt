use Rattle.cmac_ops.proofs.cmac.Goals as goal

pub returns : goal.returns
returns c = c.tag.ensures _ (c.update.ensures _ (c.new-chain.ensures c.args.key.now))
