use Rattle.crypto_specs.proofs.PaddingLaws as padding
use Rattle.crypto_specs.proofs.padding_fills_blocks.Goals as goal

pub returns : goal.returns
returns c = padding.padding_fills_blocks
