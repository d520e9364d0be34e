use Rattle.aes_core.proofs.Common.{be_bytes_4}
use Rattle.aes_core.proofs.columns.word_of.Goals as goal

pub returns : goal.returns
returns c = be_bytes_4 c.args.bytes.now _ c.told-bytes c.fits-bytes c.from_be_bytes.ensures
