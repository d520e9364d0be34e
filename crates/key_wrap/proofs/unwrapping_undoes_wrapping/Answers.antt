use Rattle.key_wrap.proofs.KeyWrapLaws.{unwrapping_undoes}
use Rattle.key_wrap.proofs.unwrapping_undoes_wrapping.Goals as goal

pub returns : goal.returns
returns c = unwrapping_undoes
