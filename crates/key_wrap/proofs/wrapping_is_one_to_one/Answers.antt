use Rattle.key_wrap.proofs.KeyWrapLaws.{wrapping_is_one_to_one}
use Rattle.key_wrap.proofs.wrapping_is_one_to_one.Goals as goal

pub returns : goal.returns
returns c = wrapping_is_one_to_one
