use Rattle.key_wrap.proofs.KeyWrapLaws.{only_wraps_unwrap}
use Rattle.key_wrap.proofs.only_wraps_unwrap.Goals as goal

pub returns : goal.returns
returns c = only_wraps_unwrap
