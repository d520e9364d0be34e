use Rattle.aead_streams.proofs.TextHashing.{started}
use Rattle.aead_streams.proofs.text_hash.TextHash.new.Goals as goal

pub returns-clause-taken : goal.returns-clause-taken
returns-clause-taken c = started _ c.args.h c.new.ensures c.new-2.ensures
