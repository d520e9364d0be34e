use Rattle.aead_streams.proofs.{Common.false≢true, Common.refl, TextHashing.ended_whole, TextHashing.ended_filled}
use Rattle.aead_streams.proofs.text_hash.TextHash.fill_up.Goals as goal

pub returns-then-not-is_empty : goal.returns-then-not-is_empty
returns-then-not-is_empty c = λ h y text taken.
    ended_filled c.args.self.now _ h y c.take.result text (λ empty. false≢true (c.if-not-is_empty.ensures.1 empty)) c.take.ensures.number c.block.ensures c.take.ensures.empty taken

pub returns-else-not-is_empty : goal.returns-else-not-is_empty
returns-else-not-is_empty c = λ h y text taken. ended_whole c.args.self.now _ h y text (c.if-not-is_empty.ensures.0 refl) refl refl taken
