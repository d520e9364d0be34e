use Rattle.aead_streams.proofs.{Common.arith, Common.false≢true, Common.length, Common.refl, Common.take, Common.◌<◌, Common.◌≡◌, TextHashing.put_more, TextHashing.put_full}
use Rattle.aead_streams.proofs.text_hash.TextHash.take_in.Goals as goal

pub returns-then-is_full-clause-taken : goal.returns-then-is_full-clause-taken
returns-then-is_full-clause-taken c = λ h y text taken.
    let s = c.args.self.now in
    put_full s _ h y c.take.result text (take c.put-count.result c.args.piece.now) c.put-count.new.self c.put-count.ensures.bytes (c.if-is_full.ensures.full.0 refl) c.take.ensures.number c.block.ensures c.take.ensures.empty taken

pub returns-else-is_full-clause-taken : goal.returns-else-is_full-clause-taken
returns-else-is_full-clause-taken c = λ h y text taken.
    let s = c.args.self.now in
    let not_full : length c.put-count.new.self ≡ 16 → ⊥ = λ whole. false≢true (c.if-is_full.ensures.full.1 whole) in
    let less : length c.put-count.new.self < 16 = omega (arith, c.is_full.ensures.limit, not_full) in
    put_more s _ h y text (take c.put-count.result c.args.piece.now) refl c.put-count.ensures.bytes less taken
