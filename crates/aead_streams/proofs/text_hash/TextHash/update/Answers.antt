use Rattle.aead_streams.proofs.{Common.ap, Common.arith, Common.drop, Common.length, Common.length-drop, Common.refl, Common.take, Common.take_all, Common.ℕ, Common.◌*◌, Common.◌+◌, Common.◌-◌, Common.◌/◌, Common.◌≡◌, TextHashing.updated}
use Rattle.aead_streams.proofs.text_hash.TextHash.update.Goals as goal

pub returns : goal.returns
returns c = λ h y text taken.
    let piece = c.args.piece.now in
    let a : ℕ = c.take_in-front.result in
    let b : ℕ = (length piece - a) / 16 * 16 in
    let width : a + b - a ≡ b = omega arith in
    let whole : take (a + b - a) (drop a piece) ≡ take b (drop a piece) = ap (λ (k : ℕ). take k (drop a piece)) width in
    let rest : take (length piece - (a + b)) (drop (a + b) piece) ≡ drop (a + b) piece = take_all _ _ (omega (arith, length-drop (a + b) piece)) in
    updated c.take_in-front.new.self _ c.take_in.new.self h y a b c.take_in.result text piece _ _ (omega (arith, c.take_in-front.ensures.count)) c.take_in-front.ensures.whole c.absorb.ensures refl refl whole rest
    c.take_in.ensures.count (c.take_in.ensures.taken h y) (c.take_in-front.ensures.taken h y text taken)
