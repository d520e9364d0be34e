use Rattle.aead_ccm.proofs.{Common.ap, Common.arith, Common.length, Common.min, Common.refl, Common.take, Common.take_min, Common.ℕ, Common.◌∙◌, Common.◌≡◌, Formats.short_front, Formats.long_front, Formats.short_rest, Formats.long_rest}
use Rattle.aead_ccm.proofs.formatting.data_front.Goals as goal

pub returns-then-ad-lt65280-clause-block : goal.returns-then-ad-lt65280-clause-block
returns-then-ad-lt65280-clause-block c =
    let block = c.put_at-then-ad-lt65280.new.block in
    let count : c.min-count.result ≡ min 14 (length c.args.ad.now) = omega arith in
    c.number_of.ensures.block
    ∙ short_front c.args.ad.now c.to_be_bytes.result c.put_at.new.block (take c.min-count.result c.args.ad.now) block c.requires.some c.if-ad-lt65280.true c.to_be_bytes.ensures c.put_at.ensures (ap (λ (n : ℕ). take n c.args.ad.now) count ∙ take_min 14 c.args.ad.now) c.put_at-then-ad-lt65280.ensures

pub returns-then-ad-lt65280-clause-rest : goal.returns-then-ad-lt65280-clause-rest
returns-then-ad-lt65280-clause-rest c = short_rest c.args.ad.now c.min-count.result c.requires.some c.if-ad-lt65280.true (omega arith)

pub returns-else-ad-lt65280-clause-block : goal.returns-else-ad-lt65280-clause-block
returns-else-ad-lt65280-clause-block c =
    let block = c.put_at-else-ad-lt65280-3.new.block in
    c.number_of-else-ad-lt65280.ensures.block
    ∙ long_front c.args.ad.now c.to_be_bytes-else-ad-lt65280.result c.put_at-else-ad-lt65280.new.block c.put_at-else-ad-lt65280-2.new.block (take 10 c.args.ad.now) block c.if-ad-lt65280.false c.put_at-else-ad-lt65280.ensures c.to_be_bytes-else-ad-lt65280.ensures c.put_at-else-ad-lt65280-2.ensures refl c.put_at-else-ad-lt65280-3.ensures

pub returns-else-ad-lt65280-clause-rest : goal.returns-else-ad-lt65280-clause-rest
returns-else-ad-lt65280-clause-rest c = long_rest c.args.ad.now c.if-ad-lt65280.false
