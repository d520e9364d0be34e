use Rattle.aead_ccm.proofs.{Common.aes_encrypt, Common.ap, Common.arith, Common.chained_from, Common.drop, Common.encoded_data, Common.length, Common.length-drop, Common.number_block, Common.sym, Common.take, Common.take_all, Common.◌-◌, Common.◌<◌, Common.◌∙◌, Common.◌≡◌, FilledBlocks.filled_blocks-empty, Formats.no_data, Formats.data_is_some, Chains.front_chained}
use Rattle.aead_ccm.proofs.chaining.chain_data.Goals as goal

pub returns-then-is_empty : goal.returns-then-is_empty
returns-then-is_empty c =
    let ad = c.args.ad.now in
    let empty : length ad ≡ 0 = grind arith in
    sym (ap (chained_from (aes_encrypt c.args.key.now) (number_block c.args.value)) (filled_blocks-empty (encoded_data ad) (ap length (no_data ad empty))))

pub returns : goal.returns
returns c =
    let e = aes_encrypt c.args.key.now in
    let ad = c.args.ad.now in
    let count = c.data_front-front.result.1 in
    let some : 0 < length ad = grind arith in
    let rest : take (length ad - count) (drop count ad) ≡ drop count ad = take_all (length ad - count) (drop count ad) (omega (arith, length-drop count ad)) in
    c.chain_text.ensures
    ∙ front_chained e c.args.value c.data_front-front.result.0 c.encrypt_number.result (encoded_data ad) (take (length ad - count) (drop count ad)) (data_is_some ad some) c.data_front-front.ensures.block (rest ∙ c.data_front-front.ensures.rest) c.encrypt_number.ensures
