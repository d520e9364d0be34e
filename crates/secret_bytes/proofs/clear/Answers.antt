use Rattle.std.proofs.{Common.ap, Common.ap₂, Common.arith, Common.length, Common.replicate, Common.◌++◌, Common.◌-◌, Common.◌∙◌, Common.◌≡◌, lemmas.List.replicate-append-replicate}
use Rattle.secret_bytes.proofs.clear.Goals as goal

pub returns : goal.returns
returns c =
    let zeros : c.fill.new.self ≡ replicate c.args.count 0 = c.fill.ensures.after (λ y is. is) ∙ ap (λ n. replicate n 0) c.split_at_mut-front.ensures.front_len in
    ap₂ (λ a b. a ++ b) zeros (c.split_at_mut-front.ensures.back ∙ c.requires.zeros)
    ∙ (replicate-append-replicate c.args.count (length c.args.bytes.now - c.args.count) 0
    ∙ ap (λ n. replicate n 0) (let a = c.requires.within in omega arith))
