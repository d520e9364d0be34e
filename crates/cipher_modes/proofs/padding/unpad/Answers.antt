use Rattle.cipher_modes.proofs.{Common.ap, Common.arith, Common.length, Common.refl, Common.slice_index, Common.sym, Common.take, Common.take_all, Common.◌∙◌, Common.◌≡◌, PaddingRules.fits, PaddingRules.misfits}
use Rattle.std.proofs.lemmas.Bool.Decides.{not_from_Decides}
use Rattle.cipher_modes.proofs.padding.unpad.Goals as goal

pub returns-then-fits : goal.returns-then-fits
returns-then-fits c =
    let block = c.args.block.now in
    let padded = c.pad.new.block in
    let whole : take (length padded) block ≡ block = take_all (length padded) block (omega (arith, c.pad.array_long, c.told-block)) in
    let same : padded ≡ block = c.is_front-fits.ensures.0 c.if-fits.true ∙ (ap (take (length padded)) c.number_of.ensures.block ∙ whole) in (
      c.kept_before-kept.ensures.bound,
      fits block (slice_index block 15) c.kept_before-kept.result c.told-block refl c.kept_before-kept.ensures.count c.kept_before-kept.ensures.other (sym c.pad.ensures ∙ same),
    )

pub returns-else-fits : goal.returns-else-fits
returns-else-fits c =
    let block = c.args.block.now in
    let padded = c.pad.new.block in
    let whole : take (length padded) block ≡ block = take_all (length padded) block (omega (arith, c.pad.array_long, c.told-block)) in
    let is : take (length padded) block ≡ take (length padded) _ = ap (take (length padded)) (sym c.number_of.ensures.block) in
    misfits block (slice_index block 15) c.kept_before-kept.result c.told-block refl c.kept_before-kept.ensures.count
    (λ e. not_from_Decides c.is_front-fits.result c.is_front-fits.ensures c.if-fits.false (c.pad.ensures ∙ (e ∙ (sym whole ∙ is))))
