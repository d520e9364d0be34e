use Rattle.random_streams.proofs.{Common.ap, Common.stream_of, Common.◌∙◌, FirstWord.made, FirstWord.first_sound, FirstWord.first_stream}
use Rattle.random_streams.proofs.Stream.new.Goals as goal

pub invariant_of-result : goal.invariant_of-result
invariant_of-result c =
    rw (made _ c.set_stream.new.self c.args.seed.now c.args.caller _ c.from_seed-generator.ensures c.from.ensures c.set_stream.ensures)
    (first_sound c.args.seed.now c.args.caller c.told-seed c.fits-seed)

pub returns : goal.returns
returns c =
    ap stream_of (made _ c.set_stream.new.self c.args.seed.now c.args.caller _ c.from_seed-generator.ensures c.from.ensures c.set_stream.ensures)
    ∙ first_stream c.args.seed.now c.args.caller c.told-seed c.fits-seed
