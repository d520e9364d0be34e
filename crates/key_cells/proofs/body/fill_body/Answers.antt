use Rattle.key_cells.proofs.{Common.List, Common.ap, Common.written, Common.ℕ, Common.◌∙◌, Bodies.body_made}
use Rattle.key_cells.proofs.body.fill_body.Goals as goal

pub returns : goal.returns
returns c =
    body_made c.args.attributes.now c.args.bytes.now c.front.result c.write-length.result c.write-length.new.out c.put.new.out c.put-2.new.out c.requires.key.kept.short c.front.ensures c.write-length.ensures.record c.write-length.ensures.length
    (c.put.ensures ∙ ap (λ (zeros : List ℕ). written zeros 0 c.front.result) c.requires.zeros)
    c.put-2.ensures
