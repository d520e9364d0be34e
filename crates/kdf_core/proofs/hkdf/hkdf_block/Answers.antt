use Rattle.kdf_core.proofs.{Common.[], Common.block_length, Common.hash_of, Common.◌∙◌, Blocks.next_block}
use Rattle.kdf_core.proofs.hkdf.hkdf_block.Goals as goal

pub returns-clause-length : goal.returns-clause-length
returns-clause-length c =
    let which = c.args.which in
    let prk = c.args.prk.now in
    c.finish.ensures.length which prk _ (c.update-3.ensures which prk _ (c.update-2.ensures which prk _ (c.update.ensures which prk [] c.new-state.ensures)))

pub returns-clause-code : goal.returns-clause-code
returns-clause-code c =
    let which = c.args.which in
    let prk = c.args.prk.now in
    c.finish.ensures.code which prk _ (c.update-3.ensures which prk _ (c.update-2.ensures which prk _ (c.update.ensures which prk [] c.new-state.ensures)))

pub returns-clause-block : goal.returns-clause-block
returns-clause-block c = λ l e.
    let which = c.args.which in
    let prk = c.args.prk.now in
    c.finish.ensures.code which prk _ (c.update-3.ensures which prk _ (c.update-2.ensures which prk _ (c.update.ensures which prk [] c.new-state.ensures)))
    ∙ next_block (hash_of which) (block_length which) prk c.args.info.now c.args.previous.now c.args.n l e
