use Rattle.std.proofs.{Common.arith, Common.sym, lemmas.List.ext_get_or}
use Rattle.script_lang.proofs.Common.{bytes_eq-Decides}
use Rattle.script_lang.proofs.fields.is_text.Goals as goal

pub returns : goal.returns
returns c =
    sym ((bytes_eq-Decides c.args.text.now c.args.other.now).1 (ext_get_or 0 c.args.text.now c.args.other.now (omega arith) (λ k within. c.loop-place.invariant k (omega arith))))
