use Rattle.std.proofs.Common.{arith, inl, inr, length}
use Rattle.std.proofs.lemmas.Bool.Decides.{leb_tells}
use Rattle.script_lang.proofs.{Common.text_lines, Owned.lines_owned}
use Rattle.script_lang.proofs.reading.read_script.Goals as goal

pub returns-in-Ok-clause-owners : goal.returns-in-Ok-clause-owners
returns-in-Ok-clause-owners c =
    let texts = text_lines c.args.text.now in
    elim (leb_tells (length texts) 20000) [
      | inl few ↦ lines_owned texts c.in-Ok.script (c.in-Ok.ensures.value few.1)
      | inr many ↦ (let clash = c.in-Ok.ensures.many (let m = many.1 in omega arith) in cc)
    ]
