use Rattle.std.proofs.Common.{ap, sym, ◌∙◌, ◌∷◌}
use Rattle.script_lang.proofs.{Common.text_lines, TextLines.line_cut}
use Rattle.script_lang.proofs.pieces.next_line.Goals as goal

pub returns-in-Some : goal.returns-in-Some
returns-in-Some c =
    line_cut c.args.text.now c.in-Some.line.now c.in-Some.rest.now c.in-Some.ensures.cut
    ∙ ap (λ line. line ∷ text_lines c.in-Some.rest.now) (sym c.drop_return.ensures)
