use Rattle.key_wrap.proofs.Common.{List, ap, arith, false, initial_value, number_register, replicate, sym, ℕ, ◌++◌, ◌∙◌, ◌≡◌}
use Rattle.key_wrap.proofs.Halves.{length-number_register}
use Rattle.key_wrap.proofs.KeyWrapLaws.{checked}
use Rattle.key_wrap.proofs.Whole.{refused, unwrapped_whole}
use Rattle.std.proofs.Common.{true}
use Rattle.key_wrap.proofs.unwrapping.unwrap.Goals as goal

pub returns-then-is_initial : goal.returns-then-is_initial
returns-then-is_initial c =
    let steps = unwrapped_whole _ c.args.text.now _ _ _ _ _ c.register_of-register.ensures c.copy_from_slice.ensures.after (omega arith) (omega arith) c.unwrap_row.ensures in
    checked _ _ _ (steps ∙ ap (λ (l : List ℕ). l ++ c.unwrap_row.new.row) (c.is_initial.ensures.same.0 c.if-is_initial.true))

pub returns-else-is_initial : goal.returns-else-is_initial
returns-else-is_initial c =
    let steps = unwrapped_whole _ c.args.text.now _ _ _ _ _ c.register_of-register.ensures c.copy_from_slice.ensures.after (omega arith) (omega arith) c.unwrap_row.ensures in
    let other = λ (same : number_register c.unwrap_row.new.register ≡ initial_value). (let both : true ≡ false = sym (c.is_initial.ensures.same.1 same) ∙ c.if-is_initial.false in let no : ⊥ = cc in no) in
    (refused _ _ _ _ (length-number_register _) steps other, c.fill.ensures.after (λ y is. is) ∙ ap (λ n. replicate n 0) (omega arith))
