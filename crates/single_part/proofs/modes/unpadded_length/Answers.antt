use Rattle.std.proofs.Common.{List, None, Some, ap₂, arith, length, subst, take, ℕ, ◌++◌, ◌∙◌, ◌≡◌}
use Rattle.single_part.proofs.{Common.pkcs7_unpadded, Common.take-append-drop, Paddings.none_in_text, Paddings.some_in_text}
use Rattle.single_part.proofs.modes.unpadded_length.Goals as goal

pub returns-in-Some : goal.returns-in-Some
returns-in-Some c =
    let parts = ap₂ (λ (l m : List ℕ). l ++ m) c.split_at.ensures.front c.split_at.ensures.back ∙ take-append-drop _ c.args.text.now in
    let long : length c.split_at.result.1.now ≡ 16 = omega (arith, c.split_at.ensures.back_len, c.requires) in (
      omega (arith, c.in-Some.ensures.0, c.split_at.ensures.front_len, c.requires),
      some_in_text c.args.text.now c.split_at.result.0.now c.split_at.result.1.now c.in-Some.kept parts long
          (subst (λ (b : List ℕ). pkcs7_unpadded b ≡ Some (take c.in-Some.kept b)) c.block_of-block.ensures c.in-Some.ensures.1),
    )

pub returns-in-None : goal.returns-in-None
returns-in-None c =
    let parts = ap₂ (λ (l m : List ℕ). l ++ m) c.split_at.ensures.front c.split_at.ensures.back ∙ take-append-drop _ c.args.text.now in
    let long : length c.split_at.result.1.now ≡ 16 = omega (arith, c.split_at.ensures.back_len, c.requires) in
    none_in_text c.args.text.now c.split_at.result.0.now c.split_at.result.1.now parts long
    (subst (λ (b : List ℕ). pkcs7_unpadded b ≡ None) c.block_of-block.ensures c.in-None.ensures)
