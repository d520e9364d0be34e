use Rattle.std.proofs.Common.{List, [], ap, append_assoc, ap₂, arith, length, refl, sym, ℕ, ◌++◌, ◌∙◌, ◌∷◌, ◌≡◌}
use Rattle.script_lang.proofs.{Common.append-nil, Common.encode_lower, Common.encode_with, Common.take-append-drop, HexText.encode_joined}
use Rattle.script_lang.proofs.replies.push_hex.Goals as goal

none_is : (bytes : List ℕ) → length bytes ≡ 0 → bytes ≡ []
none_is [] zero_long = refl
none_is (b ∷ bs) zero_long = absurd (omega arith)

pub loop-rest-preserved : goal.loop-rest-preserved
loop-rest-preserved c =
    let out = c.loop-rest.out.items in let piece = c.split_at.result.0.now in let more = c.split_at.result.1.now in
    let whole : piece ++ more ≡ c.loop-rest.rest.now = ap₂ (λ a b. a ++ b) c.split_at.ensures.front c.split_at.ensures.back ∙ take-append-drop c.min.result c.loop-rest.rest.now in
    let written : c.extend_from_slice.new.self.items ≡ out ++ encode_lower piece = c.in_ok-extend_from_slice.ensures.items ∙ ap (λ t. out ++ t) (rw c.unwrap.ensures at c.encode_to_slice.ensures.written) in
    ap (λ t. t ++ encode_lower more) written
    ∙ (append_assoc out (encode_lower piece) (encode_lower more)
    ∙ (ap (λ t. out ++ t) (sym (encode_joined piece more) ∙ ap encode_lower whole)
    ∙ c.loop-rest.invariant))

no_text : encode_lower [] ≡ []
unfolding encode_with
no_text = refl

pub returns : goal.returns
returns c =
    let none : c.loop-rest.rest.now ≡ [] = none_is c.loop-rest.rest.now (grind (arith)) in
    sym (append-nil c.loop-rest.out.items) ∙ (ap (λ l. c.loop-rest.out.items ++ l) (sym no_text ∙ ap encode_lower (sym none)) ∙ c.loop-rest.invariant)
