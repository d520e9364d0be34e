-- PKCS#7 padding of a text of several blocks.
use Rattle.std.proofs.Common.{List, None, Some, ap, ap₂, length, replicate, sym, take, ℕ, ◌%◌, ◌++◌, ◌+◌, ◌-◌, ◌∙◌, ◌≡◌}
use Rattle.single_part.proofs.Common.{pkcs7_padded, pkcs7_unpadded, take-append-add}
use Rattle.std.specs.Option.{option_map}
use Rattle.cipher_modes.proofs.PaddedTexts.{unpadded_behind}

-- the text and its padding, filled in one after the other
pub padded_parts : (text front filled : List ℕ) (n : ℕ) → front ≡ text → n ≡ 16 - length text % 16 → filled ≡ replicate n (16 - length text % 16) → front ++ filled ≡ pkcs7_padded text
unfolding pkcs7_padded
padded_parts text front filled n e size f = ap₂ (λ (l m : List ℕ). l ++ m) e (f ∙ ap (λ k. replicate k (16 - length text % 16)) size)

-- a text in two parts
pub none_in_text : (text front last : List ℕ) → front ++ last ≡ text → length last ≡ 16 → pkcs7_unpadded last ≡ None → pkcs7_unpadded text ≡ None
none_in_text text front last parts long h = ap pkcs7_unpadded (sym parts) ∙ unpadded_behind front last long ∙ ap (option_map (λ m. front ++ m)) h

pub some_in_text : (text front last : List ℕ) (kept : ℕ) → front ++ last ≡ text → length last ≡ 16 → pkcs7_unpadded last ≡ Some (take kept last) → pkcs7_unpadded text ≡ Some (take (length front + kept) text)
some_in_text text front last kept parts long h =
    ap pkcs7_unpadded (sym parts) ∙ unpadded_behind front last long ∙ ap (option_map (λ m. front ++ m)) h
    ∙ ap Some (sym (take-append-add front last kept) ∙ ap (take (length front + kept)) parts)
