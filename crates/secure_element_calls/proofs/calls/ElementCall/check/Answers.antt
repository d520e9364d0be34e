use Rattle.std.proofs.Common.{List, arith, drop, length, subst, sym, take, ℕ, ◌∙◌, ◌≡◌}
use Rattle.secure_element_calls.proofs.{Common.aes_encrypt, Common.ctr_xor, Common.given_by, Common.length-append, Common.length-drop, Common.needed_by, Holding.on_ok, Lengths.length-ctr}
use Rattle.secure_element_calls.proofs.calls.ElementCall.check.Goals as goal

pub returns-in-CtrEncrypt-clause-given : goal.returns-in-CtrEncrypt-clause-given
returns-in-CtrEncrypt-clause-given c =
    let input = c.in-CtrEncrypt.input.now in
    let iv = c.in-CtrEncrypt.iv.now in
    on_ok c.check_plain.result _
    (subst (λ call. (key : List ℕ) → length (given_by call key) ≡ needed_by call) (sym c.in-CtrEncrypt.is)
    (λ key. omega (arith, length-append iv (ctr_xor (aes_encrypt key) iv input), length-ctr key iv input, c.check_plain.ensures.vector)))

pub returns-in-CtrDecrypt-clause-given : goal.returns-in-CtrDecrypt-clause-given
returns-in-CtrDecrypt-clause-given c =
    let input = c.in-CtrDecrypt.input.now in
    on_ok c.check_cipher.result _
    (subst (λ call. (key : List ℕ) → length (given_by call key) ≡ needed_by call) (sym c.in-CtrDecrypt.is)
    (λ key. length-ctr key (take 16 input) (drop 16 input) ∙ length-drop 16 input))
