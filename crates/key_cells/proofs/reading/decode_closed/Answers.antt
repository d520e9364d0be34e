use Rattle.key_cells.proofs.{Common.List, Common.ap, Common.arith, Common.drop, Common.false, Common.length, Common.length-drop, Common.refl, Common.replicate, Common.sym, Common.take, Common.take_all, Common.true, Common.zeros, Common.ℕ, Common.◌∙◌, Common.◌≡◌, Finding.gate_closed, Steps.zeros_are}
use Rattle.key_cells.proofs.reading.decode_closed.Goals as goal

whole : (bytes : List ℕ) → length bytes ≡ 1088 → take 1087 (drop 1 bytes) ≡ drop 1 bytes
whole bytes size = take_all 1087 (drop 1 bytes) (omega (arith, length-drop 1 bytes, size))

blank : (bytes : List ℕ) → length bytes ≡ 1088 → replicate (length (take 1087 (drop 1 bytes))) 0 ≡ zeros
blank bytes size = ap (λ n. replicate n 0) {y = 1087} (ap length (whole bytes size) ∙ omega (arith, length-drop 1 bytes, size)) ∙ zeros_are

pub returns-then-is_zero-clause-reads : goal.returns-then-is_zero-clause-reads
returns-then-is_zero-clause-reads c =
    let bytes = c.args.bytes.now in
    (gate_closed bytes c.told-bytes c.if-bytes-ne-CLOSED.false, sym (whole bytes c.told-bytes) ∙ c.if-is_zero.ensures.0 refl ∙ blank bytes c.told-bytes)

pub returns-clause-reads : goal.returns-clause-reads
returns-clause-reads c =
    let bytes = c.args.bytes.now in (
      gate_closed bytes c.told-bytes c.if-bytes-ne-CLOSED.false,
      λ are. let clash : false ≡ true = c.if-is_zero.ensures.1 (whole bytes c.told-bytes ∙ are ∙ sym (blank bytes c.told-bytes)) in cc,
    )
