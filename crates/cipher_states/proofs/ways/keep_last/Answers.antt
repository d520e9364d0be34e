use Rattle.cipher_states.proofs.Common.{List, [], ap, arith, drop, length, sym, ℕ, ◌%◌, ◌++◌, ◌+◌, ◌-◌, ◌<◌, ◌∙◌, ◌∷◌, ◌≡◌, ◌≤◌}
use Rattle.std.proofs.{Math.Seq.drop-append-add, lemmas.Slice.between_to_end}
use Rattle.cipher_states.proofs.ways.keep_last.Goals as goal

-- the end of a text behind a block, where the text has a block, and where it has none
kept_end : (chain text : List ℕ) → length chain ≡ 16 → 16 ≤ length text → drop (length text - 16) text ≡ drop (length text) (chain ++ text)
kept_end chain text size some =
    let e : length text ≡ length chain + (length text - 16) = omega arith in
    sym (ap (λ (n : ℕ). drop n (chain ++ text)) e ∙ drop-append-add chain text (length text - 16))

pub returns-then-text-ge16 : goal.returns-then-text-ge16
returns-then-text-ge16 c =
    let text = c.args.text.now in
    c.copy_from_slice.ensures.after ∙ between_to_end text (length text - 16) (length text) (omega arith) ∙ kept_end c.args.chain.now text c.told-chain c.if-text-ge16.true
