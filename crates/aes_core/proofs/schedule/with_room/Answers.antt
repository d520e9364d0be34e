use Rattle.aes_core.proofs.{Common.ap, Common.arith, Common.word_bytes, Common.length, Common.length-set, Common.take, Common.take-length, Common.ℕ, Common.◌*◌, Common.◌/◌, Common.◌∙◌, Common.◌≡◌, Expansion.key_word}
use Rattle.aes_core.proofs.schedule.with_room.Goals as goal

pub words-preserved : goal.words-preserved
words-preserved c = (
  length-set c.words.schedule c.words.i c.word_of.result ∙ c.words.invariant.0,
  key_word c.words.i _ c.words.schedule c.args.key.now (omega arith) c.words.invariant.1 c.word_of.ensures (omega arith),
)

pub returns : goal.returns
returns c =
    let end : length c.args.key.now / 4 ≡ c.words.i = omega arith in
    let all : 4 * c.words.i ≡ length c.args.key.now = omega arith in
    record {
      length = c.words.invariant.0;
      words = ap (λ (n : ℕ). word_bytes (take n c.words.schedule)) end ∙ c.words.invariant.1 ∙ ap (λ (n : ℕ). take n c.args.key.now) all ∙ take-length c.args.key.now;
    }
