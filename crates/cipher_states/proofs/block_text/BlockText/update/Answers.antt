use Rattle.cipher_states.proofs.{Common.List, Common.Way, Common.ap, Common.ap₂, Common.chains, Common.next_chain, Common.ℕ, Common.◌+◌, Common.◌∙◌, TextPlaces.grown_text}
use Rattle.cipher_states.proofs.block_text.BlockText.update.Goals as goal

pub returns-clause-runs : goal.returns-clause-runs
returns-clause-runs c = λ way keeps_last iv text h.
    let g = c.gather.ensures in
    let out = c.gather.new.out in
    record {
      way = g.way ∙ h.way;
      keeps_last = g.keeps_last ∙ h.keeps_last;
      holds = grown_text c.args.self.now c.args.key.now iv text c.args.piece.now h.holds _ out (c.gather.auto.out ∙ c.requires.room) g.text
          (ap (λ (n : ℕ). n + c.gather.new.self.used) c.gather.auto.out ∙ g.used) g.way g.keeps_last
          (λ e. c.process.ensures.chain (ap chains g.way ∙ e) ∙ ap₂ (λ (w : Way) (l : List ℕ). next_chain w c.args.key.now l out) g.way g.chain);
    }
