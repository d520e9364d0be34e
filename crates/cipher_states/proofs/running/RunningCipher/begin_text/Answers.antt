use Rattle.cipher_states.proofs.Common.{Bool, IsAt, RunsBlocks, Way, Whole, [], block_number, chains, model_mode, subst, true, way_of, ℕ, ◌≡◌}
use Rattle.cipher_states.proofs.running.RunningCipher.begin_text.Goals as goal

pub returns-clause-stream : goal.returns-clause-stream
unfolding block_number
returns-clause-stream c = λ e. subst (λ (n : ℕ). IsAt c.new-self.result e Whole n 0) c.from_be_bytes.ensures (c.new-self.ensures e)

pub returns-clause-blocks : goal.returns-clause-blocks
returns-clause-blocks c = λ key given e.
    let P : Way → Type 0 = λ (way : Way). (chains way ≡ true → c.args.iv.now ≡ given) → RunsBlocks c.new-self-2.result way c.keeps_last.result key given [] in
    let Q : Bool → Type 0 = λ (keeps : Bool). RunsBlocks c.new-self-2.result (way_of (model_mode c.args.self.now.mode) c.args.self.now.encrypts) keeps key given [] in
    subst Q c.keeps_last.ensures (subst P c.of-way.ensures (c.new-self-2.ensures.runs key given) e)
