use Rattle.cipher_states.proofs.Common.{List, RunsBlocks, Whole, aes_encrypt, ap, block_number, bytes_or_empty, false, is_stream, keeps_last, length, length-append, mode_of, model_mode, processed, subst, sym, take, text_xor, true, way_of, with_text, ℕ, ◌++◌, ◌+◌, ◌∙◌, ◌≡◌}
use Rattle.cipher_states.proofs.RunningTexts.{runs_stream, runs_blocks, fresh_stream, fresh_blocks, due_blocks, by_blocks}
use Rattle.cipher_states.proofs.running.RunningCipher.take_in.Goals as goal

pub returns-then-is_stream-clause-out : goal.returns-then-is_stream-clause-out
returns-then-is_stream-clause-out c = λ w h ready.
    let s = c.args.self.now in
    let e : is_stream (model_mode s.mode) ≡ true = sym c.is_stream.ensures ∙ c.if-is_stream.true in
    let start = block_number (bytes_or_empty w.iv) in
    c.xor.ensures.text Whole start (length w.text) (runs_stream s w h ready e)
    ∙ ap (text_xor (aes_encrypt s.key) Whole start (length w.text)) c.copy_from_slice.ensures.after
    ∙ sym (fresh_stream s w h ready e c.args.input.now)

pub returns-else-is_stream-clause-out : goal.returns-else-is_stream-clause-out
returns-else-is_stream-clause-out c = λ w h ready.
    let s = c.args.self.now in
    let input = c.args.input.now in
    let e : is_stream (model_mode s.mode) ≡ false = sym c.is_stream.ensures ∙ c.if-is_stream.false in
    c.update.ensures.out
    ∙ ap (λ (n : ℕ). processed s.blocks.way s.key s.blocks.chain (take n (take s.blocks.used s.blocks.kept ++ input))) (c.requires.room ∙ due_blocks s w h ready (length input) e)
    ∙ sym (fresh_blocks s w h ready e input)

pub returns-else-is_stream-clause-holds : goal.returns-else-is_stream-clause-holds
returns-else-is_stream-clause-holds c = λ w h ready.
    let s = c.args.self.now in
    let input = c.args.input.now in
    let iv = bytes_or_empty w.iv in
    let e : is_stream (model_mode s.mode) ≡ false = sym c.is_stream.ensures ∙ c.if-is_stream.false in
    let way = way_of (mode_of w.alg) w.encrypts in
    let keeps = keeps_last (mode_of w.alg) w.encrypts in
    let runs = subst (λ (k : List ℕ). RunsBlocks c.update.new.self way keeps k iv (w.text ++ input)) h.key (c.update.ensures.runs way keeps iv w.text (runs_blocks s w h ready e)) in
    record {
      encrypts = h.encrypts;
      mode = h.mode;
      key = h.key;
      vector = h.vector;
      total = ap (λ (n : ℕ). n + length input) h.total ∙ sym (length-append w.text input);
      before = λ f. cc;
      text = λ f. by_blocks (mode_of w.alg) s.stream c.update.new.self (with_text w input) (ap is_stream (sym h.mode) ∙ e) runs;
    }
