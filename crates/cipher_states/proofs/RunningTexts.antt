-- What a RunningCipher stands for.
use Rattle.std.proofs.lemmas.Grind.{common_steps}
use Rattle.cipher_states.proofs.Common.{BlockText, Bool, BufferTooSmall, CipherWork, HoldsCipher, IsAt, List, MatchBool, Mode, None, RunningCipher, RunsBlocks, Some, Whole, aes_encrypt, ap, arith, block_number, bytes_or_empty, chains, cipher_fresh, cipher_update_rows, cond-false, cond-true, drop, due_bytes, due_now, false, first_row, is_stream, keeps_last, le-ltb, length, length-take, length-text_xor, lt-ltb, mode_of, model_mode, processed, refl, room_rows, rules, subst, sym, take, take-append-drop, takes_text, text_xor, total_limit, true, way_of, with_text, ℕ, ◌%◌, ◌++◌, ◌+◌, ◌<◌, ◌∙◌, ◌≡◌, ◌≤◌}
use Rattle.aead_streams.specs.declared.key_stream.KeyStream.{KeyStream}
use Rattle.cipher_states.proofs.{WayLaws.length-processed, WayLaws.length-next_chain, TextPlaces.due-whole, TextPlaces.due-within, TextPlaces.further_front, Dues.stream_fresh, Dues.blocks_fresh}

-- ---- by the mode

module _ (m : Mode) (stream : KeyStream) (blocks : BlockText) (w : CipherWork) where
  abbrev RunsStream : List ℕ → Type 0
  RunsStream key = IsAt stream (aes_encrypt key) Whole (block_number (bytes_or_empty w.iv)) (length w.text)

  abbrev RunsText : List ℕ → Type 0
  RunsText key = RunsBlocks blocks (way_of m w.encrypts) (keeps_last m w.encrypts) key (bytes_or_empty w.iv) w.text

  pub by_stream : is_stream m ≡ true → RunsStream w.key → MatchBool (is_stream m) (RunsStream w.key) (RunsText w.key)
  by_stream e h = subst (λ b. MatchBool b (RunsStream w.key) (RunsText w.key)) (sym e) h

  pub by_blocks : is_stream m ≡ false → RunsText w.key → MatchBool (is_stream m) (RunsStream w.key) (RunsText w.key)
  by_blocks e h = subst (λ b. MatchBool b (RunsStream w.key) (RunsText w.key)) (sym e) h

-- ---- what a further piece makes due, under the key that the state has

module _ (s : RunningCipher) (w : CipherWork) (h : HoldsCipher s w) (ready : takes_text w ≡ true) where
  pub runs_stream : is_stream (model_mode s.mode) ≡ true → RunsStream (mode_of w.alg) s.stream s.blocks w s.key
  runs_stream e = search rules

  pub runs_blocks : is_stream (model_mode s.mode) ≡ false → RunsText (mode_of w.alg) s.stream s.blocks w s.key
  runs_blocks e = search rules

  pub fresh_stream : is_stream (model_mode s.mode) ≡ true → (input : List ℕ) → cipher_fresh w (with_text w input) ≡ text_xor (aes_encrypt s.key) Whole (block_number (bytes_or_empty w.iv)) (length w.text) input
  fresh_stream e input =
      stream_fresh (mode_of w.alg) w.encrypts w.key (bytes_or_empty w.iv) w.text input (ap is_stream (sym h.mode) ∙ e)
      ∙ ap (λ (k : List ℕ). text_xor (aes_encrypt k) Whole (block_number (bytes_or_empty w.iv)) (length w.text) input) (sym h.key)

  -- the bytes that are kept, and the piece
  pub waiting-length : is_stream (model_mode s.mode) ≡ false → (input : List ℕ) → length (take s.blocks.used s.blocks.kept ++ input) ≡ s.blocks.used + length input
  waiting-length e input = grind (arith, common_steps)

  pub fresh_blocks : is_stream (model_mode s.mode) ≡ false → (input : List ℕ)
      → cipher_fresh w (with_text w input) ≡ processed s.blocks.way s.key s.blocks.chain (take (due_bytes s.blocks.keeps_last (s.blocks.used + length input)) (take s.blocks.used s.blocks.kept ++ input))
  fresh_blocks e input =
      let r = runs_blocks e in
      let iv : List ℕ = bytes_or_empty w.iv in
      let n : ℕ = due_bytes s.blocks.keeps_last (s.blocks.used + length input) in
      let waiting : List ℕ = take s.blocks.used s.blocks.kept ++ input in
      let size : length (take n waiting) ≡ n = omega (arith, length-take n waiting, waiting-length e input, due-within s.blocks.keeps_last (s.blocks.used + length input)) in
      ap (λ (k : List ℕ). cipher_fresh (record w { key = k }) (record w { key = k; text = w.text ++ input })) (sym h.key)
      ∙ blocks_fresh (mode_of w.alg) w.encrypts s.blocks.way s.blocks.keeps_last (ap is_stream (sym h.mode) ∙ e) r.way r.keeps_last s.key iv s.blocks.chain w.text input (take n waiting)
      (further_front s.blocks s.key iv w.text input r.holds (take n waiting) (drop n waiting) size (take-append-drop n waiting)) r.holds.vector r.holds.chain

  pub due_blocks : (more : ℕ) → is_stream (model_mode s.mode) ≡ false → due_now s more ≡ due_bytes s.blocks.keeps_last (s.blocks.used + more)
  due_blocks more e = cond-false (is_stream (model_mode s.mode)) more _ e

  fresh_length : (b : Bool) → is_stream (model_mode s.mode) ≡ b → (input : List ℕ) → length (cipher_fresh w (with_text w input)) ≡ due_now s (length input)
  fresh_length true e input =
      ap length (fresh_stream e input) ∙ length-text_xor (aes_encrypt s.key) Whole (block_number (bytes_or_empty w.iv)) (length w.text) input ∙ sym (cond-true (is_stream (model_mode s.mode)) (length input) _ e)
  fresh_length false e input =
      let r = runs_blocks e in
      let n : ℕ = due_bytes s.blocks.keeps_last (s.blocks.used + length input) in
      let waiting : List ℕ = take s.blocks.used s.blocks.kept ++ input in
      let size : length (take n waiting) ≡ n = omega (arith, length-take n waiting, waiting-length e input, due-within s.blocks.keeps_last (s.blocks.used + length input)) in
      let chained = λ (c : chains s.blocks.way ≡ true). ap length (r.holds.chain c) ∙ length-next_chain s.blocks.way s.key (bytes_or_empty w.iv) (take (due_bytes s.blocks.keeps_last (length w.text)) w.text) ∙ r.holds.vector c in
      ap length (fresh_blocks e input)
      ∙ length-processed s.blocks.way s.key s.blocks.chain (take n waiting) chained (ap (λ (m : ℕ). m % 16) size ∙ due-whole s.blocks.keeps_last (s.blocks.used + length input))
      ∙ size ∙ sym (due_blocks (length input) e)

  pub length-fresh : (input : List ℕ) → length (cipher_fresh w (with_text w input)) ≡ due_now s (length input)
  length-fresh input = fresh_length (is_stream (model_mode s.mode)) refl input

-- ---- the refusals of a piece

pub update_rows : (w : CipherWork) (input : List ℕ) (room n : ℕ) → takes_text w ≡ true → length w.text + length input ≤ total_limit → length (cipher_fresh w (with_text w input)) ≡ n
    → first_row (cipher_update_rows w input room) ≡ first_row (room_rows n room)
update_rows w input room n ready fits size = search rules

pub no_room : (n room : ℕ) → room < n → first_row (room_rows n room) ≡ Some BufferTooSmall
no_room n room h = rw (lt-ltb room n h) refl

pub has_room : (n room : ℕ) → n ≤ room → first_row (room_rows n room) ≡ None
has_room n room h = rw (le-ltb room n h) refl
