-- What a finish gives, by the state.
use Rattle.std.proofs.lemmas.Grind.{common_steps}
use Rattle.cipher_states.proofs.Common.{Bool, Bytes, CbcDecrypt, CbcPkcs7, CipherWork, HoldsCipher, InError, Inactive, List, Operation, RunningCipher, Success, Way, [], ap, ap₂, arith, bytes_or_empty, chains, drop, due_bytes, ends, eqb-false, false, given, if◌then◌else◌, is_stream, is_whole_text, keeps_last, last_length, last_part, length, length-drop, mode_of, model_mode, next_chain, not, pkcs7_padded, pkcs7_unpadded, processed, refl, replicate, rules, sym, take, takes_text, true, way_of, whole_text, ℕ, ◌%◌, ◌&&◌, ◌++◌, ◌+◌, ◌-◌, ◌<◌, ◌==◌, ◌∙◌, ◌≡◌}
use Rattle.multipart.specs.{Phases.LeadsTo, declared.Phase.Phase}
use Rattle.multipart.specs.declared.Phase.TheVariants as phase
use Rattle.cipher_states.proofs.{WayLaws.length-next_chain, RunningTexts.runs_blocks, LastParts.end_at, LastParts.end_is, LastParts.nothing_left, LastParts.pkcs7_mode, LastParts.padded_end, LastParts.unpadded_end, LastParts.unpadded_is}

pub not_none : (n : ℕ) → (n == 0) ≡ false → 0 < n
not_none n e = let some = eqb-false n 0 e in omega arith

-- a buffer that a block fills
pub block_buffer : (block old : List ℕ) → length block ≡ 16 → length old ≡ 16 → block ≡ block ++ replicate (16 - length block) 0 ++ drop 16 old
block_buffer block old e f = grind (arith, common_steps)

pub room_is : (s : RunningCipher) → 0 < last_length (model_mode s.mode) → last_length (model_mode s.mode) ≡ 16
room_is s padded = ap last_length (pkcs7_mode (model_mode s.mode) padded)

both_chain : (b : Bool) → chains (way_of CbcPkcs7 b) ≡ true
both_chain true = refl
both_chain false = refl

module _ (s : RunningCipher) (w : CipherWork) (h : HoldsCipher s w) (ready : takes_text w ≡ true) where
  pub ends_bare : last_length (model_mode s.mode) ≡ 0 → is_whole_text w ≡ true → last_part w (whole_text w) ≡ ends (record { status = Success; output = Bytes []; needed = 0 })
  ends_bare e whole = end_is w ∙ nothing_left (mode_of w.alg) w.encrypts w.key (bytes_or_empty w.iv) w.text (ap last_length (sym h.mode) ∙ e) whole

  module _ (padded : 0 < last_length (model_mode s.mode)) where
    mode_is : mode_of w.alg ≡ CbcPkcs7
    mode_is = sym h.mode ∙ pkcs7_mode (model_mode s.mode) padded

    no_stream : is_stream (model_mode s.mode) ≡ false
    no_stream = ap is_stream (h.mode ∙ mode_is)

    module _ (b : Bool) (direction : s.encrypts ≡ b) where
      abbrev due : ℕ
      due = due_bytes (not b) (length w.text)

      abbrev last : List ℕ
      last = take s.blocks.used s.blocks.kept

      chosen : w.encrypts ≡ b
      chosen = sym h.encrypts ∙ direction

      way_is : s.blocks.way ≡ way_of CbcPkcs7 b
      way_is = (runs_blocks s w h ready no_stream).way ∙ ap₂ way_of mode_is chosen

      keeps_is : s.blocks.keeps_last ≡ not b
      keeps_is = (runs_blocks s w h ready no_stream).keeps_last ∙ ap₂ keeps_last mode_is chosen

      chained : chains s.blocks.way ≡ true
      chained = ap chains way_is ∙ both_chain b

      count : due + s.blocks.used ≡ length w.text
      count = ap (λ (k : Bool). due_bytes k (length w.text) + s.blocks.used) (sym keeps_is) ∙ (runs_blocks s w h ready no_stream).holds.used

      kept : last ≡ drop due w.text
      kept = (runs_blocks s w h ready no_stream).holds.kept ∙ ap (λ (k : Bool). drop (due_bytes k (length w.text)) w.text) keeps_is

      vector : length (bytes_or_empty w.iv) ≡ 16
      vector = (runs_blocks s w h ready no_stream).holds.vector chained

      chain_is : s.blocks.chain ≡ next_chain (way_of CbcPkcs7 b) s.key (bytes_or_empty w.iv) (take due w.text)
      chain_is = search rules

      end_under : last_part w (whole_text w) ≡ end_at CbcPkcs7 b s.key (bytes_or_empty w.iv) w.text
      end_under = search rules

    module _ (encrypts : s.encrypts ≡ true) where
      pub part_kept : s.blocks.used < 16
      part_kept = omega (arith, count true encrypts)

      pub ends_padded : last_part w (whole_text w) ≡ ends (record (given (processed s.blocks.way s.key s.blocks.chain (pkcs7_padded (take s.blocks.used s.blocks.kept)))) { needed = 16 })
      ends_padded =
          end_under true encrypts ∙ padded_end s.key (bytes_or_empty w.iv) s.blocks.chain w.text _ (vector true encrypts) (kept true encrypts) (chain_is true encrypts)
          ∙ ap (λ (way : Way). ends {W = CipherWork} (record (given (processed way s.key s.blocks.chain (pkcs7_padded (take s.blocks.used s.blocks.kept)))) { needed = 16 })) (sym (way_is true encrypts))

    module _ (decrypts : s.encrypts ≡ false) (whole : is_whole_text w ≡ true) where
      pub block_kept : s.blocks.used ≡ 16
      block_kept = search rules

      pub ends_unpadded : last_part w (whole_text w) ≡ unpadded_end (pkcs7_unpadded (processed s.blocks.way s.key s.blocks.chain (take s.blocks.used s.blocks.kept)))
      ends_unpadded =
          let iv : List ℕ = bytes_or_empty w.iv in
          let d : ℕ = due_bytes true (length w.text) in
          let long : length (take s.blocks.used s.blocks.kept) ≡ 16 = omega (arith, ap length (kept false decrypts), length-drop d w.text, count false decrypts, block_kept) in
          end_under false decrypts
          ∙ unpadded_is s.key iv s.blocks.chain w.text _ (vector false decrypts) long (kept false decrypts) (chain_is false decrypts)
          (ap length (chain_is false decrypts) ∙ length-next_chain CbcDecrypt s.key iv (take d w.text) ∙ vector false decrypts)
          ∙ ap (λ (way : Way). unpadded_end (pkcs7_unpadded (processed way s.key s.blocks.chain (take s.blocks.used s.blocks.kept)))) (sym (way_is false decrypts))

-- where a finish leads whose operation is told by whether it succeeded
pub finished : {W : Type 0} (holds : W → Type 0) (ok : Bool) (op : Operation W) (p : Phase) → p ≡ (if ok then phase.Inactive else phase.InError) → op ≡ (if ok then Inactive else InError) → LeadsTo p holds op
finished holds true Inactive phase.Inactive e f = tt
finished holds false InError phase.InError e f = tt
finished holds ok op p e f = cc
