-- What a cipher in several parts stands for.
use Rattle.std.specs.Prelude.{◌≡◌, ℕ, ◌+◌, MatchBool, IfSome, true, false, [], length, is_some, if◌then◌else◌}
use Rattle.crypto_specs.specs.Prelude.{aes_encrypt, block_number}
use Rattle.aead_streams.specs.{declared.counter_width.CounterWidth.TheVariants.Whole, Streams.IsAt, Streams.IsClearStream}
use Rattle.store_model.specs.Prelude.{Mode, mode_of, CipherWork, bytes_or_empty, takes_text, Operation}
use Rattle.key_policy.specs.Modes.{model_mode}
use Rattle.multipart.specs.States.{StandsForOptional}
use Rattle.cipher_states.specs.{declared.running.RunningCipher.RunningCipher, declared.state.CipherState.CipherState, Modes.due_bytes, Modes.is_stream, Modes.keeps_last, Ways.way_of, Texts.RunsBlocks, Texts.IsClearText}

-- the text so far has run under a mode
abbrev pub RunsMode : Mode → RunningCipher → CipherWork → Type 0
RunsMode mode s w = MatchBool (is_stream mode)
    (IsAt s.stream (aes_encrypt w.key) Whole (block_number (bytes_or_empty w.iv)) (length w.text))
    (RunsBlocks s.blocks (way_of mode w.encrypts) (keeps_last mode w.encrypts) w.key (bytes_or_empty w.iv) w.text)

pub record HoldsCipher (s : RunningCipher) (w : CipherWork) : Type 0 where
  pub encrypts : s.encrypts ≡ w.encrypts
  pub mode : model_mode s.mode ≡ mode_of w.alg
  pub key : s.key ≡ w.key
  pub vector : s.has_iv ≡ is_some w.iv
  pub total : s.total ≡ length w.text
  pub before : takes_text w ≡ false → w.text ≡ []
  pub text : takes_text w ≡ true → RunsMode (mode_of w.alg) s w

-- nothing of a key and a text is left
pub record IsClearRunningCipher (s : RunningCipher) : Type 0 where
  pub key : s.key ≡ []
  pub total : s.total ≡ 0
  pub stream : IsClearStream s.stream
  pub blocks : IsClearText s.blocks

abbrev pub IsClearCipher : CipherState → Type 0
IsClearCipher s = IfSome s.state.work IsClearRunningCipher

-- the state stands for this operation
abbrev pub IsCipherOperation : CipherState → Operation CipherWork → Type 0
IsCipherOperation s op = StandsForOptional IsClearRunningCipher HoldsCipher s.state op

-- how many bytes of output so many bytes of input give
abbrev pub due_now : RunningCipher → ℕ → ℕ
due_now s more = if is_stream (model_mode s.mode) then more else due_bytes s.blocks.keeps_last (s.blocks.used + more)
