-- What a BlockText stands for.
use Rattle.std.specs.Prelude.{◌≡◌, ℕ, ◌+◌, Bool, true, List, length, take, drop, replicate}
use Rattle.cipher_states.specs.{declared.ways.Way.Way, declared.block_text.BlockText.BlockText, Modes.due_bytes, Ways.chains, Ways.next_chain}

-- Of the text so much as is due was processed under the key from the initialisation vector on, and the rest is kept.
pub record HoldsBlockText (t : BlockText) (key iv text : List ℕ) : Type 0 where
  pub used : due_bytes t.keeps_last (length text) + t.used ≡ length text
  pub kept : take t.used t.kept ≡ drop (due_bytes t.keeps_last (length text)) text
  pub vector : chains t.way ≡ true → length iv ≡ 16
  pub chain : chains t.way ≡ true → t.chain ≡ next_chain t.way key iv (take (due_bytes t.keeps_last (length text)) text)

-- the text runs this way
pub record RunsBlocks (t : BlockText) (which : Way) (keeps : Bool) (key iv text : List ℕ) : Type 0 where
  pub way : t.way ≡ which
  pub keeps_last : t.keeps_last ≡ keeps
  pub holds : HoldsBlockText t key iv text

-- the buffers are zeros
pub record IsClearText (t : BlockText) : Type 0 where
  pub chain : t.chain ≡ replicate 16 0
  pub kept : t.kept ≡ replicate 16 0
  pub used : t.used ≡ 0
