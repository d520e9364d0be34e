-- What a KeyStream stands for.
use Rattle.std.specs.Prelude.{◌≡◌, ℕ, ◌+◌, ◌-◌, ◌*◌, ◌<◌, ◌≤◌, List, replicate}
use Rattle.aead_streams.specs.{declared.counter_width.CounterWidth.CounterWidth, declared.key_stream.KeyStream.KeyStream, Counters.counter_at, Counters.stream_block}

-- n bytes of the stream of e over the counter blocks from `start` on are used, for which so many blocks were made
pub record IsAt (s : KeyStream) (e : List ℕ → List ℕ) (width : CounterWidth) (start n : ℕ) : Type 0 where
  pub blocks : ℕ
  pub counts : s.width ≡ width
  pub counter : s.counter ≡ counter_at width start blocks
  pub place : n + 16 ≡ 16 * blocks + s.used
  pub used : s.used ≤ 16
  pub block : s.used < 16 → s.block ≡ stream_block e width start (blocks - 1)

-- the buffers are zeros
pub record IsClearStream (s : KeyStream) : Type 0 where
  pub counter : s.counter ≡ 0
  pub block : s.block ≡ replicate 16 0
