-- GENERATE: a key of random bytes, as many as the stated bits say. A refusal draws no word.
use Rattle.std.specs.Prelude.{ℕ, Result, Ok, Err}
use Rattle.store_model.specs.{Common.Attributes, Common.Outcome, Common.Random, Common.Status, Common.Store, Common.first_row, Common.refused, Common.unless, Common.◌>>=◌, Creation.recorded_of, Creation.created, Creation.stated_bytes, Creation.stated_bits_rows}

abbrev pub generation_of : Store → ℕ → Attributes → Result Attributes Status
generation_of store caller a = do
  bytes ← unless (first_row (stated_bits_rows a)) (stated_bytes a)
  recorded_of store caller a bytes

abbrev pub generated : Store → ℕ → Random → ℕ → Result Attributes Status → Outcome
generated store caller random n (Ok kept) = record (created store caller kept (random n)) { drawn = n }
generated store caller random n (Err status) = refused store status
