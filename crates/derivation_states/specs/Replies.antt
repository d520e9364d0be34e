-- What the calls of a derivation answer, as replies of the model.
use Rattle.std.specs.Prelude.{◌≡◌, ℕ, min, List, length, take, drop, Result, Ok, Err}
use Rattle.psa_status.specs.{declared.Status.Status, declared.Status.TheVariants.Success}
use Rattle.store_model.specs.Prelude.{Reply, output_bytes, refusal}

-- a call that gives the bytes of a key, of which so many at most are written to the front of the buffer; a refusal
-- leaves the buffer
abbrev pub AnswersFront : ℕ → Result ℕ Status → (old new : List ℕ) → Reply → Type 0
AnswersFront most (Ok n) old new reply =
    (reply.status ≡ Success)
    × (n ≡ min (length (output_bytes reply.output)) most)
    × (take n new ≡ take n (output_bytes reply.output))
    × (drop n new ≡ drop n old)
AnswersFront most (Err status) old new reply = (reply ≡ refusal status) × (new ≡ old)
