-- What the calls on a source and a sink tell.
use Rattle.std.specs.{Prelude.◌≡◌, Prelude.ℕ, Prelude.◌<◌, Prelude.List, Prelude.length, Prelude.take, Prelude.Result, Prelude.MatchResult, Prelude.IfOk, Prelude.is_some, Io.KnownBytes.Appends, declared.option.Option.Option}
pub use Rattle.psa_status.specs.Causes.{one_more, Rose, HasCause}

-- how many bytes a text may have: 4 MiB
abbrev pub text_limit : ℕ
text_limit = 4194304

-- an object that tells its bytes still tells them, and one that doesn't still doesn't
abbrev pub TellsAsBefore : Option (List ℕ) → Option (List ℕ) → Type 0
TellsAsBefore old new = is_some new ≡ is_some old

-- a write took the first bytes of the piece: as many as it says, or some of them where it failed
abbrev pub Takes : {E : Type 0} → Option (List ℕ) → Option (List ℕ) → Result ℕ E → List ℕ → Type 0
Takes old new r piece = MatchResult r (λ n. Appends old new (take n piece)) (λ _. (n : ℕ) × Appends old new (take n piece))

-- a write takes something, where there is something
abbrev pub Progresses : {E : Type 0} → Result ℕ E → List ℕ → Type 0
Progresses r piece = IfOk r (λ n. 0 < length piece → 0 < n)
