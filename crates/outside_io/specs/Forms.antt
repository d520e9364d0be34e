-- The forms in memory: what each stands for, and what a call leaves.
use Rattle.std.specs.{Prelude.ℕ, Prelude.Bool, Prelude.List, Prelude.◌++◌, Prelude.◌==◌, Prelude.length, Prelude.drop, Prelude.min, Prelude.if◌then◌else◌, List.list_any}
use Rattle.outside_io.specs.Causes.{one_more}

-- a source: the bytes that are left, the numbers of the calls that fail, the calls so far, and the faults so far
pub record SourceForm : Type 0 where
  pub left : List ℕ
  pub fails : List ℕ
  pub calls : ℕ
  pub faults : ℕ

-- a sink: the bytes that were taken, the same three, and how many calls found no memory
pub record SinkForm : Type 0 where
  pub taken : List ℕ
  pub fails : List ℕ
  pub calls : ℕ
  pub faults : ℕ
  pub refused : ℕ

-- whether the call of this number is to fail
abbrev pub must_fail : List ℕ → ℕ → Bool
must_fail fails number = list_any (λ listed. listed == number) fails

-- A read fails where its number is listed. Otherwise it gives as many bytes as there are and the buffer has room for.
abbrev pub after_read : SourceForm → ℕ → SourceForm
after_read s room =
    if must_fail s.fails s.calls then record s { calls = one_more s.calls; faults = one_more s.faults }
    else record s { left = drop (min (length s.left) room) s.left; calls = one_more s.calls }

-- a write that took the piece
abbrev pub after_write : SinkForm → List ℕ → SinkForm
after_write s piece = record s { taken = s.taken ++ piece; calls = one_more s.calls }

-- a write whose number is listed
abbrev pub failed_write : SinkForm → SinkForm
failed_write s = record s { calls = one_more s.calls; faults = one_more s.faults }

-- a write that found no memory
abbrev pub refused_write : SinkForm → SinkForm
refused_write s = record (failed_write s) { refused = one_more s.refused }
