-- Where a session's calls stand in a history, and of which failures of devices its replies tell.
use Rattle.std.specs.Prelude.{ℕ, zero, suc, ◌+◌, ◌==◌, cond, List, [], ◌∷◌, ◌++◌, Option}
use Rattle.psa_status.specs.declared.Status.{Status}
use Rattle.callers.specs.Failures.{failure_marked, failure_told}
use Rattle.store_model.specs.Prelude.{Entry}
use Rattle.script_lang.specs.Prelude.{ReplyLine, Turn}

-- what stands for each of a session's calls in a history, by its place there, from a rank on
abbrev pub of_calls : {X : Type 0} → (at : (rank : ℕ) → Entry → X) → (session rank : ℕ) → List Entry → List X
of_calls at session rank [] = []
of_calls at session rank (e ∷ es) = cond (e.caller == session) (at rank e ∷ of_calls at session (rank + 1) es) (of_calls at session (rank + 1) es)

-- a turn's rank and entry
abbrev pub ranked_call : Turn → ℕ × Entry
ranked_call t = (t.rank, t.entry)

-- the failures that their marks are of
abbrev pub failures_of : (session : ℕ) → List Entry → List (Option Status)
failures_of session h = of_calls (λ rank e. failure_marked e.mark) session 0 h

-- and those of sessions 1 to n
abbrev pub failures_to : ℕ → List Entry → List (Option Status)
failures_to zero h = []
failures_to (suc n) h = failures_to n h ++ failures_of (suc n) h

-- the failure that the status of a reply line tells of
abbrev pub failure_of : ReplyLine → Option Status
failure_of r = failure_told r.status
