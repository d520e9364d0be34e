-- What a call does to the store, and what it answers.
use Rattle.std.specs.Prelude.{ℕ, ◌+◌, List, length, Option, Some, None}
use Rattle.psa_status.specs.{declared.Status.Status, declared.Status.TheVariants.Success}
use Rattle.store_model.specs.{Store.Store, Call.Reply, Call.Nothing, Call.Done, Call.Bytes}

-- the store after a call, the reply, and how many random bytes the caller drew for it
pub record Outcome : Type 0 where
  pub store : Store
  pub reply : Reply
  pub drawn : ℕ

-- the store with one more call
abbrev pub counted : Store → Store
counted store = record store { calls = store.calls + 1 }

abbrev pub refusal : Status → Reply
refusal status = record { status = status; output = Nothing; needed = 0 }

-- a refusal leaves the store as it was, but for the count of calls
abbrev pub refused : Store → Status → Outcome
refused store status = record { store = counted store; reply = refusal status; drawn = 0 }

-- what a call does where no row of its table holds, and else its refusal
abbrev pub decided : Store → Option Status → Outcome → Outcome
decided store None done = done
decided store (Some status) done = refused store status

abbrev pub reply_unless : Option Status → Reply → Reply
reply_unless None reply = reply
reply_unless (Some status) reply = refusal status

-- what is computed for a call: its reply, and how many random bytes are drawn
pub record Computed : Type 0 where
  pub reply : Reply
  pub drawn : ℕ

abbrev pub replies : Reply → Computed
replies reply = record { reply = reply; drawn = 0 }

-- where no row of its table holds, and else the refusal
abbrev pub computed_unless : Option Status → Computed → Computed
computed_unless None computed = computed
computed_unless (Some status) computed = replies (refusal status)

-- a call that changes no key, and of which this was computed
abbrev pub with_computed : Store → Computed → Outcome
with_computed store computed = record { store = counted store; reply = computed.reply; drawn = computed.drawn }

-- success, without a result, and with bytes
abbrev pub done : Reply
done = record { status = Success; output = Done; needed = 0 }

abbrev pub given : List ℕ → Reply
given bytes = record { status = Success; output = Bytes bytes; needed = length bytes }

-- a refusal that leaves zeros in the output buffer, as many as were needed
abbrev pub spoiled : Status → ℕ → Reply
spoiled status needed = record { status = status; output = Nothing; needed = needed }
