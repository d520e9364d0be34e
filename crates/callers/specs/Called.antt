-- What a caller's call adds to what the caller has seen, and what it answers.
use Rattle.std.specs.Prelude.{◌≡◌, ◌⊎◌, ℕ, ◌+◌, ◌-◌, true, false, List, [], ◌∷◌, ◌++◌, length, is_some, Result}
use Rattle.psa_status.specs.{declared.Status.Status, declared.Status.TheVariants.InvalidSignature}
use Rattle.turn_history.specs.{declared.pass.View.View, Prelude.entries_of, Prelude.StartsWith}
use Rattle.service_calls.specs.{declared.output.Output.Output, Answered.AnswersReply}
use Rattle.store_model.specs.Call.{CipherDecrypt, CipherEncrypt, MacCompute, MacVerify}
use Rattle.store_model.specs.Prelude.{Reply, buffer_after, done, given, refusal, tag_bytes, FaultMark, Plain, Service, IsSoundStore, MayBeMarked, asks_device, counted, OnStore, Request, Entry, outcome_of, replay}
use Rattle.store_core.specs.declared.store.Opened.{Opened}
use Rattle.locked_store.specs.Prelude.{GoesOn, IsLegal, IsStartOf, ToldBy, World}
use Rattle.callers.specs.Failures.{failure_in, failure_marked}

-- From one view of a caller to a later one so many turns were spent, and in one of them this entry was added, after the history
-- `before`, at the place r: it is the caller's own, of this call with this mark, and no other of its own was added.
pub record IsCalled {B : Type 0} (v w : View Entry B) (turns : ℕ) (call : Request) (mark : FaultMark) (r : ℕ) (before : List Entry) (e : Entry) : Type 0 where
  pub number : w.number ≡ v.number
  pub weight : w.weight ≡ v.weight
  pub left : w.turns_left + turns ≡ v.turns_left
  pub goes_on : GoesOn v before
  pub placed : StartsWith (entries_of w.seen) (before ++ e ∷ [])
  pub rank : r ≡ length before
  pub by : e.caller ≡ v.number
  pub call_is : e.call ≡ call
  pub mark_is : e.mark ≡ mark
  pub calls : w.calls ≡ v.calls ++ e ∷ []

-- result and output buffer are those of a reply
abbrev pub IsReplied : Result Output Status → (old new : List ℕ) → Reply → Type 0
IsReplied result old new reply = AnswersReply result reply × (new ≡ buffer_after old reply)

-- a success that gives so many bytes, whatever they are
abbrev pub GivesSome : ℕ → Reply → Type 0
GivesSome count reply = (bytes : List ℕ) × (length bytes ≡ count) × (reply ≡ given bytes)

-- What a secure element may have computed for a request, of whose keys nothing is told: as many bytes as the request needs, or
-- that a MAC is the one that was given, or isn't.
abbrev pub MayCompute : Request → Reply → Type 0
MayCompute (OnStore (MacCompute id alg input room)) reply = GivesSome (tag_bytes alg) reply
MayCompute (OnStore (MacVerify id alg input mac)) reply = (reply ≡ done) ⊎ (reply ≡ refusal InvalidSignature)
MayCompute (OnStore (CipherEncrypt id alg input room)) reply = GivesSome (16 + length input) reply
MayCompute (OnStore (CipherDecrypt id alg input room)) reply = GivesSome (length input - 16) reply
MayCompute request reply = ⊥

module _ {D A C : Type 0} (w : World D A C) where
  abbrev pub Legal : List Entry → Type 0
  Legal h = IsLegal w h

  -- There is a one-thread service of which P holds: with the start's settings and, once the entry's call is counted, a sound store.
  -- The entry's mark may stand there on its call. As far as the history with the entry is told, it is the replay's.
  pub record HasService (start : Service) (P : Service → Type 0) (before : List Entry) (e : Entry) : Type 0 where
    pub service : Service
    pub settings : service.store.settings ≡ start.store.settings
    pub sound : IsSoundStore (counted service.store)
    pub allowed : MayBeMarked service e.caller e.call e.mark
    pub replayed : ToldBy w start (before ++ e ∷ []) → service ≡ replay start before
    pub holds : P service

  -- P holds of a one-thread service before an entry, from each start: of the replay's, as far as the history with the entry is told
  abbrev pub KnowsBefore : (Service → Type 0) → List Entry → Entry → Type 0
  KnowsBefore P before e = (start : Service) → IsStartOf w start → HasService start P before e

  -- A reply of a one-thread service to an entry: its own, or, where no device failed and the secure element computes, of whose
  -- keys nothing is told, one that this may have computed.
  abbrev pub MayReply : Service → Entry → Reply → Type 0
  MayReply service e reply = (reply ≡ (outcome_of service e).reply)
      ⊎ ((is_some (w.devices.keys w.opened.devices.value) ≡ false) × (e.mark ≡ Plain) × (asks_device service e.caller e.call ≡ true) × MayCompute e.call reply)

  -- P holds of a reply to an entry, from each start
  abbrev pub KnowsReply : (Reply → Type 0) → List Entry → Entry → Type 0
  KnowsReply P before e = KnowsBefore (λ service. (reply : Reply) × MayReply service e reply × P reply) before e

  -- the result tells of a device that failed exactly where the mark does, from whatever start
  abbrev pub TellsFailure : Result Output Status → FaultMark → Type 0
  TellsFailure result mark = (start : Service) → IsStartOf w start → failure_in result ≡ failure_marked mark

  -- The call has its entry at the place r of what the caller has then seen. Result and output buffer are those of a one-thread
  -- service's reply there: of the replay's, as far as the history is told. The result tells of a device that failed exactly where
  -- the entry's mark does.
  pub record IsAnswered (v u : View Entry (Opened D A C)) (call : Request) (r : ℕ) (result : Result Output Status) (old new : List ℕ) : Type 0 where
    pub turns : ℕ
    pub mark : FaultMark
    pub before : List Entry
    pub entry : Entry
    pub called : IsCalled v u turns call mark r before entry
    pub failure : TellsFailure result mark
    pub replied : KnowsReply (IsReplied result old new) before entry
