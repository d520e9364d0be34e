-- Turns in which the secure element computes.
use Rattle.disk_face.specs.declared.Disk as Disk
use Rattle.driver_dispatch.specs.declared.devices.Devices as Devices
use Rattle.admission.specs.declared.rules.Admission as Admission
use Rattle.std.specs.Prelude.{ℕ, ◌≡◌, true, List, [], ◌∷◌, ◌++◌, length, drop, Option, is_some, Result, Err, MatchOption}
use Rattle.std.specs.FinMap as map
use Rattle.psa_status.specs.{declared.Status.Status, Rows.first_row}
use Rattle.driver_dispatch.specs.Held.{HeldKeys}
use Rattle.key_slots.specs.Holdings.{Pairs}
use Rattle.store_model.specs.Store as model
use Rattle.store_model.specs.Prelude.{Call, buffer_after, is_opaque_key, FaultMark, marked_reply, Service, Entry, OnStore}
use Rattle.secure_element_calls.specs.{declared.calls.ElementCall.ElementCall, declared.calls.NotComputed.NotComputed, declared.calls.NotComputed.TheVariants.Refused, declared.calls.NotComputed.TheVariants.Failed, Answers.AnswersCall, Answers.IsOfElement, Answers.mark_computed, Calls.needed_by, Replies.all_rows, Replies.reply_on}
use Rattle.store_core.specs.{declared.store.Store.Store, Represents.IsEntry, Represents.Opening, Represents.StandsFor}

-- What a call answers, and what it makes of its output buffer, by the key of the element that the model has at its key's
-- identifier. Over a device that doesn't tell its keys, what the element computes is whatever it is.
pub record IsElementAnswered (held : Option HeldKeys) (id : ℕ) (call : ElementCall) (old new : List ℕ) (result : Result ℕ NotComputed) (m : model.Store) : Type 0 where
  pub opaque : is_opaque_key (map.get m.keys id) ≡ true
  pub decided : MatchOption (first_row (all_rows call (length old) (map.get m.keys id))) (IsOfElement call result) (λ status. result ≡ Err (Refused status))
  pub reply : is_some held ≡ true → AnswersCall call result (marked_reply (mark_computed result) (reply_on call (length old) (map.get m.keys id)))
  pub buffer : is_some held ≡ true → new ≡ buffer_after old (marked_reply (mark_computed result) (reply_on call (length old) (map.get m.keys id)))
  pub spoilt : result ≡ Err Failed → new ≡ buffer_after old (marked_reply (mark_computed result) (reply_on call (length old) (map.get m.keys id)))
  pub kept : (status : Status) → result ≡ Err (Refused status) → new ≡ old
  pub rest : drop (needed_by call) new ≡ drop (needed_by call) old

module _ {D A C : Type 0} (disks : Disk.Ghosts D) (elements : Devices.Ghosts A) (admits : Admission.Ghosts C) (old new : Store D A C) where
  -- a ranked turn that makes a call of the model, of whose model P holds afterwards
  abbrev pub Makes : Call → FaultMark → (model.Store → Type 0) → Type 0
  Makes call mark P = (start : Service) (opening : Opening) (h : List Entry) (all : List Pairs) (e : Entry) →
      StandsFor disks elements admits old start opening h all → e.call ≡ OnStore call →
      IsEntry disks elements admits new mark e →
      (n : StandsFor disks elements admits new start opening (h ++ e ∷ []) all) × P n.holds.model
