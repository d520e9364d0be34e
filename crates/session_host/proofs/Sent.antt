-- What may cross threads: the workers, with the disk, the devices and the rules behind their passes, and the service, which they
-- share with its gate. It is shown type by type, since a search through a whole type runs out of steps.
use Rattle.session_host.proofs.Common.{Frees, IsSend, IsSync, [], crosses, enum_send, recorded_send, sendable, ◌∷◌}
use denote.RattleType.{RattleType}
use denote.Enum.Enum.{Enum}
use denote.Enum.Declared as E
use denote.Hole.{as_row}
use denote.Struct.Field.{row_field, shr_ref_field, shr_slice_field}
use denote.Struct.Tuple.{TupleAt, type_at}
use denote.Ref.{NamedLft}
use denote.Builtin as builtin
use mir.Syntax.{Sym}
use denote.Param.SendFields.{as_row_sync, declared_send, declared_sync}
use Rattle.std.proofs.Crossing as heap
use Rattle.std.specs.declared.alloc.Allocator as alloc
use Rattle.std.specs.contracts.option.Option as Option
use Rattle.std.specs.contracts.boxed.Box as Box
use Rattle.std.specs.contracts.alloc.Global as Heap
use Rattle.std.specs.contracts.impls.GlobalAllocator.TheImpl.{ghosts}
use Rattle.atomic_table.specs.declared.shared.TableRule as rule
use Rattle.atomic_table.specs.contracts.owned.Table as Table
use Rattle.atomic_table.proofs.shared.Seat.TheSendSync as seat
use Rattle.atomic_table.proofs.shared.Shared.TheSendSync as shared
use Rattle.atomic_table.proofs.send_lease.SendLease.TheSendSync as lease
use Rattle.turn_history.specs.declared.historic.Historic as historic
use Rattle.turn_history.specs.contracts.lock.HistoryLock as Lock
use Rattle.turn_history.specs.contracts.pass.View as View
use Rattle.turn_history.specs.contracts.rule.Opening as Opening
use Rattle.turn_history.specs.contracts.rule.Turns as Turns
use Rattle.turn_history.specs.contracts.rule.TurnsTableRuleOptionBoxViewEntryBaseOpening.TheImpl as turns
use Rattle.disk_face.specs.declared.Disk as disk
use Rattle.driver_dispatch.specs.declared.devices.Devices as devices
use Rattle.admission.specs.declared.rules.Admission as admission
use Rattle.secret_bytes.specs.contracts.Secret as Secret
use Rattle.locked_store.specs.contracts.held.Held as Held
use Rattle.locked_store.specs.contracts.held.SharedStore as Shared
use Rattle.operation_handles.specs.contracts.handle.OperationHandle as OperationHandle
use Rattle.callers.specs.contracts.caller.Caller as Caller
use Rattle.caller_service.specs.contracts.service.Service as Service
use Rattle.owner_space.specs.contracts.names.Names as Names
use Rattle.script_lang.specs.contracts.replies.Replies as Replies
use Rattle.session_host.specs.contracts.session.Session as Session
use Rattle.session_host.specs.contracts.worker.Worker as Worker

secret_send : IsSend Secret.the_row
secret_send = search (sendable, crosses) depth 40

handle_send : IsSend OperationHandle.the_row
handle_send = search (sendable, crosses) depth 60 fits 100000

replies_send : IsSend Replies.the_row
replies_send = search (sendable, crosses) depth 40 fits 10000

-- a value in a box, as the lock holds it
abbrev boxed : RattleType → RattleType
boxed T = Box.the_row T Heap.the_row ghosts

module _ (T : RattleType) (t : IsSend T) where
  maybe_send : IsSend (Option.the_row T)
  maybe_send = let O = Option.the_type T in recorded_send (Enum (E.shape O)) _ O.to O.to_one (enum_send (E.shape O) (tt, ((t, tt), tt)))

-- THE LOCK

module _ (S V K P H : RattleType) (g : rule.Ghosts P.Denot S.Denot V.Denot K.Denot) (h : alloc.Ghosts H.Denot) (s : IsSend S) (hs : IsSend H) (hy : IsSync H) (f : Frees h h.dealloc_token) where
  table_sync : IsSync (as_row (Table.the_field S V K P H g h))
  table_sync =
      declared_sync (Table.the_type S V K P H g h)
      (shared.the_sync S V K P g s, (search sendable, (search sendable, (lease.the_sync _ H h hs f, (lease.the_sync _ H h hs f, (as_row_sync (row_field H) hy, tt))))))

module _ (V F B : RattleType) (g : historic.Ghosts V.Denot F.Denot B.Denot) (v : IsSend V) where
  lock_sync : IsSync (Lock.the_row V F B g)
  lock_sync =
      let table = table_sync (Option.the_row (boxed V)) (View.the_row F B) (Opening.the_row V) (Turns.the_row V) _ (turns.ghosts V F B g turns.no_dict) _ (maybe_send (boxed V) (heap.Box-send V v)) heap.send heap.sync heap.frees in
      declared_sync (Lock.the_type V F B g) (table, tt)

-- CALLERS, SESSIONS, WORKERS, AND THEIR SERVICE

module _ (D A C : RattleType) (d : IsSend D) (a : IsSend A) (c : IsSend C) where
  held_send : IsSend (Held.the_row D A C)
  held_send = search (sendable, crosses) depth 60 fits 100000

  caller_send : IsSend (Caller.the_row D A C)
  caller_send =
      let pass = seat.the_send (Option.the_row (boxed (Held.the_row D A C))) _ (maybe_send (boxed (Held.the_row D A C)) (heap.Box-send (Held.the_row D A C) held_send)) in
      declared_send (Caller.the_type D A C)
      (search sendable, (search sendable, (pass, (search (sendable, crosses) depth 40 fits 10000, (search (sendable, crosses, secret_send), (search (sendable, crosses, handle_send) depth 20, tt))))))

  session_send : IsSend (Session.the_row D A C)
  session_send = declared_send (Session.the_type D A C) (caller_send, (search (sendable, crosses, replies_send) depth 20, (search (sendable, crosses) depth 20, tt)))

  pub worker_send : IsSend (Worker.the_row D A C)
  worker_send =
      let session = session_send in
      declared_send (Worker.the_type D A C)
      (heap.Vec-send (Session.the_row D A C) session, (search (sendable, crosses) depth 20, (search (sendable, crosses) depth 20, (search sendable, (search (sendable, crosses) depth 20, tt)))))

  module _ (G : RattleType) (dg : disk.Ghosts D.Denot) (ag : devices.Ghosts A.Denot) (cg : admission.Ghosts C.Denot) (g : IsSync G) where
    pub service_sync : IsSync (Service.the_row D A C G dg ag cg)
    service_sync =
        declared_sync (Service.the_type D A C G dg ag cg)
        (declared_sync (Shared.the_type D A C dg ag cg) (lock_sync (Held.the_row D A C) _ _ _ held_send, (search (sendable, crosses) depth 20, tt)), (search sendable, (as_row_sync (row_field G) g, tt)))

names_sync : IsSync Names.the_row
names_sync = search (sendable, crosses) depth 40

-- what a closure borrows that runs a worker
module _ (ν : Sym) (ℓ₁ ℓ₂ ℓ₃ ℓ₄ ℓ₅ : NamedLft) (R H S L : RattleType) (one₁ : builtin.One R.mir) (one₂ : builtin.One H.mir) (one₃ : builtin.One S.mir) (one₄ : builtin.One Names.the_row.mir) (one₅ : builtin.One L.mir) (r : IsSync R) (h : IsSync H) (s : IsSync S) (l : IsSync L) where
  pub closure_sync : IsSync (TupleAt ν ((shr_ref_field ℓ₁ R one₁).row ∷ (shr_ref_field ℓ₂ H one₂).row ∷ (shr_ref_field ℓ₃ S one₃).row ∷ (shr_ref_field ℓ₄ Names.the_row one₄).row ∷ (shr_slice_field ℓ₅ L one₅).row ∷ []))
  closure_sync =
      let names = names_sync in
      declared_sync (type_at ν ((shr_ref_field ℓ₁ R one₁).row ∷ (shr_ref_field ℓ₂ H one₂).row ∷ (shr_ref_field ℓ₃ S one₃).row ∷ (shr_ref_field ℓ₄ Names.the_row one₄).row ∷ (shr_slice_field ℓ₅ L one₅).row ∷ []))
      (search sendable, (search sendable, (search sendable, (search sendable, (search sendable, tt)))))
