-- What is known of a run: the disk that was opened, the one order of its calls, and what it leaves.
use Rattle.std.specs.Prelude.{◌≡◌, ◌≤◌, ◌<◌, ℕ, true, All, List, length, map, take, IfSome, is_some}
use Rattle.atomic_table.specs.Seated.{TableId}
use Rattle.psa_status.specs.Causes.{Rose}
use Rattle.policy_rules.specs.declared.narrowing.Label.{Label}
use Rattle.store_model.specs.{Prelude.Service, Prelude.Entry, Prelude.IsSoundStore, declared.limits.Limits.Limits, declared.limits.Limits.TheVariants.PerRange, declared.limits.Limits.TheVariants.Whole}
use Rattle.store_core.specs.{declared.store.Opened.Opened, declared.opening.StoreFault.StoreFault, declared.opening.StoreFault.TheVariants.File, declared.opening.StoreFault.TheVariants.RangeFull, Prelude.FindsKeysOf, Prelude.HasRoom, Prelude.IsUnopened, Prelude.opening_of}
use Rattle.locked_store.specs.Prelude.{IsFileNotOpened, IsStartOf, World, world_of}
use Rattle.caller_service.specs.Closing.{IsLeft}
use Rattle.owner_space.specs.{declared.names.Names.Names, declared.names.Names.TheVariants.Owned, declared.names.Names.TheVariants.Unowned, Owners.owner_count}
use Rattle.script_lang.specs.{declared.script.ScriptLine.ScriptLine, Prelude.AreAllKept, Prelude.ReplyLine, Prelude.Turn, Prelude.lines_of, Prelude.replies_to, declared.replies.Replies.Replies, declared.replies.ReplyForm.ReplyForm}
use Rattle.session_host.specs.{Bounds.AreBounded, Bounds.ArePlain, Bounds.failures_marked, Isolated.AreIsolated, Places.failure_of, Sessions.AreTurnsIn, declared.lines.Unanswered.Unanswered, declared.lines.Unanswered.TheVariants.NotOpened, declared.lines.Unanswered.TheVariants.OverQuota, declared.lines.Unanswered.TheVariants.Memory}
use Rattle.disk_face.specs.declared.Disk as Disk
use Rattle.driver_dispatch.specs.declared.devices.Devices as Devices
use Rattle.admission.specs.declared.rules.Admission as Admission
use Rattle.key_cells.specs.Prelude.{IsFoundIn, IsOpenedFile}

-- the calls of a history are made in the order of the lines
abbrev pub IsInLineOrder : List ScriptLine → List Entry → Type 0
IsInLineOrder lines history = map (λ e. e.caller) history ≡ map (λ line. line.session) lines

-- each owner's keys have a limit of their own
abbrev pub limits_by : Names → Limits
limits_by Unowned = Whole
limits_by (Owned owners) = PerRange

-- owners are numbered from 0 to 15
abbrev pub AreNumbered : Names → Type 0
AreNumbered Unowned = Unit {0}
AreNumbered (Owned owners) = All (λ owner. owner < owner_count) owners

-- why lines have no replies whose store wasn't opened
abbrev pub unanswered_by : StoreFault → Unanswered
unanswered_by (File fault) = NotOpened fault
unanswered_by (RangeFull range) = OverQuota range

-- a full range is an owner's
abbrev pub IsOwnersRange : StoreFault → Type 0
IsOwnersRange (File fault) = Unit {0}
IsOwnersRange (RangeFull range) = range < owner_count

module _ {D A C : Type 0} (w : World D A C) where
  -- The opening of a store from this disk, with these devices, rules of these labels, this seed and these limits. There
  -- is a start, and each is sound. Where the disk tells its bytes, the keys of a start are those of its image. The disk's count of faults
  -- hasn't fallen, and where there are limits by range no range has more keys than it may.
  pub record IsOpening (disk : D) (devices : A) (named : List Label) (seed : List ℕ) (limits : Limits) : Type 0 where
    pub starts : (start : Service) × IsStartOf w start
    pub sound : (start : Service) → IsStartOf w start → IsSoundStore start.store
    pub keys : IfSome (w.disk.contents disk) (FindsKeysOf w.disk w.devices w.rules w.opened)
    pub found : IsOpenedFile w.disk disk w.opened.file.value.cells.disk
    pub later : w.disk.faults disk ≤ w.disk.faults w.opened.file.value.cells.disk
    pub devices_are : w.opened.devices.value ≡ devices
    pub seed_is : w.opened.seed.value ≡ seed
    pub rules_are : w.rules.labels w.opened.rules.value ≡ named
    pub limits_are : w.opened.limits.value ≡ limits
    pub directory : IfSome (w.disk.contents disk) (λ image. IsFoundIn image w.opened.file.value.cells.states)
    pub room : HasRoom limits w.opened.file.value.cells.states

module _ {D A C : Type 0} (disks : Disk.Ghosts D) (elements : Devices.Ghosts A) (admits : Admission.Ghosts C) where
  -- A run: the store of this disk was opened under a lock, calls were made in one order, a history, and the store was closed. No
  -- more calls met a failure of the disk or the devices than their counts rose by; none did where neither rose and the disk tells.
  pub record IsRun (disk : D) (devices : A) (named : List Label) (seed : List ℕ) (limits : Limits) (disk_after : D) (devices_after : A) : Type 0 where
    pub lock : TableId
    pub opened : Opened D A C
    pub opening : IsOpening (world_of disks elements admits lock opened) disk devices named seed limits
    pub history : List Entry
    pub left : IsLeft (world_of disks elements admits lock opened) history disk_after devices_after
    pub bounded : AreBounded (is_some (disks.contents disk)) (opening_of disks elements admits opened).counts (record { faults = disks.faults disk_after; device_faults = elements.faults devices_after }) (failures_marked history)
    pub plain : is_some (disks.contents disk) ≡ true → (Rose (disks.faults disk) (disks.faults disk_after) → ⊥) → (Rose (elements.faults devices) (elements.faults devices_after) → ⊥) → ArePlain history

  -- The calls of these lines, whose sessions name keys so, were made in one order, and these are the replies, by session. Each
  -- session's calls in the order are those of its lines, with one reply line each, its number and its rank; replayed on the one-thread
  -- service in this order they have these replies, as far as that is told, and each is some such service's whether or not it is told.
  -- No more of the replies say that the disk or the devices failed than their counts rose by. Owners don't see each other. One
  -- worker makes the calls in the order of the lines.
  pub record AreAnswered (disk : D) (devices : A) (named : List Label) (seed : List ℕ) (names : Names) (workers : ℕ) (lines : List ScriptLine) (replies : List ReplyLine) (disk_after : D) (devices_after : A) : Type 0 where
    pub run : IsRun disk devices named seed (limits_by names) disk_after devices_after
    pub turns : (session : ℕ) → List Turn
    pub own : (session : ℕ) → AreTurnsIn (world_of disks elements admits run.lock run.opened) names run.history session (lines_of session lines) (turns session)
    pub printed : replies ≡ replies_to 16 turns
    pub failures : AreBounded (is_some (disks.contents disk)) (opening_of disks elements admits run.opened).counts (record { faults = disks.faults disk_after; device_faults = elements.faults devices_after }) (map failure_of replies)
    pub isolated : AreIsolated (world_of disks elements admits run.lock run.opened) names run.history turns replies
    pub line_order : workers ≡ 1 → IsInLineOrder lines run.history

  -- The replies to these lines are kept in this form, those of each session by themselves.
  pub record AreAnswers (disk : D) (devices : A) (named : List Label) (seed : List ℕ) (names : Names) (workers : ℕ) (lines : List ScriptLine) (form : ReplyForm) (kept : List Replies) (disk_after : D) (devices_after : A) : Type 0 where
    pub replies : List ReplyLine
    pub answered : AreAnswered disk devices named seed names workers lines replies disk_after devices_after
    pub all : AreAllKept form kept replies
    pub sixteen : length kept ≡ 16

  -- Calls of these lines were made in one order: those of each session are the first so many of its lines.
  pub record IsBroken (disk : D) (devices : A) (named : List Label) (seed : List ℕ) (names : Names) (lines : List ScriptLine) (disk_after : D) (devices_after : A) : Type 0 where
    pub run : IsRun disk devices named seed (limits_by names) disk_after devices_after
    pub calls : (session : ℕ) → (n : ℕ) × (turns : List Turn) × AreTurnsIn (world_of disks elements admits run.lock run.opened) names run.history session (lines_of session (take n lines)) turns

  -- The lines have no replies for this reason: their store wasn't opened, since its file wasn't or since an owner has more keys than it
  -- may, and the devices come back as they were; or memory ran out after that.
  abbrev pub IsUnanswered : (disk : D) (devices : A) (named : List Label) (seed : List ℕ) (names : Names) (lines : List ScriptLine) → Unanswered → (disk_after : D) (devices_after : A) → Type 0
  IsUnanswered disk devices named seed names lines (NotOpened fault) disk_after devices_after = IsFileNotOpened disks disk disk_after fault × (devices_after ≡ devices)
  IsUnanswered disk devices named seed names lines (OverQuota owner) disk_after devices_after =
      IsUnopened disks (limits_by names) disk disk_after (RangeFull owner) × (owner < owner_count) × (devices_after ≡ devices)
  IsUnanswered disk devices named seed names lines Memory disk_after devices_after = IsBroken disk devices named seed names lines disk_after devices_after
