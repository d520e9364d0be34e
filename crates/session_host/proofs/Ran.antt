-- What is known of a run, from its opening, its callers and its close.
use Rattle.session_host.proofs.Common.{All, AreAnswered, AreNumbered, Names, limits_by, AreBounded, ArePlain, Caller, FaultCounts, HaveAnswered, HaveMade, HaveSeen, IsBroken, IsOfSession, IsOpening, IsRun, List, Opened, Opening, ReplyLine, Rose, ScriptLine, Turn, World, all_replies, ap, arith, failure_of, is_some, lines_of, map, opening_of, subst, true, world_of, ℕ, ◌∙◌, ◌≡◌, failures_marked}
use Rattle.atomic_table.specs.Seated.{TableId}
use Rattle.policy_rules.specs.declared.narrowing.Label.{Label}
use Rattle.caller_service.specs.Closing.{IsClosedOver}
use Rattle.session_host.proofs.{Isolated.isolated, Bounds.all_plain, Bounds.bounded, Bounds.stands_still, FaultLines.bounded_lines, Gathered.some_of, Whole.first_calls, Whole.line_order, Whole.own_turns, Whole.replies_are, Whole.replies_tell, Whole.turns}
use Rattle.disk_face.specs.declared.Disk as Disk
use Rattle.driver_dispatch.specs.declared.devices.Devices as Devices
use Rattle.admission.specs.declared.rules.Admission as Admission

module _ {D A C : Type 0} (disks : Disk.Ghosts D) (elements : Devices.Ghosts A) (admits : Admission.Ghosts C)
    (lock : TableId) (opened : Opened D A C) (disk : D) (devices : A) (named : List Label) (seed : List ℕ) (names : Names) (disk_after : D) (devices_after : A)
    (opening : IsOpening (world_of disks elements admits lock opened) disk devices named seed (limits_by names))
    (lines : List ScriptLine) (sessions : All IsOfSession lines) (callers : List (Caller D A C))
    (made : HaveMade (world_of disks elements admits lock opened) names lines callers)
    (closed : IsClosedOver (world_of disks elements admits lock opened) disk_after devices_after callers) where
  abbrev d : Caller D A C
  d = some_of callers (let n = made.are.sixteen in omega arith)

  abbrev w : World D A C
  w = world_of disks elements admits lock opened

  abbrev before : Opening
  before = opening_of disks elements admits opened

  abbrev after : FaultCounts
  after = record { faults = disks.faults disk_after; device_faults = elements.faults devices_after }

  few_marks : AreBounded (is_some (disks.contents disk)) before.counts after (failures_marked closed.history)
  few_marks =
      subst (λ t. AreBounded t before.counts after (failures_marked closed.history)) opening.found.tells
      (subst (λ c. AreBounded (is_some (disks.contents opened.file.value.cells.disk)) before.counts c (failures_marked closed.history)) closed.left.counts
      (bounded (is_some (disks.contents opened.file.value.cells.disk)) before closed.history closed.left.legal.caused closed.left.legal.rising))

  plain : is_some (disks.contents disk) ≡ true → (Rose (disks.faults disk) after.faults → ⊥) → (Rose (elements.faults devices) after.device_faults → ⊥) → ArePlain closed.history
  plain tells calm still =
      let d = stands_still (disks.faults disk) after.faults calm in let e = stands_still (elements.faults devices) after.device_faults still in
      let same : elements.faults opened.devices.value ≡ elements.faults devices = ap elements.faults opening.devices_are in
      all_plain closed.history (let a = few_marks.storage d.1 in let b = opening.later in let l = d.0 in omega (arith, a, b, l)) (let a = few_marks.hardware e.1 in let l = e.0 in omega (arith, a, l, same))
      (let a = few_marks.corrupt tells in omega (arith, a))

  pub a_run : IsRun disks elements admits disk devices named seed (limits_by names) disk_after devices_after
  a_run = record { lock = lock; opened = opened; opening = opening; history = closed.history; left = closed.left; bounded = few_marks; plain = plain }

  pub broken : IsBroken disks elements admits disk devices named seed names lines disk_after devices_after
  unfolding a_run
  broken = record {
    run = a_run;
    calls = first_calls w names lines callers closed.history made.are.sixteen made.are.numbers sessions closed.left.signed closed.seen closed.called made.each d;
  }

  pub answered : (replies : List (List ReplyLine)) (workers : ℕ) → AreNumbered names → HaveAnswered w names lines callers replies → (workers ≡ 1 → HaveSeen lines callers) →
      AreAnswered disks elements admits disk devices named seed names workers lines (all_replies replies) disk_after devices_after
  unfolding a_run
  answered replies workers owned h one =
      let r : List ReplyLine = some_of replies (let n = h.sixteen in omega arith) in
      let own_turns = own_turns w names lines callers closed.history made.are.sixteen made.are.numbers sessions closed.left.signed closed.seen closed.called replies d r h in
      let turns : ℕ → List Turn = turns w names lines callers closed.history made.are.sixteen made.are.numbers sessions closed.left.signed closed.seen closed.called replies d r h in
      let printed = replies_are w names lines callers closed.history made.are.sixteen made.are.numbers sessions closed.left.signed closed.seen closed.called replies d r h in
      record {
        run = a_run;
        turns = turns;
        own = own_turns;
        printed = printed;
        failures = bounded_lines (is_some (disks.contents disk)) before.counts after closed.history 16 (all_replies replies) few_marks
            (ap (map failure_of) printed ∙ replies_tell w names opening.starts.0 opening.starts.1 closed.history (λ session. lines_of session lines) turns own_turns 16);
        isolated = isolated w names lines closed.history (all_replies replies) turns opening.sound opening.limits_are owned sessions own_turns printed;
        line_order = λ is. line_order w names lines callers closed.history made.are.sixteen made.are.numbers sessions closed.left.signed closed.seen closed.called replies d r h (one is);
      }
