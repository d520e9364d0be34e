use Rattle.std.proofs.Common.{All, length, ◌-◌, ◌≤◌}
use Rattle.script_lang.proofs.Common.{IsNew}
use Rattle.script_lang.proofs.reading.new_sessions.Given as goal

abbrev pub invariant-loop-alloc : goal.invariant-loop-alloc
invariant-loop-alloc l = record {
  few : length l.sessions.items ≤ 17;
  new : All IsNew l.sessions.items;
}

abbrev pub decreases-loop-alloc : goal.decreases-loop-alloc
decreases-loop-alloc l = 17 - length l.sessions.items
