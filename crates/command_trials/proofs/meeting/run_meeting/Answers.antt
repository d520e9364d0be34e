use Rattle.std.proofs.Common.{arith}
use Rattle.command_trials.proofs.meeting.run_meeting.Goals as goal

-- each caller has made its session's calls, and is ready for more
pub close-disk-requires-clause-ready : goal.close-disk-requires-clause-ready
close-disk-requires-clause-ready g c κs within =
    let made = c.run_sessions-ran.ensures.made in
    λ k d lt. (made.each k d (let n = made.are.sixteen in omega arith)).1.ready
