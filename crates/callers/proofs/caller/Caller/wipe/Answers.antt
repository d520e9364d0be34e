use Rattle.callers.proofs.{Common.world, Retiring.goes_back, Retiring.quiet, Retiring.retiring, Retiring.same_number}
use Rattle.callers.proofs.caller.Caller.wipe.Goals as goal

pub give_back-requires-clause-lent : goal.give_back-requires-clause-lent
give_back-requires-clause-lent g c κs within =
    let r = c.requires.retiring in let ended = c.abort-lease.ensures in
    goes_back (world c.args.shared.now) c.args.op c.args.self.now c.abort-lease.new.self c.args.self.now r ended.first ended.last (ended.changed r.operations r.stand)

pub returns : goal.returns
returns g c =
    let w = world c.args.shared.now in let old = c.args.self.now in let new = c.give_back.new.self in let r = c.requires.retiring in let ended = c.abort-lease.ensures in let changed = ended.changed r.operations r.stand in let back = c.give_back.ensures.back in record {
      retiring = retiring w c.args.op old c.abort-lease.new.self new r ended.first ended.last changed back c.give_back.ensures.at c.give_back.ensures.legal;
      quiet = quiet w c.args.op old c.abort-lease.new.self new r ended.first ended.last changed back;
      number = same_number w c.args.op old c.abort-lease.new.self new r ended.first ended.last changed back;
    }
