use Rattle.session_host.proofs.{Common.world, Common.◌∙◌, Gathered.have_kept, Gathered.have_made, Gathered.have_seen, Gathered.own_after}
use Rattle.session_host.proofs.running.run_dealt.Goals as goal

pub run_workers-requires-clause-begun : goal.run_workers-requires-clause-begun
run_workers-requires-clause-begun g c κs within = (c.deal.ensures.dealt c.args.names.now).begun

pub gather-requires-clause-dealt : goal.gather-requires-clause-dealt
gather-requires-clause-dealt g c κs within =
    own_after (world c.args.service.now.shared) c.args.names.now c.args.lines.now c.deal.new.workers c.run_workers.new.workers c.args.form (c.deal.ensures.dealt c.args.names.now) c.run_workers.auto.workers c.run_workers.ensures

pub returns-clause-made : goal.returns-clause-made
returns-clause-made g c =
    have_made (world c.args.service.now.shared) c.args.names.now c.args.lines.now c.deal.new.workers c.run_workers.new.workers c.args.form (c.deal.ensures.dealt c.args.names.now) c.run_workers.auto.workers c.run_workers.ensures c.gather.new.callers.items c.gather.new.replies.items c.gather.ensures.gathered

pub returns-clause-answered : goal.returns-clause-answered
returns-clause-answered g c = λ whole.
    have_kept (world c.args.service.now.shared) c.args.names.now c.args.lines.now c.deal.new.workers c.run_workers.new.workers c.args.form (c.deal.ensures.dealt c.args.names.now) c.run_workers.auto.workers c.run_workers.ensures c.gather.new.callers.items c.gather.new.replies.items c.gather.ensures.gathered (c.are_whole-whole.ensures whole)

pub returns-clause-one_worker : goal.returns-clause-one_worker
returns-clause-one_worker g c = λ whole one.
    have_seen (world c.args.service.now.shared) c.args.names.now c.args.lines.now c.deal.new.workers c.run_workers.new.workers c.args.form (c.deal.ensures.dealt c.args.names.now) c.run_workers.auto.workers c.run_workers.ensures c.gather.new.callers.items c.gather.new.replies.items c.gather.ensures.gathered (c.are_whole-whole.ensures whole)
    (c.run_workers.auto.workers ∙ (c.deal.ensures.count ∙ one)) c.requires.sessions
