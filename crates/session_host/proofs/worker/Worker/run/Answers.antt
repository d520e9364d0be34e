use Rattle.session_host.proofs.{Common.false, Common.refl, Common.take, Common.world, Common.◌∙◌, Working.ran_next, Working.stopped}
use Rattle.session_host.proofs.worker.Worker.run.Goals as goal

pub loop-line-preserved : goal.loop-line-preserved
loop-line-preserved g c =
    let w = world c.args.service.now.shared in let names = c.args.names.now in
    let i = c.loop-line.line-index in let lines = c.args.lines.now in let v = c.loop-line.invariant in record {
      ran = ran_next w names lines i c.line-item.result c.loop-line-test.true c.line-item.is c.run_line.new.self (c.in-Ok.ensures.ran (take i lines) v.ran);
      numbers = c.run_line.ensures.numbers ∙ v.numbers;
      form = λ form had. c.run_line.ensures.form form (v.form form had);
      whole = c.run_line.ensures.whole ∙ v.whole;
    }

pub returns-in_default : goal.returns-in_default
returns-in_default g c =
    let w = world c.args.service.now.shared in let names = c.args.names.now in
    let i = c.loop-line.line-index in let lines = c.args.lines.now in let v = c.loop-line.invariant in
    stopped w names lines i c.line-item.result c.loop-line-test.true c.line-item.is c.args.self.now (record c.run_line.new.self { whole = false })
    (c.run_line.ensures.numbers ∙ v.numbers) (λ form had. c.run_line.ensures.form form (v.form form had)) (c.in_default.ensures.ran (take i lines) v.ran) refl
