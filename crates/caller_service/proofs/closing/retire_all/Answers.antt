use Rattle.caller_service.proofs.{Common.IsReady, Common.MakesNoCall, Common.ap, Common.arith, Common.get_or, Common.get_or_default, Common.length, Common.subst, Common.sym, Common.world, Common.◌<◌, Common.◌∙◌, Ended.one_retired}
use Rattle.caller_service.proofs.closing.retire_all.Goals as goal

pub loop-caller-init : goal.loop-caller-init
loop-caller-init g c = record {
  as_many = ap length c.deref_mut-caller-items.ensures.value;
  done = λ k d lt. absurd (omega arith);
  rest = λ k d le. ap (λ l. get_or l k d) c.deref_mut-caller-items.ensures.value;
}

pub retire-requires-clause-ready : goal.retire-requires-clause-ready
retire-requires-clause-ready g c κs within =
    let i = c.loop-caller.invariant in let at = c.loop-caller.caller-index in
    let w = world c.args.shared.now in
    subst (IsReady w 0) (sym (i.rest at c.caller-item.result (omega arith))) (c.requires.ready at c.caller-item.result (let lt = c.loop-caller-test.true in let n = i.as_many in omega arith))

pub loop-caller-preserved : goal.loop-caller-preserved
loop-caller-preserved g c =
    let i = c.loop-caller.invariant in let at = c.loop-caller.caller-index in
    let lt : at < length c.loop-caller.caller-items = (let l = c.loop-caller-test.true in let n = ap length c.deref_mut-caller-items.ensures.value in let m = i.as_many in omega arith) in
    one_retired (world c.args.shared.now) at c.args.callers.now.items c.loop-caller.caller-items c.retire.new.self i lt
    (λ d. record {
      retired = c.retire.ensures.retired;
      quiet = subst (λ x. MakesNoCall x.pass.me.0 c.retire.new.self.pass.me.0)
          (get_or_default c.loop-caller.caller-items at c.caller-item.result d lt ∙ i.rest at d (omega arith)) c.retire.ensures.quiet;
    })
