use Rattle.callers.proofs.{Common.ap, Common.false, Common.is_inactive, Common.rules, Common.sym, Common.true, Common.◌∙◌, Common.◌≡◌, Beginning.at_handle}
use Rattle.service_calls.specs.{declared.call.Call.TheVariants.OnHandle, declared.handle_calls.HandleCall.TheVariants.Abort}
use Rattle.callers.specs.Budget.{is_counted}
use Rattle.callers.proofs.caller.Caller.ends.Goals as goal

pub returns-then-is_inactive-clause-none : goal.returns-then-is_inactive-clause-none
returns-then-is_inactive-clause-none g c = λ operations are.
    let inactive = at_handle (λ o. is_inactive o ≡ true) c.args.self.now.handles.list.items operations c.in-OnHandle-default-Abort.op are c.is_inactive.ensures.first c.is_inactive.ensures.last
    (λ cell o at is. sym (c.is_inactive.ensures.inactive cell o at is) ∙ c.if-is_inactive.true) in
    let aborts : c.args.call.now ≡ OnHandle c.in-OnHandle-default-Abort.op Abort = search rules in ap (λ call. is_counted call operations) aborts ∙ inactive

pub returns-else-is_inactive-clause-busy : goal.returns-else-is_inactive-clause-busy
returns-else-is_inactive-clause-busy g c = λ operations are.
    at_handle (λ o. is_inactive o ≡ false) c.args.self.now.handles.list.items operations c.in-OnHandle-default-Abort.op are c.is_inactive.ensures.first c.is_inactive.ensures.last
    (λ cell o at is. sym (c.is_inactive.ensures.inactive cell o at is) ∙ c.if-is_inactive.false)
