use Rattle.operation_handles.proofs.{Common.set_up_without_key, Common.ap, Common.refl, Common.sym, Common.◌∙◌, Fresh.all_inactive, Leases.begun}
use Rattle.operation_handles.proofs.handle.OperationHandle.begin.Goals as goal

pub returns-clause-state : goal.returns-clause-state
returns-clause-state c = λ operation h.
    begun c.args.self.now _ operation c.args.setup (c.requires.free operation h) c.requires.none refl c.begin.ensures.state h

pub returns-clause-reply : goal.returns-clause-reply
returns-clause-reply c = λ operation h.
    let free = c.requires.free operation h in
    c.begin.ensures.reply (all_inactive c.args.self.now.states h.key operation h.are free)
    ∙ sym (ap (λ o. (set_up_without_key o c.args.setup).reply) free)
