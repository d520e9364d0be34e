use Rattle.callers.proofs.{Common.ap, Common.arith, Common.is_inactive, Common.model_request, Common.operation_at, Common.refl, Common.sym, Common.world, Common.◌∙◌, Common.◌≡◌, Beginning.at_handle, Beginning.stayed_answered, Beginning.stayed_ready, Beginning.twice, Looking.same_spares, SettingUp.is_free}
use Rattle.psa_status.specs.declared.Status.TheVariants as status
use Rattle.callers.proofs.caller.Caller.set_up.Goals as goal

pub returns-then-not-is_inactive : goal.returns-then-not-is_inactive
returns-then-not-is_inactive g c =
    let w = world c.args.shared.now in let old = c.args.self.now in let new = record old { pass = c.count-rank.new.pass } in let r = c.requires.ready in let i = c.count-rank.ensures.counted.after.entered in
    let first = c.is_inactive.ensures.first in let last = c.is_inactive.ensures.last in let there = operation_at r.operations c.args.op in
    let begun = sym (at_handle (λ o. c.is_inactive.result ≡ is_inactive o) old.handles.list.items r.operations c.args.op r.stand first last c.is_inactive.ensures.inactive) ∙ c.if-not-is_inactive.true in
    let applies = twice w old new r i first last c.args.setup (ap (λ x. model_request x c.args.room) c.requires.call) refl begun in record {
      ready = stayed_ready w old new r i first last there refl status.BadState applies refl refl refl refl refl (same_spares r.clear refl) c.requires.worn c.count-rank.ensures.at c.count-rank.ensures.legal;
      answered = stayed_answered w old new r i first last there refl status.BadState applies (λ start is. refl);
      spent = omega arith;
    }

pub begin_with-requires-clause-free : goal.begin_with-requires-clause-free
begin_with-requires-clause-free g c κs within = λ cell operation at is. is_free operation (sym (c.is_inactive.ensures.inactive cell operation at is) ∙ c.if-not-is_inactive.false)

pub begin-requires-clause-free : goal.begin-requires-clause-free
begin-requires-clause-free g c κs within = λ cell operation at is. is_free operation (sym (c.is_inactive.ensures.inactive cell operation at is) ∙ c.if-not-is_inactive.false)
