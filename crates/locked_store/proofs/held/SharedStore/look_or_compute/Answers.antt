use Rattle.locked_store.proofs.Common.{DecidesAfter, FitsUse, IfErr-at_err, IfOk-at_ok, IsClear, IsEntered, IsEnteredAfter, IsLent, Plain, ap, bytes_of, entries_of, is_opaque_key, lease_pair, length, mark_computed, mark_of, model_request, refl, subst, sym, use_refusal, world, ◌∙◌, ◌∷◌}
use Rattle.std.proofs.lemmas.Bool.{false_from_ne_true, false≢true}
use Rattle.key_policy.proofs.Refusals.{local}
use Rattle.locked_store.proofs.{Renewing.model_as, Turns.in_turn, Turns.ranked}
use Rattle.std.specs.FinMap as map
use Rattle.locked_store.proofs.held.SharedStore.look_or_compute.Goals as goal

pub returns-then-is_opaque-clause-looked : goal.returns-then-is_opaque-clause-looked
returns-then-is_opaque-clause-looked g c =
    let found = c.compute_in-rank.ensures.computed in
    (c.requires.spare, ranked (subst (λ q. IsEntered q.me.0 c.compute_in-rank.new.pass.me.0 (model_request c.args.call.now (length c.args.out.now)) (mark_computed c.compute_in-rank.result.1) c.compute_in-rank.result.0 q.me.0.holding (entries_of c.enter-turn.new.pass.me.0.seen) found.entry) c.of-before.ensures found.entered) found.decided)

pub returns-in-Ok-clause-looked : goal.returns-in-Ok-clause-looked
returns-in-Ok-clause-looked g c =
    let found = IfOk-at_ok (λ lease. IsEnteredAfter c.of-before.result.value.me.0 c.look_in-rank.new.pass.me.0 (model_request c.args.call.now (length c.args.out.now)) Plain c.look_in-rank.result.0 (lease_pair lease ∷ c.of-before.result.value.me.0.holding) (entries_of c.enter-turn.new.pass.me.0.seen) (DecidesAfter (world c.args.self.now) (IsLent (use_refusal c.args.wanted) c.args.id.0 lease))) c.in-Ok.is c.look_in-rank.ensures.lent in (
      refl,
      IfOk-at_ok (λ lease. FitsUse c.args.wanted (bytes_of lease.buffer)) c.in-Ok.is c.look_in-rank.ensures.fits,
      ranked (subst (λ q. IsEntered q.me.0 c.look_in-rank.new.pass.me.0 (model_request c.args.call.now (length c.args.out.now)) Plain c.look_in-rank.result.0 (lease_pair c.in-Ok.lease ∷ q.me.0.holding) (entries_of c.enter-turn.new.pass.me.0.seen) found.entry) c.of-before.ensures found.entered)
          (λ start is. model_as (λ k. k) (λ m lent. (lent, ap is_opaque_key lent.1 ∙ local c.args.wanted lent.0 lent.2)) (found.decided start is)),
    )

pub returns-in-Err-clause-looked : goal.returns-in-Err-clause-looked
returns-in-Err-clause-looked g c =
    let t = in_turn c.enter-turn.ensures.begun c.enter-turn.ensures.stands c.enter-turn.ensures.opened (ap (λ v. v.store) c.value.ensures.value) in
    let found = IfErr-at_err _ c.in-Err.is c.look_in-rank.ensures.refused in (
      refl,
      IfErr-at_err (λ refused. IsClear refused.1) c.in-Err.is c.look_in-rank.ensures.spare,
      ranked (subst (λ q. IsEntered q.me.0 c.look_in-rank.new.pass.me.0 (model_request c.args.call.now (length c.args.out.now)) (mark_of c.in-Err.status) c.look_in-rank.result.0 q.me.0.holding (entries_of c.enter-turn.new.pass.me.0.seen) found.entry) c.of-before.ensures found.entered)
          (λ start is. model_as (λ k. k) (λ m refused. (
            refused.0,
            false_from_ne_true (is_opaque_key (map.get m.keys c.args.id.0)) (λ opaque.
                let stands = t.stands.each t.stands.start t.stands.starts in
                let was = refused.1 opaque in
                false≢true (sym ((rw c.if-is_opaque.false at c.is_opaque.ensures) t.stands.start _ _ _ stands) ∙ was t.stands.start _ _ _ stands)),
          )) (found.decided start is)),
    )

pub compute_in-rank-requires-clause-begun : goal.compute_in-rank-requires-clause-begun
compute_in-rank-requires-clause-begun g c κs within = rw c.of-before.ensures c.enter-turn.ensures.begun

pub look_in-rank-requires-clause-begun : goal.look_in-rank-requires-clause-begun
look_in-rank-requires-clause-begun g c κs within = rw c.of-before.ensures c.enter-turn.ensures.begun

pub look_in-rank-requires-clause-holding : goal.look_in-rank-requires-clause-holding
look_in-rank-requires-clause-holding g c κs within = rw c.of-before.ensures c.requires.at.holding

pub look_in-rank-requires-clause-space : goal.look_in-rank-requires-clause-space
look_in-rank-requires-clause-space g c κs within = rw c.of-before.ensures c.requires.space
