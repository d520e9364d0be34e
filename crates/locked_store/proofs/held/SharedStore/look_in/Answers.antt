use Rattle.locked_store.proofs.Common.{DecidesAfter, HasOpaque, IsHolding, IsLent, IsRefused, Plain, ap, is_opaque_key, is_some, lease_pair, mark_of, model_request, subst, sym, true, use_refusal, world, ◌∷◌, ◌≡◌}
use Rattle.std.specs.FinMap as map
use Rattle.store_model.specs.Store as model
use Rattle.locked_store.proofs.{Owning.one_lease_more, Renewing.model_as, Turns.IsSteady, Turns.IsTurned, Turns.entered_after, Turns.few, Turns.in_turn, Turns.reads, Turns.reads_and_gives, Turns.stands_some, Turns.turned_after, held.SharedStore.look_in.Goals.After-of, held.SharedStore.look_in.Goals.In-Err}
use Rattle.locked_store.proofs.held.SharedStore.look_in.Goals as goal

pub look-requires-clause-stands : goal.look-requires-clause-stands
look-requires-clause-stands g c κs within = stands_some (in_turn c.requires.begun c.requires.stands c.requires.opened (ap (λ v. v.store) c.value.ensures.value))

pub look-requires-clause-few : goal.look-requires-clause-few
look-requires-clause-few g c κs within = few (in_turn c.requires.begun c.requires.stands c.requires.opened (ap (λ v. v.store) c.value.ensures.value))

lent : (g : _) (c : goal.After-of g) → IsTurned (world c.args.self.now) c.args.pass.now c.look.new.self (model_request c.args.call.now c.args.room) Plain (lease_pair c.in-Ok.lease ∷ c.args.pass.now.me.0.holding) (DecidesAfter (world c.args.self.now) (IsLent (use_refusal c.args.wanted) c.args.id.0 c.in-Ok.lease))
lent g c =
    let t = in_turn c.requires.begun c.requires.stands c.requires.opened (ap (λ v. v.store) c.value.ensures.value) in
    let l = c.in-Ok.ensures in
    let k : IsSteady (world c.args.self.now) c.value.result.now.store c.look.new.self = record { opened = l.opened; sized = l.size; clear = l.clear; tells = l.tells; knows = ap (λ d. is_some (g.A.Devices.keys d)) l.devices; later = l.later } in
    turned_after t (model_request c.args.call.now c.args.room) Plain (lease_pair c.in-Ok.lease ∷ c.args.pass.now.me.0.holding) (IsLent (use_refusal c.args.wanted) c.args.id.0 c.in-Ok.lease) k
    (reads_and_gives t c.look.new.self (model_request c.args.call.now c.args.room) c.args.id.0 (lease_pair c.in-Ok.lease) (IsLent (use_refusal c.args.wanted) c.args.id.0 c.in-Ok.lease) l.lent (subst (λ own. IsHolding (lease_pair c.in-Ok.lease ∷ own)) (sym c.requires.begun.same_holding) (one_lease_more c.in-Ok.lease.slot c.in-Ok.lease.creation c.args.before.value.me.0.holding c.requires.space c.requires.holding)) c.requires.quiet c.requires.reads)

pub leave_ranked-rank-requires-clause-stands : goal.leave_ranked-rank-requires-clause-stands
leave_ranked-rank-requires-clause-stands g c κs within = rw c.of.ensures (lent g (goal.at.leave_ranked-rank-requires-clause-stands g c).After-of).stands

pub returns-in-Ok : goal.returns-in-Ok
returns-in-Ok g c = record {
  at = c.leave_ranked-rank.ensures.at;
  legal = c.leave_ranked-rank.ensures.legal;
  lent = entered_after (rw c.of.ensures at c.leave_ranked-rank.ensures.entered) (lent g (goal.at.returns-in-Ok g c).After-of).decided;
  fits = c.in-Ok.ensures.fits;
  refused = tt;
  spare = tt;
}

-- the key is the element's only where it was so
abbrev IsRefusedIn : (g : _) (c : goal.In-Err g) → model.Store → Type 0
IsRefusedIn g c m = IsRefused (use_refusal c.args.wanted) c.args.id.0 c.in-Err.status m × (is_opaque_key (map.get m.keys c.args.id.0) ≡ true → HasOpaque g.D.Disk g.A.Devices g.C.Admission c.value.result.now.store c.args.id.0)

refused : (g : _) (c : goal.In-Err g) → IsTurned (world c.args.self.now) c.args.pass.now c.look.new.self (model_request c.args.call.now c.args.room) (mark_of c.in-Err.status) c.args.pass.now.me.0.holding (DecidesAfter (world c.args.self.now) (IsRefusedIn g c))
refused g c =
    let t = in_turn c.requires.begun c.requires.stands c.requires.opened (ap (λ v. v.store) c.value.ensures.value) in
    let l = c.in-Err.ensures in
    let k : IsSteady (world c.args.self.now) c.value.result.now.store c.look.new.self = record { opened = l.opened; sized = l.size; clear = l.clear; tells = l.tells; knows = ap (λ d. is_some (g.A.Devices.keys d)) l.devices; later = l.later } in
    turned_after t (model_request c.args.call.now c.args.room) (mark_of c.in-Err.status) c.args.pass.now.me.0.holding (IsRefusedIn g c) k
    (reads t c.look.new.self (model_request c.args.call.now c.args.room) c.args.id.0 (mark_of c.in-Err.status) (IsRefusedIn g c) l.refused c.requires.quiet c.requires.reads)

pub leave_ranked-rank-requires-in-Err-clause-stands : goal.leave_ranked-rank-requires-in-Err-clause-stands
leave_ranked-rank-requires-in-Err-clause-stands g c κs within = (refused g (goal.at.leave_ranked-rank-requires-in-Err-clause-stands g c).In-Err).stands

pub returns-in-Err : goal.returns-in-Err
returns-in-Err g c = record {
  at = c.leave_ranked-rank-in-Err.ensures.at;
  legal = c.leave_ranked-rank-in-Err.ensures.legal;
  lent = tt;
  fits = tt;
  refused = entered_after c.leave_ranked-rank-in-Err.ensures.entered (λ start is.
      model_as (λ k. k) (λ m r. (r.0, λ opaque. subst (λ v. HasOpaque g.D.Disk g.A.Devices g.C.Admission v.store c.args.id.0) c.value.ensures.value (r.1 opaque))) ((refused g (goal.at.returns-in-Err g c).In-Err).decided start is));
  spare = c.in-Err.ensures.spare;
}
