use Rattle.locked_store.proofs.Common.{DecidesAfter, Err, IfErr, IfErr-weaker, IfOk, IfOk-weaker, InvalidHandle, None, Ok, Plain, Result, Some, ap, model_request, there_rows, world, ◌≡◌}
use Rattle.std.specs.FinMap as map
use Rattle.locked_store.proofs.{Turns.IsTurned, Turns.counts_as, Turns.few, Turns.in_turn, Turns.ranked, Turns.steady, Turns.turned_after, held.SharedStore.purge.Goals.After-purge-purged}
use Rattle.locked_store.proofs.held.SharedStore.purge.Goals as goal

pub purge-purged-requires-clause-few : goal.purge-purged-requires-clause-few
purge-purged-requires-clause-few g c κs within = few (in_turn c.enter-turn.ensures.begun c.enter-turn.ensures.stands c.enter-turn.ensures.opened (ap (λ v. v.store) c.value.ensures.value))

there : (g : _) (c : goal.After-purge-purged g) → IfOk c.purge-purged.result (λ _. IsTurned (world c.args.self.now) c.enter-turn.new.pass c.purge-purged.new.self (model_request c.args.call.now c.args.room) Plain c.enter-turn.new.pass.me.0.holding (DecidesAfter (world c.args.self.now) (λ m. there_rows (map.get m.keys c.args.id.0) ≡ None)))
there g c =
    let t = in_turn c.enter-turn.ensures.begun c.enter-turn.ensures.stands c.enter-turn.ensures.opened (ap (λ v. v.store) c.value.ensures.value) in
    let l = c.purge-purged.ensures in
    IfOk-weaker c.purge-purged.result _ _ (λ _ adds. turned_after t (model_request c.args.call.now c.args.room) Plain c.enter-turn.new.pass.me.0.holding (λ m. there_rows (map.get m.keys c.args.id.0) ≡ None) (steady t c.purge-purged.new.self l.opened l.file l.devices l.buffer) (counts_as t c.purge-purged.new.self (model_request c.args.call.now c.args.room) (λ m. there_rows (map.get m.keys c.args.id.0) ≡ None) adds c.requires.leaves)) l.there

missing : (g : _) (c : goal.After-purge-purged g) → IfErr c.purge-purged.result (λ status. (status ≡ InvalidHandle) × IsTurned (world c.args.self.now) c.enter-turn.new.pass c.purge-purged.new.self (model_request c.args.call.now c.args.room) Plain c.enter-turn.new.pass.me.0.holding (DecidesAfter (world c.args.self.now) (λ m. there_rows (map.get m.keys c.args.id.0) ≡ Some status)))
missing g c =
    let t = in_turn c.enter-turn.ensures.begun c.enter-turn.ensures.stands c.enter-turn.ensures.opened (ap (λ v. v.store) c.value.ensures.value) in
    let l = c.purge-purged.ensures in
    IfErr-weaker c.purge-purged.result _ _ (λ status adds. (adds.0, turned_after t (model_request c.args.call.now c.args.room) Plain c.enter-turn.new.pass.me.0.holding (λ m. there_rows (map.get m.keys c.args.id.0) ≡ Some status) (steady t c.purge-purged.new.self l.opened l.file l.devices l.buffer) (counts_as t c.purge-purged.new.self (model_request c.args.call.now c.args.room) (λ m. there_rows (map.get m.keys c.args.id.0) ≡ Some status) adds.1 c.requires.leaves))) l.missing

either : {T E X : Type 0} (result : Result T E) → IfOk result (λ _. X) → IfErr result (λ _. X) → X
either (Ok _) ok err = ok
either (Err _) ok err = err

pub leave_ranked-rank-requires-clause-begun : goal.leave_ranked-rank-requires-clause-begun
leave_ranked-rank-requires-clause-begun g c κs within = rw c.of-before.ensures c.enter-turn.ensures.begun

pub leave_ranked-rank-requires-clause-stands : goal.leave_ranked-rank-requires-clause-stands
leave_ranked-rank-requires-clause-stands g c κs within =
    either c.purge-purged.result (IfOk-weaker c.purge-purged.result _ _ (λ _ turned. turned.stands) (there g (goal.at.leave_ranked-rank-requires-clause-stands g c).After-purge-purged)) (IfErr-weaker c.purge-purged.result _ _ (λ _ turned. turned.1.stands) (missing g (goal.at.leave_ranked-rank-requires-clause-stands g c).After-purge-purged))

pub returns-clause-there : goal.returns-clause-there
returns-clause-there g c = let entered = rw c.of-before.ensures at c.leave_ranked-rank.ensures.entered in IfOk-weaker c.purge-purged.result _ _ (λ _ turned. ranked entered turned.decided) (there g (goal.at.returns-clause-there g c).After-purge-purged)

pub returns-clause-missing : goal.returns-clause-missing
returns-clause-missing g c = let entered = rw c.of-before.ensures at c.leave_ranked-rank.ensures.entered in IfErr-weaker c.purge-purged.result _ _ (λ _ turned. (turned.0, ranked entered turned.1.decided)) (missing g (goal.at.returns-clause-missing g c).After-purge-purged)
