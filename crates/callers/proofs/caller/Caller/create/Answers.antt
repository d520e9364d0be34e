use Rattle.callers.proofs.Common.{DecidesBefore, IsCreated, IsMade, IsRanked, IsUnmade, KeyId, None, NotMade, Plain, RecordsStated, filling_pair, length, mark_unmade, model_request, refl, without_pair, world, ◌∷◌}
use Rattle.callers.proofs.Storing.{created_in, creates_on, if_err_as, if_ok_as}
use Rattle.callers.proofs.caller.Caller.create.Goals as goal

pub finish-requires-clause-creates : goal.finish-requires-clause-creates
finish-requires-clause-creates g c κs within =
    let w = world c.args.shared.now in
    let old = c.args.self.now in
    creates_on w old.pass.me.0 c.reserve-filling.new.pass.me.0 (filling_pair c.reserve-filling.result ∷ old.pass.me.0.holding) old.number (model_request c.args.call.now c.args.room) (RecordsStated None old.number c.args.attributes.now (length c.args.bytes.now)) c.args.bytes.now
    c.reserve-filling.ensures.later c.requires.creates

pub returns : goal.returns
returns g c =
    let w = world c.args.shared.now in let old = c.args.self.now in let request = model_request c.args.call.now c.args.room in let filling = c.reserve-filling.result in let u = c.reserve-filling.new.pass.me.0 in let x = c.finish.new.pass.me.0 in
    let rank = c.finish.result.0 in let records = RecordsStated None old.number c.args.attributes.now (length c.args.bytes.now) in let own = without_pair (filling_pair filling) u.holding in
    let made = λ (id : KeyId). DecidesBefore w (IsMade records old.number id.0) in let unmade = λ (why : NotMade). DecidesBefore w (IsUnmade records why) in record {
      at = c.finish.ensures.at;
      legal = c.finish.ensures.legal;
      made = if_ok_as (λ id. IsRanked u x request Plain rank own (made id)) (λ id. IsCreated old.pass.me.0 x request Plain rank (made id)) c.finish.result.1 c.finish.ensures.made (λ id. created_in filling c.reserve-filling.ensures.later);
      unmade = if_err_as (λ why. IsRanked u x request (mark_unmade why) rank own (unmade why)) (λ why. IsCreated old.pass.me.0 x request (mark_unmade why) rank (unmade why)) c.finish.result.1 c.finish.ensures.unmade
          (λ why. created_in filling c.reserve-filling.ensures.later);
      same = record { number = refl; spent = refl; stream = refl; spares = refl; handles = refl };
    }
