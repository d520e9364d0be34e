use Rattle.std.proofs.{Common.ap, Common.arith, Common.drop, Common.length-drop, Common.ℕ, Common.◌+◌, Common.◌∙◌, lemmas.List.take_all, lemmas.List.drop-drop}
use Rattle.outside_io.proofs.Pieces.{written}
use Rattle.outside_io.proofs.whole.write_all.Goals as goal

pub loop-rest-preserved : goal.loop-rest-preserved
loop-rest-preserved g c =
    let f = c.loop-rest.invariant.front in
    record {
      front = (
        f.0 + c.in-Ok.count,
        take_all _ _ (omega (arith, length-drop {A = ℕ})) ∙ ap (drop c.in-Ok.count) f.1 ∙ drop-drop c.in-Ok.count f.0 c.args.piece.now,
        written _ _ _ c.args.piece.now c.loop-rest.rest.now f.0 c.in-Ok.count f.1 f.2 c.in-Ok.ensures.bytes,
      );
      later = omega (arith, c.loop-rest.invariant.later, c.in-Ok.ensures.cause.later);
      tells = c.in-Ok.ensures.tells ∙ c.loop-rest.invariant.tells;
    }

pub returns-in-Err-clause-err : goal.returns-in-Err-clause-err
returns-in-Err-clause-err g c =
    let f = c.loop-rest.invariant.front in
    let t = c.in-Err.ensures.bytes in
    (f.0 + t.0, written _ _ _ c.args.piece.now c.loop-rest.rest.now f.0 t.0 f.1 f.2 t.1)
