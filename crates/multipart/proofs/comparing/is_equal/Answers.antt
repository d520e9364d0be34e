use Rattle.std.proofs.{Common.Bool, Common.ap, Common.ap₂, Common.arith, Common.bytes_eq, Common.eqb, Common.get_or, Common.length, Common.sym, Common.take, Common.◌&&◌, Common.◌∙◌, Common.◌≡◌, lemmas.List.length-take, lemmas.List.take_more}
use Rattle.multipart.proofs.ByteLists.{bytes_eq_push}
use Rattle.multipart.proofs.comparing.is_equal.Goals as goal

pub bytes-preserved : goal.bytes-preserved
bytes-preserved c =
    let i = c.bytes.i in
    let given = c.args.given.now in
    let computed = c.args.computed.now in
    let long : length (take i given) ≡ length (take i computed) = omega (arith, length-take i given, length-take i computed) in
    record {
      same = ap (λ (b : Bool). b && eqb (get_or given i 0) (get_or computed i 0)) c.bytes.invariant.same
          ∙ sym (bytes_eq_push (take i given) (take i computed) (get_or given i 0) (get_or computed i 0) long)
          ∙ ap₂ bytes_eq (sym (take_more given i 0 (omega arith))) (sym (take_more computed i 0 (omega arith)));
    }
