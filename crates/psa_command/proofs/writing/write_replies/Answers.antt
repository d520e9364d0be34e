use Rattle.std.proofs.Common.{ap, arith, drop, flat_map, length, subst, sym, take, ◌++◌, ◌+◌, ◌∙◌, ◌≡◌}
use Rattle.psa_command.proofs.{Common.Appends, Common.Replies, Written.appends_both, Written.flat_more, Written.flat_split, Written.part_of}
use Rattle.psa_command.proofs.writing.write_replies.Goals as goal

pub loop-own-preserved : goal.loop-own-preserved
loop-own-preserved g c =
    let v = c.loop-own.invariant in let i = c.loop-own.own-index in let all = c.args.replies.now in let own = c.own-item.result in
    let text = λ (k : Replies). k.text.items in let old = g.K.Sink.taken c.args.sink.now in let new = g.K.Sink.taken c.write_all.new.sink in
    let piece = c.deref.ensures.value ∙ ap text c.own-item.is in
    let both = appends_both old (g.K.Sink.taken c.loop-own.sink) new (flat_map text (take i all)) c.deref.result.now v.written c.in-Ok.ensures.ok in record {
      written = subst (Appends old new) (ap (λ t. flat_map text (take i all) ++ t) piece ∙ flat_more text all i own c.loop-own-test.true) both;
      later = let a = v.later in let b = c.in-Ok.ensures.cause.later in omega (arith, a, b);
      tells = c.in-Ok.ensures.tells ∙ v.tells;
    }

pub returns-in_default-clause-written : goal.returns-in_default-clause-written
returns-in_default-clause-written g c =
    let v = c.loop-own.invariant in let i = c.loop-own.own-index in let all = c.args.replies.now in let own = c.own-item.result in
    let text = λ (k : Replies). k.text.items in let old = g.K.Sink.taken c.args.sink.now in let new = g.K.Sink.taken c.write_all.new.sink in
    let front = flat_map text (take i all) in let piece = c.deref.result.now in let rest = flat_map text (drop (i + 1) all) in
    let e = c.in_default.ensures.err in
    let whole : flat_map text all ≡ front ++ (piece ++ rest) = flat_split text all i own c.loop-own-test.true ∙ ap (λ t. front ++ (t ++ rest)) (sym (c.deref.ensures.value ∙ ap text c.own-item.is)) in
    let n = length front + length (take e.0 piece) in
    let both = appends_both old (g.K.Sink.taken c.loop-own.sink) new front (take e.0 piece) v.written e.1 in
    (n, subst (Appends old new) (sym (ap (take n) whole ∙ part_of front piece rest e.0)) both)
