use Rattle.std.proofs.{Common.List, Common.ap, Common.arith, Common.drop, Common.length, Common.replicate, Common.take, Common.ℕ, Common.◌++◌, Common.◌+◌, Common.◌-◌, Common.◌∙◌, Common.◌≡◌, Common.◌≤◌, Math.Seq.drop-append-add, lemmas.List.drop-drop, lemmas.List.drop-replicate, lemmas.List.length-take}
use Rattle.secret_bytes.proofs.fill.Goals as goal

-- what stands past the bytes in use, from a place on
zeros_from : (bytes : List ℕ) (used from : ℕ) → length bytes ≡ 1024 → used ≤ 1024 → bytes ≡ take used bytes ++ replicate (1024 - used) 0 → used ≤ from →
    drop from bytes ≡ replicate (1024 - from) 0
zeros_from bytes used from long within rest past =
    let front : length (take used bytes) ≡ used = (let a = length-take used bytes in omega (arith, a, long, within)) in
    ap (drop from) rest
    ∙ (ap (λ n. drop n (take used bytes ++ replicate (1024 - used) 0)) (let e = front in omega (arith, e, past))
    ∙ (drop-append-add (take used bytes) (replicate (1024 - used) 0) (from - used)
    ∙ (drop-replicate (from - used) (1024 - used) 0
    ∙ ap (λ n. replicate n 0) (omega (arith, past)))))

pub clear-requires-clause-zeros : goal.clear-requires-clause-zeros
clear-requires-clause-zeros c =
    let n = length c.args.bytes.now in let old = c.args.buffer.now in let rest = c.split_at_mut-front.result.1.now in
    let z = c.requires.zeros in
    let long : length old ≡ 1024 = c.told-buffer in
    let back : rest ≡ drop n old = c.split_at_mut-front.ensures.back in
    let past : c.args.used ≤ n + c.saturating_sub.result = (let a = c.saturating_sub.ensures in omega arith) in
    ap (drop c.saturating_sub.result) back
    ∙ (drop-drop c.saturating_sub.result n old
    ∙ (ap (λ k. drop k old) (omega arith)
    ∙ (zeros_from old c.args.used (n + c.saturating_sub.result) long z.within z.rest past
    ∙ ap (λ k. replicate k 0) (let a = c.split_at_mut-front.ensures.back_len in omega (arith, a, long)))))
