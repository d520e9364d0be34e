use Rattle.std.proofs.Common.{ap, arith, drop, take, ℕ, ◌+◌, ◌-◌, ◌∙◌, ◌≡◌}
use Rattle.derivation_states.proofs.Running.{piece_taken}
use Rattle.derivation_states.proofs.output.OutputState.take_piece.Goals as goal

pub returns-clause-bytes : goal.returns-clause-bytes
returns-clause-bytes c = λ w r.
    let o = c.make_ready.new.self in
    let count : ℕ = c.min-count.result in
    let start : o.used ≡ o.used + count - count = omega arith in
    piece_taken c.args.inputs.now o w count r.inputs (c.make_ready.ensures.running w r.inputs r.output.running r.secret) r.secret c.make_ready.ensures.some (omega arith)
    ∙ ap (λ (k : ℕ). take count (drop k o.block)) start
