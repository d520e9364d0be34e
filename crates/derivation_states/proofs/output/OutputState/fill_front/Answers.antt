use Rattle.std.proofs.Common.{List, ap, arith, length, subst, sym, take, ℕ, ◌++◌, ◌+◌, ◌-◌, ◌∙◌, ◌≡◌}
use Rattle.derivation_states.proofs.{Common.HasSecret, Common.length-take, Common.next_derived, Common.take_at, Common.without, Derived.next_derived_add, Running.length-given, Running.ready_blocks, Running.without_twice}
use Rattle.derivation_states.proofs.output.OutputState.fill_front.Goals as goal

pub returns-clause-holds : goal.returns-clause-holds
returns-clause-holds c = λ w r.
    let n : ℕ = length (take c.min-written.result c.args.out.now) in
    let k : ℕ = c.args.count - c.min-written.result in
    let all : n + k ≡ c.args.count = omega (arith, length-take c.min-written.result c.args.out.now) in
    subst (HasSecret c.args.inputs.now c.skip.new.self) (without_twice w n k ∙ ap (without w) all) (c.skip.ensures (without w n) (c.fill.ensures.holds w r))

pub returns-clause-length : goal.returns-clause-length
returns-clause-length c = λ w r. length-given c.args.inputs.now c.args.self.now w r c.args.count

pub returns-clause-front : goal.returns-clause-front
returns-clause-front c = λ w r.
    let written : ℕ = c.min-written.result in
    let left : ℕ = c.args.count - written in
    let n : ℕ = length (take written c.args.out.now) in
    let front : List ℕ = next_derived w written in
    let whole : n ≡ written = omega (arith, length-take written c.args.out.now) in
    let all : c.args.count ≡ written + left = omega arith in
    let filled : c.fill.new.out ≡ front = c.fill.ensures.bytes w r ∙ ap (next_derived w) whole in
    let parts : next_derived w c.args.count ≡ front ++ next_derived (without w written) left = ap (next_derived w) all ∙ next_derived_add w _ (ready_blocks c.args.inputs.now c.args.self.now w r) written left in
    take_at c.fill.new.out _ written (omega (arith, whole, c.fill.auto.out)) ∙ filled
    ∙ sym (ap (take written) parts ∙ take_at front (next_derived (without w written) left) written (length-given c.args.inputs.now c.args.self.now w r written))
