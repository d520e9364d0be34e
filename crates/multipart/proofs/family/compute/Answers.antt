use Rattle.std.proofs.Common.{Bool, List, length, subst, sym, ℕ, ◌≡◌}
use Rattle.store_model.specs.Prelude.{Operation, buffer_after}
use Rattle.service_calls.specs.Answered.{AnswersReply}
use Rattle.multipart.specs.Turns.{by_key}
use Rattle.multipart.proofs.family.compute.Goals as goal

pub returns : goal.returns
returns g c =
    let after = λ (b : Bool) (own : Operation g.F.Family.Work) (r : List ℕ). by_key b own (λ w. g.F.Family.meaning r w c.args.step (length c.args.out.now)) in
    let alive = sym c.if-not-alive.false in
    record {
      state = λ r own same is. subst (λ b. g.F.Family.stands c.step.new.self (after b own r).operation) alive (c.step.ensures.state r own same is);
      reply = λ r own same is. subst (λ b. AnswersReply c.step.result (after b own r).reply) alive (c.step.ensures.reply r own same is);
      buffer = λ r own same is. subst (λ b. c.step.new.out ≡ buffer_after c.args.out.now (after b own r).reply) alive (c.step.ensures.buffer r own same is);
    }
