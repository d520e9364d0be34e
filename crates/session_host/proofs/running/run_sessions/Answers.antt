use Rattle.session_host.proofs.{Common.All, Common.List, Common.[], Common.ap, Common.arith, Common.length, Common.subst, Common.sym, Common.take, Common.take-append_seam, Common.world, Common.ℕ, Common.◌++◌, Common.◌∙◌, Common.◌≡◌, Gathered.have_made_none}
use Rattle.session_host.proofs.running.run_sessions.Goals as goal

-- what a loan of a whole list leaves in it
kept : {X : Type 0} (xs ys : List X) (n : ℕ) → n ≡ length xs → take n (xs ++ ys) ≡ xs
kept xs ys n is = ap (λ k. take k (xs ++ ys)) is ∙ take-append_seam xs ys

pub returns-in_default-clause-made : goal.returns-in_default-clause-made
returns-in_default-clause-made g c = have_made_none (world c.args.service.now.shared) c.args.names.now c.args.lines.now c.args.callers.now.items c.requires.staff

pub returns-in_err-workers-clause-made : goal.returns-in_err-workers-clause-made
returns-in_err-workers-clause-made g c = have_made_none (world c.args.service.now.shared) c.args.names.now c.args.lines.now c.args.callers.now.items c.requires.staff

pub free-requires-after_bounds : goal.free-requires-after_bounds
free-requires-after_bounds g c κs within =
    let long : c.in_ok-workers.workers.len ≡ length c.run_dealt-whole.new.workers = (let a = c.run_dealt-whole.auto.workers in let b = c.deref_mut.ensures.len in omega arith) in
    subst (All (λ t. t.sessions.items ≡ [])) (sym (kept c.run_dealt-whole.new.workers _ c.in_ok-workers.workers.len long)) c.run_dealt-whole.ensures.emptied
