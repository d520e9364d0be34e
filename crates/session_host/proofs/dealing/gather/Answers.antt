use Rattle.session_host.proofs.{Common.[], Common.ap, Common.ap₂, Common.arith, Common.get_or, Common.get_or_default, Common.length, Common.mod_below, Common.refl, Common.set, Common.subst, Common.suc, Common.sym, Common.ℕ, Common.◌%◌, Common.◌++◌, Common.◌-◌, Common.◌<◌, Common.◌∙◌, Common.◌∷◌, Common.◌≡◌, Common.◌≤◌, Dealt.IsTaking, Dealt.is_there, Dealt.none_left, Dealt.one_taken}
use Rattle.session_host.proofs.dealing.gather.Goals as goal

pub returns-clause-emptied : goal.returns-clause-emptied
returns-clause-emptied g c = λ k d lt.
    let v = c.loop-number.invariant in
    let left : 17 - c.loop-number.number ≡ 0 = (let a = c.loop-number-test.false in omega arith) in
    let t = subst (λ j. IsTaking j c.args.workers.now c.loop-number.workers c.loop-number.callers.items c.loop-number.replies.items) left v.taking in
    none_left (get_or c.loop-number.workers k d).sessions.items (t.own k d lt)

pub unreachable-requires : goal.unreachable-requires
unreachable-requires g c =
    let v = c.loop-number.invariant in let now = c.loop-number.workers in let number = c.loop-number.number in let x = c.index-workers-number.result in let m : ℕ = 16 - number in
    let r : ℕ = number % length c.args.workers.now in
    let low : 1 ≤ number = c.loop-number.auto.number in
    let test : number < 17 = c.loop-number-test.true in
    let left : 17 - number ≡ suc m = omega arith in
    let taking = subst (λ k. IsTaking k c.args.workers.now now c.loop-number.callers.items c.loop-number.replies.items) left v.taking in
    let same : (16 - m) % length now ≡ r = ap₂ (λ a b. a % b) (let e : 16 - m ≡ number = omega arith in e) taking.count in
    let there : r < length now = (let a = mod_below number (length c.args.workers.now) c.requires.some in let b = taking.count in omega arith) in
    let within : (16 - m) % length now < length now = subst (λ k. k < length now) (sym same) there in
    is_there m now (c.unseat.new.self.sessions.items ++ []) taking.own within x (ap (λ k. (get_or now k x).sessions.items) same ∙ c.in_default.ensures.items) (ap (λ l. l ++ []) c.in_default.ensures.none)

pub loop-number-preserved : goal.loop-number-preserved
loop-number-preserved g c =
    let v = c.loop-number.invariant in let now = c.loop-number.workers in let number = c.loop-number.number in let x = c.index-workers-number.result in let m : ℕ = 16 - number in
    let r : ℕ = number % length c.args.workers.now in
    let low : 1 ≤ number = c.loop-number.auto.number in
    let test : number < 17 = c.loop-number-test.true in
    let left : 17 - number ≡ suc m = omega arith in
    let taking = subst (λ k. IsTaking k c.args.workers.now now c.loop-number.callers.items c.loop-number.replies.items) left v.taking in
    let same : (16 - m) % length now ≡ r = ap₂ (λ a b. a % b) (let e : 16 - m ≡ number = omega arith in e) taking.count in
    let there : r < length now = (let a = mod_below number (length c.args.workers.now) c.requires.some in let b = taking.count in omega arith) in
    let within : (16 - m) % length now < length now = subst (λ k. k < length now) (sym same) there in
    let s = c.in-Some.session in let t = c.unseat.new.self in
    let callers = subst (λ l. IsTaking m c.args.workers.now (set now r t) l (c.loop-number.replies.items ++ s.replies ∷ [])) (sym c.push_reserved.ensures.items)
    (subst (λ k. IsTaking m c.args.workers.now (set now k t) (c.loop-number.callers.items ++ s.caller ∷ []) (c.loop-number.replies.items ++ s.replies ∷ [])) same
    (one_taken m c.args.workers.now now c.loop-number.callers.items c.loop-number.replies.items t s (omega arith) taking within
    (λ d. ap (λ k. (get_or now k d).sessions.items) same ∙ (ap (λ z. z.sessions.items) (get_or_default now r d x there) ∙ c.in-Some.ensures.items)))) in
    let both = subst (λ l. IsTaking m c.args.workers.now (set now r t) c.push_reserved.new.self.items l) (sym c.push_reserved-in-loop-number.ensures.items) callers in record {
      taking = subst (λ k. IsTaking k c.args.workers.now (set now r t) c.push_reserved.new.self.items c.push_reserved-in-loop-number.new.self.items) (omega arith) both;
      callers = let a = c.push_reserved.ensures.capacity in let b = v.callers in omega arith;
      replies = let a = c.push_reserved-in-loop-number.ensures.capacity in let b = v.replies in omega arith;
      counted = refl;
    }
