use Rattle.session_host.proofs.Common.{HasSeated, IsNewCaller, Names, Unowned, Worker, ap, ap₂, arith, get_or, get_or_default, length, length-set, length-take, mod_below, numbers_of, option_to_list, refl, set, subst, sym, take, world, ℕ, ◌%◌, ◌++◌, ◌+◌, ◌-◌, ◌<◌, ◌∙◌, ◌≡◌}
use Rattle.session_host.proofs.Dealt.{IsDealing, IsFreshSession, all_dealt, dealing_one, dealt_few, last_of, same_long}
use Rattle.session_host.proofs.dealing.deal.Goals as goal

pub seat-requires-after_bounds : goal.seat-requires-after_bounds
seat-requires-after_bounds g c κs within =
    let v = c.loop.invariant in let n = length c.loop.workers in let r = c.len-number.result % length c.args.workers.now in let x = c.index-workers-number.result in
    let there : r < n = (let a = mod_below c.len-number.result (length c.args.workers.now) c.requires.some in let b = v.count in omega arith) in
    let few = dealt_few n r c.loop.counter in
    let own = ap length ((v.dealing Unowned).own r x there) in
    let same : length (numbers_of (get_or c.loop.workers r x).sessions.items) ≡ length (get_or c.loop.workers r x).sessions.items = same_long (get_or c.loop.workers r x).sessions.items in
    let space = (v.dealing Unowned).space r x there in let test = c.loop-test.true in omega arith

pub loop-preserved : goal.loop-preserved
loop-preserved g c =
    let w = world c.args.service.now.shared in
    let v = c.loop.invariant in let j = c.loop.counter in let workers = c.loop.workers in let staff = c.args.callers.now.items in let x = c.index-workers-number.result in
    let caller = c.unwrap-caller.result in
    let number : c.len-number.result ≡ 16 - j = (let a = c.len-number.ensures in let b = ap length v.callers in let e = length-take (16 - j) staff in let f = c.requires.staff.sixteen in omega arith) in
    let before : 16 - j ≡ 15 - j + 1 = (let a = c.loop-test.true in omega arith) in
    let parts = last_of staff c.pop.new.self.items (15 - j) caller (let f = c.requires.staff.sixteen in omega arith)
    (ap (λ k. take k staff) (sym before) ∙ (sym v.callers ∙ (c.pop.ensures.items ∙ ap (λ o. c.pop.new.self.items ++ option_to_list o) c.unwrap-caller.ensures))) in
    let r : ℕ = c.len-number.result % length c.args.workers.now in
    let same : (16 - j) % length workers ≡ r = ap₂ (λ a b. a % b) (sym number) v.count in
    let there : r < length workers = (let a = mod_below c.len-number.result (length c.args.workers.now) c.requires.some in let b = v.count in omega arith) in
    let new = subst (IsNewCaller w (15 - j + 1)) parts.1 (c.requires.staff.each (15 - j) caller (let f = c.requires.staff.sixteen in omega arith)) in
    let fresh : (names : Names) → IsFreshSession w names c.args.form c.new.result = λ names. record { number = 15 - j + 1; caller = subst (IsNewCaller w (15 - j + 1)) (sym c.new.ensures.caller) new; replies = c.new.ensures.replies; session = c.new.ensures.session ∙ sym (ap (λ k. k.number) c.new.ensures.caller); form_is = c.new.ensures.form; given = c.new.ensures.given } in
    let seated = λ (d : Worker _ _ _). subst (λ t. HasSeated t c.seat.new.self c.new.result) (get_or_default workers r x d there ∙ ap (λ k. get_or workers k d) (sym same)) c.seat.ensures in record {
      callers = sym parts.0 ∙ ap (λ k. take k staff) (omega arith);
      space = let a = v.space in let b = c.pop.ensures.capacity in omega arith;
      dealing = λ names. subst (λ k. IsDealing w names c.args.form (j + 1) (set workers k c.seat.new.self)) same
          (dealing_one w names c.args.form j workers c.seat.new.self c.new.result (v.dealing names) (subst (λ k. k < length workers) (sym same) there) seated (fresh names) (ap (λ k. k.number) c.new.ensures.caller ∙ (new.number_is ∙ sym before)));
      count = length-set workers r c.seat.new.self ∙ v.count;
      counted = refl;
    }

pub returns-clause-dealt : goal.returns-clause-dealt
returns-clause-dealt g c = λ names.
    let w = world c.args.service.now.shared in
    let v = c.loop.invariant in
    all_dealt w names c.args.form c.loop.workers (subst (λ j. IsDealing w names c.args.form j c.loop.workers) (let a = c.loop-test.false in let b = c.loop.auto.counter-end in omega arith) (v.dealing names))
