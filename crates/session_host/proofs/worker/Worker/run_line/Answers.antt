use Rattle.session_host.proofs.{Common.All, Common.Session, Common.Some, Common.ap, Common.arith, Common.get_or, Common.length, Common.refl, Common.subst, Common.world, Common.◌<◌, Common.◌≡◌, Common.◌≢◌, Common.◌≤◌, Working.answered_here, Working.few_replies, Working.ran_line, Working.ran_none, Working.same_form, Working.same_numbers}
use Rattle.std.specs.Vec.{with_item, with_items}
use Rattle.session_host.proofs.worker.Worker.run_line.Goals as goal

pub returns-in_default-clause-ran : goal.returns-in_default-clause-ran
returns-in_default-clause-ran g c = λ lines h.
    let w = world c.args.service.now.shared in let names = c.args.names.now in
    ran_none w names lines c.args.line.now c.args.self.now h (subst (All (λ (s : Session _ _ _). s.caller.number ≢ c.args.line.now.session)) c.deref.ensures.value c.in_default.ensures.none)

pub meet-requires-clause-ready : goal.meet-requires-clause-ready
meet-requires-clause-ready g c κs within = λ k d lt. (c.requires.1.answered k d lt).replies.replies.made.ready

pub run_line-ran-requires-clause-ready : goal.run_line-ran-requires-clause-ready
run_line-ran-requires-clause-ready g c κs within =
    let w = world c.args.service.now.shared in let names = c.args.names.now in
    let found = subst (λ xs. (c.in-Some.place < length xs) × ((d : Session _ _ _) → (get_or xs c.in-Some.place d).caller.number ≡ c.args.line.now.session)) c.deref.ensures.value c.in-Some.ensures.found in
    (answered_here w names c.requires.0 c.args.line.now c.args.self.now c.meet.new.self.sessions.items c.in-Some.place c.index_mut.result.now c.index_mut.result.now c.requires.1 found.0 found.1 c.meet.ensures.learned c.index_mut.ensures.value).replies.replies.made.ready

pub run_line-ran-requires-clause-kept : goal.run_line-ran-requires-clause-kept
run_line-ran-requires-clause-kept g c κs within =
    let w = world c.args.service.now.shared in let names = c.args.names.now in
    let found = subst (λ xs. (c.in-Some.place < length xs) × ((d : Session _ _ _) → (get_or xs c.in-Some.place d).caller.number ≡ c.args.line.now.session)) c.deref.ensures.value c.in-Some.ensures.found in
    let s = c.index_mut.result.now in
    few_replies w names c.requires.0 s (answered_here w names c.requires.0 c.args.line.now c.args.self.now c.meet.new.self.sessions.items c.in-Some.place s s c.requires.1 found.0 found.1 c.meet.ensures.learned c.index_mut.ensures.value) c.requires.2

pub returns-clause-ran : goal.returns-clause-ran
returns-clause-ran g c = λ lines h.
    let w = world c.args.service.now.shared in let names = c.args.names.now in
    let found = subst (λ xs. (c.in-Some.place < length xs) × ((d : Session _ _ _) → (get_or xs c.in-Some.place d).caller.number ≡ c.args.line.now.session)) c.deref.ensures.value c.in-Some.ensures.found in
    let t = c.args.self.now in let s = c.index_mut.result.now in
    let known = answered_here w names lines c.args.line.now t c.meet.new.self.sessions.items c.in-Some.place s c.run_line-ran.new.self h found.0 found.1 c.meet.ensures.learned c.index_mut.ensures.value in
    let met = c.meet.new.self in
    let new = record met { sessions = with_item met.sessions c.in-Some.place c.run_line-ran.new.self; last = Some c.in-Some.place; buffer = with_items met.buffer c.run_line-ran.new.buffer } in
    let room : 16448 ≤ length new.buffer.items = (let a = new.buffer.ok.0 in let b = met.buffer.ok.0 in let e = ap (λ b. length b.items) c.meet.ensures.same.1 in let r = h.room in omega arith) in
    ran_line w names lines c.args.line.now t c.meet.new.self.sessions.items c.in-Some.place s c.run_line-ran.new.self h found.0 found.1 c.meet.ensures.learned c.index_mut.ensures.value
    c.run_line-ran.ensures.number c.meet.ensures.met new refl refl room c.run_line-ran.result (c.run_line-ran.ensures.ran lines known) c.run_line-ran.ensures.further

pub returns-clause-numbers : goal.returns-clause-numbers
returns-clause-numbers g c =
    let w = world c.args.service.now.shared in let names = c.args.names.now in
    let found = subst (λ xs. (c.in-Some.place < length xs) × ((d : Session _ _ _) → (get_or xs c.in-Some.place d).caller.number ≡ c.args.line.now.session)) c.deref.ensures.value c.in-Some.ensures.found in
    same_numbers w names c.requires.0 c.args.line.now c.args.self.now c.meet.new.self.sessions.items c.in-Some.place c.index_mut.result.now c.run_line-ran.new.self c.requires.1 found.0 found.1 c.meet.ensures.learned c.index_mut.ensures.value c.run_line-ran.ensures.number

pub returns-clause-form : goal.returns-clause-form
returns-clause-form g c =
    let w = world c.args.service.now.shared in let names = c.args.names.now in
    let found = subst (λ xs. (c.in-Some.place < length xs) × ((d : Session _ _ _) → (get_or xs c.in-Some.place d).caller.number ≡ c.args.line.now.session)) c.deref.ensures.value c.in-Some.ensures.found in
    same_form w names c.requires.0 c.args.line.now c.args.self.now c.meet.new.self.sessions.items c.in-Some.place c.index_mut.result.now c.run_line-ran.new.self c.requires.1 found.0 found.1 c.meet.ensures.learned c.index_mut.ensures.value c.run_line-ran.ensures.number c.run_line-ran.ensures.form
