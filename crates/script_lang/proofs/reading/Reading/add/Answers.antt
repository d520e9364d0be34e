use Rattle.std.proofs.Common.{ap, arith, length, refl, slice_set, subst, sym, ◌<◌, ◌∙◌, ◌≡◌}
use Rattle.script_lang.proofs.{Common.AreCounted, Common.lines_of, Common.read_of, Common.slice_get_read, States.counted_on, States.is_more, States.more_read, States.more_counted, States.count_found, States.count_fits}
use Rattle.script_lang.proofs.reading.Reading.add.Goals as goal

pub overflow_add-state : goal.overflow_add-state
overflow_add-state c =
    let old = c.index_mut-state.result.now in
    let within : c.args.session < length c.args.self.now.sessions.items = omega (arith, c.requires.counted.seventeen) in
    let count : old.calls ≡ length (lines_of c.args.session c.args.self.now.lines.items) =
    count_found c.args.self.now.lines.items c.args.self.now.sessions.items c.args.session old c.requires.counted (slice_get_read c.args.self.now.sessions.items (length c.args.self.now.sessions.items) c.args.session old refl within c.index_mut-state.ensures.value) in
    omega (arith, c.give.ensures.calls, count, count_fits c.args.self.now.lines.items c.args.session, c.requires.few)

pub returns-clause-ok : goal.returns-clause-ok
returns-clause-ok c =
    ap (λ lines. read_of lines (slice_set c.args.self.now.sessions.items c.args.session (counted_on c.give.new.self)) c.args.self.now.owners) c.in_ok-push.ensures.items
    ∙ more_read c.args.self.now.lines.items c.args.self.now.sessions.items c.args.self.now.owners c.args.session c.index_mut-state.result.now c.give.new.self c.args.name c.args.call
    (is_more c.args.self.now.lines.items c.args.self.now.sessions.items c.args.session c.index_mut-state.result.now c.give.new.self c.args.name c.requires.counted c.requires.range.1 c.index_mut-state.ensures.value c.give.ensures.calls c.give.ensures.stated c.in_ok-give.ensures.ok)

pub returns-clause-counted : goal.returns-clause-counted
returns-clause-counted c =
    subst (λ lines. AreCounted lines (slice_set c.args.self.now.sessions.items c.args.session (counted_on c.give.new.self))) (sym c.in_ok-push.ensures.items)
    (more_counted c.args.self.now.lines.items c.args.self.now.sessions.items c.args.session c.index_mut-state.result.now c.give.new.self c.args.name c.args.call
    (is_more c.args.self.now.lines.items c.args.self.now.sessions.items c.args.session c.index_mut-state.result.now c.give.new.self c.args.name c.requires.counted c.requires.range.1 c.index_mut-state.ensures.value c.give.ensures.calls c.give.ensures.stated c.in_ok-give.ensures.ok))
