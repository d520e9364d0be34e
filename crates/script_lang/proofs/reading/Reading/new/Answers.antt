use Rattle.std.proofs.Common.{None, ap, subst, sym, ◌∙◌}
use Rattle.script_lang.proofs.{Common.AreCounted, Common.read_of, States.new_read, States.new_counted}
use Rattle.script_lang.proofs.reading.Reading.new.Goals as goal

pub returns-clause-ok : goal.returns-clause-ok
returns-clause-ok c =
    ap (λ lines. read_of lines c.in_ok-new_sessions.field-0.items None) c.in_ok-with_capacity.ensures.items
    ∙ new_read c.in_ok-new_sessions.field-0.items c.in_ok-new_sessions.ensures.new

pub returns-clause-counted : goal.returns-clause-counted
returns-clause-counted c =
    subst (λ lines. AreCounted lines c.in_ok-new_sessions.field-0.items) (sym c.in_ok-with_capacity.ensures.items)
    (new_counted c.in_ok-new_sessions.field-0.items c.in_ok-new_sessions.ensures.seventeen c.in_ok-new_sessions.ensures.new)
