use Rattle.std.proofs.Common.{Some, ap, sym, ◌∙◌}
use Rattle.script_lang.proofs.{Common.given_place, Common.places_of, Names.inserted}
use Rattle.script_lang.proofs.sessions.SessionNames.give.Goals as goal

pub returns-in_ok-insert-clause-ok : goal.returns-in_ok-insert-clause-ok
unfolding places_of
returns-in_ok-insert-clause-ok c =
    λ n. inserted (λ k. k.items) c.into_items.result.items n c.args.self.now.names.entries _ c.args.self.now.calls
    c.in_ok-insert.ensures.updates.1 c.in_ok-insert.ensures.updates.3
    ∙ ap (λ name. given_place (places_of c.args.self.now) (Some name) c.args.self.now.calls n) c.into_items.ensures
    ∙ ap (λ name. given_place (places_of c.args.self.now) name c.args.self.now.calls n) (sym c.in-Some.is)
