use Rattle.std.proofs.{Common.rules, lemmas.List.Sorted.answers_always}
use Rattle.soft_driver.proofs.Searches.{searched}
use Rattle.soft_driver.proofs.held.search.Goals as goal

-- the closure gives a key's handle
pub returns : goal.returns
returns c =
    let facts = c.binary_search_by_key.ensures in
    searched c.args.held.now c.requires c.args.handle _ facts.bound (facts.position (λ key. key.handle) (answers_always _ _ _ (λ f a r g called. search rules)))
