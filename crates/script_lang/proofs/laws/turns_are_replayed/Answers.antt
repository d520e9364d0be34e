use Rattle.std.proofs.Common.{IfSome, List, Option, [], arith, option_map, refl, slice_get, subst, suc, zero, ℕ, ◌+◌, ◌∷◌, ◌≡◌}
use Rattle.store_model.specs.Prelude.{Reply, Service, Entry, outcome_of, reply_at}
use Rattle.owner_space.specs.{declared.names.Names.Names, Naming.told}
use Rattle.script_lang.specs.PrintedOrder.{Turn, turns_from}
use Rattle.script_lang.proofs.laws.turns_are_replayed.Goals as goal

module _ (names : Names) where
  abbrev IsReplayed : Option Turn → ℕ → Option Reply → Type 0
  IsReplayed at place replayed = IfSome at (λ t. t.rank ≡ place) × (option_map (λ t. t.reply) at ≡ option_map (told names) replayed)

  replayed : (n : ℕ) (start : Service) (history : List Entry) (place : ℕ) → IsReplayed (slice_get (turns_from names n start history) place) (n + place) (reply_at start history place)
  replayed n start [] place = (tt, refl)
  replayed n start (e ∷ es) zero = (omega arith, refl)
  replayed n start (e ∷ es) (suc place) =
      let next : Service = (outcome_of start e).service in
      let same : n + 1 + place ≡ n + suc place = omega arith in
      subst (λ (k : ℕ). IsReplayed (slice_get (turns_from names (n + 1) next es) place) k (reply_at next es place)) same (replayed (n + 1) next es place)

pub returns : goal.returns
returns c = λ names start history place.
    let same : 0 + place ≡ place = omega arith in
    subst (λ (k : ℕ). IsReplayed names (slice_get (turns_from names 0 start history) place) k (reply_at start history place)) same (replayed names 0 start history place)
