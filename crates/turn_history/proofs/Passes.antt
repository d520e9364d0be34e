-- Lists of passes.
use Rattle.turn_history.proofs.Common.{List, Option, View, [], account_of, accounts_of, ap, arith, refl, weight_of, ◌*◌, ◌++◌, ◌+◌, ◌-◌, ◌<◌, ◌∙◌, ◌∷◌, ◌≡◌}
use Rattle.atomic_table.specs.declared.shared.Seat.{Seat}

module _ {V E B : Type 0} where
  pub accounts_snoc : (ps : List (Seat (Option V) (View E B))) (p : Seat (Option V) (View E B)) → accounts_of (ps ++ p ∷ []) ≡ accounts_of ps ++ account_of p.me.0 ∷ []
  accounts_snoc [] p = refl
  accounts_snoc (q ∷ qs) p = ap (λ l. account_of q.me.0 ∷ l) (accounts_snoc qs p)

  pub weight_snoc : (ps : List (Seat (Option V) (View E B))) (p : Seat (Option V) (View E B)) → weight_of (ps ++ p ∷ []) ≡ weight_of ps + p.me.0.weight
  weight_snoc [] p = omega arith
  weight_snoc (q ∷ qs) p = let r = weight_snoc qs p in omega arith
