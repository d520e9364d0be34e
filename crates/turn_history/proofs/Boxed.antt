-- What is known of a value in a box is known of the value.
use Rattle.turn_history.proofs.Common.{Account, Closing, Holding, List, boxed_base, boxed_stands, ℕ, ◌∙◌, ◌≡◌}
use Rattle.std.specs.Global.{Box}

module _ {V E B : Type 0} (by : E → ℕ) (stands : V → List E → List Holding → Type 0) (base : V → B) where
  pub closing_value : (opening : B) (passes : ℕ) (b : Box V) (accounts : List (Account E)) → Closing by (boxed_stands stands) (boxed_base base) opening passes b accounts → Closing by stands base opening passes b.value accounts
  closing_value opening passes b accounts c = search c
