-- What a step of reading comes to: what is said of the value that it read, or of the reason why it read none.
use Rattle.std.proofs.Common.{Bool, Err, None, Ok, Option, Result, Some, false, not, ok_or, refl, subst, true, ◌≡◌}
use Rattle.script_lang.proofs.Common.{Reason, demand}
use Rattle.script_lang.specs.Steps.{◌>>=◌}

pub data Ends {A E : Type 0} (Good : A → Type 0) (Bad : E → Type 0) : Result A E → Type 0 where
  reads : {x : A} → Good x → Ends Good Bad (Ok x)
  fails : {e : E} → Bad e → Ends Good Bad (Err e)

pub read_is : {A E : Type 0} {Good : A → Type 0} {Bad : E → Type 0} {r : Result A E} → Ends Good Bad r → (x : A) → r ≡ Ok x → Good x
read_is {Good = Good} (reads {x = y} good) x is = let same : y ≡ x = cc in subst Good same good
read_is (fails bad) x is = absurd cc

pub failure_is : {A E : Type 0} {Good : A → Type 0} {Bad : E → Type 0} {r : Result A E} → Ends Good Bad r → (e : E) → r ≡ Err e → Bad e
failure_is (reads good) e is = absurd cc
failure_is {Bad = Bad} (fails {e = d} bad) e is = let same : d ≡ e = cc in subst Bad same bad

pub weaker : {A E : Type 0} {Good Better : A → Type 0} {Bad Worse : E → Type 0} {r : Result A E} →
    Ends Good Bad r → ((e : E) → Bad e → Worse e) → ((x : A) → Good x → Better x) → Ends Better Worse r
weaker (reads {x} good) worse better = reads (better x good)
weaker (fails {e} bad) worse better = fails (worse e bad)

-- a step, and what is read after it
pub step : {A B : Type 0} {Good : A → Type 0} {Bad Worse : Reason → Type 0} {Whole : B → Type 0} {r : Result A Reason} (next : A → Result B Reason) →
    Ends Good Bad r → ((e : Reason) → Bad e → Worse e) → ((x : A) → Good x → Ends Whole Worse (next x)) → Ends Whole Worse (r >>= next)
step next (reads {x} good) worse more = more x good
step next (fails {e} bad) worse more = fails (worse e bad)

pub found : {X : Type 0} (o : Option X) (r : Reason) → Ends (λ x. o ≡ Some x) (λ e. (e ≡ r) × (o ≡ None)) (ok_or o r)
found (Some x) r = reads refl
found None r = fails (refl, refl)

-- an option that is read as its grammar says
pub asked : {X : Type 0} {Good : X → Type 0} (o : Option X) (r : Reason) → ((x : X) → o ≡ Some x → Good x) → ((x : X) → Good x → o ≡ Some x) →
    Ends Good (λ e. (e ≡ r) × ((x : X) → Good x → ⊥)) (ok_or o r)
asked (Some x) r means again = reads (means x refl)
asked None r means again = fails (refl, λ x good. let is : None ≡ Some x = again x good in cc)

pub demanded : (b : Bool) (r : Reason) → Ends (λ _. b ≡ true) (λ e. (e ≡ r) × (b ≡ false)) (demand b r)
demanded true r = reads refl
demanded false r = fails (refl, refl)

pub denied : (b : Bool) (r : Reason) → Ends (λ _. b ≡ false) (λ e. (e ≡ r) × (b ≡ true)) (demand (not b) r)
denied true r = fails (refl, refl)
denied false r = reads refl
