-- Steps of reading, each of which may find a line outside the grammar.
use Rattle.std.specs.Prelude.{◌≡◌, Bool, true, false, Result, Ok, Err}
use Rattle.script_lang.specs.{declared.faults.Reason.Reason, declared.faults.LineError.LineError}
use Rattle.script_lang.specs.declared.faults.LineError.TheVariants as errors

infixl 10 ◌>>=◌
abbrev pub ◌>>=◌ : {A B : Type 0} → Result A Reason → (A → Result B Reason) → Result B Reason
(Ok x) >>= f = f x
(Err e) >>= f = Err e

abbrev pub demand : Bool → Reason → Result (Unit {0}) Reason
demand true r = Ok tt
demand false r = Err r

-- what a function returned is what reading gives, unless memory ran out
abbrev pub Fails : {Y : Type 0} → LineError → Result Y Reason → Type 0
Fails errors.Memory read = Unit {0}
Fails (errors.Bad r) read = read ≡ Err r

abbrev pub Gives : {X Y : Type 0} → (X → Y) → Result X LineError → Result Y Reason → Type 0
Gives view (Ok x) read = read ≡ Ok (view x)
Gives view (Err e) read = Fails e read
