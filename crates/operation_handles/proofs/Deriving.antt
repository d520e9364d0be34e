-- What a step of a derivation keeps: its algorithm, and its secret once that is there.
use Rattle.std.proofs.Common.{rules, Bool, List, None, Option, Some, [], bytes_eq, cond, false, is_some, length, nat_lt, not, refl, true, ℕ, ◌&&◌, ◌++◌, ◌==◌, ◌∙◌, ◌∷◌, ◌≡◌}
use Rattle.operation_handles.proofs.Common.{Active, After, Attributes, DerivationState, DerivationStep, DerivationWork, Derivations, GetCapacity, InError, Inactive, InputBytes, InputInteger, InvalidArgument, IsDerivationOperation, KeyCreation, MayHave, Operation, OutputBytes, Reply, SetCapacity, Status, VerifyBytes, by_key, bytes_or_empty, class_of, class_rows, compared, derivation_step, derivation_work, derived_key_bytes, done, exhausted, first_row, given, goes_on, info_step, input_bytes_rows, input_integer_rows, is_concrete, is_of_class, next_derived, output_rows, refusal, salt_step, set_up, taken_from, unless_failed, with_bytes, without}
use Rattle.alg_encoding.specs.declared.table.Class.{Class}
use Rattle.operation_handles.specs.Derivations.{HasAlgorithm, IsDerivation}

-- a derivation that goes on has the same algorithm, and its secret if it was there
abbrev pub GoesOnAs : DerivationWork → Operation DerivationWork → Type 0
GoesOnAs w (Active v) = (w.alg ≡ v.alg) × (is_some w.secret ≡ true → is_some v.secret ≡ true)
GoesOnAs w Inactive = Unit {0}
GoesOnAs w InError = Unit {0}

cond_goes : (w : DerivationWork) (b : Bool) (x y : After DerivationWork) → GoesOnAs w x.operation → GoesOnAs w y.operation → GoesOnAs w (cond b x y).operation
cond_goes w true x y h k = h
cond_goes w false x y h k = k

pub unless_goes : (w : DerivationWork) (refused : Option Status) (after : After DerivationWork) → GoesOnAs w after.operation → GoesOnAs w (unless_failed refused after).operation
unless_goes w None after h = h
unless_goes w (Some status) after h = tt

given_goes : (a b : Bool) (w : DerivationWork) (salt bytes : List ℕ) → GoesOnAs w (Active (cond a (record w { salt = Some salt }) (cond b (record w { info = Some bytes }) (record w { secret = Some bytes }))))
given_goes true b w salt bytes = (refl, λ h. h)
given_goes false true w salt bytes = (refl, λ h. h)
given_goes false false w salt bytes = (refl, λ h. refl)

taken_goes : (w : DerivationWork) (n : ℕ) (reply : Reply) → GoesOnAs w (taken_from w n reply).operation
taken_goes w n reply = cond_goes w (nat_lt w.capacity n) (exhausted w) (goes_on (without w n) reply) (refl, λ h. h) (refl, λ h. h)

step_goes : (w : DerivationWork) (step : DerivationStep) → GoesOnAs w (derivation_step w step).operation
step_goes w GetCapacity = (refl, λ h. h)
step_goes w (SetCapacity n) = cond_goes w (nat_lt w.capacity n) (goes_on w (refusal InvalidArgument)) (goes_on (record w { capacity = n }) done) (refl, λ h. h) (refl, λ h. h)
step_goes w (InputBytes step bytes) =
    unless_goes w (first_row (input_bytes_rows w step bytes)) (goes_on (with_bytes w step bytes) done)
    (given_goes (step == salt_step) (step == info_step) w (bytes_or_empty w.salt ++ bytes) bytes)
step_goes w (InputInteger step value) = unless_goes w (first_row (input_integer_rows w step value)) (goes_on (record w { cost = Some value }) done) (refl, λ h. h)
step_goes w (OutputBytes n) =
    unless_goes w (first_row (output_rows w)) (taken_from w n (given (next_derived w n))) (taken_goes w n (given (next_derived w n)))
step_goes w (VerifyBytes expected) =
    let reply = compared (bytes_eq expected (next_derived w (length expected))) in
    unless_goes w (first_row (output_rows w)) (taken_from w (length expected) reply) (taken_goes w (length expected) reply)

pub derived_goes : (w : DerivationWork) (a : Attributes) → GoesOnAs w (derived_key_bytes w a).operation
derived_goes w a = search rules

-- so its key may stay

key_goes : (key : Option KeyCreation) (w : DerivationWork) (next : Operation DerivationWork) → GoesOnAs w next → MayHave Derivations key (Active w) → MayHave Derivations key next
key_goes key w (Active v) h has = λ e. h.1 (has e)
key_goes key w _ h has = tt

pub key_stays : (f : DerivationWork → After DerivationWork) → ((w : DerivationWork) → GoesOnAs w (f w).operation) → (key : Option KeyCreation) (w : DerivationWork) → MayHave Derivations key (Active w) → MayHave Derivations key (f w).operation
key_stays f goes key w has = key_goes key w (f w).operation (goes w) has

pub step_key : (step : DerivationStep) (key : Option KeyCreation) (w : DerivationWork) → MayHave Derivations key (Active w) → MayHave Derivations key (derivation_step w step).operation
step_key step key w has = key_stays (λ v. derivation_step v step) (λ v. step_goes v step) key w has

-- and so does its algorithm

alg_goes : (alg : ℕ) (w : DerivationWork) (next : Operation DerivationWork) → GoesOnAs w next → HasAlgorithm alg (Active w) → HasAlgorithm alg next
alg_goes alg w (Active v) h has = (has.0 ∙ h.0, has.1)
alg_goes alg w _ h has = tt

by_key-goes : (alg : ℕ) (alive : Bool) (own : Operation DerivationWork) (f : DerivationWork → After DerivationWork) → ((w : DerivationWork) → GoesOnAs w (f w).operation) → HasAlgorithm alg own →
    HasAlgorithm alg (by_key alive own f).operation
by_key-goes alg true (Active w) f goes h = alg_goes alg w (f w).operation (goes w) h
by_key-goes alg false (Active w) f goes h = tt
by_key-goes alg _ _ f goes h = h

pub goes_with : (alg : ℕ) (alive : Bool) (state : DerivationState) (own : Operation DerivationWork) (f : DerivationWork → After DerivationWork) → ((w : DerivationWork) → GoesOnAs w (f w).operation) →
    HasAlgorithm alg own → IsDerivationOperation state (by_key alive own f).operation → IsDerivation alg state (by_key alive own f).operation
goes_with alg alive state own f goes has is = record { state = is; algorithm = by_key-goes alg alive own f goes has }

pub steps_with : (alg : ℕ) (alive : Bool) (before after : DerivationState) (step : DerivationStep) →
    ((own : Operation DerivationWork) → IsDerivationOperation before own → IsDerivationOperation after (by_key alive own (λ w. derivation_step w step)).operation) →
    (own : Operation DerivationWork) → IsDerivation alg before own → IsDerivation alg after (by_key alive own (λ w. derivation_step w step)).operation
steps_with alg alive before after step code own is = goes_with alg alive after own (λ w. derivation_step w step) (λ w. step_goes w step) is.algorithm (code own is.state)

-- a setup knows a number that is concrete

concrete_row : (a b c : Bool) (s t : Status) → first_row ((not a, s) ∷ (not (b && c), t) ∷ []) ≡ None → c ≡ true
concrete_row true true true s t e = refl
concrete_row true true false s t e = cc
concrete_row true false c s t e = cc
concrete_row false b c s t e = cc

pub set_up_has : (class : Class) (alg : ℕ) → HasAlgorithm alg (set_up Inactive (first_row (class_rows class alg)) (derivation_work alg)).operation
set_up_has class alg = has (first_row (class_rows class alg)) refl
  where
    has : (o : Option Status) → first_row (class_rows class alg) ≡ o → HasAlgorithm alg (set_up Inactive o (derivation_work alg)).operation
    has None e = (refl, concrete_row (is_some (class_of alg)) (is_of_class class alg) (is_concrete alg) _ _ e)
    has (Some status) e = tt

-- and it has no key
pub set_up_may : (refused : Option Status) (w : DerivationWork) → MayHave Derivations None (set_up Inactive refused w).operation
set_up_may None w = λ e. cc
set_up_may (Some status) w = tt
