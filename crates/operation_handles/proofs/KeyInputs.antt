-- A key as the secret of a handle's derivation.
use Rattle.operation_handles.proofs.Common.{Active, After, AreStates, BadState, by_key, bytes_of, derivation_part, Derivations, DerivationState, DerivationWork, Deriving, done, FamilyStates, first_row, goes_on, HandleOperation, Inactive, InError, InvalidArgument, IsConcrete, IsDerivationOperation, IsOperation, key_given, key_step, key_step_refusal, key_step_rows, KeyCreation, MayHave, on_active, Operation, OperationHandle, option_map, part_of, Reading, RefusesKeyAt, Status, TakesKeyAt, unless_failed, with_key, Bool, None, Option, Some, [], ap, false, is_some, not, refl, subst, sym, true, ℕ, ◌&&◌, ◌==◌, ◌∙◌, ◌∷◌, ◌≡◌}
use Rattle.key_policy.specs.declared.key_use.KeyUse.TheVariants.{Derivation}
use Rattle.operation_handles.proofs.{Deriving.goes_with, Deriving.key_stays, Deriving.unless_goes, Families.keeps_all, Families.keeps_put, Leases.leased_as, Steps.Took, Steps.answers, Steps.same_work, Steps.seen}

-- what the derivations' state says of a step, before a key is looked at, and what the handle does
abbrev pub Tells : OperationHandle → (step : ℕ) → Option Status → Type 0
Tells c step refusal = (own : Operation DerivationWork) → IsDerivationOperation c.states.derivation own → refusal ≡ key_step_refusal own step

-- a step that takes a key

no_secret : (a b s : Bool) (t : Status) (u : Status) → first_row ((a, t) ∷ (not (not s && b), u) ∷ []) ≡ None → s ≡ true → ⊥
no_secret true b s t u e h = cc
no_secret false true true t u e h = cc
no_secret false false true t u e h = cc
no_secret false b false t u e h = cc

no_key : (key : Option KeyCreation) → (is_some key ≡ true → ⊥) → key ≡ None
no_key None h = refl
no_key (Some key) h = absurd (h refl)

no_lease : (lease : Option Reading) → option_map (λ l. l.creation) lease ≡ None → lease ≡ None
no_lease None h = refl
no_lease (Some lease) h = cc

takes_none : (own : Operation DerivationWork) (step : ℕ) → key_step_refusal own step ≡ None → (w : DerivationWork) × (own ≡ Active w) × (first_row (key_step_rows w step) ≡ None)
takes_none (Active w) step e = (w, refl, e)
takes_none Inactive step e = cc
takes_none InError step e = cc

pub takes : (c : OperationHandle) (step : ℕ) (refusal : Option Status) (operation : HandleOperation) → Tells c step refusal → refusal ≡ None → IsOperation c operation →
    TakesKeyAt operation step (Derivation step c.states.alg) × (c.lease ≡ None)
takes c step refusal operation tells none h =
    let a = answers Derivations c operation true (λ w. goes_on w done) h in
    let due = takes_none a.own step (sym (tells a.own a.is.state) ∙ none) in
    let derives = a.seen due.0 due.1 in
    let found = seen Derivations c.states c.states h.key operation (keeps_all Derivations c.states) h.are due.0 derives in
    let without : h.key ≡ None = no_key h.key (λ some. no_secret (not (step == key_step due.0.alg)) _ (is_some due.0.secret) InvalidArgument BadState due.2 (found.has some)) in (
      record {
        w = due.0;
        derives = derives;
        no_key = found.key_is ∙ without;
        due = due.2;
        wanted_is = (let same = found.is.algorithm.0 in λ i. Derivation step (record { 0 = same i }));
        concrete = subst IsConcrete found.is.algorithm.0 found.is.algorithm.1;
      },
      no_lease c.lease (h.leased ∙ ap (option_map (λ creation. creation.number)) without),
    )

-- a step that takes none

pub refuses : (c : OperationHandle) (step : ℕ) (refusal : Option Status) (status : Status) (operation : HandleOperation) → Tells c step refusal → refusal ≡ Some status → IsOperation c operation → RefusesKeyAt operation step
refuses c step refusal status operation tells some h = λ w derives due.
    let found = seen Derivations c.states c.states h.key operation (keeps_all Derivations c.states) h.are w derives in
    some_none status (sym some ∙ tells (Active w) found.is.state ∙ due)
  where
    some_none : (status : Status) → Some status ≡ None → ⊥
    some_none status e = cc

-- the code gives no bytes, and no key is taken

refused_step : (w : DerivationWork) (step : ℕ) (o : Option Status) → first_row (key_step_rows w step) ≡ o → (o ≡ None → ⊥) → unless_failed o (goes_on (with_key w []) done) ≡ unless_failed o (goes_on w done)
refused_step w step None e h = absurd (h refl)
refused_step w step (Some status) e h = refl

-- the step that refuses any key
abbrev pub refusing : ℕ → DerivationWork → After DerivationWork
refusing step w = unless_failed (first_row (key_step_rows w step)) (goes_on w done)

pub refusing_key : (step : ℕ) (key : Option KeyCreation) (w : DerivationWork) → MayHave Derivations key (Active w) → MayHave Derivations key (refusing step w).operation
refusing_key step key w has = key_stays (refusing step) (λ v. unless_goes v (first_row (key_step_rows v step)) (goes_on v done) (refl, λ h. h)) key w has

pub refused_own : (operation : HandleOperation) (own : Operation DerivationWork) (step : ℕ) → RefusesKeyAt operation step → ((w : DerivationWork) → own ≡ Active w → part_of derivation_part operation ≡ Active w) →
    on_active own (λ w. key_given w step []) ≡ on_active own (refusing step)
refused_own operation (Active w) step refuses seen = refused_step w step (first_row (key_step_rows w step)) refl (refuses w (seen w refl))
refused_own operation Inactive step refuses seen = refl
refused_own operation InError step refuses seen = refl

pub refusing_with : (step : ℕ) (s : FamilyStates) (state : DerivationState) (alive : Bool) (operation : HandleOperation) →
    ((own : Operation DerivationWork) → ((w : DerivationWork) → own ≡ Active w → part_of derivation_part operation ≡ Active w) → IsDerivationOperation s.derivation own →
    IsDerivationOperation state (by_key alive own (refusing step)).operation) →
    Took Derivations s (record s { derivation = state }) operation alive (refusing step)
refusing_with step s state alive operation code = record {
  state = λ own seen is. goes_with s.alg.0 alive state own (refusing step) (λ v. unless_goes v (first_row (key_step_rows v step)) (goes_on v done) (refl, λ h. h)) is.algorithm (code own seen is.state);
  key = refusing_key step;
}

-- A KEY THAT IS TAKEN

pub taken : (c d : OperationHandle) (state : DerivationState) (operation : HandleOperation) (w : DerivationWork) (key : KeyCreation) (step : ℕ) (reading : Reading) →
    d.states ≡ record c.states { derivation = state } → d.lease ≡ Some reading → key.number ≡ reading.creation → part_of derivation_part operation ≡ Active w →
    (v : DerivationWork) × (part_of derivation_part operation ≡ Active v) × (first_row (key_step_rows v step) ≡ None) →
    ((own : Operation DerivationWork) → IsDerivationOperation c.states.derivation own → IsDerivationOperation state (on_active own (λ v. key_given v step (bytes_of reading.buffer))).operation) →
    IsOperation c operation → IsOperation d (Active (record { key = Some key; work = Deriving (with_key w (bytes_of reading.buffer)) }))
taken c d state operation w key step reading same kept number derives takes code h =
    let next : DerivationWork = with_key w (bytes_of reading.buffer) in
    let due : first_row (key_step_rows w step) ≡ None = subst (λ v. first_row (key_step_rows v step) ≡ None) (same_work takes.0 w (sym takes.1 ∙ derives)) takes.2 in
    let found = seen Derivations c.states (record c.states { derivation = state }) h.key operation (keeps_put Derivations c.states (state, c.states.alg)) h.are w derives in
    let has : IsDerivationOperation state (Active next) = subst (λ o. IsDerivationOperation state (unless_failed o (goes_on next done)).operation) due (code (Active w) found.is.state) in
    leased_as d (Active (record { key = Some key; work = Deriving next })) reading key kept number
    (subst (λ s. AreStates s (Some key) (Active (record { key = Some key; work = Deriving next }))) (sym same)
    (found.put (Some key) (Active next) (record { state = has; algorithm = found.is.algorithm }) (λ e. refl)))

-- the derivation fails
pub failed : (c : OperationHandle) (state : DerivationState) (operation : HandleOperation) (w : DerivationWork) → part_of derivation_part operation ≡ Active w → IsDerivationOperation state InError → IsOperation c operation →
    IsOperation (record c { states = record c.states { derivation = state } }) InError
failed c state operation w derives is h =
    let found = seen Derivations c.states (record c.states { derivation = state }) h.key operation (keeps_put Derivations c.states (state, c.states.alg)) h.are w derives in
    record { key = h.key; leased = h.leased; are = found.put h.key InError (record { state = is; algorithm = tt }) tt }
