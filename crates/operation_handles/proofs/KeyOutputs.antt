-- A key of a handle's derived bytes.
use Rattle.std.proofs.Common.{rules, Bool, Err, List, None, Ok, Option, Some, [], ap, cond, false, is_some, nat_lt, not, refl, subst, sym, true, ℕ, ◌%◌, ◌++◌, ◌==◌, ◌||◌, ◌∙◌, ◌∷◌, ◌≡◌}
use Rattle.std.specs.Prelude.{IsOk, Result}
use Rattle.operation_handles.proofs.Common.{Active, After, AreStates, Attributes, BadState, Bytes, OperationHandle, DerivationState, DerivationWork, Derivations, Deriving, FamilyStates, HandleOperation, InError, Inactive, InsufficientData, InvalidArgument, IsDerivationOperation, IsDerivedKey, IsOperation, KeyCreation, MayHave, NotPermitted, NotSupported, Nothing, Operation, Reply, Status, Success, by_key, derivation_part, derived_key_bytes, exhausted, first_row, first_row-back, first_row-front, given, goes_on, is_active, key_of_operation, location, next_derived, on_active, output_key_refusal, output_key_rows, part_of, refusal, stated_bytes, taken_from, unless_failed, without}
use Rattle.derivation_states.specs.Replies.{AnswersFront}
use Rattle.operation_handles.proofs.{Deriving.derived_goes, Deriving.goes_with, Deriving.key_stays, Families.View, Families.Busy, Families.Idle, Families.keeps_all, Families.keeps_put, Families.view, Steps.Took, Steps.answers, Steps.seen}

-- what the derivation may give

none_back : (w : DerivationWork) (a : Attributes) (o : Option Status) → first_row (output_key_rows w a) ≡ o → first_row (output_key_rows w a ++ (nat_lt w.capacity (stated_bytes a), InsufficientData) ∷ []) ≡ None →
    (o ≡ None) × (first_row ((nat_lt w.capacity (stated_bytes a), InsufficientData) ∷ []) ≡ None)
none_back w a None e h = (refl, sym (first_row-back (output_key_rows w a) ((nat_lt w.capacity (stated_bytes a), InsufficientData) ∷ []) e) ∙ h)
none_back w a (Some status) e h = absurd (clash status (sym (first_row-front (output_key_rows w a) ((nat_lt w.capacity (stated_bytes a), InsufficientData) ∷ []) status e) ∙ h))
  where
    clash : (status : Status) → Some status ≡ None → ⊥
    clash status e = cc

enough_of : (short : Bool) → first_row ((short, InsufficientData) ∷ []) ≡ None → short ≡ false
enough_of true e = cc
enough_of false e = refl

-- no row refuses the key, and there are enough bytes
pub record IsDue (w : DerivationWork) (a : Attributes) : Type 0 where
  pub rows : first_row (output_key_rows w a) ≡ None
  pub enough : nat_lt w.capacity (stated_bytes a) ≡ false

pub due_of : (w : DerivationWork) (a : Attributes) → output_key_refusal (Active w) a ≡ None → IsDue w a
due_of w a e = search rules

-- then it gives them
pub derived_is : (w : DerivationWork) (a : Attributes) → IsDue w a → derived_key_bytes w a ≡ goes_on (without w (stated_bytes a)) (given (next_derived w (stated_bytes a)))
derived_is w a due = search rules

pub key_of : (w : DerivationWork) (a : Attributes) (count : ℕ) (old out : List ℕ) → IsDue w a → AnswersFront 1025 (Ok count) old out (derived_key_bytes w a).reply → IsDerivedKey w a count out
key_of w a count old out due h = search rules

-- WHAT CAN'T BE

-- a refused key isn't answered by bytes

no_success : (a b c d : Bool) → first_row ((a, BadState) ∷ (b, InvalidArgument) ∷ (c, NotSupported) ∷ (d, NotPermitted) ∷ []) ≡ Some Success → ⊥
no_success true b c d e = cc
no_success false true c d e = cc
no_success false false true d e = cc
no_success false false false true e = cc
no_success false false false false e = cc

bad_state : BadState ≡ Success → ⊥
bad_state e = cc

short_success : (w : DerivationWork) (a : Attributes) (short : Bool) (count : ℕ) (old out : List ℕ) → (first_row ((short, InsufficientData) ∷ []) ≡ None → ⊥) →
    AnswersFront 1025 (Ok count) old out (cond short (exhausted w) (goes_on (without w (stated_bytes a)) (given (next_derived w (stated_bytes a))))).reply → ⊥
short_success w a true count old out refused h = clash h.0
  where
    clash : InsufficientData ≡ Success → ⊥
    clash e = cc
short_success w a false count old out refused h = refused refl

unless_success : (w : DerivationWork) (a : Attributes) (o : Option Status) (count : ℕ) (old out : List ℕ) → first_row (output_key_rows w a) ≡ o → (output_key_refusal (Active w) a ≡ None → ⊥) →
    AnswersFront 1025 (Ok count) old out (unless_failed o (taken_from w (stated_bytes a) (given (next_derived w (stated_bytes a))))).reply → ⊥
unless_success w a (Some status) count old out e refused h =
    no_success (not (is_some w.secret)) (a.bits == 0 || not (a.bits % 8 == 0)) (not (location a.lifetime.0 == 0)) (not w.by_key) (e ∙ ap Some h.0)
unless_success w a None count old out e refused h =
    short_success w a (nat_lt w.capacity (stated_bytes a)) count old out
    (λ none. refused (first_row-back (output_key_rows w a) ((nat_lt w.capacity (stated_bytes a), InsufficientData) ∷ []) e ∙ none)) h

pub refused_unanswered : (own : Operation DerivationWork) (a : Attributes) (count : ℕ) (old out : List ℕ) → ((w : DerivationWork) → own ≡ Active w → output_key_refusal (Active w) a ≡ None → ⊥) →
    AnswersFront 1025 (Ok count) old out (on_active own (λ w. derived_key_bytes w a)).reply → ⊥
refused_unanswered (Active w) a count old out refused h = unless_success w a (first_row (output_key_rows w a)) count old out refl (refused w refl) h
refused_unanswered Inactive a count old out refused h = bad_state h.0
refused_unanswered InError a count old out refused h = bad_state h.0

-- a key that isn't refused is answered by bytes

not_given : (bytes : List ℕ) (status : Status) → given bytes ≡ refusal status → ⊥
not_given bytes status e = other bytes (ap (λ (r : Reply). r.output) e)
  where
    other : (bytes : List ℕ) → Bytes bytes ≡ Nothing → ⊥
    other bytes e = cc

pub due_answered : (w : DerivationWork) (a : Attributes) (status : Status) (old out : List ℕ) → IsDue w a → AnswersFront 1025 (Err status) old out (derived_key_bytes w a).reply → ⊥
due_answered w a status old out due h = not_given (next_derived w (stated_bytes a)) status (sym (ap (λ (x : After DerivationWork). x.reply) (derived_is w a due)) ∙ h.0)

-- WHAT THE HANDLE HAS

pub due_work : (own : Operation DerivationWork) (a : Attributes) → output_key_refusal own a ≡ None → (w : DerivationWork) × (own ≡ Active w) × IsDue w a
due_work (Active w) a e = (w, refl, due_of w a e)
due_work Inactive a e = cc
due_work InError a e = cc

not_active : (own : Operation DerivationWork) (a : Attributes) → is_active own ≡ false → output_key_refusal own a ≡ Some BadState
not_active (Active w) a e = cc
not_active Inactive a e = refl
not_active InError a e = refl

refusal_by : (s : FamilyStates) (key : Option KeyCreation) (operation : HandleOperation) (a : Attributes) (refused : Option Status) → View Derivations s s key operation →
    ((own : Operation DerivationWork) → IsDerivationOperation s.derivation own → refused ≡ output_key_refusal own a) → refused ≡ output_key_refusal (part_of derivation_part operation) a
refusal_by s key operation a refused (Busy w is has whole put) code = code (Active w) is.state ∙ sym (ap (λ o. output_key_refusal (part_of derivation_part o) a) whole)
refusal_by s key operation a refused (Idle own is idle other put) code =
    code own is.state ∙ not_active own a idle ∙ sym (not_active (part_of derivation_part operation) a other)

-- what the derivations' state refuses is what the handle's derivation does
pub refusal_is : (c : OperationHandle) (operation : HandleOperation) (a : Attributes) (refused : Option Status) → IsOperation c operation →
    ((own : Operation DerivationWork) → IsDerivationOperation c.states.derivation own → refused ≡ output_key_refusal own a) → refused ≡ output_key_refusal (part_of derivation_part operation) a
refusal_is c operation a refused h code =
    refusal_by c.states h.key operation a refused (view Derivations c.states c.states h.key operation (keeps_all Derivations c.states) h.are) code

-- THE STEP

pub deriving_key : (a : Attributes) (key : Option KeyCreation) (w : DerivationWork) → MayHave Derivations key (Active w) → MayHave Derivations key (derived_key_bytes w a).operation
deriving_key a key w has = key_stays (λ v. derived_key_bytes v a) (λ v. derived_goes v a) key w has

pub deriving_with : (a : Attributes) (s : FamilyStates) (state : DerivationState) (alive : Bool) (operation : HandleOperation) →
    ((own : Operation DerivationWork) → IsDerivationOperation s.derivation own → IsDerivationOperation state (by_key alive own (λ w. derived_key_bytes w a)).operation) →
    Took Derivations s (record s { derivation = state }) operation alive (λ w. derived_key_bytes w a)
deriving_with a s state alive operation code = record {
  state = λ own seen is. goes_with s.alg.0 alive state own (λ w. derived_key_bytes w a) (λ v. derived_goes v a) is.algorithm (code own is.state);
  key = deriving_key a;
}

-- bytes for a refused key
pub refused_not_given : (c : OperationHandle) (a : Attributes) (count : ℕ) (old out : List ℕ) → (operation : HandleOperation) × IsOperation c operation →
    ((operation : HandleOperation) → IsOperation c operation → output_key_refusal (part_of derivation_part operation) a ≡ None → ⊥) →
    ((own : Operation DerivationWork) → IsDerivationOperation c.states.derivation own → AnswersFront 1025 (Ok count) old out (on_active own (λ w. derived_key_bytes w a)).reply) → ⊥
refused_not_given c a count old out some refused code =
    let stands = answers Derivations c some.0 true (λ w. derived_key_bytes w a) some.1 in
    refused_unanswered stands.own a count old out
    (λ w e none. refused some.0 some.1 (ap (λ o. output_key_refusal o a) (stands.seen w e) ∙ none)) (code stands.own stands.is.state)

-- a refusal of a key that isn't refused
due_not_refused : (c : OperationHandle) (a : Attributes) (status : Status) (old out : List ℕ) → (operation : HandleOperation) × IsOperation c operation →
    ((operation : HandleOperation) → IsOperation c operation → output_key_refusal (part_of derivation_part operation) a ≡ None) →
    ((own : Operation DerivationWork) → IsDerivationOperation c.states.derivation own → AnswersFront 1025 (Err status) old out (on_active own (λ w. derived_key_bytes w a)).reply) → ⊥
due_not_refused c a status old out some due code =
    let work = due_work (part_of derivation_part some.0) a (due some.0 some.1) in
    let found = seen Derivations c.states c.states some.1.key some.0 (keeps_all Derivations c.states) some.1.are work.0 work.1 in
    due_answered work.0 a status old out work.2 (code (Active work.0) found.is.state)

pub due_answers : (c : OperationHandle) (a : Attributes) (result : Result ℕ Status) (old out : List ℕ) → (operation : HandleOperation) × IsOperation c operation →
    ((operation : HandleOperation) → IsOperation c operation → output_key_refusal (part_of derivation_part operation) a ≡ None) →
    ((own : Operation DerivationWork) → IsDerivationOperation c.states.derivation own → AnswersFront 1025 result old out (on_active own (λ w. derived_key_bytes w a)).reply) → IsOk result
due_answers c a (Ok count) old out some due code = refl
due_answers c a (Err status) old out some due code = absurd (due_not_refused c a status old out some due code)

-- the bytes of a key that isn't refused
pub derived : (c : OperationHandle) (state : DerivationState) (a : Attributes) (count : ℕ) (old out : List ℕ) (operation : HandleOperation) (w : DerivationWork) → IsOperation c operation → part_of derivation_part operation ≡ Active w →
    output_key_refusal (part_of derivation_part operation) a ≡ None →
    ((own : Operation DerivationWork) → IsDerivationOperation c.states.derivation own → IsDerivationOperation state (on_active own (λ v. derived_key_bytes v a)).operation) →
    ((own : Operation DerivationWork) → IsDerivationOperation c.states.derivation own → AnswersFront 1025 (Ok count) old out (on_active own (λ v. derived_key_bytes v a)).reply) →
    IsOperation (record c { states = record c.states { derivation = state } }) (Active (record { key = key_of_operation operation; work = Deriving (without w (stated_bytes a)) }))
    × IsDerivedKey w a count out
derived c state a count old out operation w h derives none code given =
    let due = due_of w a (sym (ap (λ o. output_key_refusal o a) derives) ∙ none) in
    let found = seen Derivations c.states (record c.states { derivation = state }) h.key operation (keeps_put Derivations c.states (state, c.states.alg)) h.are w derives in
    let next : DerivationWork = without w (stated_bytes a) in
    let has : IsDerivationOperation state (Active next) = subst (λ (x : After DerivationWork). IsDerivationOperation state x.operation) (derived_is w a due) (code (Active w) found.is.state) in
    let are : AreStates (record c.states { derivation = state }) h.key (Active (record { key = h.key; work = Deriving next })) =
    found.put h.key (Active next) (record { state = has; algorithm = found.is.algorithm }) found.has in (
      subst (λ k. IsOperation (record c { states = record c.states { derivation = state } }) (Active (record { key = k; work = Deriving next }))) (sym found.key_is)
          (record { key = h.key; leased = h.leased; are = are }),
      key_of w a count old out due (given (Active w) found.is.state),
    )
