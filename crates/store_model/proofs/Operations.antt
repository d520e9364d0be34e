-- What becomes of each caller's own, and of each operation, where one is set.
use Rattle.std.proofs.Common.{List, [], ap, arith, inl, inr, length, refl, replicate, slice_index_or, slice_set, subst, suc, sym, zero, ℕ, ◌+◌, ◌∙◌, ◌∷◌, ◌≡◌, ◌≤◌, ◌⊎◌}
use Rattle.store_model.proofs.Common.{get_or-set_other, HandleOperation, Inactive, length-set, new_own, operation_of, Own, own_of, Service, service_of, set-get_or, Store, with_drawn, with_operation, with_own, words_used}

-- what is set is there, or the list has no such place, before and after
set_or_not : {A : Type 0} (l : List A) (i : ℕ) (a d : A) → (slice_index_or (slice_set l i a) i d ≡ a) ⊎ ((slice_index_or (slice_set l i a) i d ≡ d) × (slice_index_or l i d ≡ d))
set_or_not [] i a d = inr (refl, refl)
set_or_not (x ∷ l) zero a d = inl refl
set_or_not (x ∷ l) (suc i) a d = set_or_not l i a d

-- what relates each element to itself, and the old one to the one that is set, relates each place before and after
pub set_related : {A : Type 0} (R : A → A → Type 0) (l : List A) (i j : ℕ) (a d : A) → ((x : A) → R x x) → R (slice_index_or l i d) a →
    R (slice_index_or l j d) (slice_index_or (slice_set l i a) j d)
set_related R [] i j a d same new = same d
set_related R (x ∷ l) zero zero a d same new = new
set_related R (x ∷ l) zero (suc j) a d same new = same (slice_index_or l j d)
set_related R (x ∷ l) (suc i) zero a d same new = same x
set_related R (x ∷ l) (suc i) (suc j) a d same new = set_related R l i j a d same new

-- A CALLER'S OWN

pub other_own : (service : Service) (store : Store) (caller other : ℕ) (own : Own) → (other ≡ caller → ⊥) → own_of (with_own service store caller own) other ≡ own_of service other
other_own service store caller other own h = get_or-set_other service.owns caller other own new_own h

-- the caller's own once it is set, or there is no such caller
abbrev OwnAfter : Service → Store → ℕ → Own → Type 0
OwnAfter service store caller own =
    (own_of (with_own service store caller own) caller ≡ own) ⊎ ((own_of (with_own service store caller own) caller ≡ new_own) × (own_of service caller ≡ new_own))

set_own : (service : Service) (store : Store) (caller : ℕ) (own : Own) → OwnAfter service store caller own
set_own service store caller own = set_or_not service.owns caller own new_own

-- each caller draws at most so many words more
pub drawn_most : (n : ℕ) (service : Service) (store : Store) (caller other : ℕ) (own : Own) → own.drawn ≤ (own_of service caller).drawn + n →
    (own_of (with_own service store caller own) other).drawn ≤ (own_of service other).drawn + n
drawn_most n service store caller other own h =
    set_related (λ (x y : Own). y.drawn ≤ x.drawn + n) service.owns caller other own new_own (λ x. omega arith) h

-- OPERATIONS

-- all operations are left
pub operations_same : (service : Service) (store : Store) (caller : ℕ) (own : Own) → own.operations ≡ (own_of service caller).operations → (c h : ℕ) →
    operation_of (with_own service store caller own) c h ≡ operation_of service c h
operations_same service store caller own e c h =
    ap (λ (l : List HandleOperation). slice_index_or l h Inactive)
    (set_related (λ (x y : Own). y.operations ≡ x.operations) service.owns caller c own new_own (λ x. refl) e)

-- one operation of a caller is set
abbrev pub Sets : Service → (caller handle : ℕ) → HandleOperation → Own → Type 0
Sets service caller handle operation own = own.operations ≡ slice_set (own_of service caller).operations handle operation

pub other_handle : (service : Service) (store : Store) (caller handle other : ℕ) (operation : HandleOperation) (own : Own) → Sets service caller handle operation own → (other ≡ handle → ⊥) →
    operation_of (with_own service store caller own) caller other ≡ operation_of service caller other
other_handle service store caller handle other operation own sets h = of (set_own service store caller own)
  where
    of : OwnAfter service store caller own → operation_of (with_own service store caller own) caller other ≡ operation_of service caller other
    of (inl e) =
        ap (λ (o : Own). slice_index_or o.operations other Inactive) e ∙ ap (λ (l : List HandleOperation). slice_index_or l other Inactive) sets
        ∙ get_or-set_other (own_of service caller).operations handle other operation Inactive h
    of (inr e) = ap (λ (o : Own). slice_index_or o.operations other Inactive) (e.0 ∙ sym e.1)

repeated : {A : Type 0} (P : A → Type 0) (n i : ℕ) (a d : A) → P a → P d → P (slice_index_or (replicate n a) i d)
repeated P zero i a d one other = other
repeated P (suc n) zero a d one other = one
repeated P (suc n) (suc i) a d one other = repeated P n i a d one other

-- an operation that is set again changes nothing
pub same_operation : (own : Own) (handle : ℕ) → with_operation own handle (slice_index_or own.operations handle Inactive) ≡ own
same_operation own handle = ap (λ (l : List HandleOperation). record own { operations = l }) (set-get_or own.operations handle Inactive)

pub same_own : (own : Own) (handle : ℕ) → with_drawn (with_operation own handle (slice_index_or own.operations handle Inactive)) 0 ≡ own
same_own own handle =
    let words : own.drawn + words_used 0 ≡ own.drawn = omega arith in
    let operations = set-get_or own.operations handle Inactive in
    λ i. record { drawn = words i; operations = operations i }

pub same_service : (service : Service) (store : Store) (caller : ℕ) → with_own service store caller (own_of service caller) ≡ record service { store = store }
same_service service store caller = ap (λ (l : List Own). record { store = store; owns = l }) (set-get_or service.owns caller new_own)

-- what holds of the operation that is set, and of those before, holds of all after
pub any_operation : (P : HandleOperation → Type 0) (service : Service) (store : Store) (caller handle : ℕ) (operation : HandleOperation) (own : Own) →
    Sets service caller handle operation own → P operation → ((c h : ℕ) → P (operation_of service c h)) → (c h : ℕ) → P (operation_of (with_own service store caller own) c h)
any_operation P service store caller handle operation own sets new old c h =
    set_related (λ (x y : Own). P (slice_index_or x.operations h Inactive) → P (slice_index_or y.operations h Inactive)) service.owns caller c own new_own (λ x p. p)
    (λ p. subst (λ (l : List HandleOperation). P (slice_index_or l h Inactive)) (sym sets)
    (set_related (λ (x y : HandleOperation). P x → P y) (own_of service caller).operations handle h operation Inactive (λ x q. q) (λ q. new) p)) (old c h)

-- how many callers and handles there are
pub same_callers : (service : Service) (store : Store) (caller : ℕ) (own : Own) → length (with_own service store caller own).owns ≡ length service.owns
same_callers service store caller own = length-set service.owns caller own

pub same_handles : (service : Service) (store : Store) (caller : ℕ) (own : Own) (c n : ℕ) → length own.operations ≡ length (own_of service caller).operations →
    length (own_of service c).operations ≡ n → length (own_of (with_own service store caller own) c).operations ≡ n
same_handles service store caller own c n e h =
    set_related (λ (x y : Own). length x.operations ≡ n → length y.operations ≡ n) service.owns caller c own new_own (λ x p. p) (λ p. e ∙ p) h

pub set_length : (service : Service) (caller handle : ℕ) (operation : HandleOperation) (own : Own) → Sets service caller handle operation own →
    length own.operations ≡ length (own_of service caller).operations
set_length service caller handle operation own sets = ap length sets ∙ length-set (own_of service caller).operations handle operation

-- AT THE START

pub start_own : (P : Own → Type 0) (store : Store) → P new_own → (c : ℕ) → P (own_of (service_of store) c)
start_own P store new c = repeated P 17 c new_own new_own new new

pub start_operation : (P : HandleOperation → Type 0) (store : Store) → P Inactive → (c h : ℕ) → P (operation_of (service_of store) c h)
start_operation P store none c h =
    start_own (λ (o : Own). P (slice_index_or o.operations h Inactive)) store (repeated P 5 h Inactive Inactive none none) c
