-- What holds of each service that requests lead to.
use Rattle.std.specs.Prelude.{◌≡◌, ◌≤◌, ◌<◌, ◌↔◌, ◌⊎◌, ℕ, ◌+◌, ◌^◌, ◌==◌, true, false, List, [], ◌∷◌, length, count_by, find, Option, None, Some, is_some, Ok, if◌then◌else◌}
use Rattle.std.specs.FinMap as map
use Rattle.store_model.specs.Common.{Attributes, Destroy, FaultMark, Key, OpenedKey, Settings, Store, caller_count, checked, count_in_range, count_persistent, is_in_range, is_per_range, persistent_limit, range_limit, first_volatile, has_secure_element, is_volatile, live_volatile, made_of, start_of}
use Rattle.store_model.specs.{declared.limits.Limits.Limits, Creation.identified, Operations.Active, DerivationOperations.DerivationWork, DerivationOperations.full_capacity, DerivationOperations.is_hkdf, Requests.Request, Requests.OnStore, Requests.serve}
use Rattle.store_model.specs.Handles.{KeyCreation, Work, Deriving, Held, HandleOperation, Service, handle_count, own_of, operation_of, key_of_operation, is_alive, service_of}

-- THE STORE

-- attributes as they could be stated: a volatile key's have no identifier
abbrev pub as_stated : Attributes → Attributes
as_stated a = if is_volatile a then identified a 0 else a

-- attributes come out of the checks as they are: they have the flags that others imply, and the bits of so many bytes
abbrev pub IsChecked : Attributes → (bytes : ℕ) → Store → Type 0
IsChecked a bytes store = checked (as_stated a) bytes (has_secure_element store) ≡ Ok (as_stated a)

-- a volatile key's identifier is the n-th one of its creator, for an n below the number of those made
pub record IsVolatileOf (store : Store) (id creator : ℕ) : Type 0 where
  pub from_first : 1 ≤ creator
  pub to_last : creator ≤ caller_count
  pub made : (n : ℕ) × (n < made_of store creator) × (id ≡ first_volatile creator + n)

-- a key has its identifier, a creation number that was given out, and checked attributes
pub record IsSoundKey (store : Store) (id : ℕ) (key : Key) : Type 0 where
  pub identifier : key.attributes.id.0 ≡ id
  pub given : key.number < store.found + store.calls
  pub attributes : IsChecked key.attributes (length key.bytes) store
  pub volatile : is_volatile key.attributes ≡ true → IsVolatileOf store id key.creator

pub record IsSoundStore (store : Store) : Type 0 where
  pub keys : (id : ℕ) (key : Key) → map.get store.keys id ≡ Some key → IsSoundKey store id key
  -- no creation number stands twice
  pub numbers : (id other : ℕ) (key same : Key) → map.get store.keys id ≡ Some key → map.get store.keys other ≡ Some same → key.number ≡ same.number → id ≡ other
  pub made : (caller : ℕ) → made_of store caller ≤ 2 ^ 20
  pub live : (caller : ℕ) → live_volatile store.keys caller ≤ 16
  pub persistent : count_persistent store.keys ≤ persistent_limit
  pub ranges : is_per_range store.settings.limits ≡ true → (range : ℕ) → count_in_range store.keys range ≤ range_limit
  pub callers : length store.made ≡ caller_count + 1

-- THE OPERATIONS

-- the key that an operation was given: its number was given out, and no key with this number has another identifier
pub record IsSoundCreation (store : Store) (creation : KeyCreation) : Type 0 where
  pub given : creation.number < store.found + store.calls
  pub identifier : (id : ℕ) (key : Key) → map.get store.keys id ≡ Some key → key.number ≡ creation.number → id ≡ creation.id

abbrev pub IsSoundUse : Store → Option KeyCreation → Type 0
IsSoundUse store None = Unit {0}
IsSoundUse store (Some creation) = IsSoundCreation store creation

-- all that is taken is within the full capacity; and PBKDF2 has its cost, which isn't 0, before a salt and a password
pub record IsSoundDerivation (work : DerivationWork) : Type 0 where
  pub capacity : work.taken + work.capacity ≤ full_capacity work.alg
  pub cost : (n : ℕ) → work.cost ≡ Some n → 1 ≤ n
  pub salted : is_hkdf work.alg ≡ false → is_some work.salt ≡ true → is_some work.cost ≡ true
  pub keyed : is_hkdf work.alg ≡ false → is_some work.secret ≡ true → is_some work.cost ≡ true

abbrev pub IsSoundWork : Work → Type 0
IsSoundWork (Deriving work) = IsSoundDerivation work
IsSoundWork _ = Unit {0}

pub record IsSoundHeld (store : Store) (held : Held) : Type 0 where
  pub key : IsSoundUse store held.key
  pub work : IsSoundWork held.work

abbrev pub IsSoundOperation : Store → HandleOperation → Type 0
IsSoundOperation store (Active held) = IsSoundHeld store held
IsSoundOperation store _ = Unit {0}

-- THE SERVICE

pub record IsSound (service : Service) : Type 0 where
  pub store : IsSoundStore service.store
  pub operations : (caller handle : ℕ) → IsSoundOperation service.store (operation_of service caller handle)
  -- each caller has its handles
  pub handles : (caller : ℕ) → length (own_of service caller).operations ≡ handle_count + 1
  pub callers : length service.owns ≡ caller_count + 1

-- keys that an opening may find: each is persistent and checked, no identifier comes twice, and there are at most so many
abbrev pub AreFoundKeys : Store → List OpenedKey → Type 0
AreFoundKeys store [] = Unit {0}
AreFoundKeys store (key ∷ keys) =
    (is_volatile key.attributes ≡ false) × IsChecked key.attributes (length key.bytes) store
    × (find (λ other. other.attributes.id.0 == key.attributes.id.0) keys ≡ None) × AreFoundKeys store keys

-- with limits by range, at most so many of them are of a range
abbrev pub HaveRoom : Limits → List OpenedKey → Type 0
HaveRoom limits found = is_per_range limits ≡ true → (range : ℕ) → count_by (λ key. is_in_range range key.attributes.id.0) found ≤ range_limit

-- each service is sound at its start, and each request keeps it so
abbrev pub StartsSound : Type 0
StartsSound =
    (settings : Settings) (found : List OpenedKey) → AreFoundKeys (start_of settings found) found → length found ≤ persistent_limit → HaveRoom settings.limits found →
    IsSound (service_of (start_of settings found))

abbrev pub StaysSound : Type 0
StaysSound =
    (service : Service) (caller : ℕ) (request : Request) (mark : FaultMark) → 1 ≤ caller → caller ≤ caller_count → IsSound service →
    IsSound (serve service caller request mark).service

-- a key stays as it is until a call destroys it, and then none has its identifier: no creation, and no rule, changes one
abbrev pub KeysStay : Type 0
KeysStay =
    (service : Service) (caller : ℕ) (request : Request) (mark : FaultMark) (id : ℕ) (key : Key) → IsSound service → map.get service.store.keys id ≡ Some key →
    let after : Store = (serve service caller request mark).service.store in
    (map.get after.keys id ≡ Some key) ⊎ ((request ≡ OnStore (Destroy id)) × (map.get after.keys id ≡ None))

-- some key has this creation number
abbrev pub HasNumber : Store → ℕ → Type 0
HasNumber store number = (id : ℕ) × (key : Key) × (map.get store.keys id ≡ Some key) × (key.number ≡ number)

-- the key that an operation was given is still there exactly where some key has its creation number
abbrev pub AliveByNumber : Type 0
AliveByNumber =
    (service : Service) → IsSound service → (caller handle : ℕ) (creation : KeyCreation) → key_of_operation (operation_of service caller handle) ≡ Some creation →
    (is_alive service.store (Some creation) ≡ true) ↔ HasNumber service.store creation.number
