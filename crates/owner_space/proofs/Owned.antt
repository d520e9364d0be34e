-- The identifiers that an owner's calls can name, and where keys are.
use Rattle.std.proofs.Common.{Bool, None, Option, Some, ap, arith, cond, eq-eqb, eqb-true, false, inl, inr, leb-true, length, lt-ltb, ltb-true, nat_le, nat_lt, refl, subst, sym, true, ℕ, ◌*◌, ◌+◌, ◌/◌, ◌&&◌, ◌<◌, ◌==◌, ◌^◌, ◌∙◌, ◌≡◌, ◌≤◌, ◌⊎◌}
use Rattle.owner_space.proofs.Common.{Attributes, IsSoundStore, IsStated, IsVolatileOf, Key, Owners, Store, has_secure_element, inside, inside_created, is_in_range, is_low, is_own_volatile, is_volatile, is_volatile_of, made_of, new_id, no_identifier, stated_id}
use Rattle.std.specs.FinMap as map
use Rattle.owner_space.specs.Owners.{creator_of}
use Rattle.std.proofs.lemmas.Bool.{and_parts}
use Rattle.store_model.proofs.{Recorded.MayBeKept, Sound.RoomFor, Sound.low_id, Sound.room_of}
use Rattle.store_model.specs.Store.{next_volatile}

-- IDENTIFIERS of which no key has any; those of an owner's range; those of volatile keys that its callers may have

abbrev pub IsNobodys : ℕ → Type 0
IsNobodys id = (id ≡ 0) ⊎ (id ≡ no_identifier)

abbrev pub IsInRange : (owner id : ℕ) → Type 0
IsInRange owner id = (id < 0x40000000) × (id / 2 ^ 26 ≡ owner)

abbrev pub IsOwnVolatile : Owners → (owner id : ℕ) → Type 0
IsOwnVolatile owners owner id = (1 ≤ creator_of id) × (creator_of id ≤ 16) × (owners (creator_of id) ≡ owner)

abbrev pub IsOwned : Owners → (owner id : ℕ) → Type 0
IsOwned owners owner id = IsInRange owner id ⊎ IsOwnVolatile owners owner id

abbrev pub CanName : Owners → (owner id : ℕ) → Type 0
CanName owners owner id = IsNobodys id ⊎ IsOwned owners owner id

-- WHAT TESTS SAY

pub in_range : (owner id : ℕ) → is_in_range owner id ≡ true → IsInRange owner id
in_range owner id t = let parts = and_parts (is_low id) (id / 2 ^ 26 == owner) t in (ltb-true id 0x40000000 parts.0, eqb-true (id / 2 ^ 26) owner parts.1)

pub is_range : (owner id : ℕ) → IsInRange owner id → is_in_range owner id ≡ true
is_range owner id r =
    let low = lt-ltb id 0x40000000 r.0 in
    let at = eq-eqb (id / 2 ^ 26) owner r.1 in
    λ i. low i && at i

pub volatile_of : (owners : Owners) (caller id : ℕ) → 1 ≤ caller → caller ≤ 16 → is_volatile_of caller id ≡ true → IsOwnVolatile owners (owners caller) id
volatile_of owners caller id first last t =
    let space = eqb-true (id / 2 ^ 20) (1024 + caller) t in
    let same : creator_of id ≡ caller = omega arith in
    (omega arith, omega arith, ap owners same)

pub own_volatile : (owners : Owners) (owner id : ℕ) → is_own_volatile owners owner id ≡ true → IsOwnVolatile owners owner id
own_volatile owners owner id t =
    let caller : ℕ = creator_of id in
    let one = and_parts (nat_le 1 caller && nat_le caller 16) (owners caller == owner) t in
    let two = and_parts (nat_le 1 caller) (nat_le caller 16) one.0 in
    (leb-true 1 caller two.0, leb-true caller 16 two.1, eqb-true (owners caller) owner one.1)

-- WHAT IS INSIDE CAN BE NAMED

module _ (owners : Owners) (owner : ℕ) (few : owner < 16) where
  ranged : (id : ℕ) (b c : Bool) → nat_lt id (2 ^ 26) ≡ c → CanName owners owner (cond b 0 (cond c (owner * 2 ^ 26 + id) no_identifier))
  ranged id true c t = inl (inl refl)
  ranged id false true t = let under = ltb-true id (2 ^ 26) t in inr (inl (omega arith, omega arith))
  ranged id false false t = inl (inr refl)

  pub created_named : (id : ℕ) → CanName owners owner (inside_created owner id)
  created_named id = ranged id (id == 0) (nat_lt id (2 ^ 26)) refl

  by_kind : (id : ℕ) (b : Bool) → is_own_volatile owners owner id ≡ b → CanName owners owner (cond b id (inside_created owner id))
  by_kind id true t = inr (inr (own_volatile owners owner id t))
  by_kind id false t = created_named id

  pub inside_named : (id : ℕ) → CanName owners owner (inside owners owner id)
  inside_named id = by_kind id (is_own_volatile owners owner id) refl

-- no identifier is two owners'
pub apart : (owners : Owners) (owner other id : ℕ) → (owner ≡ other → ⊥) → IsOwned owners owner id → IsOwned owners other id → ⊥
apart owners owner other id differ (inl r) (inl s) = differ (sym r.1 ∙ s.1)
apart owners owner other id differ (inl r) (inr v) = let low = r.0 in let first = v.0 in omega arith
apart owners owner other id differ (inr v) (inl r) = let low = r.0 in let first = v.0 in omega arith
apart owners owner other id differ (inr v) (inr w) = differ (sym v.2 ∙ w.2)

-- WHERE KEYS ARE

abbrev pub IsLow : ℕ → Type 0
IsLow id = (1 ≤ id) × (id ≤ 0x3fffffff)

pub owned_low : (owners : Owners) (owner id : ℕ) → CanName owners owner id → IsLow id → IsOwned owners owner id
owned_low owners owner id (inl (inl none)) low = let from = low.0 in absurd (omega arith)
owned_low owners owner id (inl (inr none)) low = let to = low.1 in absurd (omega arith)
owned_low owners owner id (inr own) low = own

module _ (store : Store) (h : IsSoundStore store) where
  pub place : (id : ℕ) (key : Key) → map.get store.keys id ≡ Some key → IsLow id ⊎ IsVolatileOf store id key.creator
  place id key e = of (is_volatile key.attributes) refl
    where
      of : (b : Bool) → is_volatile key.attributes ≡ b → IsLow id ⊎ IsVolatileOf store id key.creator
      of true v = inr ((h.keys id key e).volatile v)
      of false v =
          let k = h.keys id key e in
          inl (subst IsLow k.identifier (let low = low_id key.attributes (length key.bytes) (has_secure_element store) k.attributes v in (low.0, low.1)))

  nobodys_place : (id creator : ℕ) → IsNobodys id → IsLow id ⊎ IsVolatileOf store id creator → ⊥
  nobodys_place id creator (inl none) (inl low) = let from = low.0 in omega arith
  nobodys_place id creator (inr none) (inl low) = let to = low.1 in omega arith
  nobodys_place id creator (inl none) (inr v) = let at = v.made.2 in omega arith
  nobodys_place id creator (inr none) (inr v) =
      let to = v.to_last in
      let at = v.made.2 in
      let below = v.made.1 in
      let few = h.made creator in
      omega arith

  no_key_at : (id : ℕ) → IsNobodys id → (o : Option Key) → map.get store.keys id ≡ o → o ≡ None
  no_key_at id none None e = refl
  no_key_at id none (Some key) e = absurd (nobodys_place id key.creator none (place id key e))

  pub no_key : (id : ℕ) → IsNobodys id → map.get store.keys id ≡ None
  no_key id none = no_key_at id none (map.get store.keys id) refl

-- a new key is its creator's owner's
module _ (owners : Owners) (store : Store) (caller : ℕ) (first : 1 ≤ caller) (last : caller ≤ 16) (kept : Attributes) where
  new_volatile : (made : ℕ) → made < 2 ^ 20 → IsOwnVolatile owners (owners caller) (0x40000000 + caller * 2 ^ 20 + made)
  new_volatile made few = let same : creator_of (0x40000000 + caller * 2 ^ 20 + made) ≡ caller = omega arith in (omega arith, omega arith, ap owners same)

  new_by : (volatile : Bool) → CanName owners (owners caller) kept.id.0 → RoomFor store caller kept volatile → IsStated volatile kept.id.0 → IsOwned owners (owners caller) (cond volatile (next_volatile store caller) kept.id.0)
  new_by true named room stated = inr (new_volatile (made_of store caller) room.1)
  new_by false named room stated = owned_low owners (owners caller) kept.id.0 named (stated.0, stated.1)

  pub new_owned : (n : ℕ) → CanName owners (owners caller) kept.id.0 → MayBeKept store caller kept n → IsOwned owners (owners caller) (new_id store caller kept)
  new_owned n named may =
      new_by (is_volatile kept) named (room_of store caller kept (is_volatile kept) refl may.room) (stated_id kept n (has_secure_element store) may.checks)
