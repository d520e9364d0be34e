-- Where keys are limited by range, a range alone decides whether there is room in it.
use Rattle.std.proofs.Common.{Bool, ap, arith, eq-or-lt_of_le, false, inl, inr, le_of_suc-le-suc, leb-false, leb-true, ltb-false, ltb-true, nat_le, nat_lt, refl, subst, suc, true, zero, ℕ, ◌*◌, ◌+◌, ◌/◌, ◌&&◌, ◌<◌, ◌^◌, ◌||◌, ◌∙◌, ◌≡◌, ◌≤◌, ◌⊎◌}
use Rattle.owner_space.proofs.Common.{IsSoundStore, KeyMap, PerRange, Store, count_in_range, is_in_range, lacks_room, range_limit}
use Rattle.store_model.specs.Store.{count_persistent, is_per_range, persistent_limit}
use Rattle.owner_space.proofs.{Counts.count, Counts.count_never, Counts.cover_counts, Owned.is_range}

-- the keys of the first ranges
abbrev below : KeyMap → ℕ → ℕ
below keys k = count (λ id. nat_lt id (k * 2 ^ 26)) keys

covers : (k id : ℕ) → k < 16 → nat_lt id (suc k * 2 ^ 26) ≡ true → (b : Bool) → nat_lt id (k * 2 ^ 26) ≡ b → (b || is_in_range k id) ≡ true
covers k id l t true u = refl
covers k id l t false u =
    let above = ltb-false id (k * 2 ^ 26) u in
    let under = ltb-true id (suc k * 2 ^ 26) t in
    is_range k id (omega arith, omega arith)

one_range : (keys : KeyMap) (k : ℕ) → k < 16 → below keys (suc k) ≤ below keys k + count_in_range keys k
one_range keys k l = cover_counts (λ id. nat_lt id (suc k * 2 ^ 26)) (λ id. nat_lt id (k * 2 ^ 26)) (is_in_range k) (λ id t. covers k id l t (nat_lt id (k * 2 ^ 26)) refl) keys

none_below : (keys : KeyMap) → below keys 0 ≡ 0
none_below keys = count_never (λ id. nat_lt id (0 * 2 ^ 26)) (λ id t. let under = ltb-true id (0 * 2 ^ 26) t in omega arith) keys

module _ (keys : KeyMap) (few : (range : ℕ) → count_in_range keys range ≤ 128) where
  at_most : (k : ℕ) → k ≤ 16 → below keys k ≤ 128 * k
  at_most zero l = let e = none_below keys in omega arith
  at_most (suc k) l =
      let rest = at_most k (omega arith) in
      let one = few k in
      let e = one_range keys k (omega arith) in
      omega arith

  -- the ranges up to one that has room, and further ones
  fewer_by : (range k : ℕ) → suc k ≤ 16 → count_in_range keys range < 128 → (range < k → below keys k < 128 * k) → (range ≡ k) ⊎ (range < k) → below keys (suc k) < 128 * suc k
  fewer_by range k l room rest (inl here) =
      let room_here = subst (λ n. count_in_range keys n < 128) here room in
      let all = at_most k (omega arith) in
      let e = one_range keys k (omega arith) in
      omega arith
  fewer_by range k l room rest (inr later) =
      let all = rest later in
      let one = few k in
      let e = one_range keys k (omega arith) in
      omega arith

  fewer : (range : ℕ) → count_in_range keys range < 128 → (k : ℕ) → k ≤ 16 → range < k → below keys k < 128 * k
  fewer range room zero l r = absurd (omega arith)
  fewer range room (suc k) l r = fewer_by range k l room (fewer range room k (omega arith)) (eq-or-lt_of_le (le_of_suc-le-suc r))

  decided : (range : ℕ) → range < 16 → (b c : Bool) → nat_le persistent_limit (count_persistent keys) ≡ b → nat_le range_limit (count_in_range keys range) ≡ c → (b || c) ≡ c
  decided range l false c t u = refl
  decided range l true true t u = refl
  decided range l true false t u =
      let all = fewer range (leb-false range_limit (count_in_range keys range) u) 16 (omega arith) l in
      let many = leb-true persistent_limit (count_persistent keys) t in
      absurd (omega arith)

pub room_by_range : (store : Store) → IsSoundStore store → store.settings.limits ≡ PerRange → (id : ℕ) → id ≤ 0x3fffffff → lacks_room store id ≡ nat_le range_limit (count_in_range store.keys (id / 2 ^ 26))
room_by_range store sound per id low =
    let range : ℕ = id / 2 ^ 26 in
    let limited = ap is_per_range per in
    ap (λ b. nat_le persistent_limit (count_persistent store.keys) || (b && nat_le range_limit (count_in_range store.keys range))) limited
    ∙ decided store.keys (sound.ranges limited) range (omega arith) (nat_le persistent_limit (count_persistent store.keys)) (nat_le range_limit (count_in_range store.keys range)) refl refl
