-- The keys that an opening finds make a sound store.
use Rattle.std.proofs.Common.{Bool, List, None, Some, [], ap, arith, cond, count_by, false, find, length, refl, replicate, slice_index_or, subst, suc, sym, true, zero, ℕ, ◌+◌, ◌<◌, ◌==◌, ◌∙◌, ◌∷◌, ◌≡◌, ◌≤◌}
use Rattle.store_model.proofs.Common.{HaveRoom, is_in_range, is_low, persistent_limit, AreFoundKeys, found_from, has_secure_element, is_volatile, is_volatile_of, IsChecked, IsSoundStore, Key, nat_cmp, nat_tests, OpenedKey, Settings, start_of, Store}
use Rattle.std.specs.FinMap as map
use Rattle.std.proofs.lemmas.List.Sums.{sum_by-cons}
use Rattle.store_model.proofs.{Sound.put, Sound.put_apart, Sound.low_id, Sound.of_volatile, Live.len_kept-insert, Live.len_kept-empty}

no_key_at : (id : ℕ) (key : Key) → map.get (map.empty {X = Key} {R = nat_cmp}) id ≡ Some key → ⊥
no_key_at id key e = let none = sym (map.get-empty nat_cmp id) ∙ e in cc

-- a key that was found among so many, which are numbered from n on
record IsFoundKey (store : Store) (n count id : ℕ) (key : Key) : Type 0 where
  identifier : key.attributes.id.0 ≡ id
  from : n ≤ key.number
  below : key.number < n + count
  persistent : is_volatile key.attributes ≡ false
  attributes : IsChecked key.attributes (length key.bytes) store

abbrev new_at : ℕ → OpenedKey → Key
new_at n k = record { number = n; attributes = k.attributes; bytes = k.bytes; creator = 0 }

module _ (store : Store) where
  found_key : (n : ℕ) (found : List OpenedKey) → AreFoundKeys store found → (q : ℕ) (key : Key) → map.get (found_from n found) q ≡ Some key → IsFoundKey store n (length found) q key
  found_key n [] are q key e = absurd (no_key_at q key e)
  found_key n (k ∷ ks) are q key e = of (found_key (n + 1) ks are.3 q key) (q == k.attributes.id.0) refl (sym (put (found_from (n + 1) ks) k.attributes.id.0 (new_at n k) q) ∙ e)
    where
      of : (map.get (found_from (n + 1) ks) q ≡ Some key → IsFoundKey store (n + 1) (length ks) q key) →
          (b : Bool) → (q == k.attributes.id.0) ≡ b → cond b (Some (new_at n k)) (map.get (found_from (n + 1) ks) q) ≡ Some key → IsFoundKey store n (length (k ∷ ks)) q key
      of rest true t e =
          let is : new_at n k ≡ key = cc in
          subst (IsFoundKey store n (length (k ∷ ks)) q) is (record { identifier = grind (arith, nat_tests); from = omega arith; below = omega arith; persistent = are.0; attributes = are.1 })
      of rest false t e =
          let f = rest e in
          record { identifier = f.identifier; from = (let l = f.from in omega arith); below = (let l = f.below in omega arith); persistent = f.persistent; attributes = f.attributes }

  -- no number comes twice
  apart : (n : ℕ) (found : List OpenedKey) → AreFoundKeys store found → (q r : ℕ) (key same : Key) → map.get (found_from n found) q ≡ Some key → map.get (found_from n found) r ≡ Some same →
      key.number ≡ same.number → q ≡ r
  apart n [] are q r key same e f g = absurd (no_key_at q key e)
  apart n (k ∷ ks) are q r key same e f g =
      let later = λ (q : ℕ) (key : Key) (e : map.get (found_from (n + 1) ks) q ≡ Some key). (found_key (n + 1) ks are.3 q key e).from in
      put_apart (found_from (n + 1) ks) k.attributes.id.0 (new_at n k) (λ q key e number. let l = later q key e in let at : key.number ≡ n = number in omega arith) (apart (n + 1) ks are.3) q r key same e f g

  low : (k : OpenedKey) (ks : List OpenedKey) → AreFoundKeys store (k ∷ ks) → k.attributes.id.0 ≤ 0x3fffffff
  low k ks are = (low_id k.attributes (length k.bytes) (has_secure_element store) are.1 are.0).1

-- an identifier that no key of a list has
absent : (n : ℕ) (found : List OpenedKey) (id : ℕ) → find (λ other. other.attributes.id.0 == id) found ≡ None → map.get (found_from n found) id ≡ None
absent n [] id e = map.get-empty nat_cmp id
absent n (k ∷ ks) id e = of (absent (n + 1) ks id) (k.attributes.id.0 == id) refl e
  where
    of : (find (λ other. other.attributes.id.0 == id) ks ≡ None → map.get (found_from (n + 1) ks) id ≡ None) →
        (b : Bool) → (k.attributes.id.0 == id) ≡ b → cond b (Some k) (find (λ other. other.attributes.id.0 == id) ks) ≡ None → map.get (found_from n (k ∷ ks)) id ≡ None
    of rest true t e = cc
    of rest false t e =
        let other : (id == k.attributes.id.0) ≡ false = grind (arith, nat_tests) in
        put (found_from (n + 1) ks) k.attributes.id.0 (new_at n k) id ∙ ap (λ b. cond b (Some (new_at n k)) (map.get (found_from (n + 1) ks) id)) other ∙ rest e

one_at_most : (b : Bool) (m n l : ℕ) → m ≡ cond b (n + 1) n → n ≤ l → m ≤ suc l
one_at_most true m n l e h = omega arith
one_at_most false m n l e h = omega arith

module _ (store : Store) (p : ℕ → Bool) where
  kept_after : (n : ℕ) (k : OpenedKey) (ks : List OpenedKey) → AreFoundKeys store (k ∷ ks) →
      let rest = map.len (map.retain_keys (found_from (n + 1) ks) p) in map.len (map.retain_keys (found_from n (k ∷ ks)) p) ≡ cond (p k.attributes.id.0) (rest + 1) rest
  kept_after n k ks are = len_kept-insert p (found_from (n + 1) ks) k.attributes.id.0 (new_at n k) (absent (n + 1) ks k.attributes.id.0 are.2)

  -- no more are counted than there are
  at_most_all : (n : ℕ) (found : List OpenedKey) → AreFoundKeys store found → map.len (map.retain_keys (found_from n found) p) ≤ length found
  at_most_all n [] are = let e = len_kept-empty Key p in omega arith
  at_most_all n (k ∷ ks) are = one_at_most (p k.attributes.id.0) _ _ (length ks) (kept_after n k ks are) (at_most_all (n + 1) ks are.3)

  one_more_counted : (b : Bool) (rest count : ℕ) → rest ≡ count → cond b (rest + 1) rest ≡ cond b 1 0 + count
  one_more_counted true rest count same = omega (arith, same)
  one_more_counted false rest count same = omega (arith, same)

  -- exactly those are counted that pass
  pub all_counted : (n : ℕ) (found : List OpenedKey) → AreFoundKeys store found → map.len (map.retain_keys (found_from n found) p) ≡ count_by (λ key. p key.attributes.id.0) found
  all_counted n [] are = len_kept-empty Key p
  all_counted n (k ∷ ks) are =
      kept_after n k ks are ∙ one_more_counted (p k.attributes.id.0) _ (count_by (λ (key : OpenedKey). p key.attributes.id.0) ks) (all_counted (n + 1) ks are.3)
      ∙ sym (sum_by-cons (λ (key : OpenedKey). cond (p key.attributes.id.0) 1 0) k ks)

none_live : (store : Store) (c n : ℕ) (found : List OpenedKey) → AreFoundKeys store found → map.len (map.retain_keys (found_from n found) (is_volatile_of c)) ≡ 0
none_live store c n [] are = len_kept-empty Key (is_volatile_of c)
none_live store c n (k ∷ ks) are =
    let rest = none_live store c (n + 1) ks are.3 in
    kept_after store (is_volatile_of c) n k ks are ∙ of (is_volatile_of c k.attributes.id.0) refl (of_volatile k.attributes.id.0 c (low store k ks are)) _ rest
  where
    of : (b : Bool) → is_volatile_of c k.attributes.id.0 ≡ b → (is_volatile_of c k.attributes.id.0 ≡ true → ⊥) → (rest : ℕ) → rest ≡ 0 → cond b (rest + 1) rest ≡ 0
    of true t never rest e = absurd (never t)
    of false t never rest e = e

none_made : (n c : ℕ) → ◌≡◌ {A = ℕ} (slice_index_or (replicate n 0) c 0) 0
none_made zero c = refl
none_made (suc n) zero = refl
none_made (suc n) (suc c) = none_made n c

pub store_starts : (settings : Settings) (found : List OpenedKey) → AreFoundKeys (start_of settings found) found → length found ≤ persistent_limit → HaveRoom settings.limits found → IsSoundStore (start_of settings found)
store_starts settings found are few room =
    let start = start_of settings found in
    record {
      keys = λ id key e.
          let f = found_key start 0 found are id key e in
          record { identifier = f.identifier; given = (let l = f.below in omega arith); attributes = f.attributes; volatile = λ v. let clash = sym f.persistent ∙ v in cc };
      numbers = apart start 0 found are;
      made = λ c. let e = none_made 17 c in omega arith;
      live = λ c. let e = none_live start c 0 found are in omega arith;
      persistent = let l = at_most_all start is_low 0 found are in omega arith;
      ranges = λ per range. let all = all_counted start (is_in_range range) 0 found are in let few = room per range in omega (arith, all, few);
      callers = refl;
    }
