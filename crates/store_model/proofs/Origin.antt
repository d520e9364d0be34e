-- No chain of copies gains a flag or an algorithm.
use Rattle.std.proofs.Common.{Bool, IfSome, List, None, Option, Some, [], ap, arith, cond, false, inl, inr, refl, subst, sym, true, ℕ, ◌++◌, ◌+◌, ◌<◌, ◌==◌, ◌∙◌, ◌∷◌, ◌≡◌, ◌⊎◌}
use Rattle.store_model.proofs.Common.{Attributes, counted, created, creation_at, creation_from, destroyed, HasOrigin, identified, is_volatile, IsFilled, IsSoundStore, IsWithin, IsWithin-implied, IsWithin-refl, IsWithin-trans, Key, key_answered, Made, meet-within_source, meet_of, nat_cmp, nat_tests, new_id, new_key, option_map_or, origin_from, origin_of, Policy, Reply, Request, source_of, Store, unless-ok, with_implied}
use Rattle.std.specs.FinMap as map
use Rattle.store_model.proofs.{StoreShape.MakesNone, StoreShape.IsCopied, Sound.put, Sound.taken, Sound.left}

-- the creations so far, beside the store that they led to
pub record Tracks (store : Store) (made : List Made) : Type 0 where
  pub alive : (id : ℕ) (key : Key) → map.get store.keys id ≡ Some key → (m : Made) × ((creation_at made key.number ≡ Some m) × (m.policy ≡ key.attributes.policy))
  pub below : (n : ℕ) (m : Made) → creation_at made n ≡ Some m → n < store.found + store.calls
  pub origin : (n : ℕ) (m : Made) → creation_at made n ≡ Some m → HasOrigin made m

-- a call that creates no key
kept : (store after : Store) (made : List Made) → ((id : ℕ) (key : Key) → map.get after.keys id ≡ Some key → map.get store.keys id ≡ Some key) →
    after.found ≡ store.found → after.calls ≡ store.calls + 1 → Tracks store made → Tracks after made
kept store after made inside found calls t = record {
  alive = λ id key e. t.alive id key (inside id key e);
  below = λ n m e. let l = t.below n m e in omega arith;
  origin = t.origin;
}

-- a creation has the number that it is found by
first_number : (x m : Made) (n : ℕ) (o : Option Made) (b : Bool) → (x.number == n) ≡ b → (o ≡ Some m → m.number ≡ n) → cond b (Some x) o ≡ Some m → m.number ≡ n
first_number x m n o true t h f = let same : x ≡ m = cc in ap (λ y. y.number) (sym same) ∙ grind (arith, nat_tests)
first_number x m n o false t h f = h f

found_number : (made : List Made) (n : ℕ) (m : Made) → creation_at made n ≡ Some m → m.number ≡ n
found_number [] n m e = cc
found_number (x ∷ made) n m e = first_number x m n (creation_at made n) (x.number == n) refl (found_number made n m) e

other_number : (x n : ℕ) → n < x → (x == n) ≡ false
other_number x n h = grind (arith, nat_tests)

same_number : (x n : ℕ) → x ≡ n → (x == n) ≡ true
same_number x n h = grind (arith, nat_tests)

-- an older creation is found behind a new one
behind : (m : Made) (made : List Made) (n : ℕ) → n < m.number → creation_at (m ∷ made) n ≡ creation_at made n
behind m made n h = ap (λ b. cond b (Some m) (creation_at made n)) (other_number m.number n h)

origin_behind : (m : Made) (made : List Made) (n : ℕ) → n < m.number → origin_of (m ∷ made) n ≡ origin_of made n
origin_behind m made n h = ap (λ b. cond b (origin_from n m.source (origin_of made)) (origin_of made n)) (other_number m.number n h)

in_front : (m : Made) (made : List Made) → creation_at (m ∷ made) m.number ≡ Some m
in_front m made = ap (λ b. cond b (Some m) (creation_at made m.number)) (same_number m.number m.number refl)

origin_in_front : (m : Made) (made : List Made) → origin_of (m ∷ made) m.number ≡ origin_from m.number m.source (origin_of made)
origin_in_front m made = ap (λ b. cond b (origin_from m.number m.source (origin_of made)) (origin_of made m.number)) (same_number m.number m.number refl)

-- where the policy of a new creation comes from
pub record ComesFrom (made : List Made) (source : ℕ) (policy : Policy) : Type 0 where
  pub older : Made
  pub there : creation_at made source ≡ Some older
  pub within : IsWithin policy older.policy

abbrev pub HasSource : List Made → Option ℕ → Policy → Type 0
HasSource made None policy = Unit {0}
HasSource made (Some source) policy = ComesFrom made source policy

below_new : (store : Store) (made : List Made) (m : Made) → m.number ≡ store.found + store.calls → Tracks store made → (n : ℕ) (x : Made) → creation_at made n ≡ Some x → n < m.number
below_new store made m number t n x e = let l = t.below n x e in omega arith

older_origin : (store : Store) (made : List Made) (m x : Made) → m.number ≡ store.found + store.calls → Tracks store made → (n : ℕ) → creation_at made n ≡ Some x → HasOrigin (m ∷ made) x
older_origin store made m x number t n e =
    let o = t.origin n x e in
    let same = found_number made n x e in
    let near : x.number < m.number = (let l = below_new store made m number t n x e in omega arith) in
    record {
      origin = o.origin;
      found = ap (creation_at (m ∷ made)) (origin_behind m made x.number near)
          ∙ behind m made (origin_of made x.number) (below_new store made m number t (origin_of made x.number) o.origin o.found) ∙ o.found;
      first = o.first;
      within = o.within;
    }

new_origin : (store : Store) (made : List Made) (m : Made) → m.number ≡ store.found + store.calls → Tracks store made → (source : Option ℕ) → m.source ≡ source → HasSource made source m.policy → HasOrigin (m ∷ made) m
new_origin store made m number t None s h = record {
  origin = m;
  found = ap (creation_at (m ∷ made)) (origin_in_front m made ∙ ap (λ o. origin_from m.number o (origin_of made)) s) ∙ in_front m made;
  first = s;
  within = IsWithin-refl m.policy;
}
new_origin store made m number t (Some source) s h =
    let o = t.origin source h.older h.there in
    let at : origin_of made source ≡ origin_of made h.older.number = ap (origin_of made) (sym (found_number made source h.older h.there)) in
    let far : origin_of made h.older.number < m.number = below_new store made m number t (origin_of made h.older.number) o.origin o.found in
    record {
      origin = o.origin;
      found = ap (creation_at (m ∷ made)) (origin_in_front m made ∙ ap (λ o. origin_from m.number o (origin_of made)) s ∙ at) ∙ behind m made (origin_of made h.older.number) far ∙ o.found;
      first = o.first;
      within = IsWithin-trans o.origin.policy h.older.policy m.policy h.within o.within;
    }

-- a creation
pushed : (store after : Store) (made : List Made) (m : Made) (id : ℕ) (key : Key) → IsSoundStore store → after.keys ≡ map.insert store.keys id key → after.found ≡ store.found → after.calls ≡ store.calls + 1 →
    m.number ≡ store.found + store.calls → key.number ≡ m.number → m.policy ≡ key.attributes.policy → HasSource made m.source m.policy → Tracks store made → Tracks after (m ∷ made)
pushed store after made m id key sound keys found calls number same policy source t = record {
  alive = λ q k e. here_or_there q k (q == id) refl (sym (put store.keys id key q) ∙ ap (λ l. map.get l q) (sym keys) ∙ e);
  below = λ n x e. new_or_old n x (m.number == n) refl e;
  origin = λ n x e. own_or_older n x (m.number == n) refl e;
}
  where
    here_or_there : (q : ℕ) (k : Key) (b : Bool) → (q == id) ≡ b → cond b (Some key) (map.get store.keys q) ≡ Some k →
        (x : Made) × ((creation_at (m ∷ made) k.number ≡ Some x) × (x.policy ≡ k.attributes.policy))
    here_or_there q k true u e =
        let is : key ≡ k = cc in
        (m, (ap (creation_at (m ∷ made)) (ap (λ y. y.number) (sym is) ∙ same) ∙ in_front m made, policy ∙ ap (λ y. y.attributes.policy) is))
    here_or_there q k false u e =
        let old = t.alive q k e in
        let near : k.number < m.number = (let l = (sound.keys q k e).given in omega arith) in
        (old.0, (behind m made k.number near ∙ old.1.0, old.1.1))

    new_or_old : (n : ℕ) (x : Made) (b : Bool) → (m.number == n) ≡ b → cond b (Some m) (creation_at made n) ≡ Some x → n < after.found + after.calls
    new_or_old n x true u e = let at : m.number ≡ n = grind (arith, nat_tests) in omega arith
    new_or_old n x false u e = let l = t.below n x e in omega arith

    own_or_older : (n : ℕ) (x : Made) (b : Bool) → (m.number == n) ≡ b → cond b (Some m) (creation_at made n) ≡ Some x → HasOrigin (m ∷ made) x
    own_or_older n x true u e = let is : m ≡ x = cc in subst (HasOrigin (m ∷ made)) is (new_origin store made m number t m.source refl source)
    own_or_older n x false u e = older_origin store made m x number t n e

pub counted_tracks : (store : Store) (made : List Made) → Tracks store made → Tracks (counted store) made
counted_tracks store made t = kept store (counted store) made (λ id key e. e) refl refl t

-- the creations so far, beside what a call made
abbrev pub TracksReply : List Made → Option ℕ → Store → Reply → Type 0
TracksReply made source after reply = Tracks after (option_map_or (λ key. creation_from source key ∷ []) (key_answered after reply.output) [] ++ made)

-- a call that made none
pub none_tracks : (store : Store) (made : List Made) (source : Option ℕ) (reply : Reply) → MakesNone reply → Tracks store made → TracksReply made source store reply
none_tracks store made source reply none t = subst (λ o. Tracks store (option_map_or (λ key. creation_from source key ∷ []) o [] ++ made)) (sym (none store)) t

there_now : (keys : map.FinMap nat_cmp Key) (id : ℕ) (key : Key) → map.get (map.insert keys id key) id ≡ Some key
there_now keys id key = put keys id key id ∙ ap (λ b. cond b (Some key) (map.get keys id)) (same_number id id refl)

pub created_tracks : (store : Store) (caller : ℕ) (kept : Attributes) (bytes : List ℕ) (source : Option ℕ) (made : List Made) → IsSoundStore store → Tracks store made →
    HasSource made source kept.policy →
    let outcome = created store caller kept bytes in TracksReply made source outcome.store outcome.reply
created_tracks store caller kept bytes source made sound t h =
    let id = new_id store caller kept in
    let key = new_key store caller id kept bytes in
    let after = (created store caller kept bytes).store in
    let m : Made = record { number = key.number; policy = key.attributes.policy; source = source } in
    subst (λ o. Tracks after (option_map_or (λ key. creation_from source key ∷ []) o [] ++ made)) (sym (there_now store.keys id key))
    (pushed store after made m id key sound refl refl refl refl refl refl h t)

pub destroyed_tracks : (store : Store) (id : ℕ) (made : List Made) → Tracks store made → Tracks (destroyed store id).store made
destroyed_tracks store id made t = kept store (destroyed store id).store made (λ q key e. left (q == id) _ key (sym (taken store.keys id q) ∙ e)) refl refl t

-- a key's policy has the flags that its others imply
same_policy : (a : Attributes) (b : Bool) → (cond b (identified a 0) a).policy ≡ a.policy
same_policy a true = refl
same_policy a false = refl

filled_policy : (store : Store) (id : ℕ) (key : Key) → IsSoundStore store → map.get store.keys id ≡ Some key → IsFilled key.attributes.policy
filled_policy store id key sound e =
    subst IsFilled (same_policy key.attributes (is_volatile key.attributes)) (ap (λ (a : Attributes). a.policy.usage.0) (unless-ok _ _ _ (sound.keys id key e).attributes).1)

copy_policy : (source stated met : Policy) → IsFilled source → meet_of source stated ≡ Some met → IsWithin (with_implied met) source
copy_policy source stated met filled e = (IsWithin-implied source met filled (subst (λ o. IfSome o (λ m. IsWithin m source)) e (meet-within_source source stated))).1

-- where the policy of what a call creates comes from
pub created_source : (store : Store) (request : Request) (kept : Attributes) (made : List Made) → IsSoundStore store → Tracks store made → (source : Option ℕ) → source_of store request ≡ source →
    (source_of store request ≡ None) ⊎ IsCopied store request kept.policy → HasSource made source kept.policy
created_source store request kept made sound t None e h = tt
created_source store request kept made sound t (Some number) e (inl none) = let clash = sym e ∙ none in cc
created_source store request kept made sound t (Some number) e (inr copy) =
    let older = t.alive copy.id copy.source copy.there in
    let same : copy.source.number ≡ number = some_same (sym copy.number ∙ e) in
    let own = copy.source.attributes.policy in
    let within : IsWithin kept.policy own =
    IsWithin-trans own (with_implied copy.met) kept.policy copy.within (copy_policy own copy.stated copy.met (filled_policy store copy.id copy.source sound copy.there) copy.meets) in
    record { older = older.0; there = ap (creation_at made) (sym same) ∙ older.1.0; within = subst (IsWithin kept.policy) (sym older.1.1) within }
  where
    some_same : {m n : ℕ} → Some m ≡ Some n → m ≡ n
    some_same e = cc
