-- Two services that are alike to the callers of one owner.
use Rattle.std.proofs.Common.{Bool, List, None, Option, Some, [], arith, false, get_or, length, refl, set, subst, subst₂, suc, sym, zero, ℕ, ◌+◌, ◌<◌, ◌==◌, ◌∙◌, ◌∷◌, ◌≡◌, ◌≤◌}
use Rattle.owner_space.proofs.Common.{Active, HandleOperation, InError, Inactive, IsSound, IsSoundOperation, Key, KeyCreation, KeyMap, Own, Owners, PerRange, Service, Store, Work, made_of, own_of, with_drawn, with_operation}
use Rattle.std.specs.FinMap as map
use Rattle.random_streams.specs.RandomWords.{words_used}
use Rattle.std.specs.Option.{option_map_or}
use Rattle.store_model.specs.{Handles.new_own, Handles.with_own, Sound.IsSoundUse}
use Rattle.owner_space.proofs.{Owned.IsOwned}

-- KEYS: none in both, or one in each that differs in its creation number alone

pub data SameKey : Option Key → Option Key → Type 0 where
  neither : SameKey None None
  both : (key : Key) (n : ℕ) → SameKey (Some key) (Some (record key { number = n }))

pub moved : {w x y z : Option Key} → w ≡ x → y ≡ z → SameKey x z → SameKey w y
moved e f same = subst₂ SameKey (sym e) (sym f) same

-- what doesn't look at the number is the same of both
pub blind : {A : Type 0} (f : Option Key → A) → ((key : Key) (n : ℕ) → f (Some key) ≡ f (Some (record key { number = n }))) → {x y : Option Key} → SameKey x y → f x ≡ f y
blind f same neither = refl
blind f same (both key n) = same key n

-- OPERATIONS: the same work, with keys that are there in both or gone from both

abbrev pub has_number : ℕ → Option Key → Bool
has_number number found = option_map_or (λ (key : Key). key.number == number) found false

-- whether the key of an identifier is that of a creation number
abbrev pub is_key : KeyMap → (id number : ℕ) → Bool
is_key keys id number = has_number number (map.get keys id)

pub data SameUse (owners : Owners) (owner : ℕ) (whole alone : KeyMap) : Option KeyCreation → Option KeyCreation → Type 0 where
  keyless : SameUse owners owner whole alone None None
  keyed : (id m n : ℕ) → IsOwned owners owner id → is_key whole id m ≡ is_key alone id n → SameUse owners owner whole alone (Some (record { id = id; number = m })) (Some (record { id = id; number = n }))

pub data SameOperation (owners : Owners) (owner : ℕ) (whole alone : KeyMap) : HandleOperation → HandleOperation → Type 0 where
  inactive : SameOperation owners owner whole alone Inactive Inactive
  in_error : SameOperation owners owner whole alone InError InError
  active : (work : Work) (p q : Option KeyCreation) → SameUse owners owner whole alone p q → SameOperation owners owner whole alone (Active (record { key = p; work = work })) (Active (record { key = q; work = work }))

pub record SameOwn (owners : Owners) (owner : ℕ) (whole alone : KeyMap) (x y : Own) : Type 0 where
  pub drawn : x.drawn ≡ y.drawn
  pub operations : (handle : ℕ) → SameOperation owners owner whole alone (get_or x.operations handle Inactive) (get_or y.operations handle Inactive)

-- SERVICES

pub record AreAlikeStores (owners : Owners) (owner : ℕ) (whole alone : Store) : Type 0 where
  pub settings : whole.settings ≡ alone.settings
  pub keys : (id : ℕ) → IsOwned owners owner id → SameKey (map.get whole.keys id) (map.get alone.keys id)
  pub made : (caller : ℕ) → owners caller ≡ owner → made_of whole caller ≡ made_of alone caller

pub record AreAlike (owners : Owners) (owner : ℕ) (whole alone : Service) : Type 0 where
  pub stores : AreAlikeStores owners owner whole.store alone.store
  pub owns : (caller : ℕ) → owners caller ≡ owner → SameOwn owners owner whole.store.keys alone.store.keys (own_of whole caller) (own_of alone caller)

-- and sound, with keys limited by range
pub record AreTwins (owners : Owners) (owner : ℕ) (whole alone : Service) : Type 0 where
  pub alike : AreAlike owners owner whole alone
  pub sound : IsSound whole
  pub sound_alone : IsSound alone
  pub per_range : whole.store.settings.limits ≡ PerRange

-- one of the callers, which has one of the owners
pub record IsOwnersCaller (owners : Owners) (caller : ℕ) : Type 0 where
  pub first : 1 ≤ caller
  pub last : caller ≤ 16
  pub few : owners caller < 16

-- TWO STORES GO ON, and stay alike: a key that an operation was given stays in both or goes from both

pub record GoOn (owners : Owners) (owner : ℕ) (whole alone next next_alone : Store) : Type 0 where
  pub stores : AreAlikeStores owners owner next next_alone
  pub uses : (id m n : ℕ) → IsOwned owners owner id → m < whole.found + whole.calls → n < alone.found + alone.calls → is_key whole.keys id m ≡ is_key alone.keys id n → is_key next.keys id m ≡ is_key next_alone.keys id n

-- what relates each value to itself relates equal ones
pub along : {A : Type 0} (R : A → A → Type 0) → ((x : A) → R x x) → {x y : A} → x ≡ y → R x y
along R same {x} e = subst (R x) e (same x)

-- the same is set at one place of two lists
both_set : {A : Type 0} (R : A → A → Type 0) (l m : List A) (i j : ℕ) (a b d : A) → length l ≡ length m → R (get_or l j d) (get_or m j d) → R a b → R (get_or (set l i a) j d) (get_or (set m i b) j d)
both_set R [] [] i j a b d e old new = old
both_set R [] (y ∷ m) i j a b d e old new = absurd (omega arith)
both_set R (x ∷ l) [] i j a b d e old new = absurd (omega arith)
both_set R (x ∷ l) (y ∷ m) zero zero a b d e old new = new
both_set R (x ∷ l) (y ∷ m) zero (suc j) a b d e old new = old
both_set R (x ∷ l) (y ∷ m) (suc i) zero a b d e old new = old
both_set R (x ∷ l) (y ∷ m) (suc i) (suc j) a b d e old new = both_set R l m i j a b d (omega arith) old new

pub made_set : (l m : List ℕ) (i j n : ℕ) → length l ≡ length m → get_or l j 0 ≡ get_or m j 0 → get_or (set l i n) j 0 ≡ get_or (set m i n) j 0
made_set l m i j n e old = both_set (λ (x y : ℕ). x ≡ y) l m i j n n 0 e old refl

module _ (owners : Owners) (owner : ℕ) where
  module _ {whole alone next next_alone : Store} (go : GoOn owners owner whole alone next next_alone) where
    use_goes : {p q : Option KeyCreation} → SameUse owners owner whole.keys alone.keys p q → IsSoundUse whole p → IsSoundUse alone q → SameUse owners owner next.keys next_alone.keys p q
    use_goes keyless h k = keyless
    use_goes (keyed id m n own same) h k = keyed id m n own (go.uses id m n own h.given k.given same)

    operation_goes : {x y : HandleOperation} → SameOperation owners owner whole.keys alone.keys x y → IsSoundOperation whole x → IsSoundOperation alone y → SameOperation owners owner next.keys next_alone.keys x y
    operation_goes inactive h k = inactive
    operation_goes in_error h k = in_error
    operation_goes (active work p q same) h k = active work p q (use_goes same h.key k.key)

  module _ {whole alone : Service} (twins : AreTwins owners owner whole alone) {next next_alone : Store} (go : GoOn owners owner whole.store alone.store next next_alone) where
    pub own_goes : (caller : ℕ) → owners caller ≡ owner → SameOwn owners owner next.keys next_alone.keys (own_of whole caller) (own_of alone caller)
    own_goes caller is =
        let own = twins.alike.owns caller is in
        record { drawn = own.drawn; operations = λ handle. operation_goes go (own.operations handle) (twins.sound.operations caller handle) (twins.sound_alone.operations caller handle) }

    -- the stores go on alone
    pub stores_go : AreAlike owners owner (record whole { store = next }) (record alone { store = next_alone })
    stores_go = record { stores = go.stores; owns = own_goes }

    -- and what is one caller's own is set
    pub own_is_set : (caller : ℕ) (x y : Own) → SameOwn owners owner next.keys next_alone.keys x y → AreAlike owners owner (with_own whole next caller x) (with_own alone next_alone caller y)
    own_is_set caller x y new = record {
      stores = go.stores;
      owns = λ c is. both_set (SameOwn owners owner next.keys next_alone.keys) whole.owns alone.owns caller c x y new_own (twins.sound.callers ∙ sym twins.sound_alone.callers) (own_goes c is) new;
    }

    -- an operation of a caller is set
    pub operation_is_set : (caller : ℕ) → owners caller ≡ owner → (handle : ℕ) (p q : HandleOperation) → SameOperation owners owner next.keys next_alone.keys p q →
        SameOwn owners owner next.keys next_alone.keys (with_operation (own_of whole caller) handle p) (with_operation (own_of alone caller) handle q)
    operation_is_set caller is handle p q new =
        let own = own_goes caller is in
        record {
          drawn = own.drawn;
          operations = λ h. both_set (SameOperation owners owner next.keys next_alone.keys) (own_of whole caller).operations (own_of alone caller).operations handle h p q Inactive
              (twins.sound.handles caller ∙ sym (twins.sound_alone.handles caller)) (own.operations h) new;
        }

  -- words are drawn
  pub words_drawn : {whole alone : KeyMap} {x y : Own} → SameOwn owners owner whole alone x y → {m n : ℕ} → m ≡ n → SameOwn owners owner whole alone (with_drawn x m) (with_drawn y n)
  words_drawn same e = let drawn = same.drawn in record { drawn = λ i. drawn i + words_used (e i); operations = same.operations }
