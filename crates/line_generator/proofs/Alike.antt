-- What a caller sees of a service: its own, how many keys it made, the settings, and its volatile keys but for their numbers.
use Rattle.std.proofs.Common.{List, None, Option, Some, [], arith, get_or, inl, inr, is_some, length, refl, set, suc, sym, true, zero, ℕ, ◌∙◌, ◌∷◌, ◌≡◌, ◌⊎◌}
use Rattle.line_generator.proofs.Common.{is_volatile_of, Key, length-set, live_volatile, made_of, new_own, on_store, Outcome, own_of, Service, Store, with_drawn}
use Rattle.std.specs.Option.{option_map}
use Rattle.std.specs.FinMap as map

-- a key without its number and its creator
abbrev pub plain_key : Key → Key
plain_key key = record { number = 0; attributes = key.attributes; bytes = key.bytes; creator = 0 }

abbrev pub plain : Option Key → Option Key
plain found = option_map plain_key found

pub some_of : (o p : Option Key) → plain o ≡ plain p → is_some o ≡ is_some p
some_of None None e = refl
some_of None (Some k) e = absurd (cc)
some_of (Some k) None e = absurd (cc)
some_of (Some k) (Some l) e = refl

-- of the store
pub record AlikeStores (caller : ℕ) (a b : Store) : Type 0 where
  pub made : made_of a caller ≡ made_of b caller
  pub mades : length a.made ≡ length b.made
  pub settings : a.settings ≡ b.settings
  pub keys : (id : ℕ) → is_volatile_of caller id ≡ true → plain (map.get a.keys id) ≡ plain (map.get b.keys id)
  pub live : live_volatile a.keys caller ≡ live_volatile b.keys caller

pub record Alike (caller : ℕ) (a b : Service) : Type 0 where
  pub own : own_of a caller ≡ own_of b caller
  pub owns : length a.owns ≡ length b.owns
  pub stores : AlikeStores caller a.store b.store

-- no key has the identifier 0
abbrev pub NoZero : Service → Type 0
NoZero service = map.get service.store.keys 0 ≡ None

-- an identifier of one of a caller's volatile keys, or 0
abbrev pub OwnId : ℕ → ℕ → Type 0
OwnId caller id = (id ≡ 0) ⊎ (is_volatile_of caller id ≡ true)

pub looked : (caller : ℕ) (a b : Service) (id : ℕ) → Alike caller a b → NoZero a → NoZero b → OwnId caller id → plain (map.get a.store.keys id) ≡ plain (map.get b.store.keys id)
looked caller a b id h za zb (inl e) = rw (e, za, zb) refl
looked caller a b id h za zb (inr e) = h.stores.keys id e

-- one element written in two lists
pub set_both : {X : Type 0} (xs ys : List X) (i : ℕ) (v w d : X) → length xs ≡ length ys → get_or xs i d ≡ get_or ys i d → v ≡ w →
    get_or (set xs i v) i d ≡ get_or (set ys i w) i d
set_both [] [] i v w d l e f = refl
set_both [] (y ∷ ys) i v w d l e f = absurd (omega arith)
set_both (x ∷ xs) [] i v w d l e f = absurd (omega arith)
set_both (x ∷ xs) (y ∷ ys) zero v w d l e f = f
set_both (x ∷ xs) (y ∷ ys) (suc i) v w d l e f = set_both xs ys i v w d (omega arith) e f

pub after_both : (caller : ℕ) (a b : Service) (one other : Outcome) → Alike caller a b → one.drawn ≡ other.drawn → AlikeStores caller one.store other.store →
    Alike caller (on_store a caller one).service (on_store b caller other).service
after_both caller a b one other h d stores =
    let next : with_drawn (own_of a caller) one.drawn ≡ with_drawn (own_of b caller) other.drawn = λ i. with_drawn (h.own i) (d i) in
    record {
      own = set_both a.owns b.owns caller _ _ new_own h.owns h.own next;
      owns = length-set a.owns caller _ ∙ h.owns ∙ sym (length-set b.owns caller _);
      stores = stores;
    }
