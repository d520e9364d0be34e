-- How many keys of a map pass a test.
use Rattle.std.proofs.Common.{Bool, List, None, Option, Some, [], ap, arith, cond, eq-eqb, eqb-true, false, is_some, length, refl, subst, suc, sym, true, zero, ℕ, ◌+◌, ◌-◌, ◌==◌, ◌||◌, ◌∙◌, ◌∷◌, ◌≡◌, ◌≤◌}
use Rattle.owner_space.proofs.Common.{Key, KeyMap, put, taken}
use Rattle.std.specs.FinMap as map
use Rattle.std.proofs.lemmas.Cmp.{nat_cmp_total, ranked}
use Rattle.std.specs.{Cmp.tied_itself, Ordering.is_eq, Ordering.nat_cmp, declared.cmp.Ordering.TheVariants.Equal}
use Rattle.store_model.proofs.Live.{len_kept-empty, len_kept-insert}

abbrev pub count : (ℕ → Bool) → KeyMap → ℕ
count p keys = map.len (map.retain_keys keys p)

pub kept : (p : ℕ → Bool) (keys : KeyMap) (id : ℕ) → map.get (map.retain_keys keys p) id ≡ cond (p id) (map.get keys id) None
kept p keys id = map.get-retain_keys keys p id (λ other tied. ap p (sym (ranked id other Equal (sym tied))))

pub same_maps : (m n : KeyMap) → ((id : ℕ) → map.get m id ≡ map.get n id) → m ≡ n
same_maps m n same = map.same_map nat_cmp_total map.nat_cmp-IsAntisymmetric m n same

-- ONE KEY TAKEN OUT AND PUT BACK

module _ (keys : KeyMap) (id : ℕ) (key : Key) (there : map.get keys id ≡ Some key) where
  gone : map.get (map.remove keys id) id ≡ None
  gone = taken keys id id ∙ ap (λ b. cond b None (map.get keys id)) (eq-eqb id id refl)

  back : (q : ℕ) (b : Bool) → (q == id) ≡ b → cond b (Some key) (cond b None (map.get keys q)) ≡ map.get keys q
  back q true t = sym there ∙ ap (map.get keys) (sym (eqb-true q id t))
  back q false t = refl

  restored : map.insert (map.remove keys id) id key ≡ keys
  restored = same_maps _ keys (λ q. put (map.remove keys id) id key q ∙ ap (cond (q == id) (Some key)) (taken keys id q) ∙ back q (q == id) refl)

  counted_with : (p : ℕ → Bool) → count p keys ≡ cond (p id) (count p (map.remove keys id) + 1) (count p (map.remove keys id))
  counted_with p = ap (count p) (sym restored) ∙ len_kept-insert p (map.remove keys id) id key gone

  one_fewer : (n : ℕ) → map.len keys ≡ suc n → map.len (map.remove keys id) ≡ n
  one_fewer n e = let less = map.len-remove nat_cmp_total keys id ∙ ap (λ o. cond (is_some o) (map.len keys - 1) (map.len keys)) there in omega arith

-- what holds of no keys, and of each map with one key more than one of which it holds, holds of every map
module _ (P : KeyMap → Type 0) (none : P map.empty) (more : (keys : KeyMap) (id : ℕ) (key : Key) → map.get keys id ≡ None → P keys → P (map.insert keys id key)) where
  with_first : (n : ℕ) (keys : KeyMap) → map.len keys ≡ suc n → ((fewer : KeyMap) → map.len fewer ≡ n → P fewer) → (es : List (ℕ × Key)) → map.entries keys ≡ es → P keys
  with_first n keys e rest [] is = let none : suc n ≡ 0 = sym e ∙ map.len-entries keys ∙ ap length is in absurd (omega arith)
  with_first n keys e rest (x ∷ es) is =
      let tied = ap is_eq (tied_itself nat_cmp_total x.0) in
      let there = map.get-entries keys x.0 ∙ ap (map.find nat_cmp x.0) is ∙ ap (λ b. cond b (Some x.1) (map.find nat_cmp x.0 es)) tied in
      subst P (restored keys x.0 x.1 there) (more (map.remove keys x.0) x.0 x.1 (gone keys x.0 x.1 there) (rest (map.remove keys x.0) (one_fewer keys x.0 x.1 there n e)))

  of_length : (n : ℕ) (keys : KeyMap) → map.len keys ≡ n → P keys
  of_length zero keys e = subst P (sym (map.empty_of_len keys e)) none
  of_length (suc n) keys e = with_first n keys e (of_length n) (map.entries keys) refl

  by_insertion : (keys : KeyMap) → P keys
  by_insertion keys = of_length (map.len keys) keys refl

-- MAPS THAT HAVE KEYS AT THE SAME IDENTIFIERS

module _ (p : ℕ → Bool) where
  abbrev HasSame : (m n : KeyMap) → Type 0
  HasSame m n = (id : ℕ) → p id ≡ true → is_some (map.get m id) ≡ is_some (map.get n id)

  none_kept : (b : Bool) (o : Option Key) → (b ≡ true → false ≡ is_some o) → None ≡ cond b o None
  none_kept true None h = refl
  none_kept true (Some key) h = let clash = h refl in cc
  none_kept false o h = refl

  of_none : (n : KeyMap) → HasSame map.empty n → count p map.empty ≡ count p n
  of_none n h = ap map.len (same_maps _ _ (λ id.
      kept p map.empty id ∙ ap (λ o. cond (p id) o None) (map.get-empty nat_cmp id) ∙ sym (none_kept (p id) None (λ t. refl))
      ∙ none_kept (p id) (map.get n id) (λ t. ap is_some (sym (map.get-empty nat_cmp id)) ∙ h id t) ∙ sym (kept p n id)))

  module _ (m : KeyMap) (id : ℕ) (key : Key) (free : map.get m id ≡ None) (rest : (n : KeyMap) → HasSame m n → count p m ≡ count p n) (n : KeyMap) (h : HasSame (map.insert m id key) n) where
    added : (q : ℕ) → p q ≡ true → is_some (cond (q == id) (Some key) (map.get m q)) ≡ is_some (map.get n q)
    added q t = ap is_some (sym (put m id key q)) ∙ h q t

    beside : (o : Option Key) → (q : ℕ) (b : Bool) → (q == id) ≡ b → (b ≡ true → o ≡ None) → (b ≡ false → o ≡ map.get n q) → is_some (cond b (Some key) (map.get m q)) ≡ is_some (map.get n q) → is_some (map.get m q) ≡ is_some o
    beside o q true t none same e = ap is_some (ap (map.get m) (eqb-true q id t) ∙ free ∙ sym (none refl))
    beside o q false t none same e = e ∙ ap is_some (sym (same refl))

    one_more : (there : Option Key) → map.get n id ≡ there → (b : Bool) → p id ≡ b → count p (map.insert m id key) ≡ count p n
    one_more (Some other) e b t =
        len_kept-insert p m id key free
        ∙ ap (λ l. cond (p id) (l + 1) l) (rest (map.remove n id) (λ q u. beside (map.get (map.remove n id) q) q (q == id) refl
        (λ v. taken n id q ∙ ap (λ c. cond c None (map.get n q)) v) (λ v. taken n id q ∙ ap (λ c. cond c None (map.get n q)) v) (added q u)))
        ∙ sym (counted_with n id other e p)
    one_more None e true t = let clash = ap (λ c. is_some (cond c (Some key) (map.get m id))) (sym (eq-eqb id id refl)) ∙ added id t ∙ ap is_some e in cc
    one_more None e false t =
        len_kept-insert p m id key free ∙ ap (λ b. cond b (count p m + 1) (count p m)) t
        ∙ rest n (λ q u. beside (map.get n q) q (q == id) refl (λ v. ap (map.get n) (eqb-true q id v) ∙ e) (λ v. refl) (added q u))

  pub same_count : (m n : KeyMap) → HasSame m n → count p m ≡ count p n
  same_count = by_insertion (λ m. (n : KeyMap) → HasSame m n → count p m ≡ count p n) of_none (λ m id key free rest n h. one_more m id key free rest n h (map.get n id) refl (p id) refl)

-- TESTS THAT COVER ANOTHER

covered : (b c d : Bool) (l m n : ℕ) → (b ≡ true → (c || d) ≡ true) → l ≤ m + n → cond b (l + 1) l ≤ cond c (m + 1) m + cond d (n + 1) n
covered true true d l m n h k = grind arith
covered true false true l m n h k = omega arith
covered true false false l m n h k = let clash = h refl in cc
covered false c d l m n h k = grind arith

pub cover_counts : (p q r : ℕ → Bool) → ((id : ℕ) → p id ≡ true → (q id || r id) ≡ true) → (keys : KeyMap) → count p keys ≤ count q keys + count r keys
cover_counts p q r h = by_insertion (λ keys. count p keys ≤ count q keys + count r keys) (let e = len_kept-empty Key p in omega arith) (λ keys id key free rest.
    let a = len_kept-insert p keys id key free in
    let b = len_kept-insert q keys id key free in
    let c = len_kept-insert r keys id key free in
    let all = covered (p id) (q id) (r id) (count p keys) (count q keys) (count r keys) (h id) rest in
    omega arith)

pub count_never : (p : ℕ → Bool) → ((id : ℕ) → p id ≡ true → ⊥) → (keys : KeyMap) → count p keys ≡ 0
count_never p never keys = same_count p keys map.empty (λ id t. absurd (never id t)) ∙ len_kept-empty Key p
