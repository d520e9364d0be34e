-- The map of keys that were found, by their places in the list.
use Rattle.store_core.proofs.Common.{[], ap, AreFoundKeys, arith, Bool, cond, eq-eqb, eqb-true, false, false≢true, find, found_from, has_secure_element, IsKeyOf, Key, len_kept-empty, len_kept-insert, length, List, map_get, map_get-empty, map_len, ne_eqb, None, OpenedKey, Option, put, refl, retain_keys, slice_get, Some, suc, sym, true, zero, ℕ, ◌+◌, ◌==◌, ◌∙◌, ◌∷◌, ◌≡◌}
use Rattle.std.specs.Ordering.{nat_cmp}
use Rattle.store_model.specs.Prelude.{Store}
use Rattle.store_core.proofs.Kept.{lasting, kept_checked}

-- the key that is numbered n
abbrev pub numbered : ℕ → OpenedKey → Key
numbered n k = record { number = n; attributes = k.attributes; bytes = k.bytes; creator = 0 }

abbrev pub id_of : OpenedKey → ℕ
id_of k = k.attributes.id.0

-- no identifier stands twice
pub record HasEachOnce (found : List OpenedKey) : Type 0 where
  pub one : (i j : ℕ) (key other : OpenedKey) → slice_get found i ≡ Some key → slice_get found j ≡ Some other → id_of key ≡ id_of other → i ≡ j

-- each key may be kept
pub record AreKept (found : List OpenedKey) : Type 0 where
  pub each : (i : ℕ) (key : OpenedKey) → slice_get found i ≡ Some key → IsKeyOf key.attributes key.bytes

once_after : (k : OpenedKey) (ks : List OpenedKey) → HasEachOnce (k ∷ ks) → HasEachOnce ks
once_after k ks once = record { one = λ i j key other e f same. let s = once.one (suc i) (suc j) key other e f same in omega arith }

kept_after : (k : OpenedKey) (ks : List OpenedKey) → AreKept (k ∷ ks) → AreKept ks
kept_after k ks kept = record { each = λ i key e. kept.each (suc i) key e }

-- a later key has another identifier
other_id : (k : OpenedKey) (ks : List OpenedKey) → HasEachOnce (k ∷ ks) → (i : ℕ) (key : OpenedKey) → slice_get ks i ≡ Some key → id_of key ≡ id_of k → ⊥
other_id k ks once i key e same = let s : suc i ≡ 0 = once.one (suc i) 0 key k e refl same in absurd (omega arith)

-- THE KEY AT AN IDENTIFIER

pub record IsAt (n : ℕ) (found : List OpenedKey) (q : ℕ) (key : Key) : Type 0 where
  pub place : ℕ
  pub from : OpenedKey
  pub there : slice_get found place ≡ Some from
  pub named : id_of from ≡ q
  pub is : key ≡ numbered (n + place) from

pub found_at : (n : ℕ) (found : List OpenedKey) (q : ℕ) (key : Key) → map_get (found_from n found) q ≡ Some key → IsAt n found q key
found_at n [] q key e = let none = sym (map_get-empty nat_cmp q) ∙ e in absurd (cc)
found_at n (k ∷ ks) q key e = of (found_at (n + 1) ks q key) (q == id_of k) refl (sym (put (found_from (n + 1) ks) (id_of k) (numbered n k) q) ∙ e)
  where
    of : (map_get (found_from (n + 1) ks) q ≡ Some key → IsAt (n + 1) ks q key) → (b : Bool) → (q == id_of k) ≡ b → cond b (Some (numbered n k)) (map_get (found_from (n + 1) ks) q) ≡ Some key → IsAt n (k ∷ ks) q key
    of rest true t e =
        let is : numbered n k ≡ key = cc in
        record { place = 0; from = k; there = refl; named = sym (eqb-true q (id_of k) t); is = sym is ∙ ap (λ (m : ℕ). numbered m k) (omega arith) }
    of rest false t e =
        let f = rest e in
        record { place = suc f.place; from = f.from; there = f.there; named = f.named; is = f.is ∙ ap (λ (m : ℕ). numbered m f.from) (omega arith) }

pub at_found : (n : ℕ) (found : List OpenedKey) → HasEachOnce found → (place : ℕ) (key : OpenedKey) → slice_get found place ≡ Some key → map_get (found_from n found) (id_of key) ≡ Some (numbered (n + place) key)
at_found n [] once place key e = absurd (cc)
at_found n (k ∷ ks) once zero key e =
    let is : k ≡ key = cc in
    put (found_from (n + 1) ks) (id_of k) (numbered n k) (id_of key)
    ∙ ap (λ b. cond b (Some (numbered n k)) (map_get (found_from (n + 1) ks) (id_of key))) (eq-eqb (id_of key) (id_of k) (ap id_of (sym is)))
    ∙ ap (λ (x : OpenedKey). Some (numbered n x)) is
    ∙ ap (λ (m : ℕ). Some (numbered m key)) (omega arith)
at_found n (k ∷ ks) once (suc place) key e =
    put (found_from (n + 1) ks) (id_of k) (numbered n k) (id_of key)
    ∙ ap (λ b. cond b (Some (numbered n k)) (map_get (found_from (n + 1) ks) (id_of key))) (ne_eqb (id_of key) (id_of k) (other_id k ks once place key e))
    ∙ at_found (n + 1) ks (once_after k ks once) place key e
    ∙ ap (λ (m : ℕ). Some (numbered m key)) (omega arith)

-- KEYS THAT AN OPENING MAY FIND

finds_none : (p : OpenedKey → Bool) (ks : List OpenedKey) → ((i : ℕ) (key : OpenedKey) → slice_get ks i ≡ Some key → p key ≡ false) → find p ks ≡ None
finds_none p [] each = refl
finds_none p (k ∷ ks) each = ap (λ b. cond b (Some k) (find p ks)) (each 0 k refl) ∙ finds_none p ks (λ i key e. each (suc i) key e)

pub are_found : (store : Store) (found : List OpenedKey) → AreKept found → HasEachOnce found → AreFoundKeys store found
are_found store [] kept once = tt
are_found store (k ∷ ks) kept once =
    let is : IsKeyOf k.attributes k.bytes = kept.each 0 k refl in (
      lasting k.attributes k.bytes is,
      kept_checked k.attributes k.bytes is (has_secure_element store),
      finds_none (λ other. id_of other == id_of k) ks (λ i key e. ne_eqb (id_of key) (id_of k) (other_id k ks once i key e)),
      are_found store ks (kept_after k ks kept) (once_after k ks once),
    )

-- HOW MANY THERE ARE

absent : (n : ℕ) (k : OpenedKey) (ks : List OpenedKey) → HasEachOnce (k ∷ ks) → map_get (found_from n ks) (id_of k) ≡ None
absent n k ks once = of (map_get (found_from n ks) (id_of k)) refl
  where
    of : (o : Option Key) → map_get (found_from n ks) (id_of k) ≡ o → o ≡ None
    of None e = refl
    of (Some key) e = let f = found_at n ks (id_of k) key e in absurd (other_id k ks once f.place f.from f.there f.named)

one_more : (b c : Bool) (m l : ℕ) → c ≡ b → m ≡ cond b l 0 → cond c (m + 1) m ≡ cond b (suc l) 0
one_more true true m l e f = omega arith
one_more true false m l e f = absurd (false≢true e)
one_more false true m l e f = absurd (false≢true (sym e))
one_more false false m l e f = f

none : (b : Bool) → ◌≡◌ {A = ℕ} 0 (cond b 0 0)
none true = refl
none false = refl

-- all of them, or none, where a test answers the same for each
pub counted : (p : ℕ → Bool) (b : Bool) (n : ℕ) (found : List OpenedKey) → HasEachOnce found → ((i : ℕ) (key : OpenedKey) → slice_get found i ≡ Some key → p (id_of key) ≡ b) →
    map_len (retain_keys (found_from n found) p) ≡ cond b (length found) 0
counted p b n [] once each = len_kept-empty Key p ∙ none b
counted p b n (k ∷ ks) once each =
    len_kept-insert p (found_from (n + 1) ks) (id_of k) (numbered n k) (absent (n + 1) k ks once)
    ∙ one_more b (p (id_of k)) (map_len (retain_keys (found_from (n + 1) ks) p)) (length ks) (each 0 k refl) (counted p b (n + 1) ks (once_after k ks once) (λ i key e. each (suc i) key e))
