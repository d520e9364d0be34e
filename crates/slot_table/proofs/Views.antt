-- Two rows as the slots of a table.
use Rattle.slot_table.proofs.Common.{AreRows, Head, List, Slot, [], ap, arith, empty_head, empty_slot, get_or, head_at, length, length-replicate, no_key, refl, replicate, set, set-get_or, slot_at, slot_of, slots_of, stored_at, suc, sym, zero, ℕ, ◌<◌, ◌∙◌, ◌∷◌, ◌≡◌}
use Rattle.slot_table.specs.declared.place.Stored.{Stored}

length-slots_of : (heads : List Head) (keys : List Stored) → length heads ≡ length keys → length (slots_of heads keys) ≡ length heads
length-slots_of [] [] same = refl
length-slots_of (head ∷ heads) (key ∷ keys) same = ap suc (length-slots_of heads keys (omega arith))
length-slots_of heads keys same = absurd (omega arith)

slot_at-slots_of : (heads : List Head) (keys : List Stored) (i : ℕ) → length heads ≡ length keys → slot_at (slots_of heads keys) i ≡ slot_of (head_at heads i) (stored_at keys i)
slot_at-slots_of [] [] i same = refl
slot_at-slots_of (head ∷ heads) (key ∷ keys) zero same = refl
slot_at-slots_of (head ∷ heads) (key ∷ keys) (suc i) same = slot_at-slots_of heads keys i (omega arith)
slot_at-slots_of heads keys i same = absurd (omega arith)

slots_of-set : (heads : List Head) (keys : List Stored) (i : ℕ) (head : Head) (key : Stored) → slots_of (set heads i head) (set keys i key) ≡ set (slots_of heads keys) i (slot_of head key)
slots_of-set [] [] i head key = refl
slots_of-set [] (k ∷ keys) i head key = elim (set (k ∷ keys) i key) as (λ ks. slots_of [] ks ≡ []) [ [] ↦ refl | x ∷ xs ↦ refl ]
slots_of-set (h ∷ heads) [] i head key = elim (set (h ∷ heads) i head) as (λ hs. slots_of hs [] ≡ []) [ [] ↦ refl | x ∷ xs ↦ refl ]
slots_of-set (h ∷ heads) (k ∷ keys) zero head key = refl
slots_of-set (h ∷ heads) (k ∷ keys) (suc i) head key = ap (λ ss. slot_of h k ∷ ss) (slots_of-set heads keys i head key)

pub slots_of-replicate : (n : ℕ) → slots_of (replicate n empty_head) (replicate n no_key) ≡ replicate n empty_slot
slots_of-replicate zero = refl
slots_of-replicate (suc n) = ap (λ ss. empty_slot ∷ ss) (slots_of-replicate n)

-- what stands at a place of two rows that are a table's slots
pub slot_is : (heads : List Head) (keys : List Stored) (slots : List Slot) → {first : ℕ} → AreRows heads keys first → slots_of heads keys ≡ slots → (i : ℕ) → slot_at slots i ≡ slot_of (head_at heads i) (stored_at keys i)
slot_is heads keys slots rows view i =
    sym (ap (λ ss. slot_at ss i) view) ∙ slot_at-slots_of heads keys i (omega (arith, rows.heads_sized, rows.keys_sized))

pub length_is : (heads : List Head) (keys : List Stored) (slots : List Slot) → {first : ℕ} → AreRows heads keys first → slots_of heads keys ≡ slots → length slots ≡ 384
length_is heads keys slots rows view =
    sym (ap length view) ∙ length-slots_of heads keys (omega (arith, rows.heads_sized, rows.keys_sized)) ∙ rows.heads_sized

pub record StandsAt (heads : List Head) (keys : List Stored) (slots : List Slot) (i : ℕ) : Type 0 where
  pub head : i < length heads
  pub key : i < length keys
  pub slot : slot_at slots i ≡ slot_of (head_at heads i) (stored_at keys i)

pub stands_at : (heads : List Head) (keys : List Stored) (slots : List Slot) (i : ℕ) → {first : ℕ} → AreRows heads keys first → slots_of heads keys ≡ slots → i < length slots → StandsAt heads keys slots i
stands_at heads keys slots i rows view within =
    let long : length slots ≡ 384 = length_is heads keys slots rows view in
    record {
      head = omega (arith, rows.heads_sized);
      key = omega (arith, rows.keys_sized);
      slot = slot_is heads keys slots rows view i;
    }

-- a write of a head
pub changed_head : (heads : List Head) (keys : List Stored) (slots : List Slot) (i : ℕ) (head : Head) (s : Slot) → slots_of heads keys ≡ slots → s ≡ slot_of head (stored_at keys i) → slots_of (set heads i head) keys ≡ set slots i s
changed_head heads keys slots i head s view is =
    ap (slots_of (set heads i head)) (sym (set-get_or keys i no_key)) ∙ slots_of-set heads keys i head (stored_at keys i) ∙ ap (λ ss. set ss i (slot_of head (stored_at keys i))) view ∙ ap (set slots i) (sym is)

-- a write of a key
pub changed_key : (heads : List Head) (keys : List Stored) (slots : List Slot) (i : ℕ) (key : Stored) (s : Slot) → slots_of heads keys ≡ slots → s ≡ slot_of (head_at heads i) key → slots_of heads (set keys i key) ≡ set slots i s
changed_key heads keys slots i key s view is =
    ap (λ hs. slots_of hs (set keys i key)) (sym (set-get_or heads i empty_head)) ∙ slots_of-set heads keys i (head_at heads i) key ∙ ap (λ ss. set ss i (slot_of (head_at heads i) key)) view ∙ ap (set slots i) (sym is)

-- a write of both
pub changed_both : (heads : List Head) (keys : List Stored) (slots : List Slot) (i : ℕ) (head : Head) (key : Stored) (s : Slot) → slots_of heads keys ≡ slots → s ≡ slot_of head key → slots_of (set heads i head) (set keys i key) ≡ set slots i s
changed_both heads keys slots i head key s view is =
    slots_of-set heads keys i head key ∙ ap (λ ss. set ss i (slot_of head key)) view ∙ ap (set slots i) (sym is)

pub get_or-replicate_same : {A : Type 0} (n i : ℕ) (x : A) → get_or (replicate n x) i x ≡ x
get_or-replicate_same zero i x = refl
get_or-replicate_same (suc n) zero x = refl
get_or-replicate_same (suc n) (suc i) x = get_or-replicate_same n i x

pub AreRows-replicate : AreRows (replicate 384 empty_head) (replicate 384 no_key) 0
AreRows-replicate = record {
  heads_sized = length-replicate 384 empty_head;
  keys_sized = length-replicate 384 no_key;
  none_before = λ i lt. absurd (omega (arith, lt));
}
