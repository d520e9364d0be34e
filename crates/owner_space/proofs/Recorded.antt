-- What a creation records: it keeps identifier and lifetime as they were stated, and is the same of two alike stores.
use Rattle.std.proofs.Common.{Bool, Err, List, Ok, Option, Result, [], ap, arith, cond, false, inl, inr, is_some, nat_le, not, refl, subst, sym, true, ℕ, ◌/◌, ◌&&◌, ◌==◌, ◌^◌, ◌||◌, ◌∙◌, ◌∷◌, ◌≡◌}
use Rattle.owner_space.proofs.Common.{Attributes, IsStated, Key, Owners, Rows, Service, Settings, Status, Store, count_in_range, first_row, has_secure_element, is_in_range, is_volatile, is_volatile_of, lacks_room, new_id, range_limit, recorded_of, stated_id, unless, unless-ok, ◌>>=◌}
use Rattle.std.specs.FinMap as map
use Rattle.key_attributes.specs.{Checks.attribute_rows, Checks.checked, Checks.filled, Checks.persistence, declared.KeyId.KeyId, declared.Lifetime.Lifetime}
use Rattle.policy_rules.specs.{Narrow.after_rules, Narrow.after_verdict, Narrow.names_ecb, Narrow.only_usage, declared.narrowing.Label.Label, declared.narrowing.Label.TheVariants.Aes256, declared.narrowing.Label.TheVariants.NoCopy, declared.narrowing.Label.TheVariants.NoEcb, declared.narrowing.Label.TheVariants.NoExport, declared.narrowing.Verdict.TheVariants.Keep, declared.narrowing.Verdict.TheVariants.Refuse}
use Rattle.psa_status.specs.declared.Status.TheVariants.{AlreadyExists, InsufficientStorage, KeyLimit}
use Rattle.std.specs.List.{list_any}
use Rattle.store_model.proofs.{Filled.filled-checked, Recorded.recorded, Recorded.then_ok}
use Rattle.store_model.specs.{Creation.room_for_key_rows, Store.live_volatile}
use Rattle.owner_space.proofs.{Alike.AreTwins, Alike.IsOwnersCaller, Alike.blind, Counts.same_count, Owned.CanName, Owned.IsLow, Owned.IsOwned, Owned.in_range, Owned.new_owned, Owned.owned_low, Owned.volatile_of, Ranges.room_by_range}

-- IDENTIFIER AND LIFETIME

abbrev pub IsInPlace : (stated kept : Attributes) → Type 0
IsInPlace stated kept = (kept.id ≡ stated.id) × (kept.lifetime ≡ stated.lifetime)

not_refused : (b : Bool) (a kept : Attributes) (next : Attributes → Result Attributes Status) → after_verdict (cond b Refuse (Keep a)) next ≡ Ok kept → next a ≡ Ok kept
not_refused true a kept next e = cc
not_refused false a kept next e = e

rules_in_place : (labels : List Label) (a kept : Attributes) → after_rules labels a ≡ Ok kept → IsInPlace a kept
rules_in_place [] a kept e = let same : kept ≡ a = cc in (ap (λ (x : Attributes). x.id) same, ap (λ (x : Attributes). x.lifetime) same)
rules_in_place (NoExport ∷ labels) a kept e = rules_in_place labels (only_usage a 0xfffffffe) kept e
rules_in_place (NoCopy ∷ labels) a kept e = rules_in_place labels (only_usage a 0xfffffffd) kept e
rules_in_place (NoEcb ∷ labels) a kept e = rules_in_place labels a kept (not_refused (names_ecb a.policy) a kept (after_rules labels) e)
rules_in_place (Aes256 ∷ labels) a kept e = rules_in_place labels a kept (not_refused (a.key_type.0 == 0x2400 && not (a.bits == 256)) a kept (after_rules labels) e)

-- what is kept before the room is looked at has the stated identifier, which may be stated
record IsKept (stated kept : Attributes) : Type 0 where
  id : kept.id ≡ stated.id
  may : IsStated (is_volatile kept) kept.id.0

narrowed_kept : (a x kept : Attributes) (n : ℕ) (driver : Bool) (labels : List Label) → checked a n driver ≡ Ok x → after_rules labels x ≡ Ok kept → IsKept a kept
narrowed_kept a x kept n driver labels e f =
    let passed = unless-ok (first_row (attribute_rows a n driver)) (filled a n) x e in
    let in_place : IsInPlace (filled a n) kept = subst (λ y. IsInPlace y kept) (sym passed.1) (rules_in_place labels x kept f) in
    let stated : IsStated (is_volatile a) a.id.0 = stated_id (filled a n) n driver (filled-checked a n driver passed.0) in
    record {
      id = in_place.0;
      may = subst (λ (l : Lifetime). IsStated (persistence l.0 == 0) kept.id.0) (sym in_place.1) (subst (λ (id : KeyId). IsStated (is_volatile a) id.0) (sym in_place.0) stated);
    }

-- a caller's new key is its owner's, where its owner could name the stated identifier
pub recorded_owned : (owners : Owners) (store : Store) (caller : ℕ) → IsOwnersCaller owners caller → (a : Attributes) (n : ℕ) → CanName owners (owners caller) a.id.0 → (kept : Attributes) → recorded_of store caller a n ≡ Ok kept →
    IsOwned owners (owners caller) (new_id store caller kept)
recorded_owned owners store caller is a n named kept e =
    let one = then_ok (checked a n (has_secure_element store)) _ kept e in
    let two = then_ok (after_rules store.settings.labels one.0) _ kept one.1.1 in
    let last = unless-ok (first_row (room_for_key_rows store caller two.0)) two.0 kept two.1.1 in
    let id = ap (λ (x : Attributes). x.id) (sym last.1) ∙ (narrowed_kept a one.0 two.0 n (has_secure_element store) store.settings.labels one.1.0 two.1.0).id in
    new_owned owners store caller is.first is.last kept n (subst (λ (i : KeyId). CanName owners (owners caller) i.0) (sym id) named) (recorded store caller a n kept e).may

-- ONE ANSWER AFTER ANOTHER

pub then_after : {A B : Type 0} (r : Result A Status) (f g : A → Result B Status) → ((x : A) → r ≡ Ok x → f x ≡ g x) → (r >>= f) ≡ (r >>= g)
then_after (Ok x) f g h = h x refl
then_after (Err status) f g h = refl

pub then_same : {A B : Type 0} {r s : Result A Status} {f g : A → Result B Status} → r ≡ s → ((x : A) → r ≡ Ok x → f x ≡ g x) → (r >>= f) ≡ (s >>= g)
then_same {r = r} {f = f} {g = g} e h = then_after r f g h ∙ ap (λ t. t >>= g) e

-- THE ROOM FOR A KEY

abbrev rows_by : (volatile few there lacks : Bool) → Rows
rows_by volatile few there lacks = (volatile && few, KeyLimit) ∷ (not volatile && there, AlreadyExists) ∷ (not volatile && lacks, InsufficientStorage) ∷ []

same_rows : (volatile : Bool) {few few2 there there2 lacks lacks2 : Bool} → few ≡ few2 → (volatile ≡ false → (there ≡ there2) × (lacks ≡ lacks2)) → rows_by volatile few there lacks ≡ rows_by volatile few2 there2 lacks2
same_rows true {there = there} {lacks = lacks} e h = λ i. rows_by true (e i) there lacks
same_rows false {few = few} e h = let both = h refl in λ i. rows_by false few (both.0 i) (both.1 i)

module _ (owners : Owners) (caller : ℕ) (is : IsOwnersCaller owners caller) (whole alone : Service) (twins : AreTwins owners (owners caller) whole alone) where
  abbrev owner : ℕ
  owner = owners caller

  there_same : (id : ℕ) → IsOwned owners owner id → is_some (map.get whole.store.keys id) ≡ is_some (map.get alone.store.keys id)
  there_same id own = blind (λ (o : Option Key). is_some o) (λ key n. refl) (twins.alike.stores.keys id own)

  live_same : live_volatile whole.store.keys caller ≡ live_volatile alone.store.keys caller
  live_same = same_count (is_volatile_of caller) whole.store.keys alone.store.keys (λ id t. there_same id (inr (volatile_of owners caller id is.first is.last t)))

  count_same : count_in_range whole.store.keys owner ≡ count_in_range alone.store.keys owner
  count_same = same_count (is_in_range owner) whole.store.keys alone.store.keys (λ id t. there_same id (inl (in_range owner id t)))

  lacks_same : (id : ℕ) → IsLow id → CanName owners owner id → lacks_room whole.store id ≡ lacks_room alone.store id
  lacks_same id low named =
      let settings = twins.alike.stores.settings in
      let counts = by_range (owned_low owners owner id named low) low in
      room_by_range whole.store twins.sound.store twins.per_range id low.1 ∙ ap (nat_le range_limit) counts
      ∙ sym (room_by_range alone.store twins.sound_alone.store (ap (λ (s : Settings). s.limits) (sym settings) ∙ twins.per_range) id low.1)
    where
      by_range : IsOwned owners owner id → IsLow id → count_in_range whole.store.keys (id / 2 ^ 26) ≡ count_in_range alone.store.keys (id / 2 ^ 26)
      by_range (inl r) low = ap (count_in_range whole.store.keys) r.1 ∙ count_same ∙ ap (count_in_range alone.store.keys) (sym r.1)
      by_range (inr v) low = let from = v.0 in let to = low.1 in absurd (omega arith)

  room_same : (kept : Attributes) → CanName owners owner kept.id.0 → IsStated (is_volatile kept) kept.id.0 → room_for_key_rows whole.store caller kept ≡ room_for_key_rows alone.store caller kept
  room_same kept named may =
      let live = live_same in
      let made = twins.alike.stores.made caller refl in
      same_rows (is_volatile kept) (λ i. nat_le 16 (live i) || nat_le (2 ^ 20) (made i)) (λ v.
      let stated = subst (λ b. IsStated b kept.id.0) v may in
      (there_same kept.id.0 (owned_low owners owner kept.id.0 named (stated.0, stated.1)), lacks_same kept.id.0 (stated.0, stated.1) named))

  -- what is recorded, or the refusal
  pub recorded_same : (a : Attributes) (n : ℕ) → CanName owners owner a.id.0 → recorded_of whole.store caller a n ≡ recorded_of alone.store caller a n
  recorded_same a n named =
      let settings = twins.alike.stores.settings in
      then_same (λ i. checked a n (list_any (λ location. location == 1) (settings i).locations)) (λ x e.
      then_same (λ i. after_rules (settings i).labels x) (λ kept f.
      let as_stated = narrowed_kept a x kept n (has_secure_element whole.store) whole.store.settings.labels e f in
      ap (λ rows. unless (first_row rows) kept) (room_same kept (subst (λ (id : KeyId). CanName owners owner id.0) (sym as_stated.id) named) as_stated.may)))
