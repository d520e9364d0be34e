-- How many slots are in use.
use Rattle.key_slots.proofs.Common.{[], Agrees, All, ap, AreHoldings, arith, as_stated, Attributes, Bool, CanReserve, cases_eq, cond, count_by, Empty, eq-eqb, false, false≢true, Filling, Full, has_secure_element, identified, inl, inr, is_empty_state, is_filling, is_full, is_idle, is_lifetime, is_some, is_volatile, is_volatile_of, IsChecked, IsHolding, IsLawful, IsLawfulSlot, IsSoundStore, Key, length, List, location, map_get, map_get-retain_keys, named, names, nat_lt, nat_tests, None, not, Ok, Option, Pairs, Pending, persistence, ranked, refl, retain_keys, same, Slot, slot_at, SlotHasKey, SlotState, Some, Store, suc, sym, Table, true, ℕ, ⊎_elim, ◌&&◌, ◌*◌, ◌+◌, ◌-◌, ◌/◌, ◌<◌, ◌==◌, ◌^◌, ◌||◌, ◌∙◌, ◌∷◌, ◌≡◌, ◌≢◌, ◌≤◌, ◌⊎◌}
use Rattle.std.proofs.{lemmas.Bool.and_from, lemmas.Bool.and_parts, lemmas.Bool.or_cases, lemmas.List.Elements.All-head, lemmas.List.Elements.All-tail, lemmas.List.Sums.sum_by-cons}
use Rattle.std.specs.declared.cmp.Ordering.TheVariants.{Equal}
use Rattle.psa_status.specs.{declared.Status.Status, declared.Status.TheVariants.NotSupported, Rows.unless}
use Rattle.key_slots.proofs.{Agreeing.readers_out, Agreeing.holds_its_key, Sums.total, Sums.total-add, Sums.total-least, Sums.total-most, Sums.total-none, Sums.total-one, Sums.total-at, Sums.total-swap, Sums.first_passing, Sums.into_map}

-- PAIRS

-- of one caller's pairs so many name a slot each with its number as pass a test
names_fit : (m : ℕ → ℕ) (test : ℕ × ℕ → Bool) (n : ℕ) → ((i : ℕ) (p : ℕ × ℕ) → same i (m i) p ≤ cond (test p) 1 0) → (own : Pairs) → total (λ i. names i (m i) own) n ≤ count_by test own
names_fit m test n each [] = let none = total-none (λ i. 0) n (λ i lt. refl) in omega arith
names_fit m test n each (p ∷ ps) =
    let sum = total-add (λ i. same i (m i) p) (λ i. names i (m i) ps) n in
    let here = total-one (λ i. same i (m i) p) p.0 (cond (test p) 1 0) n (λ i other. elsewhere i other) (each p.0 p) in
    let rest = names_fit m test n each ps in
    let count = sum_by-cons (λ (x : ℕ × ℕ). cond (test x) 1 0) p ps in
    omega arith where
      elsewhere : (i : ℕ) → i ≢ p.0 → same i (m i) p ≡ 0
      elsewhere i other = grind (arith, nat_tests)

-- and of all callers' pairs
named_fit : (m : ℕ → ℕ) (test : ℕ × ℕ → Bool) (n b : ℕ) → ((i : ℕ) (p : ℕ × ℕ) → same i (m i) p ≤ cond (test p) 1 0) → ((own : Pairs) → IsHolding own → count_by test own ≤ b) → (all : List Pairs) → All IsHolding all →
    total (λ i. named i (m i) all) n ≤ length all * b
named_fit m test n b each few [] law = let none = total-none (λ i. 0) n (λ i lt. refl) in omega arith
named_fit m test n b each few (own ∷ all) law =
    let sum = total-add (λ i. names i (m i) own) (λ i. named i (m i) all) n in
    let here = names_fit m test n each own in
    let short = few own (All-head IsHolding own all law) in
    let rest = named_fit m test n b each few all (All-tail IsHolding own all law) in
    let times : suc (length all) * b ≡ length all * b + b = grind arith in
    omega arith

-- at most 16 fillings are out
pub few_fillings : (all : List Pairs) (n : ℕ) → AreHoldings all → total (λ i. named i 0 all) n ≤ 16
few_fillings all n law =
    let fit = named_fit (λ i. 0) (λ p. p.1 == 0) n 1 (λ i p. grind (arith, nat_tests)) (λ own own_law. own_law.fillings) all law.each in
    let callers = law.callers in
    omega arith

-- and at most 80 leases
pub few_leases : (all : List Pairs) (c : ℕ → ℕ) (n : ℕ) → AreHoldings all → total (λ i. named i (c i + 1) all) n ≤ 80
few_leases all c n law =
    let fit = named_fit (λ i. c i + 1) (λ p. nat_lt 0 p.1) n 5 (λ i p. grind (arith, nat_tests)) (λ own own_law. own_law.leases) all law.each in
    let callers = law.callers in
    omega arith

-- of one slot's key too
pub few_of_one : (all : List Pairs) (i c : ℕ) → AreHoldings all → named i (c + 1) all ≤ 80
few_of_one all i c law =
    let most = few_leases all (λ j. c) (i + 1) law in
    let here = total-at (λ j. named j (c + 1) all) i (i + 1) (omega arith) in
    omega arith

-- VOLATILE KEYS

-- whether a slot has a volatile key of a caller
abbrev is_of_caller : ℕ → Slot → Bool
is_of_caller caller s = is_full s.state && (is_volatile s.attributes && is_volatile_of caller s.attributes.id.0)

-- at most 16 slots have a volatile key of one caller
few_of_caller : (t : Table) (store : Store) (all : List Pairs) → IsLawful t → Agrees t.slots store all → IsSoundStore store → (caller : ℕ) →
    total (λ i. cond (is_of_caller caller (slot_at t.slots i)) 1 0) 384 ≤ 16
few_of_caller t store all law a sound caller =
    let fit = into_map (retain_keys store.keys (is_volatile_of caller)) (λ i. (slot_at t.slots i).attributes.id.0) (λ i. is_of_caller caller (slot_at t.slots i)) 384 has one in
    let live = sound.live caller in
    omega arith where
      parts : (i : ℕ) → is_of_caller caller (slot_at t.slots i) ≡ true → (is_full (slot_at t.slots i).state ≡ true) × ((is_volatile (slot_at t.slots i).attributes ≡ true) × (is_volatile_of caller (slot_at t.slots i).attributes.id.0 ≡ true))
      parts i is = let s = slot_at t.slots i in let rest = and_parts (is_full s.state) _ is in (rest.0, and_parts (is_volatile s.attributes) (is_volatile_of caller s.attributes.id.0) rest.1)

      kept : (q : ℕ) → map_get (retain_keys store.keys (is_volatile_of caller)) q ≡ cond (is_volatile_of caller q) (map_get store.keys q) None
      kept q = map_get-retain_keys store.keys (is_volatile_of caller) q (λ x tied. ap (is_volatile_of caller) (sym (ranked q x Equal (sym tied))))

      has : (i : ℕ) → i < 384 → is_of_caller caller (slot_at t.slots i) ≡ true → is_some (map_get (retain_keys store.keys (is_volatile_of caller)) (slot_at t.slots i).attributes.id.0) ≡ true
      has i lt is =
          let p = parts i is in
          let id = (slot_at t.slots i).attributes.id.0 in
          let f = (a.each i lt).full p.0 in
          ap is_some (kept id ∙ ap (λ b. cond b (map_get store.keys id) None) p.1.1 ∙ f.1)

      one : (i j : ℕ) → i < 384 → j < 384 → is_of_caller caller (slot_at t.slots i) ≡ true → is_of_caller caller (slot_at t.slots j) ≡ true → (slot_at t.slots i).attributes.id.0 ≡ (slot_at t.slots j).attributes.id.0 → i ≡ j
      one i j at_i at_j is_i is_j same_id =
          let id = (slot_at t.slots j).attributes.id.0 in
          law.one id i j (holds_its_key id (slot_at t.slots i) (parts i is_i).0 same_id) (holds_its_key id (slot_at t.slots j) (parts j is_j).0 refl)

-- the callers, whose numbers are 1 to 16, that have a volatile key in a slot: one at most
callers_of : Slot → ℕ
callers_of s = total (λ c. cond (is_of_caller (c + 1) s) 1 0) 16

-- at most 256 slots have a volatile key
few_volatile : (t : Table) (store : Store) (all : List Pairs) → IsLawful t → Agrees t.slots store all → IsSoundStore store → total (λ i. callers_of (slot_at t.slots i)) 384 ≤ 256
unfolding callers_of
few_volatile t store all law a sound =
    let swap = total-swap (λ i c. cond (is_of_caller (c + 1) (slot_at t.slots i)) 1 0) 384 16 in
    let most = total-most (λ c. total (λ i. cond (is_of_caller (c + 1) (slot_at t.slots i)) 1 0) 384) 16 (λ c lt. few_of_caller t store all law a sound (c + 1)) in
    omega arith

-- each of them is counted
callers_of-at : (s : Slot) (c : ℕ) → c < 16 → cond (is_of_caller (c + 1) s) 1 0 ≤ callers_of s
unfolding callers_of
callers_of-at s c lt = total-at (λ k. cond (is_of_caller (k + 1) s) 1 0) c 16 lt

-- a slot with a volatile key has a caller's
has_caller : (store : Store) (s : Slot) → IsSoundStore store → is_full s.state ≡ true → is_volatile s.attributes ≡ true → (key : Key) × (map_get store.keys s.attributes.id.0 ≡ Some key) × SlotHasKey s key → 1 ≤ callers_of s
has_caller store s sound full volatile k =
    let own = (sound.keys s.attributes.id.0 k.0 k.1).volatile (ap is_volatile (sym k.2.attributes) ∙ volatile) in
    let c = k.0.creator in
    let first = own.from_first in
    let last = own.to_last in
    let least = own.made.1 in
    let made = sound.made c in
    let at = own.made.2 in
    let from : s.attributes.id.0 / 2 ^ 20 ≡ 1024 + c = omega arith in
    let back : c - 1 + 1 ≡ c = omega arith in
    let its : is_of_caller (c - 1 + 1) s ≡ true = and_from (is_full s.state) _ full (and_from (is_volatile s.attributes) _ volatile (eq-eqb (s.attributes.id.0 / 2 ^ 20) (1024 + (c - 1 + 1)) (omega arith))) in
    let one : ◌≡◌ {A = ℕ} (cond (is_of_caller (c - 1 + 1) s) 1 0) 1 = ap (λ b. cond b 1 0) its in
    let counted = callers_of-at s (c - 1) (omega arith) in
    omega arith

-- a sound key is volatile or persistent
lifetime_of : (a : Attributes) (bytes : ℕ) (store : Store) → IsChecked a bytes store → (is_volatile a ≡ true) ⊎ ((persistence a.lifetime.0 == 1) ≡ true)
lifetime_of a bytes store checked =
    let l = (as_stated a).lifetime.0 in
    let same : l ≡ a.lifetime.0 = as_stated_lifetime (is_volatile a) in
    let driven = location a.lifetime.0 == 0 || (location a.lifetime.0 == 1 && has_secure_element store) in
    let lifetime : is_lifetime a.lifetime.0 (has_secure_element store) ≡ true = ap (λ n. is_lifetime n (has_secure_element store)) (sym same) ∙ passed (is_lifetime l (has_secure_element store)) _ _ _ checked in
    ⊎_elim (λ h. inl (and_parts (is_volatile a) driven h).0) (λ h. inr (and_parts (persistence a.lifetime.0 == 1) (location a.lifetime.0 == 0) h).0)
    (or_cases (is_volatile a && driven) (persistence a.lifetime.0 == 1 && location a.lifetime.0 == 0) lifetime) where
      as_stated_lifetime : (b : Bool) → (cond b (identified a 0) a).lifetime.0 ≡ a.lifetime.0
      as_stated_lifetime true = refl
      as_stated_lifetime false = refl

      passed : (b : Bool) (rest : Option Status) (x y : Attributes) → unless (cond (not b) (Some NotSupported) rest) x ≡ Ok y → b ≡ true
      passed true rest x y h = refl
      passed false rest x y h = absurd (cc)

-- ALL SLOTS

-- whether a slot can be taken
abbrev is_free : Slot → Bool
is_free s = is_empty_state s.state || is_idle s

-- a slot that can't be taken waits for a key, is read, or has a volatile key
is_used : (s : Slot) (fillings readers callers : ℕ) → IsLawfulSlot s → is_free s ≡ false → fillings ≡ cond (is_filling s.state) 1 0 → readers ≡ s.readers →
    (is_full s.state ≡ true → (1 ≤ callers) ⊎ ((persistence s.attributes.lifetime.0 == 1) ≡ true)) → 1 ≤ fillings + readers + callers
is_used s fillings readers callers law used fills reads kept = by_state s.state refl where
  idle : s.state ≡ Full → (persistence s.attributes.lifetime.0 == 1) ≡ true → s.readers ≡ 0 → is_free s ≡ true
  idle is persistent unread =
      ap (λ x. is_empty_state x || (is_full x && (persistence s.attributes.lifetime.0 == 1) && (s.readers == 0))) is
      ∙ ap (λ b. b && (s.readers == 0)) persistent ∙ eq-eqb s.readers 0 unread

  by_state : (state : SlotState) → s.state ≡ state → 1 ≤ fillings + readers + callers
  by_state Empty is = absurd (false≢true (sym used ∙ ap (λ x. is_empty_state x || is_idle s) is))
  by_state Filling is = let one = fills ∙ ap (λ x. cond (is_filling x) 1 0) is in omega arith
  by_state Pending is = let read = law.pending is in omega arith
  by_state Full is = elim (kept (ap is_full is)) [
    | inl some ↦ omega arith
    | inr persistent ↦ elim (cases_eq s.readers 0) [
      | inl unread ↦ absurd (false≢true (sym used ∙ idle is persistent unread))
      | inr read ↦ omega arith
    ]
  ]

-- where no slot can be taken there are too many in use
too_many : (t : Table) (store : Store) (all : List Pairs) → IsLawful t → Agrees t.slots store all → AreHoldings all → IsSoundStore store → ((i : ℕ) → i < 384 → is_free (slot_at t.slots i) ≡ false) → ⊥
too_many t store all law a holdings sound none =
    let fillings = few_fillings all 384 holdings in
    let leases = few_leases all (λ i. (slot_at t.slots i).creation) 384 holdings in
    let volatile = few_volatile t store all law a sound in
    let two = total-add (λ i. named i 0 all + named i ((slot_at t.slots i).creation + 1) all) (λ i. callers_of (slot_at t.slots i)) 384 in
    let one = total-add (λ i. named i 0 all) (λ i. named i ((slot_at t.slots i).creation + 1) all) 384 in
    let used = total-least (λ i. named i 0 all + named i ((slot_at t.slots i).creation + 1) all + callers_of (slot_at t.slots i)) 384 each in
    omega arith where
      each : (i : ℕ) → i < 384 → 1 ≤ named i 0 all + named i ((slot_at t.slots i).creation + 1) all + callers_of (slot_at t.slots i)
      each i lt =
          let s = slot_at t.slots i in
          let at = a.each i lt in
          is_used s (named i 0 all) (named i (s.creation + 1) all) (callers_of s) (law.each i) (none i lt) (at.held 0) (readers_out t.slots store all i lt a)
          (λ full. let k = at.full full in
          elim (lifetime_of k.0.attributes (length k.0.bytes) store (sound.keys s.attributes.id.0 k.0 k.1).attributes) [
            | inl volatile ↦ inl (has_caller store s sound full (ap is_volatile k.2.attributes ∙ volatile) k)
            | inr persistent ↦ inr (ap (λ (x : Attributes). persistence x.lifetime.0 == 1) k.2.attributes ∙ persistent)
          ])

pub always_found : (t : Table) (store : Store) (all : List Pairs) → IsLawful t → Agrees t.slots store all → AreHoldings all → IsSoundStore store → CanReserve t.slots
always_found t store all law a holdings sound = elim (first_passing (λ i. is_free (slot_at t.slots i)) 384) [
  | inl found ↦ (found.0, takes found.0 found.1 (is_empty_state (slot_at t.slots found.0).state) refl found.2)
  | inr none ↦ absurd (too_many t store all law a holdings sound none)
] where
  takes : (i : ℕ) → i < 384 → (b : Bool) → is_empty_state (slot_at t.slots i).state ≡ b → b || is_idle (slot_at t.slots i) ≡ true → ((i < length t.slots) × (is_empty_state (slot_at t.slots i).state ≡ true)) ⊎ (is_idle (slot_at t.slots i) ≡ true)
  takes i lt true empty is = let sized = law.sized in inl (omega arith, empty)
  takes i lt false empty is = inr is
