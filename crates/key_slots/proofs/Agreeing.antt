-- What each change of a slot makes of slots that stand for the keys.
use Rattle.key_slots.proofs.Common.{[], Agrees, ap, arith, at_each, Attributes, Bool, cases_eq, cases_lt, cond, destroyed_slot, Empty, empty_slot, EndsOnly, eq-eqb, false, false≢true, Filling, filling_slot, find_passes, Full, full_slot, full_within, Gains, HasNumber, HasSameKeys, holds_key, idle_is_full, idle_is_unread, inl, inr, is_empty_state, is_filling, is_full, is_idle, is_last, is_pending, is_volatile, IsGone, IsIdleOf, IsLawful, IsLawfulSlot, IsNext, IsSoundStore, IsThereOrNew, IsVolatileKey, Key, key_is_full, left, length, List, map_get, named, nat_tests, next_is_unread, next_within, NoKey, None, OnFalse, OnTrue, Option, Pairs, pairs_on, Pending, persistence, Puts, refl, registered, replicate, same, set, Slot, slot_at, slot_at-set_other, slot_at-set_same, SlotHasKey, SlotState, Some, StandsAt, Store, sym, Table, true, ℕ, ◌&&◌, ◌+◌, ◌-◌, ◌<◌, ◌==◌, ◌∙◌, ◌≡◌, ◌≢◌}
use Rattle.std.proofs.{lemmas.Bool.and_parts, lemmas.Bool.eqb-true, lemmas.List.get_or-replicate, lemmas.Option.none-some, lemmas.Option.same_Some}
use Rattle.key_slots.proofs.{Wiping.ends_none, Wiping.ends_one, Pairs.counted, Pairs.elsewhere, Pairs.was_out, Pairs.nobody, Pairs.nothing_out, Pairs.one_more, Pairs.one_less, Pairs.one_filling, Pairs.no_filling, Pairs.is_lease, Pairs.is_fill}

-- A SLOT THAT IS SET

-- a slot whose pairs stay
stays : (store : Store) (all more : List Pairs) (j : ℕ) (s : Slot) → ((n : ℕ) → named j n more ≡ named j n all) → StandsAt store all j s → StandsAt store more j s
stays store all more j s alike at = record { held = λ n. alike n ∙ at.held n; full = at.full; pending = at.pending }

-- a slot without a key, of which no more is out than that it waits for one
wiped : (store : Store) (all : List Pairs) (i : ℕ) (s : Slot) → is_full s.state ≡ false → is_pending s.state ≡ false → ((n : ℕ) → named i n all ≡ pairs_on s n) → StandsAt store all i s
wiped store all i s used pending held = record {
  held = held;
  full = λ is. absurd (false≢true (sym used ∙ is));
  pending = λ is. absurd (false≢true (sym pending ∙ is));
}

-- one slot changes, and the keys stay: it has the volatile keys that it had
changed : (slots : List Slot) (store : Store) (all more : List Pairs) (i : ℕ) (s : Slot) → length slots ≡ 384 → i < 384 → Agrees slots store all →
    ((j n : ℕ) → j ≢ i → named j n more ≡ named j n all) → StandsAt store more i s →
    ((id : ℕ) (key : Key) → map_get store.keys id ≡ Some key → is_volatile key.attributes ≡ true → holds_key id (slot_at slots i) ≡ true → holds_key id s ≡ true) →
    Agrees (set slots i s) store more
changed slots store all more i s sized inside a others here keeps =
    let within : i < length slots = omega arith in
    record {
      each = at_each (λ k x. k < 384 → StandsAt store more k x) slots i s within (λ lt. here) (λ k other lt. stays store all more k (slot_at slots k) (λ n. others k n other) (a.each k lt));
      beyond = λ k n past. let other : k ≢ i = omega arith in others k n other ∙ a.beyond k n past;
      found = λ id key is volatile. let f = a.found id key is volatile in
          (f.0, f.1, at_each (λ k x. holds_key id (slot_at slots k) ≡ true → holds_key id x ≡ true) slots i s within (keeps id key is volatile) (λ k other has. has) f.0 f.2);
    }

-- WHAT IS OUT

-- a pair that is out names one of the slots
pub out_within : (slots : List Slot) (store : Store) (all : List Pairs) (i n : ℕ) → Agrees slots store all → 0 < named i n all → i < 384
out_within slots store all i n a out = elim (cases_lt i 384) [
  | inl lt ↦ lt
  | inr past ↦ let none = a.beyond i n past in absurd (omega arith)
]

only_filling : (state : SlotState) → is_filling state ≡ true → state ≡ Filling
only_filling Filling is = refl
only_filling state is = absurd (false≢true is)

-- the slot of a filling that is out waits for its key
pub is_waiting : (slots : List Slot) (store : Store) (all : List Pairs) (i : ℕ) → Agrees slots store all → 0 < named i 0 all → (i < 384) × ((slot_at slots i).state ≡ Filling)
is_waiting slots store all i a out =
    let inside = out_within slots store all i 0 a out in
    let s = slot_at slots i in
    let h : named i 0 all ≡ counted (is_filling s.state) s.creation s.readers 0 = (a.each i inside).held 0 in
    (inside, only_filling s.state (is_fill (is_filling s.state) s.creation s.readers (omega arith)))

-- THE CHANGES

-- a slot that waits for its key holds none
waits_for : (s : Slot) (id : ℕ) → s.state ≡ Filling → holds_key id s ≡ false
waits_for s id is = ap (λ x. is_full x && (s.attributes.id.0 == id)) is

-- nothing is out of a slot once its filling is given back
nothing_left : (t : Table) (store : Store) (all less : List Pairs) (i : ℕ) → IsLawful t → i < 384 → (slot_at t.slots i).state ≡ Filling → Gains less all (i, 0) → Agrees t.slots store all → (n : ℕ) → named i n less ≡ 0
nothing_left t store all less i law inside is gains a n =
    no_filling i n (named i n less) (sym (ap (λ (s : Slot). pairs_on s n) ((law.each i).filling is)) ∙ sym ((a.each i inside).held n) ∙ gains i n)

-- a creation ends with no key
pub gives_up : (t : Table) (store : Store) (all less : List Pairs) (i : ℕ) → IsLawful t → Gains less all (i, 0) → Agrees t.slots store all → Agrees (set t.slots i empty_slot) store less
gives_up t store all less i law gains a =
    let w = is_waiting t.slots store all i a (was_out all less i 0 gains) in
    changed t.slots store all less i empty_slot law.sized w.0 a (λ j n other. sym (elsewhere less all i 0 gains j n other))
    (wiped store less i empty_slot refl refl (λ n. nothing_left t store all less i law w.0 w.1 gains a n ∙ sym (nobody 0 n)))
    (λ id key is volatile has. absurd (false≢true (sym (waits_for (slot_at t.slots i) id w.1) ∙ has)))

-- a slot that nobody reads and that waits for no key is named by none
unused : (s : Slot) (n : ℕ) → s.readers ≡ 0 → is_filling s.state ≡ false → pairs_on s n ≡ 0
unused s n unread still = ap (λ b. counted b s.creation s.readers n) still ∙ ap (λ r. counted false s.creation r n) unread ∙ nobody s.creation n

-- the key of a slot that holds this identifier
same_id : (id : ℕ) (s : Slot) → holds_key id s ≡ true → s.attributes.id.0 ≡ id
same_id id s has = eqb-true s.attributes.id.0 id (and_parts (is_full s.state) (s.attributes.id.0 == id) has).1

pub key_of_slot : (slots : List Slot) (store : Store) (all : List Pairs) (id i : ℕ) → Agrees slots store all → i < 384 → holds_key id (slot_at slots i) ≡ true → (key : Key) × (map_get store.keys id ≡ Some key) × SlotHasKey (slot_at slots i) key
key_of_slot slots store all id i a inside has =
    let s = slot_at slots i in
    let f = (a.each i inside).full (ap is_full (key_is_full id s has)) in
    (f.0, ap (map_get store.keys) (sym (same_id id s has)) ∙ f.1, f.2)

-- the table has 384 slots
inside_of : (t : Table) (i : ℕ) → IsLawful t → i < length t.slots → i < 384
inside_of t i law short = let sized = law.sized in omega arith

-- an idle slot has a persistent key
idle_persists : (s : Slot) → is_idle s ≡ true → is_volatile s.attributes ≡ false
idle_persists s is =
    let kept = (and_parts (is_full s.state) _ (and_parts (is_full s.state && persistence s.attributes.lifetime.0 == 1) (s.readers == 0) is).0).1 in
    ap (λ n. n == 0) (eqb-true (persistence s.attributes.lifetime.0) 1 kept)

-- and so it has no volatile one
not_volatile : (slots : List Slot) (store : Store) (all : List Pairs) (id i : ℕ) (key : Key) → Agrees slots store all → i < 384 → is_idle (slot_at slots i) ≡ true → map_get store.keys id ≡ Some key → is_volatile key.attributes ≡ true → holds_key id (slot_at slots i) ≡ true → ⊥
not_volatile slots store all id i key a inside idle is volatile has =
    let k = key_of_slot slots store all id i a inside has in
    let same = same_Some key k.0 (sym is ∙ k.1) in
    false≢true (sym (idle_persists (slot_at slots i) idle) ∙ ap is_volatile (k.2.attributes) ∙ ap (λ (x : Key). is_volatile x.attributes) (sym same) ∙ volatile)

-- a persistent key that nobody reads leaves its slot
pub evicts : (t : Table) (store : Store) (all : List Pairs) (i : ℕ) → IsLawful t → is_idle (slot_at t.slots i) ≡ true → Agrees t.slots store all → Agrees (set t.slots i empty_slot) store all
evicts t store all i law idle a =
    let s = slot_at t.slots i in
    let full = idle_is_full s idle in
    let inside = inside_of t i law (full_within t.slots i full) in
    changed t.slots store all all i empty_slot law.sized inside a (λ j n other. refl)
    (wiped store all i empty_slot refl refl (λ n. (a.each i inside).held n ∙ unused s n (idle_is_unread s idle) (ap is_filling full) ∙ sym (nobody 0 n)))
    (λ id key is volatile has. absurd (not_volatile t.slots store all id i key a inside idle is volatile has))

only_empty : (state : SlotState) → is_empty_state state ≡ true → state ≡ Empty
only_empty Empty is = refl
only_empty state is = absurd (false≢true is)

-- the slot that a reservation takes waits for no key
next_is_still : (t : Table) (i : ℕ) → IsNext t i → is_filling (slot_at t.slots i).state ≡ false
next_is_still t i next = elim next [
  | inl free ↦ ap is_filling (only_empty (slot_at t.slots i).state free.1)
  | inr idle ↦ ap is_filling (idle_is_full (slot_at t.slots i) (find_passes (λ k. is_idle (slot_at t.slots k)) t.recency i idle.1))
]

-- and has no volatile one
next_not_volatile : (t : Table) (store : Store) (all : List Pairs) (id i : ℕ) (key : Key) → IsNext t i → Agrees t.slots store all → i < 384 → map_get store.keys id ≡ Some key → is_volatile key.attributes ≡ true → holds_key id (slot_at t.slots i) ≡ true → ⊥
next_not_volatile t store all id i key next a inside is volatile has = elim next [
  | inl free ↦ false≢true (ap is_full (sym (only_empty (slot_at t.slots i).state free.1)) ∙ ap is_full (key_is_full id (slot_at t.slots i) has))
  | inr idle ↦ not_volatile t.slots store all id i key a inside (find_passes (λ k. is_idle (slot_at t.slots k)) t.recency i idle.1) is volatile has
]

-- a slot waits for its key
pub reserves : (t : Table) (store : Store) (all more : List Pairs) (i : ℕ) → IsLawful t → IsNext t i → Gains all more (i, 0) → Agrees t.slots store all → Agrees (set t.slots i filling_slot) store more
reserves t store all more i law next gains a =
    let inside = inside_of t i law (next_within t i next) in
    changed t.slots store all more i filling_slot law.sized inside a (elsewhere all more i 0 gains)
    (wiped store more i filling_slot refl refl (λ n.
    let none : named i n all ≡ 0 = (a.each i inside).held n ∙ unused (slot_at t.slots i) n (next_is_unread t i law next) (next_is_still t i next) in
    let one = one_filling i n in
    let e = gains i n in
    omega arith))
    (λ id key is volatile has. absurd (next_not_volatile t store all id i key next a inside is volatile has))

-- a lease of a slot's key
pub registers : (t : Table) (store : Store) (all more : List Pairs) (i : ℕ) → IsLawful t → (slot_at t.slots i).state ≡ Full → Gains all more (i, (slot_at t.slots i).creation + 1) → Agrees t.slots store all → Agrees (set t.slots i (registered (slot_at t.slots i))) store more
registers t store all more i law full gains a =
    let s = slot_at t.slots i in
    let inside = inside_of t i law (full_within t.slots i full) in
    let at = a.each i inside in
    changed t.slots store all more i (registered s) law.sized inside a (elsewhere all more i (s.creation + 1) gains)
    (record {
      held = λ n. gains i n ∙ ap (λ m. m + same i n (i, s.creation + 1)) (at.held n) ∙ one_more (is_filling s.state) i s.creation s.readers n;
      full = λ is. let f = at.full is in (f.0, f.1, record { number = f.2.number; attributes = f.2.attributes; bytes = f.2.bytes });
      pending = at.pending;
    })
    (λ id key is volatile has. has)

-- a lease that is out is of its slot's key, and the slot has a reader
pub is_read : (slots : List Slot) (store : Store) (all : List Pairs) (i c : ℕ) → Agrees slots store all → 0 < named i (c + 1) all → (i < 384) × (c ≡ (slot_at slots i).creation) × (0 < (slot_at slots i).readers)
is_read slots store all i c a out =
    let inside = out_within slots store all i (c + 1) a out in
    let s = slot_at slots i in
    let h : named i (c + 1) all ≡ counted (is_filling s.state) s.creation s.readers (c + 1) = (a.each i inside).held (c + 1) in
    let is = is_lease (is_filling s.state) s.creation s.readers c (omega arith) in
    (inside, is.0, is.1)

-- the readers of a slot's key
pub readers_out : (slots : List Slot) (store : Store) (all : List Pairs) (i : ℕ) → i < 384 → Agrees slots store all → named i ((slot_at slots i).creation + 1) all ≡ (slot_at slots i).readers
readers_out slots store all i inside a = let s = slot_at slots i in (a.each i inside).held (s.creation + 1) ∙ read (is_filling s.state) s.creation s.readers where
  read : (f : Bool) (c r : ℕ) → counted f c r (c + 1) ≡ r
  read f c r = grind (arith, nat_tests)

-- a lease is given back; the last one wipes a pending slot
pub leaves : (t : Table) (store : Store) (all less : List Pairs) (i c : ℕ) → IsLawful t → Gains less all (i, c + 1) → Agrees t.slots store all → Agrees (set t.slots i (left (slot_at t.slots i))) store less
leaves t store all less i c law gains a =
    let s = slot_at t.slots i in
    let r = is_read t.slots store all i c a (was_out all less i (c + 1) gains) in
    let at = a.each i r.0 in
    let fewer : (n : ℕ) → named i n less ≡ counted (is_filling s.state) s.creation (s.readers - 1) n =
    λ n. one_less (is_filling s.state) i s.creation s.readers n (named i n less) (sym (at.held n) ∙ gains i n ∙ ap (λ k. named i n less + same i n (i, k + 1)) r.1) in
    changed t.slots store all less i (left s) law.sized r.0 a (λ j n other. sym (elsewhere less all i (c + 1) gains j n other))
    (stands s at fewer (is_last s) refl)
    (λ id key is volatile has. keeps s id has (is_last s) refl) where
      only_pending : (state : SlotState) → is_pending state ≡ true → state ≡ Pending
      only_pending Pending is = refl
      only_pending state is = absurd (false≢true is)

      last_is : (s : Slot) → is_last s ≡ true → (s.state ≡ Pending) × (s.readers ≡ 1)
      last_is s is = let two = and_parts (is_pending s.state) (s.readers == 1) is in (only_pending s.state two.0, eqb-true s.readers 1 two.1)

      stands : (s : Slot) → StandsAt store all i s → ((n : ℕ) → named i n less ≡ counted (is_filling s.state) s.creation (s.readers - 1) n) → (b : Bool) → is_last s ≡ b →
          StandsAt store less i (cond b empty_slot (record s { readers = s.readers - 1 }))
      stands s at fewer true is =
          let two = last_is s is in
          wiped store less i empty_slot refl refl (λ n. fewer n ∙ unused (record s { readers = s.readers - 1 }) n (let one = two.1 in omega arith) (ap is_filling two.0) ∙ sym (nobody 0 n))
      stands s at fewer false is = record {
        held = fewer;
        full = λ is. let f = at.full is in (f.0, f.1, record { number = f.2.number; attributes = f.2.attributes; bytes = f.2.bytes });
        pending = at.pending;
      }

      keeps : (s : Slot) (id : ℕ) → holds_key id s ≡ true → (b : Bool) → is_last s ≡ b → holds_key id (cond b empty_slot (record s { readers = s.readers - 1 })) ≡ true
      keeps s id has true is = absurd (let clash : Full ≡ Pending = sym (key_is_full id s has) ∙ (last_is s is).0 in cc)
      keeps s id has false is = has

-- whether the key that a lease reads is still there
pub lives : (t : Table) (store : Store) (all : List Pairs) (i c : ℕ) → IsLawful t → Agrees t.slots store all → 0 < named i (c + 1) all → (is_full (slot_at t.slots i).state ≡ true → HasNumber store c) × (HasNumber store c → is_full (slot_at t.slots i).state ≡ true)
lives t store all i c law a out =
    let s = slot_at t.slots i in
    let r = is_read t.slots store all i c a out in
    let at = a.each i r.0 in
    (λ is. let f = at.full is in (s.attributes.id.0, f.0, f.1, sym f.2.number ∙ sym r.1), λ has. full_one s (law.each i) at r.1 r.2 has s.state refl) where
      full_one : (s : Slot) → IsLawfulSlot s → StandsAt store all i s → c ≡ s.creation → 0 < s.readers → HasNumber store c → (state : SlotState) → s.state ≡ state → is_full state ≡ true
      full_one s own at same read has Full is = refl
      full_one s own at same read has Empty is = absurd (let none = ap (λ (y : Slot). y.readers) (own.empty is) in omega arith)
      full_one s own at same read has Filling is = absurd (let none = ap (λ (y : Slot). y.readers) (own.filling is) in omega arith)
      full_one s own at same read has Pending is = absurd ((at.pending (ap is_pending is)).absent has.0 has.1 has.2 (has.3 ∙ same))

-- what a purge makes of a table
pub record IsPurged (id : ℕ) (old new : Table) : Type 0 where
  pub stays : (store : Store) (all : List Pairs) → Agrees old.slots store all → Agrees new.slots store all
  pub wiped : (k : ℕ) → holds_key id (slot_at new.slots k) ≡ true → is_idle (slot_at new.slots k) ≡ false
  pub others : (k : ℕ) → holds_key id (slot_at old.slots k) ≡ false → slot_at new.slots k ≡ slot_at old.slots k
  pub wipes : EndsOnly old.slots new.slots (λ k s. IsIdleOf id s)
  pub emptied : (k : ℕ) → IsIdleOf id (slot_at old.slots k) → slot_at new.slots k ≡ empty_slot

-- b says whether the slot was idle
pub purges : (t new : Table) (b : Bool) (id i : ℕ) → IsLawful t → holds_key id (slot_at t.slots i) ≡ true → b ≡ is_idle (slot_at t.slots i) → OnTrue b (new.slots ≡ set t.slots i empty_slot) → OnFalse b (new ≡ t) → IsPurged id t new
purges t new true id i law has is emptied same =
    let within = full_within t.slots i (key_is_full id (slot_at t.slots i) has) in
    record {
      stays = λ store all a. rw emptied (evicts t store all i law (sym is) a);
      wiped = λ k. rw emptied (at_each (λ j x. holds_key id x ≡ true → is_idle x ≡ false) t.slots i empty_slot within (λ had. absurd (false≢true had)) (λ j other had. absurd (other (law.one id j i had has))) k);
      others = λ k without. ap (λ (ss : List Slot). slot_at ss k) emptied ∙ slot_at-set_other t.slots i k empty_slot (λ here. false≢true (sym without ∙ ap (λ j. holds_key id (slot_at t.slots j)) here ∙ has));
      wipes = rw emptied (ends_one t.slots i empty_slot (λ k s. IsIdleOf id s) (inr (has, sym is)) within);
      emptied = λ k idle. rw (emptied, law.one id k i idle.0 has) (slot_at-set_same t.slots i empty_slot within);
    }
purges t new false id i law has is emptied same = record {
  stays = λ store all a. rw same a;
  wiped = λ k. rw same (λ had. ap (λ j. is_idle (slot_at t.slots j)) (law.one id k i had has) ∙ sym is);
  others = λ k without. ap (λ (x : Table). slot_at x.slots k) same;
  wipes = rw same (ends_none t.slots (λ k s. IsIdleOf id s));
  emptied = λ k idle. absurd (false≢true (is ∙ ap (λ j. is_idle (slot_at t.slots j)) (sym (law.one id k i idle.0 has)) ∙ idle.1));
}

-- KEYS THAT CHANGE

pub holds_its_key : (id : ℕ) (s : Slot) → is_full s.state ≡ true → s.attributes.id.0 ≡ id → holds_key id s ≡ true
holds_its_key id s full same = ap (λ b. b && (s.attributes.id.0 == id)) full ∙ eq-eqb s.attributes.id.0 id same

-- a key that is gone stays so, where what is put isn't it
gone_on : (old new : Store) (id c : ℕ) (found : Option Key) → Puts old new id found → ((key : Key) → found ≡ Some key → key.number ≡ c → ⊥) → IsGone old c → IsGone new c
gone_on old new id c found puts not_it gone = record {
  given = let before = gone.given in let more = puts.given in omega arith;
  absent = λ q key is number. elim (cases_eq q id) [
    | inl same ↦ not_it key (sym puts.here ∙ ap (map_get new.keys) (sym same) ∙ is) number
    | inr other ↦ gone.absent q key (sym (puts.others q other) ∙ is) number
  ];
}

not_new : (old : Store) (id c : ℕ) (key : Key) → IsThereOrNew old id key → IsGone old c → key.number ≡ c → ⊥
not_new old id c key (inl there) gone number = gone.absent id key there number
not_new old id c key (inr new) gone number = let given = gone.given in omega arith

-- a slot that hasn't the key which changes
keeps_at : (old new : Store) (all more : List Pairs) (id k : ℕ) (found : Option Key) (s : Slot) → Puts old new id found → ((n : ℕ) → named k n more ≡ named k n all) → (holds_key id s ≡ true → ⊥) → (IsGone old s.creation → IsGone new s.creation) →
    StandsAt old all k s → StandsAt new more k s
keeps_at old new all more id k found s puts alike without gone at = record {
  held = λ n. alike n ∙ at.held n;
  full = λ is. let f = at.full is in (f.0, puts.others s.attributes.id.0 (λ same. without (holds_its_key id s is same)) ∙ f.1, f.2);
  pending = λ is. gone (at.pending is);
}

-- a creation ends with its key
pub fills : (t : Table) (old new : Store) (all less : List Pairs) (key : Key) (i number : ℕ) (attributes : Attributes) (bytes : List ℕ) → IsLawful t → NoKey attributes.id.0 t.slots → Gains less all (i, 0) → Puts old new attributes.id.0 (Some key) →
    SlotHasKey (full_slot number attributes bytes) key → IsThereOrNew old attributes.id.0 key → Agrees t.slots old all → Agrees (set t.slots i (full_slot number attributes bytes)) new less
fills t old new all less key i number attributes bytes law unknown gains puts has known a =
    let w = is_waiting t.slots old all i a (was_out all less i 0 gains) in
    let inside = w.0 in
    let sized = law.sized in
    let within : i < length t.slots = omega arith in
    let s = full_slot number attributes bytes in
    let id = attributes.id.0 in
    record {
      each = at_each (λ k x. k < 384 → StandsAt new less k x) t.slots i s within
          (λ lt. record {
            held = λ n. nothing_left t old all less i law inside w.1 gains a n ∙ sym (nobody number n);
            full = λ is. (key, puts.here, has);
            pending = λ is. absurd (false≢true is);
          })
          (λ k other lt. keeps_at old new all less id k (Some key) (slot_at t.slots k) puts (λ n. sym (elsewhere less all i 0 gains k n other)) (λ is. false≢true (sym (unknown k) ∙ is)) (λ gone. gone_on old new id (slot_at t.slots k).creation (Some key) puts (λ x same number. not_new old id (slot_at t.slots k).creation key known gone (ap (λ (y : Key). y.number) (same_Some key x same) ∙ number)) gone) (a.each k lt));
      beyond = λ k n past. let other : k ≢ i = omega arith in sym (elsewhere less all i 0 gains k n other) ∙ a.beyond k n past;
      found = λ q x is volatile. elim (cases_eq q id) [
        | inl same ↦ (i, inside, ap (holds_key q) (slot_at-set_same t.slots i s within) ∙ eq-eqb id q (sym same))
        | inr other ↦ let f = a.found q x (sym (puts.others q other) ∙ is) volatile in
            (f.0, f.1, at_each (λ k y. holds_key q (slot_at t.slots k) ≡ true → holds_key q y ≡ true) t.slots i s within (λ had. absurd (false≢true (sym (waits_for (slot_at t.slots i) q w.1) ∙ had))) (λ k apart had. had) f.0 f.2)
      ];
    }

-- a key is destroyed
pub destroys : (t : Table) (old new : Store) (all : List Pairs) (id i : ℕ) → IsLawful t → IsSoundStore old → holds_key id (slot_at t.slots i) ≡ true → Puts old new id None → Agrees t.slots old all → Agrees (set t.slots i (destroyed_slot (slot_at t.slots i))) new all
destroys t old new all id i law sound has puts a =
    let full = key_is_full id (slot_at t.slots i) has in
    let within = full_within t.slots i full in
    let s = slot_at t.slots i in
    record {
      each = at_each (λ k x. k < 384 → StandsAt new all k x) t.slots i (destroyed_slot s) within
          (λ lt. here s (a.each i lt) full (key_of_slot t.slots old all id i a lt has) (s.readers == 0) refl)
          (λ k other lt. keeps_at old new all all id k None (slot_at t.slots k) puts (λ n. refl) (λ had. other (law.one id k i had has)) (gone_on old new id (slot_at t.slots k).creation None puts (λ x same. absurd (none-some x same))) (a.each k lt));
      beyond = a.beyond;
      found = λ q x is volatile.
          let other = not_id q x is in
          let f = a.found q x (sym (puts.others q other) ∙ is) volatile in
          (f.0, f.1, at_each (λ k y. holds_key q (slot_at t.slots k) ≡ true → holds_key q y ≡ true) t.slots i (destroyed_slot s) within (λ had. absurd (other (sym (same_id q s had) ∙ same_id id s has))) (λ k apart had. had) f.0 f.2);
    } where
      not_id : (q : ℕ) (x : Key) → map_get new.keys q ≡ Some x → q ≢ id
      not_id q x is same = none-some x (sym puts.here ∙ ap (map_get new.keys) (sym same) ∙ is)

      here : (s : Slot) → StandsAt old all i s → s.state ≡ Full → (key : Key) × (map_get old.keys id ≡ Some key) × SlotHasKey s key → (b : Bool) → (s.readers == 0) ≡ b → StandsAt new all i (cond b empty_slot (record s { state = Pending }))
      here s at full k true unread = wiped new all i empty_slot refl refl (λ n. at.held n ∙ unused s n (eqb-true s.readers 0 unread) (ap is_filling full) ∙ sym (nobody 0 n))
      here s at full k false read = record {
        held = λ n. at.held n ∙ ap (λ x. counted (is_filling x) s.creation s.readers n) full;
        full = λ is. absurd (false≢true is);
        pending = λ is. record {
          given = let before = (sound.keys id k.0 k.1).given in let more = puts.given in let same = k.2.number in omega arith;
          absent = λ q x is number. let other = not_id q x is in other (sound.numbers q id x k.0 (sym (puts.others q other) ∙ is) k.1 (number ∙ k.2.number));
        };
      }

-- NO SLOT CHANGES

-- the keys stay
pub quiet : (slots : List Slot) (old new : Store) (all : List Pairs) → Agrees slots old all → HasSameKeys old new → Agrees slots new all
quiet slots old new all a keeps = record {
  each = λ k lt. let at = a.each k lt in record {
    held = at.held;
    full = λ is. let f = at.full is in (f.0, ap (λ (m : _). map_get m (slot_at slots k).attributes.id.0) keeps.keys ∙ f.1, f.2);
    pending = λ is. let gone = at.pending is in record {
      given = let before = gone.given in let more = keeps.given in omega arith;
      absent = λ q x is number. gone.absent q x (ap (λ (m : _). map_get m q) (sym keeps.keys) ∙ is) number;
    };
  };
  beyond = a.beyond;
  found = λ q x is volatile. a.found q x (ap (λ (m : _). map_get m q) (sym keeps.keys) ∙ is) volatile;
}

-- empty slots
pub empty_ones : (store : Store) (callers : ℕ) → ((id : ℕ) → IsVolatileKey (map_get store.keys id) → ⊥) → Agrees (replicate 384 empty_slot) store (replicate callers [])
empty_ones store callers none = record {
  each = λ k lt. rw (get_or-replicate 384 k empty_slot empty_slot lt) (wiped store (replicate callers []) k empty_slot refl refl (λ n. nothing_out callers k n ∙ sym (nobody 0 n)));
  beyond = λ k n past. nothing_out callers k n;
  found = λ q x is volatile. absurd (none q (rw is volatile));
}
