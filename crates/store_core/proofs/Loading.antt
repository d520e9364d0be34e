-- A key that was loaded from the file.
use Rattle.store_core.proofs.Common.{[], AdmissionGhosts, Agrees, ap, arith, Attributes, Bool, Buffer, bytes-buffer_of, cell_state, cond, creation_of_state, DevicesGhosts, DiskGhosts, durable_keys, Entry, false, false≢true, full_slot, Gains, has_id, Holds, id_read, inl, inr, is_opaque, is_persistent_key, is_some, is_volatile_of, IsCaused, IsDirectory, IsKeyOf, IsTold, kept, Key, KeyFile, KeySlots, List, map_get, Model, nat_lt, NoKey, None, Opening, Option, option_and_then, Pairs, Puts, reads_persistent, refl, replay, Request, Service, Slot, SlotHasKey, Some, Store, Stored, stored, subst, sym, true, ℕ, ◌++◌, ◌<◌, ◌∙◌, ◌∷◌, ◌≡◌, cell_count}
use Rattle.store_core.proofs.{Histories.reads_last, Histories.told_before, Holding.IsReadOn, Holding.moved, Holding.goes_on, Kept.HasCellKey, Kept.key_of_cell, Kept.is_persistent, Kept.local, Replaced.replaced, Replaced.same_count, Replaced.put_here, Replaced.sound_after, Replaced.directory_after, Replaced.device_after, Replaced.agrees_after}

-- a request reads a persistent key where that of its identifier is one
pub reads_it : (service : Service) (caller : ℕ) (request : Request) (id : ℕ) (m : Model) → id_read service caller request ≡ Some id → m ≡ service.store →
    reads_persistent service caller request ≡ is_persistent_key (map_get m.keys id)
reads_it service caller request id m reads same =
    ap (λ (o : Option ℕ). is_persistent_key (option_and_then (map_get service.store.keys) o)) reads ∙ ap (λ (s : Model). is_persistent_key (map_get s.keys id)) (sym same)

-- over a disk that doesn't tell its bytes no more is told once a persistent key was read
untold : (told : Option (List ℕ)) (start : Service) (h : List Entry) (e : Entry) (id : ℕ) (m : Model) → is_some told ≡ false → (IsTold told start h → id_read (replay start h) e.caller e.call ≡ Some id) →
    (IsTold told start h → m ≡ (replay start h).store) → is_persistent_key (map_get m.keys id) ≡ true → IsTold told start (h ++ e ∷ []) → ⊥
untold told start h e id m blind reads same persistent (inl tells) = false≢true (sym blind ∙ tells)
untold told start h e id m blind reads same persistent (inr none) =
    let known = told_before told start h e (inr none) in
    false≢true (sym (reads_last start h e none) ∙ (reads_it (replay start h) e.caller e.call id m (reads known) (same known) ∙ persistent))

-- a key was loaded with its number
pub record IsLoaded (key : Key) (number : ℕ) (a : Attributes) (bytes : List ℕ) : Type 0 where
  pub has_number : key.number ≡ number
  pub has_attributes : key.attributes ≡ a
  pub has_bytes : key.bytes ≡ bytes

-- a store has the loaded key
abbrev pub HasLoaded : Model → (id number : ℕ) → Attributes → List ℕ → Type 0
HasLoaded m id number a bytes = (key : Key) × (map_get m.keys id ≡ Some key) × IsLoaded key number a bytes

stored_same : (x y : Stored) → Some x ≡ Some y → x ≡ y
stored_same x y e = cc

file_key : (m : Model) (id number : ℕ) (a : Attributes) (bytes : List ℕ) → HasCellKey m id number → durable_keys m id ≡ Some (stored number a bytes) → HasLoaded m id number a bytes
file_key m id number a bytes k filed =
    let own = stored k.0.number k.0.attributes k.0.bytes in
    let is : durable_keys m id ≡ Some own = ap kept k.1 ∙ ap (λ b. cond b None (Some own)) k.2 in
    let same : own ≡ stored number a bytes = stored_same own (stored number a bytes) (sym is ∙ filed) in
    (k.0, k.1, record { has_number = k.3; has_attributes = ap (λ (s : Stored). s.attributes) same; has_bytes = ap (λ (s : Stored). s.bytes) same })

-- a slot that was filled so has the key
pub filled_has : (slot : Slot) (key : Key) (number : ℕ) (a : Attributes) (bytes : List ℕ) → slot ≡ full_slot number a bytes → IsKeyOf a bytes → IsLoaded key number a bytes → SlotHasKey slot key
filled_has slot key number a bytes filled is l = subst (λ (s : Slot). SlotHasKey s key) (sym filled) (record {
  number = sym l.has_number;
  attributes = sym l.has_attributes;
  bytes = bytes-buffer_of bytes ∙ sym (ap (λ b. cond b [] key.bytes) (ap is_opaque l.has_attributes ∙ local a bytes is) ∙ l.has_bytes);
})

pub stays_put : (m : Model) (id : ℕ) (key : Key) → map_get m.keys id ≡ Some key → Puts m m id (Some key)
stays_put m id key there = record { here = there; others = λ q other. refl; given = omega arith }

-- one more caller has this pair, and nothing else
pub gains_one : (all : List Pairs) (p : ℕ × ℕ) → Gains all ((p ∷ []) ∷ all) p
gains_one all p = λ i n. omega arith

module _ {D A C : Type 0} (disks : DiskGhosts D) (elements : DevicesGhosts A) (admits : AdmissionGhosts C)
    (old : Store D A C) (file : KeyFile D) (slots : KeySlots) (buffer : Buffer) (start : Service) (opening : Opening) (h : List Entry) (all : List Pairs) (e : Entry) where
  abbrev told_here : Option (List ℕ)
  told_here = disks.contents old.file.cells.disk

  abbrev pub HoldsBefore : Type 0
  HoldsBefore = Holds disks elements admits (IsTold told_here start h) old start opening h all

  abbrev pub HoldsAfter : Type 0
  HoldsAfter = Holds disks elements admits (IsTold (disks.contents file.cells.disk) start (h ++ e ∷ [])) (moved disks elements admits old file slots buffer) start opening h all

  known : disks.contents file.cells.disk ≡ told_here → IsTold (disks.contents file.cells.disk) start (h ++ e ∷ []) → IsTold told_here start (h ++ e ∷ [])
  known same k = subst (λ (t : Option (List ℕ)). IsTold t start (h ++ e ∷ [])) same k

  -- the store holds the keys that it held
  pub brings : (P : Model → Type 0) → IsReadOn disks elements admits old.file file → (s : HoldsBefore) → Agrees slots.table.slots s.model all → P s.model → (n : HoldsAfter) × P n.model
  brings P read s agrees is =
      let n = goes_on disks elements admits old start opening h file slots buffer all (IsTold (disks.contents file.cells.disk) start (h ++ e ∷ [])) read
      (λ k. told_before told_here start h e (known read.same k)) s agrees in
      (n.0, subst P (sym n.1) is)

  module _ (id c : ℕ) (a : Attributes) (bytes : List ℕ) where
    abbrev number : ℕ
    number = creation_of_state (cell_state old.file.cells.states c)

    abbrev IsFound : Type 0
    IsFound = (n : HoldsAfter) × HasLoaded n.model id number a bytes

    -- the store holds the key that was loaded, in its slot
    pub loads : IsReadOn disks elements admits old.file file → (s : HoldsBefore) →
        (IsTold told_here start h → id_read (replay start h) e.caller e.call ≡ Some id) → c < cell_count → has_id id (cell_state old.file.cells.states c) ≡ true → IsKeyOf a bytes → a.id.0 ≡ id →
        (is_some told_here ≡ true → durable_keys s.model id ≡ Some (stored number a bytes)) → NoKey id old.slots.table.slots →
        ((m : Model) → Agrees old.slots.table.slots m all → HasLoaded m id number a bytes → Agrees slots.table.slots m all) → IsFound
    loads read s reads lt has key named filed none fills = go (is_some told_here) refl where
      own : HasCellKey s.model id number
      own = key_of_cell old.file.cells.states s.model id c s.directory lt has

      blind_again : is_some told_here ≡ false → is_some (disks.contents file.cells.disk) ≡ true → ⊥
      blind_again blind tells = false≢true (sym blind ∙ (ap is_some (sym read.same) ∙ tells))

      go : (b : Bool) → is_some told_here ≡ b → IsFound
      go true tells =
          let k = file_key s.model id number a bytes own (filed tells) in
          brings (λ m. HasLoaded m id number a bytes) read s (fills s.model s.slots k) k
      go false blind =
          let new : Key = record own.0 { attributes = a; bytes = bytes } in
          let there : HasLoaded (replaced s.model id new) id number a bytes = (new, put_here s.model id new, record { has_number = own.3; has_attributes = refl; has_bytes = refl }) in (
            record {
              model = replaced s.model id new;
              replayed = λ k. absurd (untold told_here start h e id s.model blind reads s.replayed (is_persistent (map_get s.model.keys id) own.0 own.1 own.2) (known read.same k));
              sound = sound_after s.model id own.0 a bytes own.1 own.2 key named s.sound;
              settings = s.settings;
              labels_are = s.labels_are;
              limits_are = s.limits_are;
              locations_are = s.locations_are;
              found = s.found;
              few = s.few;
              calls = s.calls;
              made = s.made;
              live = λ c le. same_count (is_volatile_of c) s.model.keys id own.0 new own.1 ∙ s.live c le;
              kept = same_count (λ i. nat_lt i 0x40000000) s.model.keys id own.0 new own.1 ∙ s.kept;
              ranked = s.ranked;
              slots = fills (replaced s.model id new) (agrees_after s.model id own.0 a bytes own.1 own.2 key named old.slots.table.slots all none s.slots) there;
              holdings = s.holdings;
              directory = subst (λ (l : _). IsDirectory l (replaced s.model id new)) (sym read.slots) (directory_after s.model id own.0 a bytes own.1 own.2 key named old.file.cells.states s.directory);
              device = device_after s.model id own.0 a bytes own.1 own.2 key named (elements.keys old.devices) s.device;
              file = λ tells. absurd (blind_again blind tells);
              sure = λ tells none. absurd (blind_again blind tells);
              promise = λ tells. absurd (blind_again blind tells);
              freed = λ tells. absurd (blind_again blind tells);
              caused = subst (λ (t : Option (List ℕ)). IsCaused (is_some t) opening.counts h) (sym read.same) s.caused;
              allowed = λ t. s.allowed (subst (λ (o : Option (List ℕ)). IsTold o start h) read.same t);
            },
            there,
          )
