-- Turns in which the secure element computes.
use Rattle.store_core.proofs.Common.{[], AdmissionGhosts, algorithm_asked, all_rows, AnswersCall, ap, attribute_rows, Attributes, Bool, buffer_after, Call, checked, class_asked, cond, Corrupt, counted, DevicesGhosts, Disk, DiskGhosts, element_reply, Entry, eqb-true, Err, Failed, false, false_from_ne_true, false≢true, FaultCounts, FaultMark, filled, first_row, first_row-back, first_row-front, fits_type, Hardware, has_secure_element, HasFault, held_key, HeldKey, HeldKeys, HoldsHandle, identified, inl, InvalidHandle, is_opaque, is_opaque_key, is_persistent_key, is_some, is_volatile, IsComputed, IsElementAnswered, IsEntry, IsErrOf, IsOfElement, IsRefused, IsSomeKey, IsSoundStore, IsTold, IsTrue, IsVolatileKey, Key, key_rows, KeyUse, last_counts, length, List, location, map_get, mark_computed, marked_reply, MatchOption, may_change_keys, MayBeMarked, Missing, Model, model_call, None, none_holds, not, not-false, Ok, OnStore, Opening, Option, Pairs, persistence, refl, refusal, Refused, replay, reply_on, reply_to, reply_unless, Result, Rose, rows_before, Service, Some, StandsFor, Status, status_of, Store, subst, sym, true, true_from_ne_false, unless, unless-ok, Unread, usage_asked, use_refusal, use_rows, ℕ, ◌&&◌, ◌++◌, ◌==◌, ◌||◌, ◌∙◌, ◌∷◌, ◌≡◌}
use Rattle.alg_encoding.specs.declared.table.Class.{Class}
use Rattle.secure_element_calls.specs.{declared.calls.ElementCall.ElementCall, declared.calls.ElementCall.TheVariants.MacCompute, declared.calls.ElementCall.TheVariants.MacVerify, declared.calls.ElementCall.TheVariants.CtrEncrypt, declared.calls.ElementCall.TheVariants.CtrDecrypt, declared.calls.NotComputed.NotComputed}
use Rattle.secure_element_calls.proofs.Replying.{asks}
use Rattle.store_core.proofs.{Missing.is_other, Histories.told_before, Histories.quiet_leaves, Holding.turned, Holding.carries, Holding.left_alone, Changing.ends_quiet}

-- THE KEY

-- a call that the element computes changes no key
pub keeps_keys : (call : ElementCall) (id room : ℕ) → may_change_keys (OnStore (model_call call id room)) ≡ false
keeps_keys (MacCompute alg input) id room = refl
keeps_keys (MacVerify alg input mac) id room = refl
keeps_keys (CtrEncrypt iv input) id room = refl
keeps_keys (CtrDecrypt input) id room = refl

-- it is volatile
stays_local : (volatile none one lasts driver : Bool) → volatile ≡ false → none ≡ false → not ((volatile && (none || (one && driver))) || (lasts && none)) ≡ false → ⊥
stays_local true none one lasts driver a b e = cc
stays_local false true one lasts driver a b e = cc
stays_local false false one true driver a b e = cc
stays_local false false one false driver a b e = cc

pub opaque_is_volatile : (m : Model) (id : ℕ) (key : Key) → map_get m.keys id ≡ Some key → IsSoundStore m → is_opaque key.attributes ≡ true → is_volatile key.attributes ≡ true
opaque_is_volatile m id key there sound opaque = true_from_ne_false (is_volatile key.attributes) (λ lasts.
    let a : Attributes = key.attributes in
    let n : ℕ = length key.bytes in
    let driver : Bool = has_secure_element m in
    let check = subst (λ (x : Attributes). checked x n driver ≡ Ok x) (ap (λ b. cond b (identified a 0) a) lasts) (sound.keys id key there).attributes in
    let row = none_holds (attribute_rows a n driver) 0 (unless-ok (first_row (attribute_rows a n driver)) (filled a n) a check).0 in
    stays_local (persistence a.lifetime.0 == 0) (location a.lifetime.0 == 0) (location a.lifetime.0 == 1) (persistence a.lifetime.0 == 1) driver lasts (ap (λ l. l == 0) (eqb-true (location a.lifetime.0) 1 opaque)) row)

-- so it has a slot
pub has_slot : (m : Model) (id : ℕ) → IsSoundStore m → is_opaque_key (map_get m.keys id) ≡ true → IsVolatileKey (map_get m.keys id)
has_slot m id sound opaque = by_key (map_get m.keys id) refl opaque
  where
    by_key : (o : Option Key) → map_get m.keys id ≡ o → is_opaque_key o ≡ true → IsVolatileKey o
    by_key None there opaque = cc
    by_key (Some key) there opaque = opaque_is_volatile m id key there sound opaque

-- a key of which no slot has a volatile one isn't the element's
pub not_opaque : (m : Model) (id : ℕ) → IsSoundStore m → (IsVolatileKey (map_get m.keys id) → ⊥) → is_opaque_key (map_get m.keys id) ≡ false
not_opaque m id sound none = false_from_ne_true (is_opaque_key (map_get m.keys id)) (λ opaque. none (has_slot m id sound opaque))

-- nor is that of a look which was refused before its key was found
module _ (wanted : KeyUse) (id : ℕ) (m : Model) (sound : IsSoundStore m) where
  not_of : (key : Key) → map_get m.keys id ≡ Some key → is_opaque key.attributes ≡ true → (why : Unread) → IsRefused (use_refusal wanted) id (status_of why) m → ⊥
  not_of key there opaque why refused = by why refused
    where
      lasts : is_persistent_key (map_get m.keys id) ≡ true → ⊥
      lasts persistent = false≢true (sym (ap not (opaque_is_volatile m id key there sound opaque)) ∙ (sym (ap is_persistent_key there) ∙ persistent))

      by : (why : Unread) → IsRefused (use_refusal wanted) id (status_of why) m → ⊥
      by Missing row = is_other wanted key InvalidHandle (sym (ap (use_refusal wanted) there) ∙ row) refl
      by Disk persistent = lasts persistent
      by Corrupt persistent = lasts persistent

  pub unread_local : (why : Unread) → IsRefused (use_refusal wanted) id (status_of why) m → is_opaque_key (map_get m.keys id) ≡ true → ⊥
  unread_local why refused opaque = by (map_get m.keys id) refl opaque
    where
      by : (o : Option Key) → map_get m.keys id ≡ o → is_opaque_key o ≡ true → ⊥
      by None there is = cc
      by (Some key) there is = not_of key there is why refused

-- WHAT THE KEY'S ROWS LEAVE OPEN

module _ (call : ElementCall) (key : Key) (none : first_row (key_rows call (Some key)) ≡ None) where
  pub type_fits : IsTrue (fits_type (algorithm_asked call) key.attributes.key_type.0)
  type_fits = not-false (fits_type (algorithm_asked call) key.attributes.key_type.0) (none_holds (key_rows call (Some key)) 3 none)

-- THE ANSWER

some_is : (o : Option HeldKey) (P : HeldKey → Type 0) (k : HeldKey) → IsSomeKey o P → IsSomeKey o (λ h. h ≡ k) → P k
some_is None P k p is = absurd p
some_is (Some key) P k p is = subst P is p

-- what holds of the key under a handle, where the device tells it
told_key : (held : Option HeldKeys) (handle : ℕ) (P : HeldKey → Type 0) (k : HeldKey) → HoldsHandle held handle P → HoldsHandle held handle (λ h. h ≡ k) → is_some held ≡ true → P k
told_key None handle P k p is tells = cc
told_key (Some held) handle P k p is tells = some_is (held_key held handle) P k p is

pub holds_type : (held : Option HeldKeys) (handle : ℕ) (k : HeldKey) (P : HeldKey → Type 0) → HoldsHandle held handle (λ h. h ≡ k) → P k → HoldsHandle held handle P
holds_type None handle k P is p = tt
holds_type (Some held) handle k P is p = some (held_key held handle) is
  where
    some : (o : Option HeldKey) → IsSomeKey o (λ h. h ≡ k) → IsSomeKey o P
    some None is = is
    some (Some key) is = subst P (sym is) p

abbrev pub held_of : Key → HeldKey
held_of key = record { key_type = key.attributes.key_type.0; bytes = key.bytes }

-- what the element computed is the answer
pub answered : (held : Option HeldKeys) (id : ℕ) (call : ElementCall) (old new : List ℕ) (result : Result ℕ NotComputed) (m : Model) (key : Key) (handle : ℕ) →
    is_opaque_key (map_get m.keys id) ≡ true → map_get m.keys id ≡ Some key → HoldsHandle held handle (λ h. h ≡ held_of key) → first_row (key_rows call (Some key)) ≡ None →
    IsComputed held handle call old new result → IsElementAnswered held id call old new result m
answered held id call old new result m key handle opaque there is none computed =
    let room : ℕ = length old in
    let rows : first_row (rows_before call room) ≡ first_row (all_rows call room (map_get m.keys id)) =
    sym (first_row-back (key_rows call (Some key)) (rows_before call room) none) ∙ ap (λ found. first_row (all_rows call room found)) (sym there) in
    let reply : reply_to call result key.bytes room ≡ marked_reply (mark_computed result) (reply_on call room (map_get m.keys id)) =
    ap (marked_reply (mark_computed result)) (ap (λ o. reply_unless o (element_reply call key.bytes room)) (sym none) ∙ ap (reply_on call room) (sym there)) in
    record {
      opaque = opaque;
      decided = subst (λ o. MatchOption o (IsOfElement call result) (λ status. result ≡ Err (Refused status))) rows computed.decided;
      reply = λ tells. subst (AnswersCall call result) reply (told_key held handle (λ k. AnswersCall call result (reply_to call result k.bytes room)) (held_of key) computed.reply is tells);
      buffer = λ tells. told_key held handle (λ k. new ≡ buffer_after old (reply_to call result k.bytes room)) (held_of key) computed.buffer is tells ∙ ap (buffer_after old) reply;
      spoilt = λ failed. computed.spoilt key.bytes failed ∙ ap (buffer_after old) reply;
      kept = computed.kept;
      rest = computed.rest;
    }

-- a row of the key refuses
pub unused : (held : Option HeldKeys) (id : ℕ) (call : ElementCall) (old : List ℕ) (m : Model) (key : Key) (status : Status) →
    is_opaque_key (map_get m.keys id) ≡ true → map_get m.keys id ≡ Some key → first_row (key_rows call (Some key)) ≡ Some status → IsElementAnswered held id call old old (Err (Refused status)) m
unused held id call old m key status opaque there refused =
    let room : ℕ = length old in
    let result : Result ℕ NotComputed = Err (Refused status) in
    let rows : Some status ≡ first_row (all_rows call room (map_get m.keys id)) =
    sym (first_row-front (key_rows call (Some key)) (rows_before call room) status refused) ∙ ap (λ found. first_row (all_rows call room found)) (sym there) in
    let reply : refusal status ≡ reply_on call room (map_get m.keys id) =
    ap (λ o. reply_unless o (element_reply call key.bytes room)) (sym refused) ∙ ap (reply_on call room) (sym there) in
    record {
      opaque = opaque;
      decided = subst (λ o. MatchOption o (IsOfElement call result) (λ status. result ≡ Err (Refused status))) rows refl;
      reply = λ tells. subst (AnswersCall call result) reply (refl, refl);
      buffer = λ tells. ap (buffer_after old) reply;
      spoilt = λ failed. cc;
      kept = λ status e. refl;
      rest = refl;
    }

-- THE TURN

module _ {D A C : Type 0} (disks : DiskGhosts D) (elements : DevicesGhosts A) (admits : AdmissionGhosts C)
    (only_now : (disk : D) (image : List ℕ) → disks.left_since disk (disks.moment disk) image → disks.may_leave disk image)
    (old : Store D A C) (devices : A) (start : Service) (opening : Opening) (h : List Entry) (all : List Pairs) (e : Entry) where
  -- with what a device is that computed
  abbrev pub computed_by : Store D A C
  computed_by = record old { devices = devices }

  abbrev pub new : Store D A C
  new = turned disks elements admits computed_by old.slots

  abbrev Known : Type 0
  Known = IsTold (disks.contents old.file.cells.disk) start (h ++ e ∷ [])

  -- a turn ends in which the element was asked or not
  pub ends_computed : (call : Call) (mark : FaultMark) (P : Model → Type 0) → (s : StandsFor disks elements admits old start opening h all) →
      e.call ≡ OnStore call → may_change_keys (OnStore call) ≡ false → elements.keys devices ≡ elements.keys old.devices → elements.locations devices ≡ elements.locations old.devices →
      HasFault (is_some (disks.contents old.file.cells.disk)) (last_counts opening.counts h) e mark →
      ((service : Service) → service.store ≡ s.holds.model → MayBeMarked service e.caller (OnStore call) mark) → P (counted s.holds.model) →
      IsEntry disks elements admits new mark e →
      (n : StandsFor disks elements admits new start opening (h ++ e ∷ []) all) × P n.holds.model
  ends_computed call mark P s is still same there fault may holds turn =
      let d = carries disks elements admits Known old.file old.slots old.buffer devices (left_alone disks elements admits old.file) same there s.holds inl (told_before (disks.contents old.file.cells.disk) start h e) s.holds.slots s.holds.holdings in
      let ends = ends_quiet disks elements admits only_now e mark old.slots d.0 (λ k. k) d.0.slots d.0.holdings fault
      (λ k. subst (λ request. MayBeMarked (replay start h) e.caller request mark) (sym is) (may (replay start h) (sym (d.0.replayed k) ∙ d.1)))
      (quiet_leaves disks elements admits computed_by start h e (ap may_change_keys is ∙ still)) turn in
      (ends.0, subst P (sym (ends.1 ∙ ap counted d.1)) holds)

-- the element failed
pub may_fail : (service : Service) (caller id room : ℕ) (call : ElementCall) → is_opaque_key (map_get service.store.keys id) ≡ true → first_row (all_rows call room (map_get service.store.keys id)) ≡ None →
    MayBeMarked service caller (OnStore (model_call call id room)) Hardware
may_fail service caller id room call opaque none = either _ _ (asks service caller id room call opaque none)
  where
    either : (a b : Bool) → b ≡ true → (a || b) ≡ true
    either true b e = refl
    either false b e = e

-- a failure comes only where no row refused
pub unrefused : (o : Option Status) (P : Type 0) (result : Result ℕ NotComputed) → result ≡ Err Failed → MatchOption o P (λ status. result ≡ Err (Refused status)) → o ≡ None
unrefused None P result failed decided = refl
unrefused (Some status) P result failed decided = cc

pub fault_of : (result : Result ℕ NotComputed) (tells : Bool) (before : FaultCounts) (e : Entry) → (IsErrOf result Failed → Rose before.device_faults e.device_faults) → HasFault tells before e (mark_computed result)
fault_of (Ok n) tells before e rose = tt
fault_of (Err (Refused status)) tells before e rose = tt
fault_of (Err Failed) tells before e rose = rose refl

pub mark_may : (held : Option HeldKeys) (id : ℕ) (call : ElementCall) (old new : List ℕ) (result : Result ℕ NotComputed) (m : Model) → IsElementAnswered held id call old new result m →
    is_opaque_key (map_get m.keys id) ≡ true → (service : Service) (caller : ℕ) → service.store ≡ m → MayBeMarked service caller (OnStore (model_call call id (length old))) (mark_computed result)
mark_may held id call old now (Ok n) m answer opaque service caller is = tt
mark_may held id call old now (Err (Refused status)) m answer opaque service caller is = tt
mark_may held id call old now (Err Failed) m answer opaque service caller is =
    may_fail service caller id (length old) call (subst (λ (x : Model). is_opaque_key (map_get x.keys id) ≡ true) (sym is) opaque)
    (subst (λ (x : Model). first_row (all_rows call (length old) (map_get x.keys id)) ≡ None) (sym is) (unrefused (first_row (all_rows call (length old) (map_get m.keys id))) (IsOfElement call (Err Failed)) (Err Failed) refl answer.decided))

-- what was checked are the key's rows
pub checked_rows : (call : ElementCall) (key : Key) (class : Class) (usage alg : ℕ) (result : Result (Unit {0}) Status) → class ≡ class_asked call → usage ≡ usage_asked call → alg ≡ algorithm_asked call →
    result ≡ unless (first_row (use_rows true class usage alg (Some key))) tt → result ≡ unless (first_row (key_rows call (Some key))) tt
checked_rows call key class usage alg result c u a is = is ∙ (λ i. unless (first_row (use_rows true (c i) (u i) (a i) (Some key))) tt)
