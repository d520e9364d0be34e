-- A call on the store by a caller of the owner: two alike services reply the same, and stay alike.
use Rattle.std.proofs.Common.{Bool, Err, List, None, Ok, Option, Result, Some, ap, false, inl, inr, length, ok_or, refl, subst, true, ℕ, ◌≡◌}
use Rattle.owner_space.proofs.Common.{Attributes, Class, Copy, Destroy, Generate, Identifier, Import, InvalidArgument, InvalidHandle, Key, OnStore, Owners, Plain, Random, Served, Service, Status, Store, bytes_of_key, call_inside, cipher_usage, copy_attributes, created, created_unless, decided, destroyed, first_row, generated, inside, inside_created, mac_usage, meet_of, next_random, own_of, recorded_copy, recorded_of, renamed_attributes, serve, source_rows, stated_bits_rows, stated_bytes, unless, use_rows, with_drawn}
use Rattle.std.specs.FinMap as map
use Rattle.alg_encoding.specs.declared.table.Class.TheVariants.{Aead, Cipher, Mac}
use Rattle.random_streams.specs.RandomWords.{random_bytes}
use Rattle.store_model.specs.Call.{AeadDecrypt, AeadEncrypt, Call, CipherDecrypt, CipherEncrypt, Export, GetAttributes, HashCompare, HashCompute, MacCompute, MacVerify, Purge}
use Rattle.store_model.specs.Outcome.{Computed, Outcome, computed_unless, refused, replies, with_computed}
use Rattle.store_model.specs.{Aeads.opened_reply, Aeads.sealed_reply, Ciphers.decrypted_reply, Ciphers.encrypted, Ciphers.is_ctr, Ciphers.iv_length, Ciphers.mode_of, KeyUse.attributes_reply, KeyUse.destroy_rows, KeyUse.export_reply, KeyUse.purge_reply, Macs.mac_reply, Macs.verified_reply, Requests.on_store, Rules.using_key, Step.step}
use Rattle.owner_space.proofs.{Alike.AreAlike, Alike.AreTwins, Alike.GoOn, Alike.IsOwnersCaller, Alike.SameKey, Alike.along, Alike.blind, Alike.both, Alike.moved, Alike.neither, Alike.own_goes, Alike.own_is_set, Alike.words_drawn, Owned.CanName, Owned.created_named, Owned.inside_named, Owned.no_key, Recorded.recorded_same, Recorded.then_after, Stores.counted_go, Stores.created_go, Stores.destroyed_go, Stores.same_id}

-- the same reply, and services that are alike
pub record AreServedAlike (owners : Owners) (owner : ℕ) (x y : Served) : Type 0 where
  pub alike : AreAlike owners owner x.service y.service
  pub reply : x.reply ≡ y.reply

-- the same reply, and as many bytes drawn, of stores that go on alike
record IsSameOutcome (owners : Owners) (owner : ℕ) (whole alone : Store) (x y : Outcome) : Type 0 where
  go : GoOn owners owner whole alone x.store y.store
  reply : x.reply ≡ y.reply
  drawn : x.drawn ≡ y.drawn

module _ (owners : Owners) (caller : ℕ) (is : IsOwnersCaller owners caller) (whole alone : Service) (twins : AreTwins owners (owners caller) whole alone) where
  abbrev owner : ℕ
  owner = owners caller

  abbrev Same : Outcome → Outcome → Type 0
  Same = IsSameOutcome owners owner whole.store alone.store

  pub key_at : (id : ℕ) → CanName owners owner id → SameKey (map.get whole.store.keys id) (map.get alone.store.keys id)
  key_at id (inl none) = moved (no_key whole.store twins.sound.store id none) (no_key alone.store twins.sound_alone.store id none) neither
  key_at id (inr own) = twins.alike.stores.keys id own

  counts_same : {x y : Computed} → x ≡ y → Same (with_computed whole.store x) (with_computed alone.store y)
  counts_same e = record { go = counted_go owners owner whole.store alone.store twins.alike.stores; reply = ap (λ (c : Computed). c.reply) e; drawn = ap (λ (c : Computed). c.drawn) e }

  refused_same : (status : Status) → Same (refused whole.store status) (refused alone.store status)
  refused_same status = record { go = counted_go owners owner whole.store alone.store twins.alike.stores; reply = refl; drawn = refl }

  -- what a call computes with what the map has at an identifier
  found_same : (f : Option Key → Computed) → ((key : Key) (n : ℕ) → f (Some key) ≡ f (Some (record key { number = n }))) → (id : ℕ) → CanName owners owner id →
      Same (with_computed whole.store (f (map.get whole.store.keys id))) (with_computed alone.store (f (map.get alone.store.keys id)))
  found_same f same id named = counts_same (blind f same (key_at id named))

  using_same : (on_device : Bool) (class : Class) (usage alg id : ℕ) (compute : List ℕ → Computed) → CanName owners owner id → Same (using_key whole.store on_device class usage alg id compute) (using_key alone.store on_device class usage alg id compute)
  using_same on_device class usage alg id compute named = found_same (λ found. computed_unless (first_row (use_rows on_device class usage alg found)) (compute (bytes_of_key found))) (λ key n. refl) id named

  -- CREATIONS

  pub both_create : (kept : Attributes) (bytes : List ℕ) → GoOn owners owner whole.store alone.store (created whole.store caller kept bytes).store (created alone.store caller kept bytes).store
  both_create kept bytes = created_go owners owner whole.store alone.store twins.alike.stores caller refl kept bytes twins.sound.store twins.sound_alone.store

  pub both_identify : (kept : Attributes) (bytes : List ℕ) → (created whole.store caller kept bytes).reply ≡ (created alone.store caller kept bytes).reply
  both_identify kept bytes = ap (λ id. record (created whole.store caller kept bytes).reply { output = Identifier id }) (same_id owners owner whole.store alone.store twins.alike.stores caller refl kept)

  created_same : (kept : Attributes) (bytes : List ℕ) (n : ℕ) → Same (record (created whole.store caller kept bytes) { drawn = n }) (record (created alone.store caller kept bytes) { drawn = n })
  created_same kept bytes n = record { go = both_create kept bytes; reply = both_identify kept bytes; drawn = refl }

  unless_same : (bytes : List ℕ) {r s : Result Attributes Status} → r ≡ s → Same (created_unless whole.store caller r bytes) (created_unless alone.store caller s bytes)
  unless_same bytes = along (λ r s. Same (created_unless whole.store caller r bytes) (created_unless alone.store caller s bytes)) of
    where
      of : (r : Result Attributes Status) → Same (created_unless whole.store caller r bytes) (created_unless alone.store caller r bytes)
      of (Ok kept) = created_same kept bytes 0
      of (Err status) = refused_same status

  generated_same : (random : Random) (n : ℕ) {r s : Result Attributes Status} → r ≡ s → Same (generated whole.store caller random n r) (generated alone.store caller random n s)
  generated_same random n = along (λ r s. Same (generated whole.store caller random n r) (generated alone.store caller random n s)) of
    where
      of : (r : Result Attributes Status) → Same (generated whole.store caller random n r) (generated alone.store caller random n r)
      of (Ok kept) = created_same kept (random n) n
      of (Err status) = refused_same status

  recorded : (a : Attributes) (n : ℕ) → CanName owners owner a.id.0 → recorded_of whole.store caller a n ≡ recorded_of alone.store caller a n
  recorded a n named = recorded_same owners caller is whole alone twins a n named

  copy_same : (a : Attributes) → CanName owners owner a.id.0 → {x y : Option Key} → SameKey x y →
      Same (created_unless whole.store caller (recorded_copy whole.store caller x a) (bytes_of_key x)) (created_unless alone.store caller (recorded_copy alone.store caller y a) (bytes_of_key y))
  copy_same a named neither = refused_same InvalidHandle
  copy_same a named (both key n) = unless_same key.bytes
      (then_after (unless (first_row (source_rows key.attributes a)) key.attributes) _ _ (λ source e. then_after (ok_or (meet_of source.policy a.policy) InvalidArgument) _ _ (λ met f. recorded (copy_attributes source a met) (length key.bytes) named)))

  -- A DESTRUCTION

  destroyed_same : (id : ℕ) {o p : Option Status} → o ≡ p → Same (decided whole.store o (destroyed whole.store id)) (decided alone.store p (destroyed alone.store id))
  destroyed_same id = along (λ o p. Same (decided whole.store o (destroyed whole.store id)) (decided alone.store p (destroyed alone.store id))) of
    where
      of : (o : Option Status) → Same (decided whole.store o (destroyed whole.store id)) (decided alone.store o (destroyed alone.store id))
      of None = record { go = destroyed_go owners owner whole.store alone.store twins.alike.stores id; reply = refl; drawn = refl }
      of (Some status) = refused_same status

  -- ANY CALL

  created_id : (id : ℕ) → CanName owners owner (inside_created owner id)
  created_id id = created_named owners owner is.few id

  named_id : (id : ℕ) → CanName owners owner (inside owners owner id)
  named_id id = inside_named owners owner is.few id

  step_same : (random : Random) (call : Call) → let inner = call_inside owners caller call in Same (step whole.store caller random inner) (step alone.store caller random inner)
  step_same random (Import a bytes) = unless_same bytes (recorded (renamed_attributes (inside_created owner) a) (length bytes) (created_id a.id.0))
  step_same random (Export id room) = found_same (λ found. replies (export_reply found room)) (λ key n. refl) (inside owners owner id) (named_id id)
  step_same random (GetAttributes id) = found_same (λ found. replies (attributes_reply found)) (λ key n. refl) (inside owners owner id) (named_id id)
  step_same random (Destroy id) =
      let at : ℕ = inside owners owner id in
      destroyed_same at (blind (λ found. first_row (destroy_rows found at)) (λ key n. refl) (key_at at (named_id id)))
  step_same random (Purge id) = found_same (λ found. replies (purge_reply found)) (λ key n. refl) (inside owners owner id) (named_id id)
  step_same random (Copy source a) = copy_same (renamed_attributes (inside_created owner) a) (created_id a.id.0) (key_at (inside owners owner source) (named_id source))
  step_same random (Generate a) =
      generated_same random (stated_bytes a) (then_after (unless (first_row (stated_bits_rows a)) (stated_bytes a)) _ _ (λ n e. recorded (renamed_attributes (inside_created owner) a) n (created_id a.id.0)))
  step_same random (HashCompute alg input room) = counts_same refl
  step_same random (HashCompare alg input hash) = counts_same refl
  step_same random (MacCompute id alg input room) = using_same true Mac (mac_usage false) alg (inside owners owner id) (λ key. replies (mac_reply alg key input room)) (named_id id)
  step_same random (MacVerify id alg input mac) = using_same true Mac (mac_usage true) alg (inside owners owner id) (λ key. replies (verified_reply alg key input mac)) (named_id id)
  step_same random (CipherEncrypt id alg input room) =
      using_same (is_ctr (mode_of alg)) Cipher (cipher_usage true) alg (inside owners owner id) (λ key. encrypted (mode_of alg) (random (iv_length (mode_of alg))) key input room) (named_id id)
  step_same random (CipherDecrypt id alg input room) =
      using_same (is_ctr (mode_of alg)) Cipher (cipher_usage false) alg (inside owners owner id) (λ key. replies (decrypted_reply (mode_of alg) key input room)) (named_id id)
  step_same random (AeadEncrypt id alg nonce ad input room) =
      using_same false Aead (cipher_usage true) alg (inside owners owner id) (λ key. replies (sealed_reply alg key nonce ad input room)) (named_id id)
  step_same random (AeadDecrypt id alg nonce ad input room) =
      using_same false Aead (cipher_usage false) alg (inside owners owner id) (λ key. replies (opened_reply alg key nonce ad input room)) (named_id id)

  -- the next random bytes are the same
  pub random_same : next_random whole caller ≡ next_random alone caller
  random_same =
      let settings = twins.alike.stores.settings in
      let drawn = (twins.alike.owns caller refl).drawn in
      λ i n. random_bytes (settings i).seed caller (drawn i) n

  stored_alike : (x y : Outcome) → Same x y → AreServedAlike owners owner (on_store whole caller x) (on_store alone caller y)
  stored_alike x y same = record {
    alike = own_is_set owners owner twins same.go caller (with_drawn (own_of whole caller) x.drawn) (with_drawn (own_of alone caller) y.drawn) (words_drawn owners owner (own_goes owners owner twins same.go caller refl) same.drawn);
    reply = same.reply;
  }

  pub store_call_alike : (call : Call) → let inner = OnStore (call_inside owners caller call) in AreServedAlike owners owner (serve whole caller inner Plain) (serve alone caller inner Plain)
  store_call_alike call =
      let inner : Call = call_inside owners caller call in
      subst (λ (random : Random). AreServedAlike owners owner (on_store whole caller (step whole.store caller (next_random whole caller) inner)) (on_store alone caller (step alone.store caller random inner))) random_same
      (stored_alike _ _ (step_same (next_random whole caller) call))
