-- The shape of any call on the store: it is counted alone, or creates a key, or destroys one.
use Rattle.std.proofs.Common.{Bool, Err, List, None, Ok, Option, Result, Some, ap, arith, bytes_eq, cond, drop, false, inl, inr, length, ok_or, refl, subst, sym, take, true, ℕ, ◌++◌, ◌-◌, ◌∙◌, ◌≡◌, ◌≤◌, ◌⊎◌}
use Rattle.store_model.proofs.Common.{AeadDecrypt, AeadEncrypt, Attributes, attributes_reply, bytes_of_key, Call, CipherDecrypt, CipherEncrypt, Class, Computed, computed_unless, Copy, counted, created, created_unless, Ctr, decided, deciphered, Destroy, destroy_rows, destroyed, done, enciphered, Export, export_rows, first_row, Generate, GetAttributes, given, has_secure_element, hash_of, HashCompare, HashCompute, Import, InvalidArgument, InvalidHandle, InvalidPadding, InvalidSignature, is_ctr, is_of_fault, IsWithin, iv_length, Key, key_answered, mac_of, MacCompute, MacVerify, may_change_keys, meet_of, Mode, mode_of, OnStore, option_map, Outcome, plain_or_zeros, Policy, Purge, purge_reply, recorded_of, refusal, refused, replies, Reply, reply_unless, Request, source_of, spoiled, spoils, stated_bits_rows, stated_bytes, Status, Store, Success, tag_bytes, unless, unless-ok, use_rows, with_computed, with_implied}
use Rattle.std.specs.FinMap as map
use Rattle.store_model.specs.{Draws.Random, Copies.source_rows, Copies.copy_attributes, Copies.recorded_copy, Generation.generation_of, Generation.generated, Aeads.aead_text, Aeads.aead_tag, Aeads.sealed, Aeads.opened_text, Step.step}
use Rattle.store_model.specs.Ciphers as ciphers
use Rattle.store_model.specs.Hashes as hashes
use Rattle.store_model.specs.Macs as macs
use Rattle.store_model.specs.Aeads as aeads
use Rattle.alg_encoding.specs.declared.table.Class.TheVariants.{Mac, Cipher, Aead}
use Rattle.store_model.proofs.{Buffers.LeavesBuffer, Buffers.refusal_leaves, Buffers.spoiled_leaves, Tables.NoFault, Tables.RefusesPlainly, Tables.refuses_plainly, Recorded.MayBeKept, Recorded.OfRefusals, Recorded.then_ok, Recorded.then_refused, Recorded.unless_refused, Recorded.recorded, Recorded.recorded_refused, Recorded.few_bytes}

-- a reply that answers no identifier
abbrev pub MakesNone : Reply → Type 0
MakesNone reply = (after : Store) → key_answered after reply.output ≡ None

-- a reply that answers no identifier and, where it refuses, leaves the buffer but for zeros
pub record IsQuiet (reply : Reply) : Type 0 where
  pub no_key : MakesNone reply
  pub buffer : LeavesBuffer reply

-- a call that is counted draws few bytes, none where it is refused, and that by no failed device's status
pub record IsCounted (reply : Reply) (drawn : ℕ) : Type 0 where
  pub few : drawn ≤ 16
  pub undrawn : (reply.status ≡ Success → ⊥) → drawn ≡ 0
  pub plain : NoFault reply.status
  pub quiet : IsQuiet reply

-- the policy that a copy records is within the meet of its source's with the stated one
pub record IsCopied (store : Store) (request : Request) (policy : Policy) : Type 0 where
  pub id : ℕ
  pub source : Key
  pub stated : Policy
  pub met : Policy
  pub there : map.get store.keys id ≡ Some source
  pub number : source_of store request ≡ Some source.number
  pub meets : meet_of source.attributes.policy stated ≡ Some met
  pub within : IsWithin policy (with_implied met)

-- a creation that isn't refused, and what its bytes come from
pub record Creates (store : Store) (caller : ℕ) (call : Call) (kept : Attributes) (bytes : List ℕ) (drawn : ℕ) : Type 0 where
  pub few : drawn ≤ 1024
  pub may : MayBeKept store caller kept (length bytes)
  pub source : (source_of store (OnStore call) ≡ None) ⊎ IsCopied store (OnStore call) kept.policy

-- what is to be shown of each kind of outcome
pub record StoreCases (store : Store) (caller : ℕ) (call : Call) (P : Outcome → Type 0) : Type 0 where
  pub counted_too : (reply : Reply) (drawn : ℕ) → IsCounted reply drawn → P (record { store = counted store; reply = reply; drawn = drawn })
  pub created_too : (kept : Attributes) (bytes : List ℕ) (drawn : ℕ) → may_change_keys (OnStore call) ≡ true → Creates store caller call kept bytes drawn → P (record (created store caller kept bytes) { drawn = drawn })
  pub destroyed_too : (id : ℕ) → OnStore call ≡ OnStore (Destroy id) → P (destroyed store id)

-- REPLIES

undrawn_counts : (reply : Reply) → NoFault reply.status → IsQuiet reply → IsCounted reply 0
undrawn_counts reply plain quiet = record { few = omega arith; undrawn = λ no. refl; plain = plain; quiet = quiet }

pub refusal_quiet : (status : Status) → IsQuiet (refusal status)
refusal_quiet status = record { no_key = λ a. refl; buffer = refusal_leaves status }

pub spoiled_quiet : (status : Status) (needed : ℕ) → spoils status ≡ true → IsQuiet (spoiled status needed)
spoiled_quiet status needed e = record { no_key = λ a. refl; buffer = spoiled_leaves status needed e }

refused_counts : (status : Status) → NoFault status → IsCounted (refusal status) 0
refused_counts status plain = undrawn_counts (refusal status) plain (refusal_quiet status)

spoiled_counts : (status : Status) (needed : ℕ) → spoils status ≡ true → NoFault status → IsCounted (spoiled status needed) 0
spoiled_counts status needed e plain = undrawn_counts (spoiled status needed) plain (spoiled_quiet status needed e)

success_counts : (reply : Reply) → reply.status ≡ Success → MakesNone reply → IsCounted reply 0
success_counts reply success none = undrawn_counts reply (ap is_of_fault success) (record { no_key = none; buffer = λ no. absurd (no success) })

given_counts : (bytes : List ℕ) → IsCounted (given bytes) 0
given_counts bytes = success_counts (given bytes) refl (λ a. refl)

unless_counts : (o : Option Status) (reply : Reply) → RefusesPlainly o → IsCounted reply 0 → IsCounted (reply_unless o reply) 0
unless_counts None reply plain h = h
unless_counts (Some status) reply plain h = refused_counts status (plain status refl)

computed_counts : (o : Option Status) (computed : Computed) → RefusesPlainly o → IsCounted computed.reply computed.drawn →
    IsCounted (computed_unless o computed).reply (computed_unless o computed).drawn
computed_counts None computed plain h = h
computed_counts (Some status) computed plain h = refused_counts status (plain status refl)

described : (o : Option Key) → IsCounted (attributes_reply o) 0
described None = refused_counts InvalidHandle refl
described (Some key) = success_counts (attributes_reply (Some key)) refl (λ a. refl)

purged : (o : Option Key) → IsCounted (purge_reply o) 0
purged None = refused_counts InvalidHandle refl
purged (Some key) = success_counts done refl (λ a. refl)

plain_counts : (needed : ℕ) (o : Option (List ℕ)) → IsCounted (plain_or_zeros needed o) 0
plain_counts needed None = spoiled_counts InvalidPadding needed refl refl
plain_counts needed (Some text) = success_counts (plain_or_zeros needed (Some text)) refl (λ a. refl)

either_counts : (b : Bool) (x y : Reply) → IsCounted x 0 → IsCounted y 0 → IsCounted (cond b x y) 0
either_counts true x y h k = h
either_counts false x y h k = k

opened_counts : (alg : ℕ) (key nonce ad cipher tag : List ℕ) → IsCounted (opened_text alg key nonce ad cipher tag) 0
opened_counts alg key nonce ad cipher tag =
    let plain : List ℕ = aead_text alg key nonce cipher in
    either_counts (bytes_eq tag (aead_tag alg key nonce ad plain cipher)) (given plain) (spoiled InvalidSignature (length cipher)) (given_counts plain) (spoiled_counts InvalidSignature (length cipher) refl refl)

-- REFUSALS

exported : (found : Option Key) (room : ℕ) → RefusesPlainly (first_row (export_rows found room))
exported None room = refuses_plainly (export_rows None room) refl
exported (Some key) room = refuses_plainly (export_rows (Some key) room) refl

pub used_plainly : (on_device : Bool) (class : Class) (usage alg : ℕ) (found : Option Key) → RefusesPlainly (first_row (use_rows on_device class usage alg found))
used_plainly on_device class usage alg None = refuses_plainly (use_rows on_device class usage alg None) refl
used_plainly on_device class usage alg (Some key) = refuses_plainly (use_rows on_device class usage alg (Some key)) refl

recorded_plainly : (store : Store) (caller : ℕ) (a : Attributes) (n : ℕ) → OfRefusals NoFault (recorded_of store caller a n)
recorded_plainly = recorded_refused NoFault refl refl refl refl refl refl

met_plainly : (o : Option Policy) → OfRefusals NoFault (ok_or o InvalidArgument)
met_plainly None status e = let same : InvalidArgument ≡ status = cc in subst NoFault same refl
met_plainly (Some met) status e = cc

copied_plainly : (store : Store) (caller : ℕ) (source : Key) (stated : Attributes) → OfRefusals NoFault (recorded_copy store caller (Some source) stated)
copied_plainly store caller source stated =
    then_refused NoFault (unless (first_row (source_rows source.attributes stated)) source.attributes) _
    (unless_refused NoFault (source_rows source.attributes stated) source.attributes (λ on. refl, (λ on. refl, (λ on. refl, tt))))
    (λ own. then_refused NoFault (ok_or (meet_of own.policy stated.policy) InvalidArgument) _ (met_plainly (meet_of own.policy stated.policy))
    (λ met. recorded_plainly store caller (copy_attributes own stated met) (length source.bytes)))

generated_plainly : (store : Store) (caller : ℕ) (a : Attributes) → OfRefusals NoFault (generation_of store caller a)
generated_plainly store caller a =
    then_refused NoFault (unless (first_row (stated_bits_rows a)) (stated_bytes a)) _ (unless_refused NoFault (stated_bits_rows a) (stated_bytes a) (λ on. refl, tt)) (λ n. recorded_plainly store caller a n)

short_iv : (mode : Mode) → iv_length mode ≤ 16
short_iv Ctr = omega arith
short_iv mode = omega arith

-- the random bytes are as many as were asked for
abbrev pub IsRandom : Random → Type 0
IsRandom random = (n : ℕ) → length (random n) ≡ n

some_of : {A : Type 0} (o : Option A) (x : A) → ok_or o InvalidArgument ≡ Ok x → o ≡ Some x
some_of None x e = cc
some_of (Some y) x e = cc

module _ (store : Store) (caller : ℕ) (call : Call) (P : Outcome → Type 0) (cases : StoreCases store caller call P) where
  replied : (reply : Reply) → IsCounted reply 0 → P (record { store = counted store; reply = reply; drawn = 0 })
  replied reply h = cases.counted_too reply 0 h

  answered_too : (o : Option Status) (reply : Reply) → RefusesPlainly o → IsCounted reply 0 → P (with_computed store (replies (reply_unless o reply)))
  answered_too o reply plain h = replied (reply_unless o reply) (unless_counts o reply plain h)

  refused_too : (status : Status) → NoFault status → P (refused store status)
  refused_too status plain = cases.counted_too (refusal status) 0 (refused_counts status plain)

  decided_too : (o : Option Status) (outcome : Outcome) → RefusesPlainly o → (o ≡ None → P outcome) → P (decided store o outcome)
  decided_too None outcome plain h = h refl
  decided_too (Some status) outcome plain h = refused_too status (plain status refl)

  computed_too : (o : Option Status) (computed : Computed) → RefusesPlainly o → IsCounted computed.reply computed.drawn → P (with_computed store (computed_unless o computed))
  computed_too o computed plain h = cases.counted_too (computed_unless o computed).reply (computed_unless o computed).drawn (computed_counts o computed plain h)

  -- what a key's use refuses, and then a reply under rows of its own
  used : (refused own : Option Status) (reply : Reply) → RefusesPlainly refused → RefusesPlainly own → IsCounted reply 0 → P (with_computed store (computed_unless refused (replies (reply_unless own reply))))
  used refused own reply plain plain_own h = computed_too refused (replies (reply_unless own reply)) plain (unless_counts own reply plain_own h)

  -- a creation, by what it records
  recorded_too : (r : Result Attributes Status) (bytes : List ℕ) → OfRefusals NoFault r → ((kept : Attributes) → r ≡ Ok kept → P (created store caller kept bytes)) → P (created_unless store caller r bytes)
  recorded_too (Ok kept) bytes plain h = h kept refl
  recorded_too (Err status) bytes plain h = refused_too status (plain status refl)

  drawn_too : (random : Random) (n : ℕ) (r : Result Attributes Status) → OfRefusals NoFault r → ((kept : Attributes) → r ≡ Ok kept → P (record (created store caller kept (random n)) { drawn = n })) →
      P (generated store caller random n r)
  drawn_too random n (Ok kept) plain h = h kept refl
  drawn_too random n (Err status) plain h = refused_too status (plain status refl)

  copy_shape : may_change_keys (OnStore call) ≡ true → (id : ℕ) (stated : Attributes) (found : Option Key) → map.get store.keys id ≡ found →
      ((source : Key) → found ≡ Some source → source_of store (OnStore call) ≡ Some source.number) → P (created_unless store caller (recorded_copy store caller found stated) (bytes_of_key found))
  copy_shape changes id stated None there number = refused_too InvalidHandle refl
  copy_shape changes id stated (Some source) there number =
      recorded_too (recorded_copy store caller (Some source) stated) source.bytes (copied_plainly store caller source stated) (λ kept e. cases.created_too kept source.bytes 0 changes (copied kept e))
    where
      copied : (kept : Attributes) → recorded_copy store caller (Some source) stated ≡ Ok kept → Creates store caller call kept source.bytes 0
      copied kept e =
          let one = then_ok (unless (first_row (source_rows source.attributes stated)) source.attributes) _ kept e in
          let own : source.attributes ≡ one.0 = (unless-ok (first_row (source_rows source.attributes stated)) source.attributes one.0 one.1.0).1 in
          let two = then_ok (ok_or (meet_of one.0.policy stated.policy) InvalidArgument) _ kept one.1.1 in
          let r = recorded store caller (copy_attributes one.0 stated two.0) (length source.bytes) kept two.1.1 in
          record {
            few = omega arith;
            may = r.may;
            source = inr (record {
              id = id;
              source = source;
              stated = stated.policy;
              met = two.0;
              there = there;
              number = number source refl;
              meets = ap (λ (x : Attributes). meet_of x.policy stated.policy) own ∙ some_of (meet_of one.0.policy stated.policy) two.0 two.1.0;
              within = r.within;
            });
          }

  generated_creates : source_of store (OnStore call) ≡ None → (random : Random) → IsRandom random → (a kept : Attributes) → generation_of store caller a ≡ Ok kept →
      Creates store caller call kept (random (stated_bytes a)) (stated_bytes a)
  generated_creates none random long a kept e =
      let n : ℕ = stated_bytes a in
      let one = then_ok (unless (first_row (stated_bits_rows a)) n) _ kept e in
      let same : one.0 ≡ length (random n) = sym (unless-ok (first_row (stated_bits_rows a)) n one.0 one.1.0).1 ∙ sym (long n) in
      let may = subst (MayBeKept store caller kept) same (recorded store caller a one.0 kept one.1.1).may in
      record { few = subst (λ k. k ≤ 1024) (long n) (few_bytes kept (length (random n)) (has_secure_element store) may.checks); may = may; source = inl none }

-- a copy's source is what the map has
copy_source : (store : Store) (id : ℕ) (stated : Attributes) (source : Key) → map.get store.keys id ≡ Some source → source_of store (OnStore (Copy id stated)) ≡ Some source.number
copy_source store id stated source e = ap (λ (o : Option Key). option_map (λ key. key.number) o) e

pub store_shape : (store : Store) (caller : ℕ) (random : Random) (call : Call) (P : Outcome → Type 0) → IsRandom random → StoreCases store caller call P → P (step store caller random call)
store_shape store caller random (Import a bytes) P long cases = recorded_too store caller _ P cases (recorded_of store caller a (length bytes)) bytes (recorded_plainly store caller a (length bytes)) (λ kept e. cases.created_too kept bytes 0 refl (record {
  few = omega arith;
  may = (recorded store caller a (length bytes) kept e).may;
  source = inl refl;
}))
store_shape store caller random (Export id room) P long cases =
    let found : Option Key = map.get store.keys id in
    answered_too store caller _ P cases (first_row (export_rows found room)) (given (bytes_of_key found)) (exported found room) (given_counts (bytes_of_key found))
store_shape store caller random (GetAttributes id) P long cases = replied store caller _ P cases _ (described (map.get store.keys id))
store_shape store caller random (Destroy id) P long cases = decided_too store caller _ P cases _ (destroyed store id) (refuses_plainly (destroy_rows (map.get store.keys id) id) refl) (λ n. cases.destroyed_too id refl)
store_shape store caller random (Purge id) P long cases = replied store caller _ P cases _ (purged (map.get store.keys id))
store_shape store caller random (Copy source stated) P long cases = copy_shape store caller _ P cases refl source stated (map.get store.keys source) refl (copy_source store source stated)
store_shape store caller random (Generate a) P long cases = drawn_too store caller _ P cases random (stated_bytes a) (generation_of store caller a) (generated_plainly store caller a)
    (λ kept e. cases.created_too kept (random (stated_bytes a)) (stated_bytes a) refl (generated_creates store caller _ P cases refl random long a kept e))
store_shape store caller random (HashCompute alg input room) P long cases =
    answered_too store caller _ P cases (first_row (hashes.compute_rows alg room)) (given (hash_of alg input)) (refuses_plainly (hashes.compute_rows alg room) refl)
    (given_counts (hash_of alg input))
store_shape store caller random (HashCompare alg input hash) P long cases =
    answered_too store caller _ P cases (first_row (hashes.compare_rows alg input hash)) done (refuses_plainly (hashes.compare_rows alg input hash) refl) (success_counts done refl (λ a. refl))
store_shape store caller random (MacCompute id alg input room) P long cases =
    let found : Option Key = map.get store.keys id in
    used store caller _ P cases (first_row (use_rows true Mac 0x400 alg found)) (first_row (macs.compute_rows alg (length input) room)) (given (mac_of alg (bytes_of_key found) input))
    (used_plainly true Mac 0x400 alg found) (refuses_plainly (macs.compute_rows alg (length input) room) refl) (given_counts (mac_of alg (bytes_of_key found) input))
store_shape store caller random (MacVerify id alg input mac) P long cases =
    let found : Option Key = map.get store.keys id in
    used store caller _ P cases (first_row (use_rows true Mac 0x800 alg found)) (first_row (macs.verify_rows alg (bytes_of_key found) input mac)) done
    (used_plainly true Mac 0x800 alg found) (refuses_plainly (macs.verify_rows alg (bytes_of_key found) input mac) refl) (success_counts done refl (λ a. refl))
store_shape store caller random (CipherEncrypt id alg input room) P long cases =
    let found : Option Key = map.get store.keys id in
    let mode : Mode = mode_of alg in
    let iv : List ℕ = random (iv_length mode) in
    let text : Computed = record { reply = given (iv ++ enciphered mode (bytes_of_key found) iv input); drawn = iv_length mode } in
    let rows : Option Status = first_row (ciphers.encrypt_rows mode (length input) room) in
    computed_too store caller _ P cases (first_row (use_rows (is_ctr mode) Cipher 0x100 alg found)) (computed_unless rows text) (used_plainly (is_ctr mode) Cipher 0x100 alg found)
    (computed_counts rows text (refuses_plainly (ciphers.encrypt_rows mode (length input) room) refl)
    (record { few = short_iv mode; undrawn = λ no. absurd (no refl); plain = refl; quiet = (given_counts (iv ++ enciphered mode (bytes_of_key found) iv input)).quiet }))
store_shape store caller random (CipherDecrypt id alg input room) P long cases =
    let found : Option Key = map.get store.keys id in
    let mode : Mode = mode_of alg in
    let n : ℕ = iv_length mode in
    let text : Option (List ℕ) = deciphered mode (bytes_of_key found) (take n input) (drop n input) in
    used store caller _ P cases (first_row (use_rows (is_ctr mode) Cipher 0x200 alg found)) (first_row (ciphers.decrypt_rows mode (length input) room)) (plain_or_zeros (length input - n) text)
    (used_plainly (is_ctr mode) Cipher 0x200 alg found) (refuses_plainly (ciphers.decrypt_rows mode (length input) room) refl) (plain_counts (length input - n) text)
store_shape store caller random (AeadEncrypt id alg nonce ad input room) P long cases =
    let found : Option Key = map.get store.keys id in
    used store caller _ P cases (first_row (use_rows false Aead 0x100 alg found)) (first_row (aeads.encrypt_rows alg (length nonce) (length ad) (length input) room))
    (given (sealed alg (bytes_of_key found) nonce ad input)) (used_plainly false Aead 0x100 alg found) (refuses_plainly (aeads.encrypt_rows alg (length nonce) (length ad) (length input) room) refl)
    (given_counts (sealed alg (bytes_of_key found) nonce ad input))
store_shape store caller random (AeadDecrypt id alg nonce ad input room) P long cases =
    let found : Option Key = map.get store.keys id in
    let n : ℕ = length input - tag_bytes alg in
    used store caller _ P cases (first_row (use_rows false Aead 0x200 alg found)) (first_row (aeads.decrypt_rows alg (length nonce) (length ad) (length input) room))
    (opened_text alg (bytes_of_key found) nonce ad (take n input) (drop n input)) (used_plainly false Aead 0x200 alg found) (refuses_plainly (aeads.decrypt_rows alg (length nonce) (length ad) (length input) room) refl)
    (opened_counts alg (bytes_of_key found) nonce ad (take n input) (drop n input))
