-- What a step of a family makes of a handle's operation.
use Rattle.std.proofs.Common.{Bool, List, None, Option, Some, [], ap, arith, bytes_eq, cond, false, length, not, refl, sym, true, ℕ, ◌++◌, ◌∷◌, ◌≡◌, ◌≤◌}
use Rattle.store_model.proofs.Common.{Active, AeadFinish, AeadGenerateNonce, AeadSetLengths, AeadSetNonce, AeadStep, AeadUpdate, AeadUpdateAd, AeadVerify, AeadWork, After, Authenticating, CipherFinish, CipherGenerateIv, CipherSetIv, CipherStep, CipherUpdate, CipherWork, Ciphering, DerivationWork, Deriving, HandleCall, HandleOperation, HashFinish, HashStep, HashUpdate, HashVerify, HashWork, Hashing, Held, InError, InvalidHandle, InvalidPadding, InvalidSignature, IsSoundOperation, IsSoundStore, IsSoundWork, KeyCreation, MacSignFinish, MacStep, MacUpdate, MacVerifyFinish, MacWork, OnAead, OnCipher, OnHash, OnMac, Reply, Sealing, Status, Store, Success, Work, aead_step, aead_update_rows, cipher_finish_rows, cipher_step, cipher_update_rows, done, ends, fails, generate_iv_rows, generate_nonce_rows, given, goes_on, hash_length_of, hash_of, hash_step, held_after, is_of_fault, last_length, last_part, left_by, mac_step, mode_of, nonce_length, room_rows, set_iv_rows, set_lengths_rows, set_nonce_rows, sign_rows, tag_bytes, total_rows, unless_failed, update_ad_rows, verify_rows, whole_rows, whole_text, with_live_key, work_tag}
use Rattle.store_model.proofs.{Buffers.LeavesBuffer, Buffers.refusal_leaves, Buffers.spoiled_leaves, Tables.NoFault, Tables.RefusesPlainly, Tables.refuses_plainly, StoreShape.MakesNone}

-- what a call on a handle makes of its operation, where it creates no key
pub record IsStep (call : HandleCall) (store : Store) (before : HandleOperation) (after : After Held) : Type 0 where
  pub few : after.drawn ≤ 16
  pub undrawn : (after.reply.status ≡ Success → ⊥) → after.drawn ≡ 0
  pub plain : NoFault after.reply.status
  pub left : (after.reply.status ≡ Success → ⊥) → after.operation ≡ left_by call before after.reply.status
  pub no_key : MakesNone after.reply
  pub buffer : LeavesBuffer after.reply
  pub sound : IsSoundStore store → IsSoundOperation store before → IsSoundOperation store after.operation

-- an operation of a family
abbrev pub begun : {W : Type 0} → Option KeyCreation → (W → Work) → W → HandleOperation
begun key embed work = Active (record { key = key; work = embed work })

abbrev pub held_derivation : Option KeyCreation → DerivationWork → HandleOperation
held_derivation key work = begun key Deriving work

-- a call whose refusal with this status puts the operation in error
abbrev pub Loses : HandleCall → HandleOperation → Status → Type 0
Loses call before status = left_by call before status ≡ InError

module _ {W : Type 0} {call : HandleCall} (store : Store) (key : Option KeyCreation) (embed : W → Work) where
  pub fails_step : (before : HandleOperation) (status : Status) → NoFault status → Loses call before status → IsStep call store before (held_after key embed (fails status))
  fails_step before status plain lost = record {
    few = omega arith;
    undrawn = λ no. refl;
    plain = plain;
    left = λ no. sym lost;
    no_key = λ after. refl;
    buffer = refusal_leaves status;
    sound = λ s h. tt;
  }

  pub unless_step : (before : HandleOperation) (o : Option Status) (after : After W) → RefusesPlainly o → ((status : Status) → o ≡ Some status → Loses call before status) →
      (o ≡ None → IsStep call store before (held_after key embed after)) → IsStep call store before (held_after key embed (unless_failed o after))
  unless_step before None after plain lost h = h refl
  unless_step before (Some status) after plain lost h = fails_step before status (plain status refl) (lost status refl)

  pub alive_step : (before : HandleOperation) (b : Bool) (after : After W) → Loses call before InvalidHandle → IsStep call store before (held_after key embed after) →
      IsStep call store before (held_after key embed (with_live_key b after))
  alive_step before true after lost h = h
  alive_step before false after lost h = fails_step before InvalidHandle refl lost

  -- a success with which the operation goes on
  pub draws_step : (w next : W) (reply : Reply) (n : ℕ) → n ≤ 16 → reply.status ≡ Success → MakesNone reply → (IsSoundWork (embed w) → IsSoundWork (embed next)) →
      IsStep call store (begun key embed w) (held_after key embed (record { operation = Active next; reply = reply; drawn = n }))
  draws_step w next reply n few success none sound = record {
    few = few;
    undrawn = λ no. absurd (no success);
    plain = ap is_of_fault success;
    left = λ no. absurd (no success);
    no_key = none;
    buffer = λ no. absurd (no success);
    sound = λ s h. record { key = h.key; work = sound h.work };
  }

  pub goes_step : (w next : W) (reply : Reply) → reply.status ≡ Success → MakesNone reply → (IsSoundWork (embed w) → IsSoundWork (embed next)) →
      IsStep call store (begun key embed w) (held_after key embed (goes_on next reply))
  goes_step w next reply success none sound = draws_step w next reply 0 (omega arith) success none sound

  -- a success with which it ends
  pub ends_step : (before : HandleOperation) (reply : Reply) → reply.status ≡ Success → MakesNone reply → IsStep call store before (held_after key embed (ends reply))
  ends_step before reply success none = record {
    few = omega arith;
    undrawn = λ no. absurd (no success);
    plain = ap is_of_fault success;
    left = λ no. absurd (no success);
    no_key = none;
    buffer = λ no. absurd (no success);
    sound = λ s h. tt;
  }

short_nonce : (a b c : Bool) → cond a 12 (cond b 13 (cond c 12 11)) ≤ 16
short_nonce a b c = grind arith

module _ (store : Store) (key : Option KeyCreation) where
  pub hash_is_step : (w : HashWork) (step : HashStep) → IsStep (OnHash step) store (begun key Hashing w) (held_after key Hashing (hash_step w step))
  hash_is_step w (HashUpdate input) = unless_step store key Hashing _ _ _ (refuses_plainly (total_rows (length w.message) (length input)) refl) (λ status refused. refl) (λ e. goes_step store key Hashing w _ done refl (λ a. refl) (λ h. tt))
  hash_is_step w (HashFinish room) = unless_step store key Hashing _ _ _ (refuses_plainly (room_rows (hash_length_of w.alg) room) refl) (λ status refused. refl) (λ e. ends_step store key Hashing _ (given _) refl (λ a. refl))
  hash_is_step w (HashVerify hash) = unless_step store key Hashing _ _ _ (refuses_plainly ((not (bytes_eq hash (hash_of w.alg w.message)), InvalidSignature) ∷ []) refl) (λ status refused. refl) (λ e. ends_step store key Hashing _ done refl (λ a. refl))

  pub mac_is_step : (w : MacWork) (step : MacStep) → IsStep (OnMac step) store (begun key Authenticating w) (held_after key Authenticating (mac_step w step))
  mac_is_step w (MacUpdate input) = unless_step store key Authenticating _ _ _ (refuses_plainly (total_rows (length w.message) (length input)) refl) (λ status refused. refl) (λ e. goes_step store key Authenticating w _ done refl (λ a. refl) (λ h. tt))
  mac_is_step w (MacSignFinish room) = unless_step store key Authenticating _ _ _ (refuses_plainly (sign_rows w room) refl) (λ status refused. refl) (λ e. ends_step store key Authenticating _ (given _) refl (λ a. refl))
  mac_is_step w (MacVerifyFinish mac) = unless_step store key Authenticating _ _ _ (refuses_plainly (verify_rows w mac) refl) (λ status refused. refl) (λ e. ends_step store key Authenticating _ done refl (λ a. refl))

  last_is_step : (w : CipherWork) (room : ℕ) (o : Option (List ℕ)) → IsStep (OnCipher (CipherFinish room)) store (begun key Ciphering w) (held_after key Ciphering (last_part w o))
  last_is_step w room (Some text) = ends_step store key Ciphering _ _ refl (λ a. refl)
  last_is_step w room None = record {
    few = omega arith;
    undrawn = λ no. refl;
    plain = refl;
    left = λ no. refl;
    no_key = λ a. refl;
    buffer = spoiled_leaves InvalidPadding (last_length (mode_of w.alg)) refl;
    sound = λ s h. tt;
  }

  pub cipher_is_step : (random : List ℕ) (w : CipherWork) (step : CipherStep) → IsStep (OnCipher step) store (begun key Ciphering w) (held_after key Ciphering (cipher_step random w step))
  cipher_is_step random w (CipherGenerateIv room) =
      unless_step store key Ciphering _ _ _ (refuses_plainly (generate_iv_rows w room) refl) (λ status refused. refl) (λ e. draws_step store key Ciphering w _ (given random) 16 (omega arith) refl (λ a. refl) (λ h. tt))
  cipher_is_step random w (CipherSetIv iv) = unless_step store key Ciphering _ _ _ (refuses_plainly (set_iv_rows w iv) refl) (λ status refused. refl) (λ e. goes_step store key Ciphering w _ done refl (λ a. refl) (λ h. tt))
  cipher_is_step random w (CipherUpdate input room) = unless_step store key Ciphering _ _ _ (refuses_plainly (cipher_update_rows w input room) refl) (λ status refused. refl) (λ e. goes_step store key Ciphering w _ (given _) refl (λ a. refl) (λ h. tt))
  cipher_is_step random w (CipherFinish room) = unless_step store key Ciphering _ _ _ (refuses_plainly (cipher_finish_rows w room) refl) (λ status refused. refl) (λ e. last_is_step w room (whole_text w))

  pub aead_is_step : (random : List ℕ) (w : AeadWork) (step : AeadStep) → IsStep (OnAead step) store (begun key Sealing w) (held_after key Sealing (aead_step random w step))
  aead_is_step random w (AeadGenerateNonce room) =
      unless_step store key Sealing _ _ _ (refuses_plainly (generate_nonce_rows w room) refl) (λ status refused. refl) (λ e. draws_step store key Sealing w _ (given _) (nonce_length w) (short_nonce _ _ _) refl (λ a. refl) (λ h. tt))
  aead_is_step random w (AeadSetNonce nonce) = unless_step store key Sealing _ _ _ (refuses_plainly (set_nonce_rows w nonce) refl) (λ status refused. refl) (λ e. goes_step store key Sealing w _ done refl (λ a. refl) (λ h. tt))
  aead_is_step random w (AeadSetLengths ad payload) = unless_step store key Sealing _ _ _ (refuses_plainly (set_lengths_rows w ad payload) refl) (λ status refused. refl) (λ e. goes_step store key Sealing w _ done refl (λ a. refl) (λ h. tt))
  aead_is_step random w (AeadUpdateAd input) = unless_step store key Sealing _ _ _ (refuses_plainly (update_ad_rows w input) refl) (λ status refused. refl) (λ e. goes_step store key Sealing w _ done refl (λ a. refl) (λ h. tt))
  aead_is_step random w (AeadUpdate input room) = unless_step store key Sealing _ _ _ (refuses_plainly (aead_update_rows w input room) refl) (λ status refused. refl) (λ e. goes_step store key Sealing w _ (given _) refl (λ a. refl) (λ h. tt))
  aead_is_step random w (AeadFinish room) = unless_step store key Sealing _ _ _ (refuses_plainly (whole_rows w w.encrypts ++ room_rows (tag_bytes w.alg) room) refl) (λ status refused. refl) (λ e. ends_step store key Sealing _ (given _) refl (λ a. refl))
  aead_is_step random w (AeadVerify tag) = unless_step store key Sealing _ _ _ (refuses_plainly (whole_rows w (not w.encrypts) ++ (not (bytes_eq tag (work_tag w)), InvalidSignature) ∷ []) refl) (λ status refused. refl) (λ e. ends_step store key Sealing _ done refl (λ a. refl))
