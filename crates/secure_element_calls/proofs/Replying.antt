-- The model's replies to calls that the element computes.
use Rattle.std.proofs.Common.{Bool, List, None, Option, Some, ap, bytes_eq, cond, drop, false, length, nat_lt, not, refl, sym, take, true, ℕ, ◌&&◌, ◌++◌, ◌-◌, ◌∙◌, ◌≡◌}
use Rattle.secure_element_calls.proofs.Common.{Computed, Ctr, CtrDecrypt, CtrEncrypt, ElementCall, InvalidArgument, InvalidSignature, Key, MacCompute, MacVerify, OnStore, Reply, Rows, Service, Status, bytes_of_key, computed_unless, computed_with, deciphered, done, element_reply, enciphered, encrypted, first_row, first_row-back, first_row-front, given, is_of_computed, is_opaque_key, mac_of, model_call, next_random, plain_or_zeros, plain_step, replies, reply_unless, rows_before, total_limit}
use Rattle.std.specs.Option.{option_and_then}
use Rattle.std.specs.FinMap as map
use Rattle.secure_element_calls.specs.Replies.{AsksDevice, RepliesAreTheModels, key_rows}

-- a refusal, or the reply that is computed
one_reply : (o : Option Status) (c : Computed) → (computed_unless o c).reply ≡ reply_unless o c.reply
one_reply None c = refl
one_reply (Some status) c = refl

-- the key that is found
abbrev found : Service → ℕ → Option Key
found service id = map.get service.store.keys id

pub replies_are : RepliesAreTheModels
replies_are service caller id room (CtrEncrypt iv input) drawn =
    one_reply (first_row (key_rows (CtrEncrypt iv input) (found service id))) (encrypted Ctr (next_random service caller 16) (bytes_of_key (found service id)) input.now room)
    ∙ ap (λ vector. reply_unless (first_row (key_rows (CtrEncrypt iv input) (found service id))) (encrypted Ctr vector (bytes_of_key (found service id)) input.now room).reply) (sym drawn)
replies_are service caller id room call drawn = one_reply (first_row (key_rows call (found service id))) (replies (element_reply call (bytes_of_key (found service id)) room))

-- no row of two tables holds
neither : (xs ys : Rows) → first_row (xs ++ ys) ≡ None → (first_row xs ≡ None) × (first_row ys ≡ None)
neither xs ys e = by_first (first_row xs) refl
  where
    by_first : (o : Option Status) → first_row xs ≡ o → (first_row xs ≡ None) × (first_row ys ≡ None)
    by_first None none = (none, sym (first_row-back xs ys none) ∙ e)
    by_first (Some status) some = let clash : Some status ≡ None = sym (first_row-front xs ys status some) ∙ e in cc

-- what only the element knows
abbrev IsOfComputed : Reply → Type 0
IsOfComputed reply = is_of_computed reply.status ≡ true

of_computed : (o : Option Status) (c : Computed) → o ≡ None → IsOfComputed c.reply → IsOfComputed (computed_unless o c).reply
of_computed None c e is = is
of_computed (Some status) c e is = cc

of_reply : (o : Option Status) (reply : Reply) → o ≡ None → IsOfComputed reply → IsOfComputed (reply_unless o reply)
of_reply None reply e is = is
of_reply (Some status) reply e is = cc

of_compared : (long differs : Bool) → cond long (Some InvalidArgument) None ≡ None →
    IsOfComputed (reply_unless (cond long (Some InvalidArgument) (cond differs (Some InvalidSignature) None)) done)
of_compared true differs e = cc
of_compared false true e = refl
of_compared false false e = refl

both : (a b : Bool) → a ≡ true → b ≡ true → (a && b) ≡ true
both true b is also = also
both false b is also = cc

of_call : (service : Service) (caller id room : ℕ) (call : ElementCall) → first_row (key_rows call (found service id)) ≡ None → first_row (rows_before call room) ≡ None →
    IsOfComputed (plain_step service caller (OnStore (model_call call id room))).reply
of_call service caller id room (MacCompute alg input) key rows =
    of_computed (first_row (key_rows (MacCompute alg input) (found service id))) (replies (element_reply (MacCompute alg input) (bytes_of_key (found service id)) room)) key
    (of_reply (first_row (rows_before (MacCompute alg input) room)) (given (mac_of alg.0 (bytes_of_key (found service id)) input.now)) rows refl)
of_call service caller id room (MacVerify alg input mac) key rows =
    of_computed (first_row (key_rows (MacVerify alg input mac) (found service id))) (replies (element_reply (MacVerify alg input mac) (bytes_of_key (found service id)) room)) key
    (of_compared (nat_lt total_limit (length input.now)) (not (bytes_eq mac.now (mac_of alg.0 (bytes_of_key (found service id)) input.now))) rows)
of_call service caller id room (CtrEncrypt iv input) key rows =
    let key_bytes : List ℕ = bytes_of_key (found service id) in
    let vector : List ℕ = next_random service caller 16 in
    of_computed (first_row (key_rows (CtrEncrypt iv input) (found service id))) (encrypted Ctr vector key_bytes input.now room) key
    (of_computed (first_row (rows_before (CtrEncrypt iv input) room)) (record { reply = given (vector ++ enciphered Ctr key_bytes vector input.now); drawn = 16 }) rows refl)
of_call service caller id room (CtrDecrypt input) key rows =
    let key_bytes : List ℕ = bytes_of_key (found service id) in
    of_computed (first_row (key_rows (CtrDecrypt input) (found service id))) (replies (element_reply (CtrDecrypt input) key_bytes room)) key
    (of_reply (first_row (rows_before (CtrDecrypt input) room)) (plain_or_zeros (length input.now - 16) (deciphered Ctr key_bytes (take 16 input.now) (drop 16 input.now))) rows refl)

computes_with : (service : Service) (id room : ℕ) (call : ElementCall) → option_and_then (map.get service.store.keys) (computed_with (model_call call id room)) ≡ found service id
computes_with service id room (MacVerify alg input mac) = refl
computes_with service id room _ = refl

pub asks : AsksDevice
asks service caller id room call opaque none =
    let rows = neither (key_rows call (found service id)) (rows_before call room) none in
    both _ _ (ap is_opaque_key (computes_with service id room call) ∙ opaque) (of_call service caller id room call rows.0 rows.1)
