-- What the one-thread service makes of a call that the secure element has computed, refused or failed at.
use Rattle.callers.proofs.Common.{AnswersCall, AnswersReply, Bool, Call, Ctr, ElementCall, Entry, Err, Failed, FaultMark, HandleOperation, Hardware, HasDrawn, InvalidSignature, IsElementAnswered, IsOfElement, IsOwnPart, IsReplied, IsSound, Key, KeyedCall, List, MatchOption, None, NotComputed, Ok, OnStore, Option, Output, Plain, Random, Refused, Reply, Request, Result, Rows, Service, Some, Status, Store, all_rows, ap, arith, asks_device, buffer_after, bytes_of_key, computed_unless, cond, counted, drawn_by, drop, element_reply, enciphered, false, first_row, first_row-back, first_row-front, given, has_vector, if◌then◌else◌, inl, inr, is_ok, is_some, key_rows, length, mark_computed, marked_reply, model_call, model_keyed_call, nat_lt, next_random, own_of, plain_step, refl, refusal, replies, reply_on, reply_unless, rows_before, serve, step, subst, sym, take, takes_vector, true, words_used, ℕ, ◌&&◌, ◌++◌, ◌+◌, ◌∙◌, ◌≡◌, ◌≤◌, ◌⊎◌}
use Rattle.std.specs.FinMap as map
use Rattle.std.specs.Prelude.{◌||◌, ◌-◌}
use Rattle.std.proofs.{lemmas.Bool.Decides.nat_tests, lemmas.List.length-take-le, lemmas.List.take-append-drop}
use Rattle.service_calls.specs.Answers.{GivesBytes}
use Rattle.store_model.specs.Prelude.{MayBeMarked, done, tag_bytes}
use Rattle.callers.specs.Called.{GivesSome, MayCompute}
use Rattle.secure_element_calls.specs.{Calls.needed_by, declared.calls.ElementCall.TheVariants.MacCompute, declared.calls.ElementCall.TheVariants.MacVerify, declared.calls.ElementCall.TheVariants.CtrEncrypt, declared.calls.ElementCall.TheVariants.CtrDecrypt}
use Rattle.driver_dispatch.specs.Held.{HeldKeys}
use Rattle.secure_element_calls.proofs.{Answering.filled, Answering.refused_before, Replying.asks, Replying.replies_are}
use Rattle.callers.proofs.Owned.{failed_own, stored_own}

-- WHAT IS DRAWN

abbrev either_row : Option Status → Option Status → Option Status
either_row None p = p
either_row (Some status) p = Some status

first_of : (xs ys : Rows) → first_row (xs ++ ys) ≡ either_row (first_row xs) (first_row ys)
first_of xs ys = by (first_row xs) refl
  where
    by : (o : Option Status) → first_row xs ≡ o → first_row (xs ++ ys) ≡ either_row (first_row xs) (first_row ys)
    by None none = first_row-back xs ys none ∙ sym (ap (λ o. either_row o (first_row ys)) none)
    by (Some status) some = first_row-front xs ys status some ∙ sym (ap (λ o. either_row o (first_row ys)) some)

abbrev drawn_where : Bool → ℕ
drawn_where b = if b then 16 else 0

none_drawn : (o : Option Status) (reply : Reply) → (computed_unless o (replies reply)).drawn ≡ 0
none_drawn None reply = refl
none_drawn (Some status) reply = refl

no_vector : (result : Result ℕ NotComputed) → 0 ≡ drawn_where (is_ok result && false)
no_vector (Ok n) = refl
no_vector (Err why) = refl

abbrev IsCtr : ElementCall → Type 0
IsCtr (CtrEncrypt iv input) = Unit {0}
IsCtr _ = ⊥

-- a vector is drawn, where no row refuses
vector_drawn : (o p : Option Status) (bytes : List ℕ) (result : Result ℕ NotComputed) (call : ElementCall) → IsCtr call → MatchOption (either_row o p) (IsOfElement call result) (λ status. result ≡ Err (Refused status)) →
    (result ≡ Err Failed → ⊥) → (computed_unless o (computed_unless p (record { reply = given bytes; drawn = 16 }))).drawn ≡ drawn_where (is_ok result && true)
vector_drawn None None bytes (Ok n) call ctr decided works = refl
vector_drawn None None bytes (Err Failed) call ctr decided works = absurd (works refl)
vector_drawn None None bytes (Err (Refused status)) (CtrEncrypt iv input) ctr decided works = absurd decided
vector_drawn None None bytes (Err (Refused status)) (MacCompute alg input) ctr decided works = absurd ctr
vector_drawn None None bytes (Err (Refused status)) (MacVerify alg input mac) ctr decided works = absurd ctr
vector_drawn None None bytes (Err (Refused status)) (CtrDecrypt input) ctr decided works = absurd ctr
vector_drawn None (Some status) bytes result call ctr decided works = ap (λ (r : Result ℕ NotComputed). drawn_where (is_ok r && true)) (sym decided)
vector_drawn (Some status) p bytes result call ctr decided works = ap (λ (r : Result ℕ NotComputed). drawn_where (is_ok r && true)) (sym decided)

module _ (store : Store) (caller : ℕ) (random : Random) (id room : ℕ) (result : Result ℕ NotComputed) (works : result ≡ Err Failed → ⊥) where
  abbrev found : Option Key
  found = map.get store.keys id

  element_drawn : (call : ElementCall) → MatchOption (first_row (all_rows call room found)) (IsOfElement call result) (λ status. result ≡ Err (Refused status)) →
      (step store caller random (model_call call id room)).drawn ≡ drawn_where (is_ok result && has_vector call)
  element_drawn (MacCompute alg input) decided = none_drawn (first_row (key_rows (MacCompute alg input) found)) (element_reply (MacCompute alg input) (bytes_of_key found) room) ∙ no_vector result
  element_drawn (MacVerify alg input mac) decided = none_drawn (first_row (key_rows (MacVerify alg input mac) found)) (element_reply (MacVerify alg input mac) (bytes_of_key found) room) ∙ no_vector result
  element_drawn (CtrDecrypt input) decided = none_drawn (first_row (key_rows (CtrDecrypt input) found)) (element_reply (CtrDecrypt input) (bytes_of_key found) room) ∙ no_vector result
  element_drawn (CtrEncrypt iv input) decided =
      vector_drawn (first_row (key_rows (CtrEncrypt iv input) found)) (first_row (rows_before (CtrEncrypt iv input) room)) (random 16 ++ enciphered Ctr (bytes_of_key found) (random 16) input.now) result (CtrEncrypt iv input) tt
      (subst (λ o. MatchOption o (IsOfElement (CtrEncrypt iv input) result) (λ status. result ≡ Err (Refused status))) (first_of (key_rows (CtrEncrypt iv input) found) (rows_before (CtrEncrypt iv input) room)) decided) works

-- WHAT A DEVICE MAY HAVE COMPUTED

-- no row of two tables holds
rows_none : (o p : Option Status) → either_row o p ≡ None → p ≡ None
rows_none None p e = e
rows_none (Some status) p e = cc

-- the output buffer has room for what is computed
second_row : (b c : Bool) (s t : Status) → cond b (Some s) (cond c (Some t) None) ≡ None → c ≡ false
second_row true c s t e = cc
second_row false true s t e = cc
second_row false false s t e = refl

not_below : (room n : ℕ) → nat_lt room n ≡ false → n ≤ room
not_below room n e = grind (arith, nat_tests)

has_room : (call : ElementCall) (room : ℕ) → first_row (rows_before call room) ≡ None → needed_by call ≤ room
has_room (MacCompute alg input) room none = not_below room _ (second_row _ (nat_lt room (tag_bytes alg.0)) _ _ none)
has_room (MacVerify alg input mac) room none = omega arith
has_room (CtrEncrypt iv input) room none = not_below room _ (second_row _ (nat_lt room (16 + length input.now)) _ _ none)
has_room (CtrDecrypt input) room none = not_below room _ (second_row _ (nat_lt room (length input.now - 16)) _ _ none)

-- whatever stands at the front of a buffer whose rest is as it was is given
front_given : (n : ℕ) (old new : List ℕ) → n ≤ length new → drop n new ≡ drop n old → new ≡ buffer_after old (given (take n new))
front_given n old new room rest =
    let long : length (take n new) ≡ n = length-take-le n new room in
    sym (take-append-drop n new) ∙ (ap (λ l. take n new ++ l) rest ∙ (ap (λ k. take n new ++ drop k old) (sym long) ∙ filled (take n new) old (length (take n new)) refl))

abbrev IsComputed : ElementCall → (id : ℕ) → (old new : List ℕ) → Result ℕ NotComputed → Type 0
IsComputed call id old new result = (reply : Reply) × MayCompute (OnStore (model_call call id (length old))) reply × AnswersCall call result reply × (new ≡ buffer_after old reply)

bytes_given : (n : ℕ) (old new : List ℕ) → n ≤ length new → drop n new ≡ drop n old → (reply : Reply) × GivesSome n reply × GivesBytes n reply × (new ≡ buffer_after old reply)
bytes_given n old new room rest =
    let long : length (take n new) ≡ n = length-take-le n new room in (given (take n new), (take n new, long, refl), (refl, sym long, refl), front_given n old new room rest)

of_element : (call : ElementCall) (id : ℕ) (old new : List ℕ) (result : Result ℕ NotComputed) → length new ≡ length old → first_row (rows_before call (length old)) ≡ None → IsOfElement call result →
    ((status : Status) → result ≡ Err (Refused status) → new ≡ old) → drop (needed_by call) new ≡ drop (needed_by call) old → (result ≡ Err Failed → ⊥) → IsComputed call id old new result
of_element (MacVerify alg input mac) id old new (Ok n) size none is kept rest works = (done, inl refl, (is, refl), rest)
of_element (MacVerify alg input mac) id old new (Err (Refused status)) size none is kept rest works = (refusal InvalidSignature, inr refl, (sym is, refl), kept status refl)
of_element (MacCompute alg input) id old new (Ok n) size none is kept rest works =
    let room = has_room (MacCompute alg input) (length old) none in subst (λ k. IsComputed (MacCompute alg input) id old new (Ok k)) (sym is) (bytes_given _ old new (omega arith) rest)
of_element (CtrEncrypt iv input) id old new (Ok n) size none is kept rest works =
    let room = has_room (CtrEncrypt iv input) (length old) none in subst (λ k. IsComputed (CtrEncrypt iv input) id old new (Ok k)) (sym is) (bytes_given _ old new (omega arith) rest)
of_element (CtrDecrypt input) id old new (Ok n) size none is kept rest works =
    let room = has_room (CtrDecrypt input) (length old) none in subst (λ k. IsComputed (CtrDecrypt input) id old new (Ok k)) (sym is) (bytes_given _ old new (omega arith) rest)
of_element (MacCompute alg input) id old new (Err (Refused status)) size none is kept rest works = absurd is
of_element (CtrEncrypt iv input) id old new (Err (Refused status)) size none is kept rest works = absurd is
of_element (CtrDecrypt input) id old new (Err (Refused status)) size none is kept rest works = absurd is
of_element call id old new (Err Failed) size none is kept rest works = absurd (works refl)

-- a reply to an entry, by its caller, its request and its mark
abbrev pub MayReplyTo : Option HeldKeys → Service → ℕ → Request → FaultMark → Reply → Type 0
MayReplyTo held service caller request mark reply =
    (reply ≡ (serve service caller request mark).reply) ⊎ ((is_some held ≡ false) × (mark ≡ Plain) × (asks_device service caller request ≡ true) × MayCompute request reply)

pub may_reply : (held : Option HeldKeys) (service : Service) (e : Entry) (caller : ℕ) (request : Request) (mark : FaultMark) (reply : Reply) → e.caller ≡ caller → e.call ≡ request → e.mark ≡ mark →
    MayReplyTo held service caller request mark reply → MayReplyTo held service e.caller e.call e.mark reply
may_reply held service e caller request mark reply by called marked may =
    subst (λ n. MayReplyTo held service n e.call e.mark reply) (sym by)
    (subst (λ q. MayReplyTo held service caller q e.mark reply) (sym called) (subst (λ m. MayReplyTo held service caller request m reply) (sym marked) may))

-- THE ANSWER

module _ (service : Service) (caller id : ℕ) (asked : KeyedCall) (element : ElementCall) (held : Option HeldKeys) (old new : List ℕ) (result : Result ℕ NotComputed)
    (model : model_keyed_call asked id (length old) ≡ model_call element id (length old)) (a : IsElementAnswered held id element old new result (counted service.store)) where
  abbrev here : Option Key
  here = map.get service.store.keys id

  abbrev call : Call
  call = model_keyed_call asked id (length old)

  -- a row refuses before the element is asked
  refused_on : (status : Status) → first_row (all_rows element (length old) here) ≡ Some status → reply_on element (length old) here ≡ refusal status
  refused_on status row = by (first_row (key_rows element here)) refl
    where
      by : (o : Option Status) → first_row (key_rows element here) ≡ o → reply_on element (length old) here ≡ refusal status
      by None none =
          ap (λ o. reply_unless o (element_reply element (bytes_of_key here) (length old))) none
          ∙ refused_before element (bytes_of_key here) (length old) status (sym (first_row-back (key_rows element here) (rows_before element (length old)) none) ∙ row)
      by (Some first) some =
          let is : Some first ≡ Some status = sym (first_row-front (key_rows element here) (rows_before element (length old)) first some) ∙ row in
          let same : first ≡ status = cc in
          ap (λ o. reply_unless o (element_reply element (bytes_of_key here) (length old))) some ∙ ap refusal same

  -- the mark stands where the element failed
  failed_marked : (r : Result ℕ NotComputed) → result ≡ r → MayBeMarked service caller (OnStore call) (mark_computed r)
  failed_marked (Ok n) is = tt
  failed_marked (Err (Refused status)) is = tt
  failed_marked (Err Failed) is =
      either _ _ (ap (λ c. asks_device service caller (OnStore c)) model ∙ asks service caller id (length old) element a.opaque (unrefused (first_row (all_rows element (length old) here)) a.decided))
    where
      either : (b c : Bool) → c ≡ true → (b || c) ≡ true
      either true c e = refl
      either false c e = e

      unrefused : (o : Option Status) → MatchOption o (IsOfElement element result) (λ status. result ≡ Err (Refused status)) → o ≡ None
      unrefused None decided = refl
      unrefused (Some status) decided = let clash : Err Failed ≡ Err (Refused status) = sym is ∙ decided in cc

  pub element_marked : MayBeMarked service caller (OnStore call) (mark_computed result)
  element_marked = failed_marked result refl

  abbrev Fits : Result Output Status → Type 0
  Fits answer = (reply : Reply) × MayReplyTo held service caller (OnStore call) (mark_computed result) reply × IsReplied answer old new reply

  module _ (vector : HasDrawn element (next_random service caller 16)) where
    plain : (plain_step service caller (OnStore call)).reply ≡ reply_on element (length old) here
    plain = ap (λ c. (plain_step service caller (OnStore c)).reply) model ∙ replies_are service caller id (length old) element vector

    marked : (r : Result ℕ NotComputed) → (serve service caller (OnStore call) (mark_computed r)).reply ≡ marked_reply (mark_computed r) (reply_on element (length old) here)
    marked (Ok n) = plain
    marked (Err (Refused status)) = plain
    marked (Err Failed) = ap (marked_reply Hardware) plain

    exactly : (answer : Result Output Status) → IsReplied answer old new (serve service caller (OnStore call) (mark_computed result)).reply → Fits answer
    exactly answer replied = ((serve service caller (OnStore call) (mark_computed result)).reply, inl refl, replied)

    -- where the device's keys are told, and where a row refuses or the device failed, it replies as the service does
    pub element_fits : length new ≡ length old → (answer : Result Output Status) → ((reply : Reply) → AnswersCall element result reply → AnswersReply answer reply) → Fits answer
    element_fits size answer answers = by_told (is_some held) refl
      where
        replied : (r : Result ℕ NotComputed) → result ≡ r → AnswersCall element r (serve service caller (OnStore call) (mark_computed r)).reply → new ≡ buffer_after old (serve service caller (OnStore call) (mark_computed r)).reply → Fits answer
        replied r is answered left = exactly answer
            (subst (λ x. IsReplied answer old new (serve service caller (OnStore call) (mark_computed x)).reply) (sym is) (answers _ (subst (λ x. AnswersCall element x (serve service caller (OnStore call) (mark_computed r)).reply) (sym is) answered), left))

        refuses : (status : Status) → first_row (all_rows element (length old) here) ≡ Some status → result ≡ Err (Refused status) → Fits answer
        refuses status row is =
            let reply : refusal status ≡ (serve service caller (OnStore call) Plain).reply = sym (plain ∙ refused_on status row) in
            replied (Err (Refused status)) is (subst (AnswersCall element (Err (Refused status))) reply (refl, refl)) (a.kept status is ∙ ap (buffer_after old) reply)

        silent : is_some held ≡ false → first_row (all_rows element (length old) here) ≡ None → (r : Result ℕ NotComputed) → result ≡ r → mark_computed result ≡ Plain → IsOfElement element r → ((status : Status) → r ≡ Err (Refused status) → new ≡ old) → (r ≡ Err Failed → ⊥) → Fits answer
        silent untold none r is plainly of kept works =
            let given = of_element element id old new r size (rows_none (first_row (key_rows element here)) (first_row (rows_before element (length old))) (sym (first_of (key_rows element here) (rows_before element (length old))) ∙ none)) of kept a.rest works in (
              given.0,
              inr (untold, plainly, ap (λ c. asks_device service caller (OnStore c)) model ∙ asks service caller id (length old) element a.opaque none, subst (λ c. MayCompute (OnStore c) given.0) (sym model) given.1),
              (answers given.0 (subst (λ x. AnswersCall element x given.0) (sym is) given.2), given.3),
            )

        by_row : is_some held ≡ false → (o : Option Status) → first_row (all_rows element (length old) here) ≡ o → MatchOption o (IsOfElement element result) (λ status. result ≡ Err (Refused status)) → Fits answer
        by_row untold (Some status) row is = refuses status row is
        by_row untold None none of = by_result result refl
          where
            by_result : (r : Result ℕ NotComputed) → result ≡ r → Fits answer
            by_result (Ok n) is = silent untold none (Ok n) is (ap mark_computed is) (subst (IsOfElement element) is of) (λ status e. cc) (λ e. cc)
            by_result (Err (Refused status)) is = silent untold none (Err (Refused status)) is (ap mark_computed is) (subst (IsOfElement element) is of) (λ other e. a.kept status is) (λ e. cc)
            by_result (Err Failed) is =
                let reply : marked_reply Hardware (reply_on element (length old) here) ≡ (serve service caller (OnStore call) Hardware).reply = sym (marked (Err Failed)) in
                replied (Err Failed) is (subst (AnswersCall element (Err Failed)) reply (refl, refl))
                (a.spoilt is ∙ (ap (λ x. buffer_after old (marked_reply (mark_computed x) (reply_on element (length old) here))) is ∙ ap (buffer_after old) reply))

        by_told : (b : Bool) → is_some held ≡ b → Fits answer
        by_told true tells = exactly answer (subst (IsReplied answer old new) (sym (marked result)) (answers _ (a.reply tells), a.buffer tells))
        by_told false untold = by_row untold (first_row (all_rows element (length old) here)) refl a.decided

  -- words are drawn where it succeeds
  pub element_own : has_vector element ≡ takes_vector asked → (operations : List HandleOperation) (place next : ℕ) → IsSound service → caller ≤ 16 → IsOwnPart operations place (own_of service caller) →
      next ≡ place + words_used (drawn_by asked (is_ok result)) → IsOwnPart operations next (own_of (serve service caller (OnStore call) (mark_computed result)).service caller)
  element_own draws operations place next sound last own more = by result refl
    where
      stepped : (result ≡ Err Failed → ⊥) → (step service.store caller (next_random service caller) call).drawn ≡ drawn_by asked (is_ok result)
      stepped works =
          ap (λ c. (step service.store caller (next_random service caller) c).drawn) model
          ∙ (element_drawn service.store caller (next_random service caller) id (length old) result works element a.decided
          ∙ ap (λ b. drawn_where (is_ok result && b)) draws)

      served : (result ≡ Err Failed → ⊥) → IsOwnPart operations next (own_of (plain_step service caller (OnStore call)).service caller)
      served works =
          stored_own service caller (step service.store caller (next_random service caller) call) operations place next sound last own (let a = ap words_used (stepped works) in omega arith)

      by : (r : Result ℕ NotComputed) → result ≡ r → IsOwnPart operations next (own_of (serve service caller (OnStore call) (mark_computed r)).service caller)
      by (Ok n) is = served (λ failed. let clash : Ok n ≡ Err Failed = sym is ∙ failed in cc)
      by (Err (Refused status)) is = served (λ failed. let clash : Err (Refused status) ≡ Err Failed = sym is ∙ failed in cc)
      by (Err Failed) is =
          let none : place ≡ next = let a = ap (λ (r : Result ℕ NotComputed). words_used (drawn_by asked (is_ok r))) is in omega arith in
          subst (IsOwnPart operations next) (sym (failed_own service caller call)) (subst (λ n. IsOwnPart operations n (own_of service caller)) none own)
