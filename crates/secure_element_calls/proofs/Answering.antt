-- What the model replies to a call, and what its answer is.
use Rattle.std.proofs.Common.{Bool, Err, List, MatchOption, None, Ok, Option, Result, Some, [], ap, ap₂, arith, cond, drop, false, if◌then◌else◌, length, not, refl, replicate, subst, sym, true, ℕ, ◌++◌, ◌-◌, ◌∙◌, ◌≡◌}
use Rattle.secure_element_calls.proofs.Common.{agrees_by, append-nil, buffer_after, Bytes, Compares, Computed, computed_unless, CtrDecrypt, CtrEncrypt, done, drop_at, element_reply, ElementCall, first_row, given, given_by, HardwareFailure, HeldKey, HeldKeys, HoldsHandle, InvalidArgument, InvalidSignature, length-replicate, MacCompute, MacVerify, needed_by, nil_from_length, refusal, Reply, reply_unless, rows_before, spoiled, Status, Success, unless, unless-ok}
use Rattle.secure_element_calls.specs.{declared.calls.NotComputed.NotComputed, declared.calls.NotComputed.TheVariants.Refused, declared.calls.NotComputed.TheVariants.Failed, Answers.AnswersCall, Answers.IsComputed, Answers.IsOfElement, Answers.reply_to}
use Rattle.secure_element_calls.proofs.Holding.{holds_as, holds_both}

-- one row, or two, of which the second compares a MAC
row_first : (b : Bool) (s t : Status) (o : Option Status) → cond b (Some s) None ≡ Some t → cond b (Some s) o ≡ Some t
row_first true s t o e = e
row_first false s t o e = cc

row_second : (b : Bool) (s : Status) (o : Option Status) → cond b (Some s) None ≡ None → cond b (Some s) o ≡ o
row_second true s o e = cc
row_second false s o e = refl

replied : (o p : Option Status) (reply : Reply) → o ≡ p → reply_unless o reply ≡ reply_unless p reply
replied o p reply e = ap (λ q. reply_unless q reply) e

computed : (o p : Option Status) (c : Computed) → o ≡ p → (computed_unless o c).reply ≡ (computed_unless p c).reply
computed o p c e = ap (λ q. (computed_unless q c).reply) e

-- a refusal before the element is asked is the model's reply
pub refused_before : (call : ElementCall) (key : List ℕ) (room : ℕ) (status : Status) → first_row (rows_before call room) ≡ Some status → element_reply call key room ≡ refusal status
refused_before (MacVerify alg input mac) key room status e = replied _ (Some status) _ (row_first _ _ status _ e)
refused_before (CtrEncrypt iv input) key room status e = computed _ (Some status) _ e
refused_before _ key room status e = replied _ (Some status) _ e

-- what the model replies where none refuses
abbrev pub reply_given : ElementCall → (key : List ℕ) → Reply
reply_given (MacVerify alg input mac) key = if agrees_by (MacVerify alg input mac) key then done else refusal InvalidSignature
reply_given call key = record { status = Success; output = Bytes (given_by call key); needed = needed_by call }

compared : (b : Bool) → reply_unless (cond (not b) (Some InvalidSignature) None) done ≡ (if b then done else refusal InvalidSignature)
compared true = refl
compared false = refl

as_long : (bytes : List ℕ) (n : ℕ) → length bytes ≡ n → given bytes ≡ record { status = Success; output = Bytes bytes; needed = n }
as_long bytes n e i = record { status = Success; output = Bytes bytes; needed = e i }

pub passed_before : (call : ElementCall) (key : List ℕ) (room : ℕ) → first_row (rows_before call room) ≡ None → length (given_by call key) ≡ needed_by call →
    element_reply call key room ≡ reply_given call key
passed_before (MacVerify alg input mac) key room e long =
    ap (λ o. reply_unless o done) (row_second _ InvalidArgument (cond (not (agrees_by (MacVerify alg input mac) key)) (Some InvalidSignature) None) e)
    ∙ compared (agrees_by (MacVerify alg input mac) key)
passed_before (CtrEncrypt iv input) key room e long = computed _ None _ e ∙ as_long _ _ long
passed_before (MacCompute alg input) key room e long = replied _ None _ e ∙ as_long _ _ long
passed_before (CtrDecrypt input) key room e long = replied _ None _ e

by_reply : (held : Option HeldKeys) (handle : ℕ) (call : ElementCall) (old new : List ℕ) (result : Result ℕ NotComputed) (P : HeldKey → Type 0) →
    HoldsHandle held handle P → MatchOption (first_row (rows_before call (length old))) (IsOfElement call result) (λ status. result ≡ Err (Refused status)) →
    ((key : HeldKey) → P key → AnswersCall call result (reply_to call result key.bytes (length old)) × (new ≡ buffer_after old (reply_to call result key.bytes (length old)))) →
    ((key : List ℕ) → result ≡ Err Failed → new ≡ buffer_after old (reply_to call result key (length old))) →
    ((status : Status) → result ≡ Err (Refused status) → new ≡ old) → drop (needed_by call) new ≡ drop (needed_by call) old → IsComputed held handle call old new result
by_reply held handle call old new result P p decided answer spoilt kept rest = record {
  decided = decided;
  reply = holds_as held handle P _ p (λ key k. (answer key k).0);
  buffer = holds_as held handle P _ p (λ key k. (answer key k).1);
  spoilt = spoilt;
  kept = kept;
  rest = rest;
}

decided : (o p : Option Status) (P : Type 0) (result : Result ℕ NotComputed) → o ≡ p → MatchOption p P (λ status. result ≡ Err (Refused status)) → MatchOption o P (λ status. result ≡ Err (Refused status))
decided o p P result e r = subst (λ o. MatchOption o P (λ status. result ≡ Err (Refused status))) (sym e) r

-- a call that is refused before
pub refused : (held : Option HeldKeys) (handle : ℕ) (call : ElementCall) (old : List ℕ) (status : Status) (P : HeldKey → Type 0) → HoldsHandle held handle P →
    first_row (rows_before call (length old)) ≡ Some status → IsComputed held handle call old old (Err (Refused status))
refused held handle call old status P p e =
    by_reply held handle call old old (Err (Refused status)) P p (decided _ (Some status) _ _ e refl)
    (λ key k.
    let same : refusal status ≡ reply_to call (Err (Refused status)) key.bytes (length old) = sym (refused_before call key.bytes (length old) status e) in
    subst (λ reply. AnswersCall call (Err (Refused status)) reply × (old ≡ buffer_after old reply)) same ((refl, refl), refl))
    (λ key failed. cc) (λ status e. refl) refl

-- no row refused the call
passed : (call : ElementCall) (room needed : ℕ) → Ok needed ≡ unless (first_row (rows_before call room)) (needed_by call) → (first_row (rows_before call room) ≡ None) × (needed ≡ needed_by call)
passed call room needed e = let both = unless-ok (first_row (rows_before call room)) (needed_by call) needed (sym e) in (both.0, sym both.1)

needed_given : (b : Bool) → (if b then done else refusal InvalidSignature).needed ≡ 0
needed_given true = refl
needed_given false = refl

needed_is : (call : ElementCall) (key : List ℕ) → (reply_given call key).needed ≡ needed_by call
needed_is (MacVerify alg input mac) key = needed_given (agrees_by (MacVerify alg input mac) key)
needed_is _ key = refl

rest_after : (old part : List ℕ) (n m : ℕ) → length part ≡ n → n ≡ m → drop m (part ++ drop n old) ≡ drop m old
rest_after old part n m long e = ap (λ k. drop k (part ++ drop n old)) (sym e) ∙ drop_at part (drop n old) n long ∙ ap (λ k. drop k old) e

-- a call in which the element failed
pub failed : (held : Option HeldKeys) (handle : ℕ) (call : ElementCall) (old part : List ℕ) (needed : ℕ) (P : HeldKey → Type 0) → HoldsHandle held handle P →
    Ok needed ≡ unless (first_row (rows_before call (length old))) (needed_by call) → ((key : List ℕ) → length (given_by call key) ≡ needed_by call) →
    part ≡ replicate needed 0 → IsComputed held handle call old (part ++ drop needed old) (Err Failed)
failed held handle call old part needed P p e long zeros =
    let row = passed call (length old) needed e in
    let count : (key : List ℕ) → (element_reply call key (length old)).needed ≡ needed = λ key.
    ap (λ (r : Reply). r.needed) (passed_before call key (length old) row.0 (long key)) ∙ needed_is call key ∙ sym row.1 in
    let left : (key : List ℕ) → part ++ drop needed old ≡ buffer_after old (spoiled HardwareFailure (element_reply call key (length old)).needed) = λ key.
    ap (λ l. l ++ drop needed old) (zeros ∙ ap (λ n. replicate n 0) (omega arith)) ∙ ap (λ n. buffer_after old (spoiled HardwareFailure n)) (sym (count key)) in
    by_reply held handle call old (part ++ drop needed old) (Err Failed) P p (decided _ None _ _ row.0 tt)
    (λ key k. ((refl, refl), left key.bytes)) (λ key e. left key) (λ status e. cc)
    (rest_after old part needed (needed_by call) (ap length zeros ∙ length-replicate needed 0) row.1)

pub filled : (bytes old : List ℕ) (n : ℕ) → length bytes ≡ n → bytes ++ drop n old ≡ bytes ++ replicate (n - length bytes) 0 ++ drop n old
filled bytes old n long =
    let none : 0 ≡ n - length bytes = omega arith in
    ap (λ l. l ++ drop n old) (sym (append-nil bytes) ∙ ap (λ k. bytes ++ replicate k 0) none)

-- a call that gives what it is to give
answered : (call : ElementCall) (key : List ℕ) (needed : ℕ) → true ≡ agrees_by call key → needed ≡ needed_by call → length (given_by call key) ≡ needed_by call → AnswersCall call (Ok needed) (reply_given call key)
answered (MacVerify alg input mac) key needed agrees e long = (e, ap (λ b. if b then done else refusal InvalidSignature) (sym agrees))
answered _ key needed agrees e long = (refl, e ∙ sym long, refl)

written : (call : ElementCall) (key old : List ℕ) → true ≡ agrees_by call key → length (given_by call key) ≡ needed_by call →
    given_by call key ++ drop (needed_by call) old ≡ buffer_after old (reply_given call key)
written (MacVerify alg input mac) key old agrees long = filled [] old 0 refl ∙ ap (λ b. buffer_after old (if b then done else refusal InvalidSignature)) agrees
written _ key old agrees long = filled _ old _ long

may_be_given : (call : ElementCall) (n : ℕ) → n ≡ needed_by call → IsOfElement call (Ok n)
may_be_given (MacVerify alg input mac) n e = e
may_be_given _ n e = e

pub gave : (held : Option HeldKeys) (handle : ℕ) (call : ElementCall) (old part : List ℕ) (needed : ℕ) →
    HoldsHandle held handle (λ key. part ≡ given_by call key.bytes) → HoldsHandle held handle (λ key. true ≡ agrees_by call key.bytes) →
    Ok needed ≡ unless (first_row (rows_before call (length old))) (needed_by call) → ((key : List ℕ) → length (given_by call key) ≡ needed_by call) →
    length part ≡ needed → IsComputed held handle call old (part ++ drop needed old) (Ok needed)
gave held handle call old part needed given agrees e long size =
    let row = passed call (length old) needed e in
    let P : HeldKey → Type 0 = λ key. (part ≡ given_by call key.bytes) × (true ≡ agrees_by call key.bytes) in
    by_reply held handle call old (part ++ drop needed old) (Ok needed) P (holds_both held handle _ _ P given agrees (λ key p q. (p, q)))
    (decided _ None _ _ row.0 (may_be_given call needed row.1))
    (λ key k.
    let same : reply_given call key.bytes ≡ reply_to call (Ok needed) key.bytes (length old) = sym (passed_before call key.bytes (length old) row.0 (long key.bytes)) in
    subst (λ reply. AnswersCall call (Ok needed) reply × (part ++ drop needed old ≡ buffer_after old reply)) same
    (answered call key.bytes needed k.1 row.1 (long key.bytes), ap₂ (λ p n. p ++ drop n old) k.0 row.1 ∙ written call key.bytes old k.1 (long key.bytes)))
    (λ key e. cc) (λ status e. cc) (rest_after old part needed (needed_by call) size row.1)

-- a MAC that isn't the message's
pub differed : (held : Option HeldKeys) (handle : ℕ) (call : ElementCall) (old part : List ℕ) (needed : ℕ) → Compares call →
    HoldsHandle held handle (λ key. false ≡ agrees_by call key.bytes) →
    Ok needed ≡ unless (first_row (rows_before call (length old))) (needed_by call) → ((key : List ℕ) → length (given_by call key) ≡ needed_by call) →
    length part ≡ needed → IsComputed held handle call old (part ++ drop needed old) (Err (Refused InvalidSignature))
differed held handle (MacVerify alg input mac) old part needed c differs e long size =
    let call : ElementCall = MacVerify alg input mac in
    let row = passed call (length old) needed e in
    let result : Result ℕ NotComputed = Err (Refused InvalidSignature) in
    let same : part ++ drop needed old ≡ old = ap₂ (λ (p q : List ℕ). p ++ q) (nil_from_length part (size ∙ row.1)) (ap (λ n. drop n old) row.1) in
    by_reply held handle call old (part ++ drop needed old) result (λ key. false ≡ agrees_by call key.bytes) differs (decided _ None _ _ row.0 refl)
    (λ key k.
    let reply : refusal InvalidSignature ≡ reply_to call result key.bytes (length old) =
    ap (λ b. if b then done else refusal InvalidSignature) k ∙ sym (passed_before call key.bytes (length old) row.0 (long key.bytes)) in
    subst (λ reply. AnswersCall call result reply × (part ++ drop needed old ≡ buffer_after old reply)) reply ((refl, refl), same))
    (λ key e. cc) (λ status e. same) (rest_after old part needed 0 size row.1)
differed held handle call old part needed c differs e long size = absurd c
