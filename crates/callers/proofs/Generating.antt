-- A caller after a call that creates a key of random bytes.
use Rattle.callers.proofs.Common.{Attributes, Bool, Caller, CreatesKey, Entry, Err, FaultMark, Generate, GoesOn, HandleOperation, IsMade, IsOwnPart, IsReady, IsSound, IsUnmade, KeyId, List, None, NotMade, Ok, OnStore, Option, Outcome, Plain, Random, RecordsStated, Request, Result, Service, Some, Status, Store, World, ap, arith, created_unless, drawn_for, false, first_row, generated, generation_of, if◌then◌else◌, inl, inr, is_destruction, length, mark_unmade, nat_lt, nat_tests, next_bytes, next_random, own_of, plain_step, recorded_of, refl, replay, serve, stated_bits_rows, stated_bytes, step, subst, sym, true, unless, words_used, ℕ, ◌+◌, ◌>>=◌, ◌∙◌, ◌≡◌, ◌≤◌, IsStartOf, ToldBy}
use Rattle.store_core.specs.declared.creating.NotMade.TheVariants as unmade
use Rattle.store_core.specs.declared.creating.Unkept.TheVariants as unkept
use Rattle.store_model.specs.Prelude.{MayBeMarked}
use Rattle.callers.proofs.{KeyReplies.Gives, KeyReplies.refusal_gives, KeySizes.few_or_many, KeySizes.few_recorded, Marked.unmade_marked, Owned.failed_own, Owned.stored_own, Readying.random_there, Storing.DrawsNone}

-- THE ONE-THREAD SERVICE

module _ (store : Store) (caller : ℕ) (a : Attributes) where
  -- bits that say so many bytes are no refusal
  pub whole_bytes : first_row (stated_bits_rows a) ≡ None → generation_of store caller a ≡ recorded_of store caller a (stated_bytes a)
  whole_bytes none = ap (λ o. unless o (stated_bytes a) >>= (λ bytes. recorded_of store caller a bytes)) none

  module _ (random : Random) (n : ℕ) where
    store_is : (kept : Result Attributes Status) → (generated store caller random n kept).store ≡ (created_unless store caller kept (random n)).store
    store_is (Ok kept) = refl
    store_is (Err status) = refl

    -- whatever its bytes are
    reply_is : (bytes : List ℕ) (kept : Result Attributes Status) → (generated store caller random n kept).reply ≡ (created_unless store caller kept bytes).reply
    reply_is bytes (Ok kept) = refl
    reply_is bytes (Err status) = refl

    -- what is never recorded, its bytes are no matter
    pub no_matter : (kept : Result Attributes Status) (bytes : List ℕ) → ((k : Attributes) → kept ≡ Ok k → ⊥) → created_unless store caller kept (random n) ≡ created_unless store caller kept bytes
    no_matter (Ok k) bytes none = absurd (none k refl)
    no_matter (Err status) bytes none = refl

-- so it replies
pub generation_replies : (service : Service) (caller : ℕ) (a : Attributes) (bytes : List ℕ) → first_row (stated_bits_rows a) ≡ None → length bytes ≡ stated_bytes a → (kept : Result Attributes Status) → RecordsStated None caller a (length bytes) service.store kept →
    (plain_step service caller (OnStore (Generate a))).reply ≡ (created_unless service.store caller kept bytes).reply
generation_replies service caller a bytes whole long kept records =
    ap (λ k. (generated service.store caller (next_random service caller) (stated_bytes a) k).reply) (whole_bytes service.store caller a whole ∙ sym (records ∙ ap (recorded_of service.store caller a) long))
    ∙ reply_is service.store caller a (next_random service caller) (stated_bytes a) bytes kept

-- and a key that isn't made is marked as one
pub generated_marked : (service : Service) (caller : ℕ) (a : Attributes) (count : ℕ) → first_row (stated_bits_rows a) ≡ None → count ≡ stated_bytes a → (why : NotMade) → IsUnmade (RecordsStated None caller a count) why service.store →
    MayBeMarked service caller (OnStore (Generate a)) (mark_unmade why)
generated_marked service caller a count whole counts = unmade_marked service caller (OnStore (Generate a)) refl (RecordsStated None caller a count) (next_random service caller (stated_bytes a))
    (λ recorded is. ap (λ k. (generated service.store caller (next_random service caller) (stated_bytes a) k).store) (same recorded is)) (λ recorded is. ap (λ k. (generated service.store caller (next_random service caller) (stated_bytes a) k).reply) (same recorded is))
  where
    same : (recorded : Attributes) → RecordsStated None caller a count service.store (Ok recorded) → generation_of service.store caller a ≡ Ok recorded
    same recorded is = whole_bytes service.store caller a whole ∙ (ap (recorded_of service.store caller a) (sym counts) ∙ sym is)

-- and bits that say none draw nothing
pub no_bytes_drawn : (a : Attributes) → (first_row (stated_bits_rows a) ≡ None → ⊥) → DrawsNone (Generate a)
no_bytes_drawn a refused store caller random = by (first_row (stated_bits_rows a)) refl
  where
    by : (o : Option Status) → first_row (stated_bits_rows a) ≡ o → (step store caller random (Generate a)).drawn ≡ 0
    by None none = absurd (refused none)
    by (Some status) some = ap (λ o. (generated store caller random (stated_bytes a) (unless o (stated_bytes a) >>= (λ bytes. recorded_of store caller a bytes))).drawn) some

-- and are refused
pub no_bytes_give : (service : Service) (caller : ℕ) (a : Attributes) (s : Status) → first_row (stated_bits_rows a) ≡ Some s → Gives (Err s) (serve service caller (OnStore (Generate a)) Plain).reply
no_bytes_give service caller a s some =
    subst (λ o. Gives (Err s) (generated service.store caller (next_random service caller) (stated_bytes a) (unless o (stated_bytes a) >>= (λ bytes. recorded_of service.store caller a bytes))).reply) (sym some) (refusal_gives s)

-- THE CREATION

module _ {D A C : Type 0} (w : World D A C) (n : ℕ) (old : Caller D A C) (r : IsReady w n old) (a : Attributes) (request : Request) (asks : request ≡ OnStore (Generate a)) (whole : first_row (stated_bits_rows a) ≡ None) where
  abbrev Records : ℕ → Store → Result Attributes Status → Type 0
  Records = RecordsStated None old.number a

  abbrev Makes : List ℕ → Type 0
  Makes bytes = CreatesKey w old.pass.me.0 old.number request (Records (length bytes)) bytes

  -- of the caller's next random bytes, or of any where they are too many
  pub generates : (bytes : List ℕ) → length bytes ≡ stated_bytes a → (stated_bytes a ≤ 1024 → bytes ≡ next_bytes old.stream (stated_bytes a)) → Makes bytes
  generates bytes long drawn = record {
    keeps = keeps;
    leaves = λ start is h on tells kept records.
        let service = replay start h in let stated = recorded_so service kept records in
        ap (λ q. (plain_step service old.number q).service.store) asks
        ∙ (ap (λ k. (generated service.store old.number (next_random service old.number) (stated_bytes a) k).store) (whole_bytes service.store old.number a whole ∙ sym stated)
        ∙ (store_is service.store old.number a (next_random service old.number) (stated_bytes a) kept ∙ ap (λ (o : Outcome). o.store) (same start is h on tells kept stated)));
    answers = λ start is h on tells kept records. ap (λ q. (plain_step (replay start h) old.number q).reply) asks ∙ generation_replies (replay start h) old.number a bytes whole long kept records;
  }
    where
      keeps : is_destruction request ≡ false
      keeps = ap is_destruction asks

      recorded_so : (service : Service) (kept : Result Attributes Status) → Records (length bytes) service.store kept → kept ≡ recorded_of service.store old.number a (stated_bytes a)
      recorded_so service kept records = records ∙ ap (recorded_of service.store old.number a) long

      same : (start : Service) → IsStartOf w start → (h : List Entry) → GoesOn old.pass.me.0 h → ToldBy w start h → (kept : Result Attributes Status) → kept ≡ recorded_of (replay start h).store old.number a (stated_bytes a) →
          created_unless (replay start h).store old.number kept (next_random (replay start h) old.number (stated_bytes a)) ≡ created_unless (replay start h).store old.number kept bytes
      same start is h on tells kept stated = elim (few_or_many (stated_bytes a) (nat_lt 1024 (stated_bytes a)) refl) [
        | inl few ↦ ap (created_unless (replay start h).store old.number kept) (random_there w n old r start h is on tells (stated_bytes a) ∙ sym (drawn few))
        | inr many ↦ no_matter (replay start h).store old.number a (next_random (replay start h) old.number) (stated_bytes a) kept bytes
            (λ k kept_is. let few = few_recorded (replay start h).store old.number a k (stated_bytes a) (sym stated ∙ kept_is) in omega arith)
      ]

-- WHAT IS DRAWN

pub all_drawn : (a : Attributes) → stated_bytes a ≤ 1024 → drawn_for a ≡ stated_bytes a
all_drawn a few = let is : nat_lt 1024 (stated_bytes a) ≡ false = grind (arith, nat_tests) in ap (λ b. if b then 0 else stated_bytes a) is

pub few_for : (a : Attributes) → words_used (drawn_for a) ≤ 256
few_for a = by (nat_lt 1024 (stated_bytes a)) refl
  where
    by : (many : Bool) → nat_lt 1024 (stated_bytes a) ≡ many → words_used (if many then 0 else stated_bytes a) ≤ 256
    by true e = omega arith
    by false e = let few : stated_bytes a ≤ 1024 = grind (arith, nat_tests) in omega arith

module _ (service : Service) (caller : ℕ) (a : Attributes) (whole : first_row (stated_bits_rows a) ≡ None) (count : ℕ) (counts : count ≡ stated_bytes a) (operations : List HandleOperation) (place next : ℕ)
    (sound : IsSound service) (last : caller ≤ 16) (own : IsOwnPart operations place (own_of service caller)) where
  drawn_by : (kept : Result Attributes Status) → kept ≡ recorded_of service.store caller a count →
      (step service.store caller (next_random service caller) (Generate a)).drawn ≡ (generated service.store caller (next_random service caller) (stated_bytes a) kept).drawn
  drawn_by kept is = ap (λ k. (generated service.store caller (next_random service caller) (stated_bytes a) k).drawn) (whole_bytes service.store caller a whole ∙ sym (is ∙ ap (recorded_of service.store caller a) counts))

  abbrev Leaves : FaultMark → Type 0
  Leaves mark = IsOwnPart operations next (own_of (serve service caller (OnStore (Generate a)) mark).service caller)

  -- a key that is made has its bytes drawn
  pub made_own : (id : KeyId) → next ≡ place + words_used (drawn_for a) → IsMade (RecordsStated None caller a count) caller id.0 service.store → Leaves Plain
  made_own id more made =
      let few = few_recorded service.store caller a made.0 (stated_bytes a) (sym (made.1 ∙ ap (recorded_of service.store caller a) counts)) in
      stored_own service caller (step service.store caller (next_random service caller) (Generate a)) operations place next sound last own (let d = ap words_used (drawn_by (Ok made.0) made.1) in let f = ap words_used (all_drawn a few) in omega arith)

  -- and one that isn't has none
  pub unmade_own : (why : NotMade) → next ≡ place → IsUnmade (RecordsStated None caller a count) why service.store → Leaves (mark_unmade why)
  unmade_own (unmade.Refused status) same is =
      stored_own service caller (step service.store caller (next_random service caller) (Generate a)) operations place next sound last own
      (let d : words_used (step service.store caller (next_random service caller) (Generate a)).drawn ≡ 0 = ap words_used (drawn_by (Err status) is) in omega arith)
  unmade_own (unmade.Failed (unkept.Unwritten closed_first)) same is = subst (IsOwnPart operations next) (sym (failed_own service caller (Generate a))) (subst (λ n. IsOwnPart operations n (own_of service caller)) (sym same) own)
  unmade_own (unmade.Failed unkept.Hardware) same is = subst (IsOwnPart operations next) (sym (failed_own service caller (Generate a))) (subst (λ n. IsOwnPart operations n (own_of service caller)) (sym same) own)
