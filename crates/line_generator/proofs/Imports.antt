-- What a caller's import of a volatile key makes, by what that caller sees.
use Rattle.std.proofs.Common.{rules, Bool, Err, IfOk, List, None, Ok, Option, Result, Some, [], ap, cond, false, get_or, is_some, length, not, refl, slice_set, subst, sym, true, ℕ, ◌%◌, ◌&&◌, ◌*◌, ◌+◌, ◌==◌, ◌^◌, ◌∙◌, ◌∷◌, ◌≡◌}
use Rattle.line_generator.proofs.Common.{AlreadyExists, Attributes, created, first_row, has_secure_element, identified, InsufficientStorage, is_volatile, is_volatile_of, Key, KeyLimit, length-set, list_any, live_volatile, new_id, new_key, put, recorded_of, room_for_key_rows, Rows, Settings, Status, Store, unless}
use Rattle.std.specs.FinMap as map
use Rattle.psa_status.specs.Rows.{◌>>=◌}
use Rattle.psa_status.proofs.Rows.{unless-ok}
use Rattle.key_attributes.specs.Checks.{attribute_rows, checked, filled}
use Rattle.policy_rules.specs.{declared.narrowing.Label.Label, declared.narrowing.Label.TheVariants.NoExport, declared.narrowing.Label.TheVariants.NoCopy, declared.narrowing.Label.TheVariants.NoEcb, declared.narrowing.Label.TheVariants.Aes256, declared.narrowing.Verdict.Verdict, declared.narrowing.Verdict.TheVariants.Keep, declared.narrowing.Verdict.TheVariants.Refuse}
use Rattle.policy_rules.specs.Narrow.{names_ecb, narrowed, after_verdict, after_rules}
use Rattle.store_model.proofs.Recorded.{then_ok}
use Rattle.line_generator.proofs.{Maps.len_inserted, Alike.AlikeStores, Alike.plain, Alike.plain_key, Alike.some_of, Alike.set_both}

-- RULES LEAVE THE LIFETIME

abbrev SameLifetime : Attributes → Attributes → Type 0
SameLifetime a b = b.lifetime ≡ a.lifetime

abbrev VerdictKeeps : Attributes → Verdict → Type 0
VerdictKeeps a (Keep kept) = SameLifetime a kept
VerdictKeeps a Refuse = Unit {0}

kept_or_refused : (b : Bool) (a : Attributes) → VerdictKeeps a (cond b Refuse (Keep a))
kept_or_refused true a = tt
kept_or_refused false a = refl

narrowed_keeps : (label : Label) (a : Attributes) → VerdictKeeps a (narrowed label a)
narrowed_keeps NoExport a = refl
narrowed_keeps NoCopy a = refl
narrowed_keeps NoEcb a = kept_or_refused (names_ecb a.policy) a
narrowed_keeps Aes256 a = kept_or_refused (a.key_type.0 == 0x2400 && not (a.bits == 256)) a

later : (a kept : Attributes) (r : Result Attributes Status) → SameLifetime a kept → IfOk r (SameLifetime kept) → IfOk r (SameLifetime a)
later a kept (Ok last) first h = h ∙ first
later a kept (Err s) first h = tt

verdict_keeps : (a : Attributes) (v : Verdict) (next : Attributes → Result Attributes Status) → VerdictKeeps a v →
    ((kept : Attributes) → IfOk (next kept) (SameLifetime kept)) → IfOk (after_verdict v next) (SameLifetime a)
verdict_keeps a (Keep kept) next first h = later a kept (next kept) first (h kept)
verdict_keeps a Refuse next first h = tt

rules_keep : (labels : List Label) (a : Attributes) → IfOk (after_rules labels a) (SameLifetime a)
rules_keep [] a = refl
rules_keep (label ∷ labels) a = verdict_keeps a (narrowed label a) (after_rules labels) (narrowed_keeps label a) (rules_keep labels)

-- WHAT IS RECORDED

-- what is recorded under these settings, where the room for a key refuses by these rows
abbrev recorded_by : Settings → (Attributes → Rows) → Attributes → ℕ → Result Attributes Status
recorded_by settings rooms a n =
    checked a n (list_any (λ location. location == 1) settings.locations)
    >>= (λ filled_in. after_rules settings.labels filled_in
    >>= (λ kept. unless (first_row (rooms kept)) kept))

then_same : {A B : Type 0} (r : Result A Status) (f g : A → Result B Status) → ((x : A) → r ≡ Ok x → f x ≡ g x) → (r >>= f) ≡ (r >>= g)
then_same (Ok x) f g h = h x refl
then_same (Err s) f g h = refl

stays_volatile : (settings : Settings) (a filled_in kept : Attributes) (n : ℕ) → is_volatile a ≡ true →
    checked a n (list_any (λ location. location == 1) settings.locations) ≡ Ok filled_in → after_rules settings.labels filled_in ≡ Ok kept → is_volatile kept ≡ true
stays_volatile settings a filled_in kept n v one two =
    let full : filled a n ≡ filled_in = (unless-ok (first_row (attribute_rows a n (list_any (λ location. location == 1) settings.locations))) (filled a n) filled_in one).1 in
    let last : SameLifetime filled_in kept = subst (λ r. IfOk r (SameLifetime filled_in)) two (rules_keep settings.labels filled_in) in
    let lifetime : kept.lifetime ≡ a.lifetime = last ∙ sym (ap (λ (x : Attributes). x.lifetime) full) in
    subst (λ l. (l.0 % 2 ^ 8 == 0) ≡ true) (sym lifetime) v

by_rooms : (settings : Settings) (a : Attributes) (n : ℕ) (one other : Attributes → Rows) → is_volatile a ≡ true →
    ((kept : Attributes) → is_volatile kept ≡ true → one kept ≡ other kept) → recorded_by settings one a n ≡ recorded_by settings other a n
by_rooms settings a n one other v same =
    then_same (checked a n (list_any (λ location. location == 1) settings.locations)) _ _ (λ filled_in first.
    then_same (after_rules settings.labels filled_in) _ _ (λ kept second.
    ap (λ rows. unless (first_row rows) kept) (same kept (stays_volatile settings a filled_in kept n v first second))))

room_rows_of : (volatile full taken many : Bool) → Rows
room_rows_of volatile full taken many = (volatile && full, KeyLimit) ∷ (not volatile && taken, AlreadyExists) ∷ (not volatile && many, InsufficientStorage) ∷ []

-- a volatile key's room is decided by its caller's keys alone
rooms_of_volatile : (full full' taken taken' many many' : Bool) (volatile : Bool) → volatile ≡ true → full ≡ full' →
    room_rows_of volatile full taken many ≡ room_rows_of volatile full' taken' many'
unfolding room_rows_of
rooms_of_volatile full full' taken taken' many many' true v e = ap (λ b. (b, KeyLimit) ∷ (false, AlreadyExists) ∷ (false, InsufficientStorage) ∷ []) e
rooms_of_volatile full full' taken taken' many many' false v e = absurd (cc)

rooms : (caller : ℕ) (a b : Store) (kept : Attributes) → AlikeStores caller a b → is_volatile kept ≡ true → room_for_key_rows a caller kept ≡ room_for_key_rows b caller kept
unfolding room_rows_of
rooms caller a b kept h v = search rules

pub recorded_same : (caller : ℕ) (a b : Store) (stated : Attributes) (n : ℕ) → AlikeStores caller a b → is_volatile stated ≡ true →
    recorded_of a caller stated n ≡ recorded_of b caller stated n
recorded_same caller a b stated n h v =
    ap (λ (settings : Settings). recorded_by settings (room_for_key_rows a caller) stated n) h.settings
    ∙ by_rooms b.settings stated n (room_for_key_rows a caller) (room_for_key_rows b caller) v (λ kept volatile. rooms caller a b kept h volatile)

pub recorded_volatile : (store : Store) (caller : ℕ) (stated kept : Attributes) (n : ℕ) → is_volatile stated ≡ true → recorded_of store caller stated n ≡ Ok kept →
    (is_volatile kept ≡ true) × (first_row (room_for_key_rows store caller kept) ≡ None)
recorded_volatile store caller a kept n v e =
    let one = then_ok (checked a n (has_secure_element store)) _ kept e in
    let two = then_ok (after_rules store.settings.labels one.0) _ kept one.1.1 in
    let last = unless-ok (first_row (room_for_key_rows store caller two.0)) two.0 kept two.1.1 in (
      subst (λ (x : Attributes). is_volatile x ≡ true) last.1 (stays_volatile store.settings a one.0 two.0 n v one.1.0 two.1.0),
      subst (λ (x : Attributes). first_row (room_for_key_rows store caller x) ≡ None) last.1 last.0,
    )

-- WHAT IS MADE

set_or_not : (caller : ℕ) (xs ys : List ℕ) (volatile : Bool) (v w : ℕ) → length xs ≡ length ys → get_or xs caller 0 ≡ get_or ys caller 0 → v ≡ w →
    get_or (cond volatile (slice_set xs caller v) xs) caller 0 ≡ get_or (cond volatile (slice_set ys caller w) ys) caller 0
set_or_not caller xs ys true v w l e f = set_both xs ys caller v w 0 l e f
set_or_not caller xs ys false v w l e f = e

length_or_not : (caller : ℕ) (xs ys : List ℕ) (volatile : Bool) (v w : ℕ) → length xs ≡ length ys →
    length (cond volatile (slice_set xs caller v) xs) ≡ length (cond volatile (slice_set ys caller w) ys)
length_or_not caller xs ys true v w l = length-set xs caller v ∙ l ∙ sym (length-set ys caller w)
length_or_not caller xs ys false v w l = l

plain_new : (b : Bool) (one other : Key) (o p : Option Key) → plain_key one ≡ plain_key other → plain o ≡ plain p → plain (cond b (Some one) o) ≡ plain (cond b (Some other) p)
plain_new true one other o p e f = ap Some e
plain_new false one other o p e f = f

grown_same : (own : Bool) (one other : Bool) (n m : ℕ) → (own ≡ true → one ≡ other) → n ≡ m → cond own (cond one n (n + 1)) n ≡ cond own (cond other m (m + 1)) m
grown_same true one other n m e f = λ i. cond (e refl i) (f i) (f i + 1)
grown_same false one other n m e f = f

pub created_same : (caller : ℕ) (a b : Store) (kept : Attributes) (bytes : List ℕ) → AlikeStores caller a b →
    (new_id a caller kept ≡ new_id b caller kept) × AlikeStores caller (created a caller kept bytes).store (created b caller kept bytes).store
created_same caller a b kept bytes h =
    let id : new_id a caller kept ≡ new_id b caller kept = λ i. cond (is_volatile kept) (0x40000000 + caller * 2 ^ 20 + h.made i) kept.id.0 in
    let k : ℕ = new_id a caller kept in
    let l : ℕ = new_id b caller kept in
    let one : Key = new_key a caller k kept bytes in
    let other : Key = new_key b caller l kept bytes in
    let there : is_volatile_of caller k ≡ true → is_some (map.get a.keys k) ≡ is_some (map.get b.keys k) = λ own. some_of _ _ (h.keys k own) in (
      id,
      record {
        made = set_or_not caller a.made b.made (is_volatile kept) _ _ h.mades h.made (λ i. h.made i + 1);
        mades = length_or_not caller a.made b.made (is_volatile kept) _ _ h.mades;
        settings = h.settings;
        keys = λ q own.
            ap plain (put a.keys k one q)
            ∙ plain_new (q == k) one other (map.get a.keys q) (map.get b.keys q) (λ i. record { number = 0; attributes = identified kept (id i); bytes = bytes; creator = 0 }) (h.keys q own)
            ∙ ap (λ n. plain (cond (q == n) (Some other) (map.get b.keys q))) id
            ∙ sym (ap plain (put b.keys l other q));
        live =
            len_inserted (is_volatile_of caller) a.keys k one
            ∙ grown_same (is_volatile_of caller k) _ _ _ _ there h.live
            ∙ ap (λ n. cond (is_volatile_of caller n) (cond (is_some (map.get b.keys n)) (live_volatile b.keys caller) (live_volatile b.keys caller + 1)) (live_volatile b.keys caller)) id
            ∙ sym (len_inserted (is_volatile_of caller) b.keys l other);
      },
    )
