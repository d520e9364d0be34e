-- What a creation records, and its refusals.
use Rattle.std.proofs.Common.{Bool, Err, IfOk, List, None, Ok, Result, [], arith, cond, false, nat_le, not, refl, subst, sym, true, ℕ, ◌&&◌, ◌==◌, ◌∷◌, ◌≡◌, ◌≤◌}
use Rattle.store_model.proofs.Common.{Aes256, AlreadyExists, Attributes, InsufficientStorage, InvalidArgument, IsWithin, IsWithin-refl, IsWithin-trans, Keep, KeyLimit, Label, NoCopy, NoEcb, NoExport, NotPermitted, NotSupported, Refuse, Rows, Status, Store, Verdict, after_rules, after_verdict, attribute_rows, checked, filled, first_row, has_secure_element, is_volatile, names_ecb, narrowed, nat_tests, permits_size, recorded_of, room_for_key_rows, unless, unless-err, unless-ok, with_implied}
use Rattle.psa_status.specs.Rows.{◌>>=◌}
use Rattle.policy_rules.proofs.Rules.{narrowed-within}
use Rattle.store_model.proofs.{Filled.filled-checked, Filled.only_usage-checked, Obeyed.AreObeyed, Obeyed.rules_obeyed, Tables.AllRows, Tables.none_holds, Tables.refused_by}

-- ONE ANSWER AFTER ANOTHER

pub then_ok : {A B : Type 0} (r : Result A Status) (f : A → Result B Status) (y : B) → (r >>= f) ≡ Ok y → (x : A) × ((r ≡ Ok x) × (f x ≡ Ok y))
then_ok (Ok x) f y e = (x, (refl, e))
then_ok (Err s) f y e = cc

-- what holds of each refusal
abbrev pub OfRefusals : {A : Type 0} → (Status → Type 0) → Result A Status → Type 0
OfRefusals P r = (s : Status) → r ≡ Err s → P s

pub then_refused : {A B : Type 0} (P : Status → Type 0) (r : Result A Status) (f : A → Result B Status) → OfRefusals P r → ((x : A) → OfRefusals P (f x)) → OfRefusals P (r >>= f)
then_refused P (Ok x) f first later s e = later x s e
then_refused P (Err t) f first later s e = let same : t ≡ s = cc in subst P same (first t refl)

pub unless_refused : {A : Type 0} (P : Status → Type 0) (rows : Rows) (x : A) → AllRows P rows → OfRefusals P (unless (first_row rows) x)
unless_refused P rows x all s e = refused_by P rows all s (unless-err (first_row rows) x s e)

-- WHAT RULES LEAVE

-- beside the policy, which has no more than before, what passes the checks still does
record Narrows (n : ℕ) (driver : Bool) (before after : Attributes) : Type 0 where
  policy : IsWithin after.policy before.policy
  checks : checked before n driver ≡ Ok before → checked after n driver ≡ Ok after

abbrev NarrowsTo : ℕ → Bool → Attributes → Verdict → Type 0
NarrowsTo n driver a (Keep kept) = Narrows n driver a kept
NarrowsTo n driver a Refuse = Unit {0}

narrows_none : (n : ℕ) (driver : Bool) (a : Attributes) → Narrows n driver a a
narrows_none n driver a = record { policy = IsWithin-refl a.policy; checks = λ h. h }

kept_or_refused : (n : ℕ) (driver b : Bool) (a : Attributes) → NarrowsTo n driver a (cond b Refuse (Keep a))
kept_or_refused n driver true a = tt
kept_or_refused n driver false a = narrows_none n driver a

narrows : (n : ℕ) (driver : Bool) (label : Label) (a : Attributes) → NarrowsTo n driver a (narrowed label a)
narrows n driver NoExport a = record { policy = narrowed-within NoExport a; checks = only_usage-checked a n driver 0xfffffffe refl }
narrows n driver NoCopy a = record { policy = narrowed-within NoCopy a; checks = only_usage-checked a n driver 0xfffffffd refl }
narrows n driver NoEcb a = kept_or_refused n driver (names_ecb a.policy) a
narrows n driver Aes256 a = kept_or_refused n driver (a.key_type.0 == 0x2400 && not (a.bits == 256)) a

then_narrows : (n : ℕ) (driver : Bool) (a kept : Attributes) (r : Result Attributes Status) → Narrows n driver a kept → IfOk r (Narrows n driver kept) → IfOk r (Narrows n driver a)
then_narrows n driver a kept (Ok last) first h = record { policy = IsWithin-trans a.policy kept.policy last.policy h.policy first.policy; checks = λ c. h.checks (first.checks c) }
then_narrows n driver a kept (Err s) first h = tt

verdict_narrows : (n : ℕ) (driver : Bool) (a : Attributes) (v : Verdict) (next : Attributes → Result Attributes Status) → NarrowsTo n driver a v →
    ((kept : Attributes) → IfOk (next kept) (Narrows n driver kept)) → IfOk (after_verdict v next) (Narrows n driver a)
verdict_narrows n driver a (Keep kept) next first h = then_narrows n driver a kept (next kept) first (h kept)
verdict_narrows n driver a Refuse next first h = tt

rules_narrow : (n : ℕ) (driver : Bool) (labels : List Label) (a : Attributes) → IfOk (after_rules labels a) (Narrows n driver a)
rules_narrow n driver [] a = narrows_none n driver a
rules_narrow n driver (label ∷ labels) a = verdict_narrows n driver a (narrowed label a) (after_rules labels) (narrows n driver label a) (rules_narrow n driver labels)

verdict_refused : (P : Status → Type 0) (v : Verdict) (next : Attributes → Result Attributes Status) → P NotPermitted → ((kept : Attributes) → OfRefusals P (next kept)) → OfRefusals P (after_verdict v next)
verdict_refused P (Keep kept) next refused later s e = later kept s e
verdict_refused P Refuse next refused later s e = let same : NotPermitted ≡ s = cc in subst P same refused

rules_refused : (P : Status → Type 0) → P NotPermitted → (labels : List Label) (a : Attributes) → OfRefusals P (after_rules labels a)
rules_refused P refused [] a s e = cc
rules_refused P refused (label ∷ labels) a s e = verdict_refused P (narrowed label a) (after_rules labels) refused (rules_refused P refused labels) s e

-- WHAT IS RECORDED

-- attributes that a new key of so many bytes may have, which obey the rules, and for which there is room
pub record MayBeKept (store : Store) (caller : ℕ) (kept : Attributes) (n : ℕ) : Type 0 where
  pub checks : checked kept n (has_secure_element store) ≡ Ok kept
  pub room : first_row (room_for_key_rows store caller kept) ≡ None
  pub rules : AreObeyed store.settings.labels kept

-- what is recorded where these are stated
pub record IsRecorded (store : Store) (caller : ℕ) (stated : Attributes) (n : ℕ) (kept : Attributes) : Type 0 where
  pub may : MayBeKept store caller kept n
  pub within : IsWithin kept.policy (with_implied stated.policy)

pub recorded : (store : Store) (caller : ℕ) (a : Attributes) (n : ℕ) (kept : Attributes) → recorded_of store caller a n ≡ Ok kept → IsRecorded store caller a n kept
recorded store caller a n kept e =
    let driver = has_secure_element store in
    let labels = store.settings.labels in
    let one = then_ok (checked a n driver) _ kept e in
    let passed = unless-ok (first_row (attribute_rows a n driver)) (filled a n) one.0 one.1.0 in
    let two = then_ok (after_rules labels one.0) _ kept one.1.1 in
    let last = unless-ok (first_row (room_for_key_rows store caller two.0)) two.0 kept two.1.1 in
    let narrows : Narrows n driver one.0 two.0 = subst (λ r. IfOk r (Narrows n driver one.0)) two.1.0 (rules_narrow n driver labels one.0) in
    let checks : checked one.0 n driver ≡ Ok one.0 = subst (λ x. checked x n driver ≡ Ok x) passed.1 (filled-checked a n driver passed.0) in
    subst (IsRecorded store caller a n) last.1 (record {
      may = record { checks = narrows.checks checks; room = last.0; rules = rules_obeyed labels one.0 two.0 two.1.0 };
      within = subst (λ (x : Attributes). IsWithin two.0.policy x.policy) (sym passed.1) narrows.policy;
    })

-- the refusals of a creation
pub recorded_refused : (P : Status → Type 0) → P NotSupported → P InvalidArgument → P NotPermitted → P KeyLimit → P AlreadyExists → P InsufficientStorage →
    (store : Store) (caller : ℕ) (a : Attributes) (n : ℕ) → OfRefusals P (recorded_of store caller a n)
recorded_refused P unsupported invalid refused limit exists full store caller a n =
    then_refused P (checked a n (has_secure_element store)) _
    (unless_refused P (attribute_rows a n (has_secure_element store)) (filled a n) (λ on. unsupported, (λ on. invalid, (λ on. invalid, (λ on. unsupported, (λ on. invalid, (λ on. invalid, tt)))))))
    (λ filled_in. then_refused P (after_rules store.settings.labels filled_in) _ (rules_refused P refused store.settings.labels filled_in)
    (λ kept. unless_refused P (room_for_key_rows store caller kept) kept (λ on. limit, (λ on. exists, (λ on. full, tt)))))

-- WHAT CHECKED ATTRIBUTES HAVE

permitted : (key_type bytes : ℕ) → not (permits_size key_type bytes) ≡ false → bytes ≤ 1024
permitted key_type bytes h = grind (arith, nat_tests)

pub few_bytes : (a : Attributes) (n : ℕ) (driver : Bool) → checked a n driver ≡ Ok a → n ≤ 1024
few_bytes a n driver h = permitted a.key_type.0 n (none_holds (attribute_rows a n driver) 4 (unless-ok (first_row (attribute_rows a n driver)) (filled a n) a h).0)

-- an identifier that may be stated of a volatile key, or of a persistent one
abbrev pub IsStated : Bool → ℕ → Type 0
IsStated true id = id ≡ 0
IsStated false id = (1 ≤ id) × (id ≤ 0x3fffffff)

by_kind : (volatile : Bool) (id : ℕ) → not (cond volatile (id == 0) (nat_le 1 id && nat_le id 0x3fffffff)) ≡ false → IsStated volatile id
by_kind true id h = grind (arith, nat_tests)
by_kind false id h = (grind (arith, nat_tests), grind (arith, nat_tests))

pub stated_id : (a : Attributes) (n : ℕ) (driver : Bool) → checked a n driver ≡ Ok a → IsStated (is_volatile a) a.id.0
stated_id a n driver h = by_kind (is_volatile a) a.id.0 (none_holds (attribute_rows a n driver) 1 (unless-ok (first_row (attribute_rows a n driver)) (filled a n) a h).0)
