-- A creation of more than 1,024 bytes, which the code makes of 1,025, is refused.
use Rattle.callers.proofs.Common.{Attributes, Bool, Err, InvalidArgument, NotSupported, Ok, Option, Some, Status, Store, [], ap, arith, bit_and, cond, false, few_bytes, first_row, has_secure_element, inl, inr, min, nat_le, nat_lt, nat_tests, not, recorded, recorded_of, refl, room_for_key_rows, sym, true, unless, ℕ, ◌&&◌, ◌*◌, ◌<◌, ◌==◌, ◌>>=◌, ◌||◌, ◌∙◌, ◌∷◌, ◌≡◌, ◌≤◌, ◌⊎◌}
use Rattle.key_attributes.specs.Checks.{checked, filled, permits_size, is_lifetime, is_stated_id, is_key_type}
use Rattle.policy_rules.specs.Narrow.{after_rules}

many_cases : (aes : Bool) (n : ℕ) → 1024 < n → cond aes (n == 16 || n == 24 || n == 32) (nat_le 1 n && nat_le n 1024) ≡ false
many_cases true n h = grind (arith, nat_tests)
many_cases false n h = grind (arith, nat_tests)

too_many : (key_type n : ℕ) → 1024 < n → permits_size key_type n ≡ false
too_many key_type n h = many_cases (key_type == 0x2400) n h

-- more bytes than any key has are refused alike
abbrev refusal_of : Attributes → Bool → Status
refusal_of a driver =
    cond (not (is_lifetime a.lifetime.0 driver)) NotSupported
    (cond (not (is_stated_id a.lifetime.0 a.id.0)) InvalidArgument (cond (not (bit_and a.policy.usage.0 0xffff00f8 == 0)) InvalidArgument (cond (not (is_key_type a.key_type.0)) NotSupported InvalidArgument)))

refused_by : (a b c d : Bool) (rest : Option Status) (x : Attributes) →
    unless (cond a (Some NotSupported) (cond b (Some InvalidArgument) (cond c (Some InvalidArgument) (cond d (Some NotSupported) (cond true (Some InvalidArgument) rest))))) x
    ≡ Err (cond a NotSupported (cond b InvalidArgument (cond c InvalidArgument (cond d NotSupported InvalidArgument))))
refused_by true b c d rest x = refl
refused_by false true c d rest x = refl
refused_by false false true d rest x = refl
refused_by false false false true rest x = refl
refused_by false false false false rest x = refl

many_refused : (a : Attributes) (n : ℕ) (driver : Bool) → 1024 < n → checked a n driver ≡ Err (refusal_of a driver)
many_refused a n driver h =
    let rest : Option Status = first_row ((not (a.bits == 0) && not (a.bits == 8 * n), InvalidArgument) ∷ []) in
    ap (λ permitted. unless (cond (not (is_lifetime a.lifetime.0 driver)) (Some NotSupported)
    (cond (not (is_stated_id a.lifetime.0 a.id.0)) (Some InvalidArgument) (cond (not (bit_and a.policy.usage.0 0xffff00f8 == 0)) (Some InvalidArgument)
    (cond (not (is_key_type a.key_type.0)) (Some NotSupported) (cond (not permitted) (Some InvalidArgument) rest))))) (filled a n)) (too_many a.key_type.0 n h)
    ∙ refused_by (not (is_lifetime a.lifetime.0 driver)) (not (is_stated_id a.lifetime.0 a.id.0)) (not (bit_and a.policy.usage.0 0xffff00f8 == 0)) (not (is_key_type a.key_type.0)) rest (filled a n)

many_alike : (store : Store) (caller : ℕ) (a : Attributes) (n m : ℕ) → 1024 < n → 1024 < m → recorded_of store caller a n ≡ recorded_of store caller a m
many_alike store caller a n m h k =
    let driver = has_secure_element store in
    let after = λ (kept : Attributes). after_rules store.settings.labels kept >>= (λ last. unless (first_row (room_for_key_rows store caller last)) last) in
    ap (λ r. r >>= after) (many_refused a n driver h ∙ sym (many_refused a m driver k))

pub few_or_many : (n : ℕ) (many : Bool) → nat_lt 1024 n ≡ many → (n ≤ 1024) ⊎ (1024 < n)
few_or_many n true e = inr (grind (arith, nat_tests))
few_or_many n false e = inl (grind (arith, nat_tests))

pub front_recorded : (store : Store) (caller : ℕ) (a : Attributes) (n : ℕ) → recorded_of store caller a (min n 1025) ≡ recorded_of store caller a n
front_recorded store caller a n = elim (few_or_many n (nat_lt 1024 n) refl) [
  | inl few ↦ let same : min n 1025 ≡ n = omega arith in ap (recorded_of store caller a) same
  | inr many ↦ many_alike store caller a (min n 1025) n (omega arith) many
]

-- what is recorded is of a key of at most 1,024 bytes
pub few_recorded : (store : Store) (caller : ℕ) (a kept : Attributes) (n : ℕ) → recorded_of store caller a n ≡ Ok kept → n ≤ 1024
few_recorded store caller a kept n e = few_bytes kept n (has_secure_element store) (recorded store caller a n kept e).may.checks
