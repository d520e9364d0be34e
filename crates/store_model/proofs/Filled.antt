-- What is recorded of a new key passes the checks, and comes out of them as it is.
use Rattle.std.proofs.Common.{Bool, None, Ok, [], ap, arith, bit_and, false, not, refl, sym, true, ℕ, ◌&&◌, ◌*◌, ◌==◌, ◌∙◌, ◌∷◌, ◌≡◌}
use Rattle.store_model.proofs.Common.{Attributes, InvalidArgument, NotSupported, and_assoc, and_comm, and_or_apart, and_or_self, and_zero_r, attribute_rows, checked, filled, first_row, implied_usage, is_key_type, is_lifetime, is_stated_id, nat_tests, only_usage, or_comm, permits_size, unless, unless-ok}
use Rattle.std.specs.Int.RustNames.{bit_or}
use Rattle.policy_rules.proofs.Usages.{Includes, includes-and_l, includes-and_r, includes-trans, includes-refl, includes-both, includes-implied, with_flags, signs, verifies, implied-flags, implied-implied}
use Rattle.store_model.proofs.Tables.{none_holds}

-- a table of six rows of which none holds, with another third row that doesn't hold, and another last one
six : (b c d e f g : Bool) →
    first_row ((b, NotSupported) ∷ (c, InvalidArgument) ∷ (d, InvalidArgument) ∷ (e, NotSupported) ∷ (f, InvalidArgument) ∷ (g, InvalidArgument) ∷ []) ≡ None →
    (x y : Bool) → x ≡ false → y ≡ false →
    first_row ((b, NotSupported) ∷ (c, InvalidArgument) ∷ (x, InvalidArgument) ∷ (e, NotSupported) ∷ (f, InvalidArgument) ∷ (y, InvalidArgument) ∷ []) ≡ None
six false false false false false g h false false i j = refl
six b c d e f g h x y i j = cc

-- the bits of no flag of the standard
abbrev no_flag : ℕ
no_flag = 0xffff00f8

none_of : (n : ℕ) → n ≡ 0 → not (n == 0) ≡ false
none_of n e = grind (arith, nat_tests)

is_none : (n : ℕ) → not (n == 0) ≡ false → n ≡ 0
is_none n h = grind (arith, nat_tests)

-- the rows of attributes that pass, with another usage and other bits
rows_with : (a : Attributes) (n : ℕ) (driver : Bool) (usage bits : ℕ) → first_row (attribute_rows a n driver) ≡ None → bit_and usage no_flag ≡ 0 → (not (bits == 0) && not (bits == 8 * n)) ≡ false →
    first_row (attribute_rows (record a { bits = bits; policy = record (a.policy) { usage = record { 0 = usage } } }) n driver) ≡ None
rows_with a n driver usage bits h flags size =
    six (not (is_lifetime a.lifetime.0 driver)) (not (is_stated_id a.lifetime.0 a.id.0)) (not (bit_and a.policy.usage.0 no_flag == 0)) (not (is_key_type a.key_type.0)) (not (permits_size a.key_type.0 n))
    (not (a.bits == 0) && not (a.bits == 8 * n)) h (not (bit_and usage no_flag == 0)) (not (bits == 0) && not (bits == 8 * n)) (none_of (bit_and usage no_flag) flags) size

no_flags : (a : Attributes) (n : ℕ) (driver : Bool) → first_row (attribute_rows a n driver) ≡ None → bit_and a.policy.usage.0 no_flag ≡ 0
no_flags a n driver h = is_none (bit_and a.policy.usage.0 no_flag) (none_holds (attribute_rows a n driver) 2 h)

-- attributes that pass, and that are as they would be filled in
passes : (a : Attributes) (n : ℕ) (driver : Bool) → first_row (attribute_rows a n driver) ≡ None → filled a n ≡ a → checked a n driver ≡ Ok a
passes a n driver rows same = ap (λ o. unless o (filled a n)) rows ∙ ap Ok same

-- FILLED IN

-- implied flags are within the flags that there are
mask_flags : (s v : Bool) (usage : ℕ) → bit_and (with_flags s v usage) no_flag ≡ bit_and usage no_flag
mask_flags true true usage = and_or_apart no_flag (bit_or usage 0x400) 0x800 refl ∙ and_or_apart no_flag usage 0x400 refl
mask_flags true false usage = and_or_apart no_flag usage 0x400 refl
mask_flags false true usage = and_or_apart no_flag usage 0x800 refl
mask_flags false false usage = refl

mask_implied : (usage : ℕ) → bit_and (implied_usage usage) no_flag ≡ bit_and usage no_flag
mask_implied usage = ap (λ u. bit_and u no_flag) (implied-flags usage) ∙ mask_flags (signs usage) (verifies usage) usage

same_bits : (n : ℕ) → (not (8 * n == 0) && not (8 * n == 8 * n)) ≡ false
same_bits n = grind (arith, nat_tests)

pub filled-checked : (a : Attributes) (n : ℕ) (driver : Bool) → first_row (attribute_rows a n driver) ≡ None → checked (filled a n) n driver ≡ Ok (filled a n)
filled-checked a n driver h =
    let usage = implied-implied a.policy.usage.0 in
    passes (filled a n) n driver (rows_with a n driver (implied_usage a.policy.usage.0) (8 * n) h (mask_implied a.policy.usage.0 ∙ no_flags a n driver h) (same_bits n))
    (λ i. record (filled a n) { policy = record (a.policy) { usage = record { 0 = usage i } } })

-- WITH FEWER FLAGS

inside_or : (a b : ℕ) → Includes (bit_or a b) a
inside_or a b = ap (λ x. bit_and x a) (or_comm a b) ∙ and_or_self a b

inside_flags : (s v : Bool) (usage : ℕ) → Includes (with_flags s v usage) usage
inside_flags true true usage = includes-trans (bit_or (bit_or usage 0x400) 0x800) (bit_or usage 0x400) usage (inside_or (bit_or usage 0x400) 0x800) (inside_or usage 0x400)
inside_flags true false usage = inside_or usage 0x400
inside_flags false true usage = inside_or usage 0x800
inside_flags false false usage = includes-refl usage

-- of a filled usage those flags that are in a filled set are filled
fewer_implied : (usage flags : ℕ) → implied_usage usage ≡ usage → implied_usage flags ≡ flags → implied_usage (bit_and usage flags) ≡ bit_and usage flags
fewer_implied usage flags e f =
    let both = bit_and usage flags in
    let outer : Includes both (implied_usage both) =
    includes-both usage flags (implied_usage both) (includes-implied usage both e (includes-and_l usage flags)) (includes-implied flags both f (includes-and_r usage flags)) in
    let inner : Includes (implied_usage both) both = ap (λ x. bit_and x both) (implied-flags both) ∙ inside_flags (signs both) (verifies both) both in
    sym outer ∙ and_comm both (implied_usage both) ∙ inner

fewer_none : (usage flags : ℕ) → bit_and usage no_flag ≡ 0 → bit_and (bit_and usage flags) no_flag ≡ 0
fewer_none usage flags z = ap (λ x. bit_and x no_flag) (and_comm usage flags) ∙ and_assoc no_flag flags usage ∙ ap (λ x. bit_and flags x) z ∙ and_zero_r flags

-- what passes the checks still does with only the flags of a filled set
pub only_usage-checked : (a : Attributes) (n : ℕ) (driver : Bool) (flags : ℕ) → implied_usage flags ≡ flags → checked a n driver ≡ Ok a → checked (only_usage a flags) n driver ≡ Ok (only_usage a flags)
only_usage-checked a n driver flags f h =
    let was = unless-ok (first_row (attribute_rows a n driver)) (filled a n) a h in
    let bits = ap (λ (x : Attributes). x.bits) was.1 in
    let usage = fewer_implied a.policy.usage.0 flags (ap (λ (x : Attributes). x.policy.usage.0) was.1) f in
    passes (only_usage a flags) n driver
    (rows_with a n driver (bit_and a.policy.usage.0 flags) a.bits was.0 (fewer_none a.policy.usage.0 flags (no_flags a n driver was.0)) (none_holds (attribute_rows a n driver) 5 was.0))
    (λ i. record (only_usage a flags) { bits = bits i; policy = record (a.policy) { usage = record { 0 = usage i } } })
