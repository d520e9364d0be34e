-- Sets of flags, as numbers.
use Rattle.policy_rules.proofs.Common.{Bool, ap, arith, both_ways, eq-eqb, eqb, eqb-true, false, not, not-false, not_from_true, refl, sym, true, true_from_ne_false, ℕ, ◌+◌, ◌∙◌, ◌≡◌}
use Rattle.std.specs.{Int.Bits.bit_and, Int.Bits.and_self, Int.Bits.and_zero_r, Int.Bits.or_add_and, Int.RustNames.bit_or}
use Rattle.std.proofs.{lemmas.Nat.and_comm, lemmas.Nat.and_assoc, lemmas.Nat.and_or_self, lemmas.Nat.and_or_apart, lemmas.Nat.Bits.same_from_bits, lemmas.Nat.Bits.bit_at_and, lemmas.Nat.Bits.bit_at_or}
use Rattle.key_attributes.specs.Checks.{implied_usage}

-- a set's flags are in another
abbrev pub Includes : ℕ → ℕ → Type 0
Includes outer inner = bit_and outer inner ≡ inner

pub includes-and_l : (a b : ℕ) → Includes a (bit_and a b)
includes-and_l a b = sym (and_assoc b a a) ∙ ap (λ x. bit_and x b) (and_self a)

pub includes-and_r : (a b : ℕ) → Includes b (bit_and a b)
includes-and_r a b = ap (λ x. bit_and b x) (and_comm a b) ∙ includes-and_l b a ∙ and_comm b a

pub includes-trans : (a b c : ℕ) → Includes a b → Includes b c → Includes a c
includes-trans a b c ab bc = ap (λ x. bit_and a x) (sym bc) ∙ sym (and_assoc c a b) ∙ ap (λ x. bit_and x c) ab ∙ bc

pub includes-refl : (a : ℕ) → Includes a a
includes-refl a = and_self a

pub includes-both : (a b c : ℕ) → Includes a c → Includes b c → Includes (bit_and a b) c
includes-both a b c ac bc = and_assoc c a b ∙ ap (λ x. bit_and a x) bc ∙ ac

bit_and-or : (a b c : ℕ) → bit_and a (bit_or b c) ≡ bit_or (bit_and a b) (bit_and a c)
bit_and-or a b c = same_from_bits _ _ (λ i.
    let l = bit_at_and a (bit_or b c) i in
    let o = bit_at_or b c i in
    let r = bit_at_or (bit_and a b) (bit_and a c) i in
    let ab = bit_at_and a b i in
    let ac = bit_at_and a c i in
    omega arith)

pub includes-or : (a b c : ℕ) → Includes a b → Includes a c → Includes a (bit_or b c)
includes-or a b c ab ac = bit_and-or a b c ∙ ap (λ x. bit_or x (bit_and a c)) ab ∙ ap (λ x. bit_or b x) ac

-- the flags that others imply, by whether those are there
abbrev pub with_flags : Bool → Bool → ℕ → ℕ
with_flags true true usage = bit_or (bit_or usage 0x400) 0x800
with_flags true false usage = bit_or usage 0x400
with_flags false true usage = bit_or usage 0x800
with_flags false false usage = usage

abbrev pub signs : ℕ → Bool
signs usage = not (eqb (bit_and usage 0x1000) 0)

abbrev pub verifies : ℕ → Bool
verifies usage = not (eqb (bit_and usage 0x2000) 0)

-- a flag that isn't implied stays as it was
apart : (flag : ℕ) → bit_and 0x400 flag ≡ 0 → bit_and 0x800 flag ≡ 0 → (s v : Bool) (usage : ℕ) → bit_and (with_flags s v usage) flag ≡ bit_and usage flag
apart flag e f true true usage = and_or_apart flag (bit_or usage 0x400) 0x800 f ∙ and_or_apart flag usage 0x400 e
apart flag e f true false usage = and_or_apart flag usage 0x400 e
apart flag e f false true usage = and_or_apart flag usage 0x800 f
apart flag e f false false usage = refl

-- the implied usage, by the two tests
implied : (s v : Bool) (usage : ℕ) → s ≡ signs usage → v ≡ verifies usage → implied_usage usage ≡ with_flags s v usage
implied true true usage es ev = rw (← es, ← ev)
implied true false usage es ev = rw (← es, ← ev)
implied false true usage es ev = rw (← es, ← ev)
implied false false usage es ev = rw (← es, ← ev)

pub implied-flags : (usage : ℕ) → implied_usage usage ≡ with_flags (signs usage) (verifies usage) usage
implied-flags usage = implied (signs usage) (verifies usage) usage refl refl

or_included : (a b : ℕ) → Includes a b → bit_or a b ≡ a
or_included a b h = let e : bit_or a b + bit_and a b ≡ a + b = or_add_and a b in omega arith

or_twice : (a b : ℕ) → bit_or (bit_or a b) b ≡ bit_or a b
or_twice a b = or_included (bit_or a b) b (and_or_self b a)

with_400 : (a : ℕ) → Includes (bit_or (bit_or a 0x400) 0x800) 0x400
with_400 a = and_or_apart 0x400 (bit_or a 0x400) 0x800 refl ∙ and_or_self 0x400 a

twice : (s v : Bool) (usage : ℕ) → with_flags s v (with_flags s v usage) ≡ with_flags s v usage
twice true true usage =
    ap (λ x. bit_or x 0x800) (or_included (bit_or (bit_or usage 0x400) 0x800) 0x400 (with_400 usage)) ∙ or_twice (bit_or usage 0x400) 0x800
twice true false usage = or_twice usage 0x400
twice false true usage = or_twice usage 0x800
twice false false usage = refl

-- what is filled in once is filled in
pub implied-implied : (usage : ℕ) → implied_usage (implied_usage usage) ≡ implied_usage usage
implied-implied usage =
    let s = signs usage in
    let v = verifies usage in
    let once : implied_usage usage ≡ with_flags s v usage = implied-flags usage in
    let same_s : s ≡ signs (with_flags s v usage) = ap (λ x. not (eqb x 0)) (sym (apart 0x1000 refl refl s v usage)) in
    let same_v : v ≡ verifies (with_flags s v usage) = ap (λ x. not (eqb x 0)) (sym (apart 0x2000 refl refl s v usage)) in
    ap implied_usage once ∙ implied s v (with_flags s v usage) same_s same_v ∙ twice s v usage ∙ sym once

-- a flag of the inner set is in the outer one
flag_outer : (outer inner flag : ℕ) → Includes outer inner → bit_and outer flag ≡ 0 → bit_and inner flag ≡ 0
flag_outer outer inner flag i z =
    ap (λ x. bit_and x flag) (sym i) ∙ ap (λ x. bit_and x flag) (and_comm outer inner) ∙ and_assoc flag inner outer ∙ ap (λ x. bit_and inner x) z ∙ and_zero_r inner

has_flag_outer : (outer inner flag : ℕ) → Includes outer inner → not (eqb (bit_and inner flag) 0) ≡ true → not (eqb (bit_and outer flag) 0) ≡ true
has_flag_outer outer inner flag i h =
    true_from_ne_false _ (λ f.
    let z : bit_and outer flag ≡ 0 = eqb-true _ 0 (not-false _ f) in
    both_ways _ (not_from_true _ (eq-eqb (bit_and inner flag) 0 (flag_outer outer inner flag i z))) h)

-- a filled usage has the implied flags
has_400 : (s v : Bool) (usage : ℕ) → s ≡ true → with_flags s v usage ≡ usage → Includes usage 0x400
has_400 true true usage e f = ap (λ x. bit_and x 0x400) (sym f) ∙ with_400 usage
has_400 true false usage e f = ap (λ x. bit_and x 0x400) (sym f) ∙ and_or_self 0x400 usage
has_400 false v usage e f = cc

has_800 : (s v : Bool) (usage : ℕ) → v ≡ true → with_flags s v usage ≡ usage → Includes usage 0x800
has_800 true true usage e f = ap (λ x. bit_and x 0x800) (sym f) ∙ and_or_self 0x800 (bit_or usage 0x400)
has_800 false true usage e f = ap (λ x. bit_and x 0x800) (sym f) ∙ and_or_self 0x800 usage
has_800 true false usage e f = cc
has_800 false false usage e f = cc

within : (s v : Bool) (outer inner : ℕ) → Includes outer inner → (s ≡ true → Includes outer 0x400) → (v ≡ true → Includes outer 0x800) → Includes outer (with_flags s v inner)
within true true outer inner i s v = includes-or outer (bit_or inner 0x400) 0x800 (includes-or outer inner 0x400 i (s refl)) (v refl)
within true false outer inner i s v = includes-or outer inner 0x400 i (s refl)
within false true outer inner i s v = includes-or outer inner 0x800 i (v refl)
within false false outer inner i s v = i

-- what is filled in stays within a filled usage
pub includes-implied : (outer inner : ℕ) → implied_usage outer ≡ outer → Includes outer inner → Includes outer (implied_usage inner)
includes-implied outer inner f i =
    let filled : with_flags (signs outer) (verifies outer) outer ≡ outer = sym (implied-flags outer) ∙ f in
    ap (λ x. bit_and outer x) (implied-flags inner)
    ∙ within (signs inner) (verifies inner) outer inner i
    (λ e. has_400 (signs outer) (verifies outer) outer (has_flag_outer outer inner 0x1000 i e) filled)
    (λ e. has_800 (signs outer) (verifies outer) outer (has_flag_outer outer inner 0x2000 i e) filled)
    ∙ sym (implied-flags inner)
