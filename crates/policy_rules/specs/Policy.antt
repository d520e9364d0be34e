-- What a policy permits (PSA Certified Crypto API 1.2, section 9.5), and the meet of two policies, which a copy of a key gets.
use Rattle.std.specs.{Prelude.ℕ, Prelude.Bool, Prelude.false, Prelude.not, Prelude.◌&&◌, Prelude.◌||◌, Prelude.◌==◌, Prelude.nat_le, Prelude.nat_lt, Prelude.◌≡◌, Prelude.List, Prelude.[], Prelude.◌∷◌, Prelude.Option, Prelude.Some, Prelude.None, Prelude.IsTrue, Prelude.◌↔◌, Prelude.if◌then◌else◌, Prelude.bit_and, Option.option_map, Option.option_and_then}
use Rattle.key_attributes.specs.{declared.Policy.Policy, Checks.implied_usage}
use Rattle.alg_encoding.specs.Encoding.{is_concrete, is_wildcard, base_of, tag_length_of, minimum_of, is_same_algorithm, IsConcrete}

-- a tag length that a minimum permits
abbrev pub reaches : Option ℕ → Option ℕ → Bool
reaches (Some minimum) (Some length) = nat_le minimum length
reaches _ _ = false

-- Whether a number in a policy permits a concrete algorithm. 0 permits nothing, another number the same algorithm, and "at
-- least" a minimum also each algorithm of its base whose tag length reaches that.
unfoldable pub permits_algorithm : ℕ → ℕ → Bool
permits_algorithm number alg =
    not (number == 0)
    && (is_same_algorithm number alg || (base_of number == base_of alg && reaches (minimum_of number) (tag_length_of alg)))

abbrev pub PermitsAlgorithm : ℕ → ℕ → Type 0
PermitsAlgorithm number alg = IsTrue (permits_algorithm number alg)

-- a policy allows what either of its numbers permits
abbrev pub allows : Policy → ℕ → Bool
allows policy alg = permits_algorithm policy.alg.0 alg || permits_algorithm policy.alg2.0 alg

abbrev pub Allows : Policy → ℕ → Type 0
Allows policy alg = IsTrue (allows policy alg)

-- whether each flag of a set is in a usage
abbrev pub has_usage : ℕ → ℕ → Bool
has_usage usage flags = bit_and usage flags == flags

-- whether a key with this policy may be used so with a concrete algorithm
abbrev pub may_use : Policy → ℕ → ℕ → Bool
may_use policy flags alg = has_usage policy.usage.0 flags && allows policy alg

abbrev pub MayUse : Policy → ℕ → ℕ → Type 0
MayUse policy flags alg = IsTrue (may_use policy flags alg)

-- of two minima of one base the longer one's number
abbrev pub longer_of : ℕ → Option ℕ → ℕ → Option ℕ → Option ℕ
longer_of p (Some m) q (Some n) = Some (if nat_lt m n then q else p)
longer_of p _ q _ = None

-- The number that permits what both permit, where there is one. 0 permits nothing, so that it is the meet with any number.
-- The same algorithm in two spellings is the first one's.
unfoldable pub meet_algorithm : ℕ → ℕ → Option ℕ
meet_algorithm p q =
    if p == 0 || q == 0 then Some 0
    else if is_same_algorithm p q then Some p
    else if is_concrete p && (is_wildcard q && permits_algorithm q p) then Some p
    else if is_concrete q && (is_wildcard p && permits_algorithm p q) then Some q
    else if base_of p == base_of q then longer_of p (minimum_of p) q (minimum_of q)
    else None

abbrev pub with_meets : Policy → Policy → (alg alg2 : Option ℕ) → Option Policy
with_meets source stated (Some alg) (Some alg2) =
    Some (record { usage = record { 0 = bit_and source.usage.0 stated.usage.0 }; alg = record { 0 = alg }; alg2 = record { 0 = alg2 } })
with_meets source stated _ _ = None

-- the policy of a copy, by the source's and the stated one: the usage of both, and place by place the meet of the algorithms
abbrev pub meet_of : Policy → Policy → Option Policy
meet_of source stated = with_meets source stated (meet_algorithm source.alg.0 stated.alg.0) (meet_algorithm source.alg2.0 stated.alg2.0)

-- where two numbers have a meet, it permits exactly what both permit, and where they have none, nothing is permitted by both
abbrev pub PermitsBoth : ℕ → ℕ → Option ℕ → Type 0
PermitsBoth p q (Some m) = (alg : ℕ) → IsConcrete alg → PermitsAlgorithm m alg ↔ (PermitsAlgorithm p alg × PermitsAlgorithm q alg)
PermitsBoth p q None = (alg : ℕ) → IsConcrete alg → PermitsAlgorithm p alg → PermitsAlgorithm q alg → ⊥

-- a policy without a second number
abbrev pub HasOneAlgorithm : Policy → Type 0
HasOneAlgorithm policy = policy.alg2.0 ≡ 0

-- a meet may be used exactly as both may be used, and where there is none, there is nothing that both may be used for
abbrev pub MayUseBoth : Policy → Policy → Option Policy → Type 0
MayUseBoth p q (Some m) = (flags alg : ℕ) → IsConcrete alg → MayUse m flags alg ↔ (MayUse p flags alg × MayUse q flags alg)
MayUseBoth p q None = (flags alg : ℕ) → IsConcrete alg → MayUse p flags alg → MayUse q flags alg → ⊥

-- a policy has no flag and allows no algorithm that another one doesn't
pub record IsWithin (inner outer : Policy) : Type 0 where
  pub flags : IsTrue (has_usage outer.usage.0 inner.usage.0)
  pub algorithms : (alg : ℕ) → IsConcrete alg → Allows inner alg → Allows outer alg

-- the policy that a copy records: the meet, with the flags that others imply
abbrev pub with_implied : Policy → Policy
with_implied policy = record policy { usage = record { 0 = implied_usage policy.usage.0 } }

abbrev pub copy_of : Policy → Policy → Option Policy
copy_of source stated = option_map with_implied (meet_of source stated)

-- a policy that a key can have: it has the flags that its others imply
abbrev pub IsFilled : Policy → Type 0
IsFilled policy = implied_usage policy.usage.0 ≡ policy.usage.0

-- the policy at the end of a chain of copies, each with a stated policy
abbrev pub chain_of : Policy → List Policy → Option Policy
chain_of origin [] = Some origin
chain_of origin (stated ∷ more) = option_and_then (λ copy. chain_of copy more) (copy_of origin stated)
