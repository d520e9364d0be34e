-- The meet permits what both permit, and a copy gains nothing.
use Rattle.policy_rules.proofs.Common.{Bool, HasOneAlgorithm, IfSome, IsFilled, IsWithin, List, MayUseBoth, None, Option, PermitsBoth, Some, [], allows, and_from, and_parts, ap, bit_and, both_ways, chain_of, copy_of, eq-eqb, eqb, eqb-true, false, has_usage, is_concrete, may_use, meet_algorithm, meet_of, or_left, or_right, permits_algorithm, refl, subst, sym, true, with_implied, with_meets, ℕ, ◌&&◌, ◌||◌, ◌↔◌, ◌∙◌, ◌∷◌, ◌≡◌}
use Rattle.std.specs.Option.{option_map, option_and_then}
use Rattle.key_attributes.specs.declared.Policy.{Policy}
use Rattle.policy_rules.proofs.{Meets.Both, Meets.meet_both, Permitted.permits-zero, Usages.Includes, Usages.includes-and_l, Usages.includes-and_r, Usages.includes-trans, Usages.includes-refl, Usages.includes-both, Usages.includes-implied, Usages.implied-implied}

is_both : (m x y : Bool) → m ≡ (x && y) → (m ≡ true) ↔ ((x ≡ true) × (y ≡ true))
is_both m x y e = (λ h. and_parts x y (sym e ∙ h), λ h. e ∙ and_from x y h.0 h.1)

permits_both : (p q : ℕ) (m : Option ℕ) → Both p q m → PermitsBoth p q m
permits_both p q (Some m) both = λ a ca. is_both (permits_algorithm m a) (permits_algorithm p a) (permits_algorithm q a) (both a ca)
permits_both p q None both = λ a ca hp hq. both_ways (permits_algorithm p a && permits_algorithm q a) (both a ca) (and_from _ _ hp hq)

pub meet-permits_both : (p q : ℕ) → PermitsBoth p q (meet_algorithm p q)
meet-permits_both p q = permits_both p q (meet_algorithm p q) (meet_both p q)

-- ---- two numbers

or_none : (x y : Bool) → y ≡ false → (x || y) ≡ x
or_none true y e = refl
or_none false y e = e

either : (x y u v : Bool) → (x ≡ true → u ≡ true) → (y ≡ true → v ≡ true) → (x || y) ≡ true → (u || v) ≡ true
either true y u v first second h = or_left u v (first refl)
either false y u v first second h = or_right u v (second h)

-- the flags of both policies, and these numbers
abbrev with_algorithms : Policy → Policy → (alg alg2 : ℕ) → Policy
with_algorithms p q alg alg2 = record { usage = record { 0 = bit_and p.usage.0 q.usage.0 }; alg = record { 0 = alg }; alg2 = record { 0 = alg2 } }

-- what a meet permits in each place, both permit there
module _ (p q : Policy) (m n a : ℕ) (ca : is_concrete a ≡ true) (first : Both p.alg.0 q.alg.0 (Some m)) (second : Both p.alg2.0 q.alg2.0 (Some n)) where
  by_first : permits_algorithm m a ≡ true → (permits_algorithm p.alg.0 a ≡ true) × (permits_algorithm q.alg.0 a ≡ true)
  by_first h = and_parts _ _ (sym (first a ca) ∙ h)

  by_second : permits_algorithm n a ≡ true → (permits_algorithm p.alg2.0 a ≡ true) × (permits_algorithm q.alg2.0 a ≡ true)
  by_second h = and_parts _ _ (sym (second a ca) ∙ h)

  source_allows : allows (with_algorithms p q m n) a ≡ true → allows p a ≡ true
  source_allows h = either (permits_algorithm m a) (permits_algorithm n a) _ _ (λ e. (by_first e).0) (λ e. (by_second e).0) h

  stated_allows : allows (with_algorithms p q m n) a ≡ true → allows q a ≡ true
  stated_allows h = either (permits_algorithm m a) (permits_algorithm n a) _ _ (λ e. (by_first e).1) (λ e. (by_second e).1) h

within_both : (p q : Policy) (m n : Option ℕ) → Both p.alg.0 q.alg.0 m → Both p.alg2.0 q.alg2.0 n → IfSome (with_meets p q m n) (λ met. IsWithin met p × IsWithin met q)
within_both p q (Some m) (Some n) first second = (
  record { flags = eq-eqb _ _ (includes-and_l p.usage.0 q.usage.0); algorithms = λ a ca h. source_allows p q m n a ca first second h },
  record { flags = eq-eqb _ _ (includes-and_r p.usage.0 q.usage.0); algorithms = λ a ca h. stated_allows p q m n a ca first second h },
)
within_both p q (Some m) None first second = tt
within_both p q None n first second = tt

-- the meet is within the source's policy, and within the stated one
pub meet-within : (p q : Policy) → IfSome (meet_of p q) (λ met. IsWithin met p × IsWithin met q)
meet-within p q = within_both p q (meet_algorithm p.alg.0 q.alg.0) (meet_algorithm p.alg2.0 q.alg2.0) (meet_both p.alg.0 q.alg.0) (meet_both p.alg2.0 q.alg2.0)

first_of : (o : Option Policy) (p q : Policy) → IfSome o (λ met. IsWithin met p × IsWithin met q) → IfSome o (λ met. IsWithin met p)
first_of (Some met) p q h = h.0
first_of None p q h = tt

second_of : (o : Option Policy) (p q : Policy) → IfSome o (λ met. IsWithin met p × IsWithin met q) → IfSome o (λ met. IsWithin met q)
second_of (Some met) p q h = h.1
second_of None p q h = tt

pub meet-within_source : (p q : Policy) → IfSome (meet_of p q) (λ met. IsWithin met p)
meet-within_source p q = first_of (meet_of p q) p q (meet-within p q)

pub meet-within_stated : (p q : Policy) → IfSome (meet_of p q) (λ met. IsWithin met q)
meet-within_stated p q = second_of (meet_of p q) p q (meet-within p q)

-- ---- one number

one_allows : (p : Policy) (a : ℕ) → HasOneAlgorithm p → allows p a ≡ permits_algorithm p.alg.0 a
one_allows p a one = or_none (permits_algorithm p.alg.0 a) (permits_algorithm p.alg2.0 a) (permits-zero p.alg2.0 a (eq-eqb p.alg2.0 0 one))

meet_zero : (q : ℕ) → meet_algorithm 0 q ≡ Some 0
unfolding meet_algorithm
meet_zero q = refl

module _ (p q : Policy) (one_p : HasOneAlgorithm p) (one_q : HasOneAlgorithm q) where
  both_allow : (a : ℕ) → (allows p a && allows q a) ≡ (permits_algorithm p.alg.0 a && permits_algorithm q.alg.0 a)
  both_allow a = rw (one_allows p a one_p, one_allows q a one_q) refl

  module _ (m flags a : ℕ) (ca : is_concrete a ≡ true) (both : Both p.alg.0 q.alg.0 (Some m)) where
    allowed : allows (with_algorithms p q m 0) a ≡ (allows p a && allows q a)
    allowed = one_allows (with_algorithms p q m 0) a refl ∙ both a ca ∙ sym (both_allow a)

    use_forward : may_use (with_algorithms p q m 0) flags a ≡ true → (may_use p flags a ≡ true) × (may_use q flags a ≡ true)
    use_forward h =
        let parts = and_parts (eqb (bit_and (bit_and p.usage.0 q.usage.0) flags) flags) (allows (with_algorithms p q m 0) a) h in
        let inside : Includes (bit_and p.usage.0 q.usage.0) flags = eqb-true _ flags parts.0 in
        let in_p : Includes p.usage.0 flags = includes-trans p.usage.0 (bit_and p.usage.0 q.usage.0) flags (includes-and_l p.usage.0 q.usage.0) inside in
        let in_q : Includes q.usage.0 flags = includes-trans q.usage.0 (bit_and p.usage.0 q.usage.0) flags (includes-and_r p.usage.0 q.usage.0) inside in
        let algs = and_parts (allows p a) (allows q a) (sym allowed ∙ parts.1) in
        (and_from _ _ (eq-eqb _ flags in_p) algs.0, and_from _ _ (eq-eqb _ flags in_q) algs.1)

    use_back : may_use p flags a ≡ true → may_use q flags a ≡ true → may_use (with_algorithms p q m 0) flags a ≡ true
    use_back hp hq =
        let ps = and_parts (eqb (bit_and p.usage.0 flags) flags) (allows p a) hp in
        let qs = and_parts (eqb (bit_and q.usage.0 flags) flags) (allows q a) hq in
        let inside : Includes (bit_and p.usage.0 q.usage.0) flags = includes-both p.usage.0 q.usage.0 flags (eqb-true _ flags ps.0) (eqb-true _ flags qs.0) in
        and_from _ _ (eq-eqb _ flags inside) (allowed ∙ and_from _ _ ps.1 qs.1)

  may_use_both : (m : Option ℕ) → Both p.alg.0 q.alg.0 m → MayUseBoth p q (with_meets p q m (Some 0))
  may_use_both (Some m) both = λ flags a ca. (use_forward m flags a ca both, λ h. use_back m flags a ca both h.0 h.1)
  may_use_both None both = λ flags a ca hp hq.
      both_ways (allows p a && allows q a) (both_allow a ∙ both a ca)
      (and_from _ _ (and_parts (has_usage p.usage.0 flags) (allows p a) hp).1 (and_parts (has_usage q.usage.0 flags) (allows q a) hq).1)

  second_meets : meet_algorithm p.alg2.0 q.alg2.0 ≡ Some 0
  second_meets = ap (λ n. meet_algorithm n q.alg2.0) one_p ∙ meet_zero q.alg2.0

  pub meet-may_use_both : MayUseBoth p q (meet_of p q)
  meet-may_use_both =
      subst (λ n. MayUseBoth p q (with_meets p q (meet_algorithm p.alg.0 q.alg.0) n)) (sym second_meets) (may_use_both (meet_algorithm p.alg.0 q.alg.0) (meet_both p.alg.0 q.alg.0))

-- ---- one copy

pub IsWithin-refl : (p : Policy) → IsWithin p p
IsWithin-refl p = record { flags = eq-eqb _ _ (includes-refl p.usage.0); algorithms = λ a ca h. h }

pub IsWithin-trans : (a b c : Policy) → IsWithin c b → IsWithin b a → IsWithin c a
IsWithin-trans a b c cb ba = record {
  flags = eq-eqb _ _ (includes-trans a.usage.0 b.usage.0 c.usage.0 (eqb-true _ _ ba.flags) (eqb-true _ _ cb.flags));
  algorithms = λ alg calg h. ba.algorithms alg calg (cb.algorithms alg calg h);
}

-- the flags that others imply stay within a policy that has its own
pub IsWithin-implied : (p m : Policy) → IsFilled p → IsWithin m p → IsFilled (with_implied m) × IsWithin (with_implied m) p
IsWithin-implied p m filled inside = (
  implied-implied m.usage.0,
  record {
    flags = eq-eqb _ _ (includes-implied p.usage.0 m.usage.0 filled (eqb-true _ _ inside.flags));
    algorithms = inside.algorithms;
  },
)

copy_step : (p : Policy) (m : Option Policy) → IsFilled p → IfSome m (λ met. IsWithin met p) → IfSome (option_map with_implied m) (λ copy. IsFilled copy × IsWithin copy p)
copy_step p (Some m) filled inside = IsWithin-implied p m filled inside
copy_step p None filled inside = tt

pub copy-within : (source stated : Policy) → IsFilled source → IfSome (copy_of source stated) (λ copy. IsFilled copy × IsWithin copy source)
copy-within source stated filled = copy_step source (meet_of source stated) filled (meet-within_source source stated)

-- ---- a chain of copies

chain_end : (origin copy : Policy) (last : Option Policy) → IsWithin copy origin → IfSome last (λ l. IsWithin l copy) → IfSome last (λ l. IsWithin l origin)
chain_end origin copy None inside h = tt
chain_end origin copy (Some l) inside h = IsWithin-trans origin copy l h inside

chain_step : (origin : Policy) (copy : Option Policy) (more : List Policy) → ((p : Policy) → IsFilled p → IfSome (chain_of p more) (λ last. IsWithin last p)) →
    IfSome copy (λ c. IsFilled c × IsWithin c origin) → IfSome (option_and_then (λ c. chain_of c more) copy) (λ last. IsWithin last origin)
chain_step origin None more rest h = tt
chain_step origin (Some c) more rest h = chain_end origin c (chain_of c more) h.1 (rest c h.0)

pub chain-within : (all : List Policy) (origin : Policy) → IsFilled origin → IfSome (chain_of origin all) (λ last. IsWithin last origin)
chain-within [] origin filled = IsWithin-refl origin
chain-within (stated ∷ more) origin filled = chain_step origin (copy_of origin stated) more (λ p. chain-within more p) (copy-within origin stated filled)
