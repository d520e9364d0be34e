-- What a number other than 0 permits, by its base and its lengths.
use Rattle.policy_rules.proofs.Common.{Bool, None, Option, Some, ap, base_of, both_ways, cond, eq-eqb, eqb, eqb-true, false, is_concrete, is_same_algorithm, is_some, minimum_of, minimum_of-concrete, ne_eqb, not, permits_algorithm, reaches, refl, same_length, tag_length_of, true, ℕ, ◌&&◌, ◌||◌, ◌∙◌, ◌≡◌}

-- whether a number's lengths have this one: its own where it is concrete, and else those from its minimum on
abbrev pub fits : Bool → Option ℕ → Option ℕ → Option ℕ → Bool
fits true own minimum length = same_length own length
fits false own minimum length = reaches minimum length

abbrev pub has : ℕ → ℕ → Option ℕ → Bool
has p base length = eqb (base_of p) base && fits (is_concrete p) (tag_length_of p) (minimum_of p) length

or_nothing : (x s : Bool) → (x && s || x && false) ≡ (x && s)
or_nothing true true = refl
or_nothing true false = refl
or_nothing false s = refl

permitted : (zp cp ca : Bool) (bp ba : ℕ) (lp mp la ma : Option ℕ) (other : Bool) → zp ≡ false → ca ≡ true → ma ≡ None → (cp ≡ true → mp ≡ None) → (cp ≡ false → other ≡ false) →
    (not zp && (cond (cp && ca) (eqb bp ba && same_length lp la) (cond (is_some mp && is_some ma) (eqb bp ba && same_length mp ma) other) || (eqb bp ba && reaches mp la)))
    ≡ (eqb bp ba && fits cp lp mp la)
permitted true cp ca bp ba lp mp la ma other z a e c o = cc
permitted false cp false bp ba lp mp la ma other z a e c o = cc
permitted false true true bp ba lp (Some m) la ma other z a e c o = let h : Some m ≡ None = c refl in cc
permitted false true true bp ba lp None la ma other z a e c o = or_nothing (eqb bp ba) (same_length lp la)
permitted false false true bp ba lp None la ma other z a e c o = rw (o refl)
permitted false false true bp ba lp (Some m) la None other z a e c o = rw (o refl)
permitted false false true bp ba lp (Some m) la (Some n) other z a e c o = cc

-- where neither is 0 a number permits a concrete one by its base and length
pub permits-has : (p a : ℕ) → eqb p 0 ≡ false → is_concrete a ≡ true → permits_algorithm p a ≡ has p (base_of a) (tag_length_of a)
unfolding permits_algorithm is_same_algorithm
permits-has p a z h =
    permitted (eqb p 0) (is_concrete p) (is_concrete a) (base_of p) (base_of a) (tag_length_of p) (minimum_of p) (tag_length_of a) (minimum_of a) (eqb p a)
    z h (minimum_of-concrete a h) (minimum_of-concrete p)
    (λ e. ne_eqb p a (λ same. both_ways (is_concrete p) e (ap is_concrete same ∙ h)))

-- 0 permits nothing
pub permits-zero : (p a : ℕ) → eqb p 0 ≡ true → permits_algorithm p a ≡ false
unfolding permits_algorithm
permits-zero p a z = rw z

pub has-concrete : (p base : ℕ) (length : Option ℕ) → is_concrete p ≡ true → has p base length ≡ (eqb (base_of p) base && same_length (tag_length_of p) length)
has-concrete p base length e = rw e

pub has-minimum : (p base : ℕ) (length : Option ℕ) → is_concrete p ≡ false → has p base length ≡ (eqb (base_of p) base && reaches (minimum_of p) length)
has-minimum p base length e = rw e

pub same_length-true : (m n : Option ℕ) → same_length m n ≡ true → m ≡ n
same_length-true None None h = refl
same_length-true (Some m) (Some n) h = ap Some (eqb-true m n h)
same_length-true None (Some n) h = cc
same_length-true (Some m) None h = cc

pub same_length-refl : (m : Option ℕ) → same_length m m ≡ true
same_length-refl None = refl
same_length-refl (Some m) = eq-eqb m m refl
