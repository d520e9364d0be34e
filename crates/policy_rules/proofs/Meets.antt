-- The meet of two algorithm numbers permits what both permit.
use Rattle.policy_rules.proofs.Common.{Bool, None, Option, Some, and_from, and_parts, ap, arith, base_of, both_ways, cases_Bool, cond, cond_both, eq-eqb, eqb, eqb-true, false, false_from_ne_true, inl, inr, is_concrete, is_same_algorithm, is_some, is_wildcard, is_wildcard-minimum, le-leb, leb-true, longer_of, ltb, ltb-false, ltb-true, meet_algorithm, minimum_of, minimum_of-concrete, or_parts, permits_algorithm, reaches, refl, same_length, subst, sym, tag_length_of, true, ℕ, ◌&&◌, ◌<◌, ◌||◌, ◌∙◌, ◌≡◌, ◌≤◌}
use Rattle.policy_rules.proofs.Permitted.{fits, has, permits-has, permits-zero, has-concrete, has-minimum, same_length-true, same_length-refl}

-- the law, as an equation of tests
abbrev pub Both : ℕ → ℕ → Option ℕ → Type 0
Both p q (Some m) = (a : ℕ) → is_concrete a ≡ true → permits_algorithm m a ≡ (permits_algorithm p a && permits_algorithm q a)
Both p q None = (a : ℕ) → is_concrete a ≡ true → (permits_algorithm p a && permits_algorithm q a) ≡ false

and_self : (x : Bool) → x ≡ (x && x)
and_self true = refl
and_self false = refl

and_implied : (x y : Bool) → (x ≡ true → y ≡ true) → x ≡ (x && y)
and_implied true y h = sym (h refl)
and_implied false y h = refl

implied_and : (x y : Bool) → (x ≡ true → y ≡ true) → x ≡ (y && x)
implied_and true true h = refl
implied_and true false h = sym (h refl)
implied_and false true h = refl
implied_and false false h = refl

-- both numbers other than 0, and the meet by bases and lengths
from_has : (p q m : ℕ) → eqb p 0 ≡ false → eqb q 0 ≡ false → eqb m 0 ≡ false → ((base : ℕ) (length : Option ℕ) → has m base length ≡ (has p base length && has q base length)) → Both p q (Some m)
from_has p q m zp zq zm h a ca =
    let hm : permits_algorithm m a ≡ has m (base_of a) (tag_length_of a) = permits-has m a zm ca in
    let hp : permits_algorithm p a ≡ has p (base_of a) (tag_length_of a) = permits-has p a zp ca in
    let hq : permits_algorithm q a ≡ has q (base_of a) (tag_length_of a) = permits-has q a zq ca in
    rw (hm, hp, hq) (h (base_of a) (tag_length_of a))

none_from_has : (p q : ℕ) → eqb p 0 ≡ false → eqb q 0 ≡ false → ((base : ℕ) (length : Option ℕ) → has p base length ≡ true → has q base length ≡ true → ⊥) → Both p q None
none_from_has p q zp zq h a ca =
    let hp : permits_algorithm p a ≡ has p (base_of a) (tag_length_of a) = permits-has p a zp ca in
    let hq : permits_algorithm q a ≡ has q (base_of a) (tag_length_of a) = permits-has q a zq ca in
    false_from_ne_true _ (λ t.
    let parts = and_parts (permits_algorithm p a) (permits_algorithm q a) t in
    h (base_of a) (tag_length_of a) (sym hp ∙ parts.0) (sym hq ∙ parts.1))

zero_case : (zp zq x y : Bool) → (zp ≡ true → x ≡ false) → (zq ≡ true → y ≡ false) → (zp || zq) ≡ true → false ≡ (x && y)
zero_case true zq x y p q h = rw (p refl)
zero_case false true x true p q h = let e : true ≡ false = q refl in cc
zero_case false true true false p q h = refl
zero_case false true false false p q h = refl
zero_case false false x y p q h = cc

-- numbers that are the same algorithm have the same lengths
same_case : (cp cq : Bool) (bp bq base : ℕ) (lp lq mp mq length : Option ℕ) (other : Bool) → (cp ≡ true → mp ≡ None) → (cq ≡ true → mq ≡ None) →
    (other ≡ true → (eqb bp base && fits cp lp mp length) ≡ (eqb bq base && fits cq lq mq length)) →
    cond (cp && cq) (eqb bp bq && same_length lp lq) (cond (is_some mp && is_some mq) (eqb bp bq && same_length mp mq) other) ≡ true →
    (eqb bp base && fits cp lp mp length) ≡ (eqb bq base && fits cq lq mq length)
same_case true true bp bq base lp lq mp mq length other p q o h =
    let parts = and_parts (eqb bp bq) (same_length lp lq) h in
    let b : bp ≡ bq = eqb-true bp bq parts.0 in
    let l : lp ≡ lq = same_length-true lp lq parts.1 in
    rw (b, l)
same_case true false bp bq base lp lq None mq length other p q o h = o h
same_case true false bp bq base lp lq (Some m) mq length other p q o h = let e : Some m ≡ None = p refl in cc
same_case false true bp bq base lp lq None mq length other p q o h = o h
same_case false true bp bq base lp lq (Some m) None length other p q o h = o h
same_case false true bp bq base lp lq (Some m) (Some n) length other p q o h = let e : Some n ≡ None = q refl in cc
same_case false false bp bq base lp lq None mq length other p q o h = o h
same_case false false bp bq base lp lq (Some m) None length other p q o h = o h
same_case false false bp bq base lp lq (Some m) (Some n) length other p q o h =
    let parts = and_parts (eqb bp bq) (eqb m n) h in
    let b : bp ≡ bq = eqb-true bp bq parts.0 in
    let l : m ≡ n = eqb-true m n parts.1 in
    rw (b, l)

same_has : (p q : ℕ) → is_same_algorithm p q ≡ true → (base : ℕ) (length : Option ℕ) → has p base length ≡ has q base length
unfolding is_same_algorithm
same_has p q h base length =
    same_case (is_concrete p) (is_concrete q) (base_of p) (base_of q) base (tag_length_of p) (tag_length_of q) (minimum_of p) (minimum_of q) length (eqb p q)
    (minimum_of-concrete p) (minimum_of-concrete q) (λ e. ap (λ n. has n base length) (eqb-true p q e)) h

-- what permits a concrete number permits what that permits
concrete_has : (p q : ℕ) → is_concrete p ≡ true → eqb q 0 ≡ false → permits_algorithm q p ≡ true → (base : ℕ) (length : Option ℕ) → has p base length ≡ true → has q base length ≡ true
concrete_has p q cp zq h base length t =
    let parts = and_parts (eqb (base_of p) base) (same_length (tag_length_of p) length) (sym (has-concrete p base length cp) ∙ t) in
    let b : base_of p ≡ base = eqb-true (base_of p) base parts.0 in
    let l : tag_length_of p ≡ length = same_length-true (tag_length_of p) length parts.1 in
    subst (λ (n : ℕ). has q n length ≡ true) b
    (subst (λ (n : Option ℕ). has q (base_of p) n ≡ true) l (sym (permits-has q p zq cp) ∙ h))

-- a number with a minimum is not concrete
not_concrete : (p m : ℕ) → minimum_of p ≡ Some m → is_concrete p ≡ false
not_concrete p m h = false_from_ne_true (is_concrete p) (λ c. let e : minimum_of p ≡ None = minimum_of-concrete p c in cc)

reaches_down : (m n : ℕ) (length : Option ℕ) → m ≤ n → reaches (Some n) length ≡ true → reaches (Some m) length ≡ true
reaches_down m n None le h = cc
reaches_down m n (Some l) le h = let up : n ≤ l = leb-true n l h in le-leb m l (omega arith)

-- of two minima of one base the longer one permits less
longer_has : (p q m n : ℕ) → eqb (base_of p) (base_of q) ≡ true → minimum_of p ≡ Some m → minimum_of q ≡ Some n → m ≤ n → (base : ℕ) (length : Option ℕ) → has q base length ≡ true → has p base length ≡ true
longer_has p q m n b mp mq le base length t =
    let at_q : (eqb (base_of q) base && reaches (minimum_of q) length) ≡ true = sym (has-minimum q base length (not_concrete q n mq)) ∙ t in
    let parts = and_parts (eqb (base_of q) base) (reaches (minimum_of q) length) at_q in
    let down : reaches (Some m) length ≡ true = reaches_down m n length le (ap (λ (o : Option ℕ). reaches o length) (sym mq) ∙ parts.1) in
    let base_p : eqb (base_of p) base ≡ true = ap (λ k. eqb k base) (eqb-true (base_of p) (base_of q) b) ∙ parts.0 in
    has-minimum p base length (not_concrete p m mp) ∙ and_from _ _ base_p (ap (λ (o : Option ℕ). reaches o length) mp ∙ down)

-- the minima of one base, the longer one of which is the meet
longer_case : (p q : ℕ) (mp mq : Option ℕ) → minimum_of p ≡ mp → minimum_of q ≡ mq → eqb p 0 ≡ false → eqb q 0 ≡ false → eqb (base_of p) (base_of q) ≡ true →
    (mp ≡ None → Both p q None) → (mq ≡ None → Both p q None) → Both p q (longer_of p mp q mq)
longer_case p q None mq ep eq zp zq b np nq = np refl
longer_case p q (Some m) None ep eq zp zq b np nq = nq refl
longer_case p q (Some m) (Some n) ep eq zp zq b np nq =
    let back : eqb (base_of q) (base_of p) ≡ true = eq-eqb (base_of q) (base_of p) (sym (eqb-true (base_of p) (base_of q) b)) in
    cond_both (ltb m n) q p (λ r. Both p q (Some r))
    (λ less. from_has p q q zp zq zq (λ base length.
    implied_and (has q base length) (has p base length) (longer_has p q m n b ep eq (let l : m < n = ltb-true m n less in omega arith) base length)))
    (λ more. from_has p q p zp zq zp (λ base length.
    and_implied (has p base length) (has q base length) (longer_has q p n m back eq ep (ltb-false m n more) base length)))

reaches_some : (m length : Option ℕ) → reaches m length ≡ true → m ≡ None → ⊥
reaches_some None length h e = both_ways false refl h
reaches_some (Some m) length h e = cc

minimum_wildcard : (q : ℕ) (length m : Option ℕ) → minimum_of q ≡ m → reaches m length ≡ true → is_wildcard q ≡ true
minimum_wildcard q length None e h = let clash : false ≡ true = h in cc
minimum_wildcard q length (Some m) e h = is_wildcard-minimum q m e

has_base : (p base : ℕ) (length : Option ℕ) → has p base length ≡ true → base_of p ≡ base
has_base p base length t = eqb-true (base_of p) base (and_parts _ _ t).0

has_length : (p base : ℕ) (length : Option ℕ) → is_concrete p ≡ true → has p base length ≡ true → tag_length_of p ≡ length
has_length p base length cp t =
    same_length-true (tag_length_of p) length (and_parts (eqb (base_of p) base) (same_length (tag_length_of p) length) (sym (has-concrete p base length cp) ∙ t)).1

has_reach : (p base : ℕ) (length : Option ℕ) → is_concrete p ≡ false → has p base length ≡ true → reaches (minimum_of p) length ≡ true
has_reach p base length cp t = (and_parts (eqb (base_of p) base) (reaches (minimum_of p) length) (sym (has-minimum p base length cp) ∙ t)).1

-- concrete numbers that permit one algorithm are the same
same_concrete : (p q base : ℕ) (length : Option ℕ) → is_concrete p ≡ true → is_concrete q ≡ true → has p base length ≡ true → has q base length ≡ true → is_same_algorithm p q ≡ true
unfolding is_same_algorithm
same_concrete p q base length cp cq hp hq =
    let b : base_of p ≡ base_of q = has_base p base length hp ∙ sym (has_base q base length hq) in
    let l : tag_length_of p ≡ tag_length_of q = has_length p base length cp hp ∙ sym (has_length q base length cq hq) in
    rw (cp, cq) (and_from _ _ (eq-eqb (base_of p) (base_of q) b) (ap (λ o. same_length (tag_length_of p) o) (sym l) ∙ same_length-refl (tag_length_of p)))

-- a number that permits what a concrete one does is a wildcard that permits it, or concrete
crossing : (p q base : ℕ) (length : Option ℕ) → eqb q 0 ≡ false → is_concrete p ≡ true → is_concrete q ≡ false → has p base length ≡ true → has q base length ≡ true →
    (is_concrete p && (is_wildcard q && permits_algorithm q p)) ≡ true
crossing p q base length zq cp cq hp hq =
    let at_base : has q (base_of p) length ≡ true = subst (λ (n : ℕ). has q n length ≡ true) (sym (has_base p base length hp)) hq in
    let at_length : has q (base_of p) (tag_length_of p) ≡ true = subst (λ (n : Option ℕ). has q (base_of p) n ≡ true) (sym (has_length p base length cp hp)) at_base in
    let wild : is_wildcard q ≡ true = minimum_wildcard q length (minimum_of q) refl (has_reach q base length cq hq) in
    and_from _ _ cp (and_from _ _ wild (permits-has q p zq cp ∙ at_length))

-- where both permit an algorithm, and no earlier rule gives a meet, neither is concrete
first_not_concrete : (p q base : ℕ) (length : Option ℕ) → eqb q 0 ≡ false → is_same_algorithm p q ≡ false →
    (is_concrete p && (is_wildcard q && permits_algorithm q p)) ≡ false →
    has p base length ≡ true → has q base length ≡ true → is_concrete p ≡ false
first_not_concrete p q base length zq s pq hp hq =
    false_from_ne_true (is_concrete p) (λ cp. elim (cases_Bool (is_concrete q)) [
      | inl cq ↦ both_ways _ s (same_concrete p q base length cp cq hp hq)
      | inr cq ↦ both_ways _ pq (crossing p q base length zq cp cq hp hq)
    ])

same_both : (p q base : ℕ) (length : Option ℕ) → is_concrete q ≡ true → is_concrete p ≡ false → is_same_algorithm p q ≡ false →
    eqb p 0 ≡ false → (is_concrete q && (is_wildcard p && permits_algorithm p q)) ≡ false → has p base length ≡ true → has q base length ≡ true → ⊥
same_both p q base length cq cp s zp qp hp hq = both_ways _ qp (crossing q p base length zp cq cp hq hp)

-- the law of the meet
pub meet_both : (p q : ℕ) → Both p q (meet_algorithm p q)
unfolding meet_algorithm
meet_both p q =
    cond_both (eqb p 0 || eqb q 0) (Some 0) _ (Both p q)
    (λ z a ca. permits-zero 0 a refl ∙ zero_case (eqb p 0) (eqb q 0) (permits_algorithm p a) (permits_algorithm q a) (permits-zero p a) (permits-zero q a) z)
    (λ nz.
    let zs = or_parts (eqb p 0) (eqb q 0) nz in
    cond_both (is_same_algorithm p q) (Some p) _ (Both p q)
    (λ s. from_has p q p zs.0 zs.1 zs.0 (λ base length. and_self (has p base length) ∙ ap (λ x. has p base length && x) (same_has p q s base length)))
    (λ s. cond_both (is_concrete p && (is_wildcard q && permits_algorithm q p)) (Some p) _ (Both p q)
    (λ pq.
    let outer = and_parts (is_concrete p) (is_wildcard q && permits_algorithm q p) pq in
    let inner = and_parts (is_wildcard q) (permits_algorithm q p) outer.1 in
    from_has p q p zs.0 zs.1 zs.0 (λ base length. and_implied (has p base length) (has q base length) (concrete_has p q outer.0 zs.1 inner.1 base length)))
    (λ pq. cond_both (is_concrete q && (is_wildcard p && permits_algorithm p q)) (Some q) _ (Both p q)
    (λ qp.
    let outer = and_parts (is_concrete q) (is_wildcard p && permits_algorithm p q) qp in
    let inner = and_parts (is_wildcard p) (permits_algorithm p q) outer.1 in
    from_has p q q zs.0 zs.1 zs.1 (λ base length. implied_and (has q base length) (has p base length) (concrete_has q p outer.0 zs.0 inner.1 base length)))
    (λ qp. cond_both (eqb (base_of p) (base_of q)) (longer_of p (minimum_of p) q (minimum_of q)) None (Both p q)
    (λ b. longer_case p q (minimum_of p) (minimum_of q) refl refl zs.0 zs.1 b
    (λ none. none_from_has p q zs.0 zs.1 (λ base length hp hq.
    reaches_some _ length (has_reach p base length (first_not_concrete p q base length zs.1 s pq hp hq) hp) none))
    (λ none. none_from_has p q zs.0 zs.1 (λ base length hp hq.
    let cp : is_concrete p ≡ false = first_not_concrete p q base length zs.1 s pq hp hq in
    let cq : is_concrete q ≡ false = false_from_ne_true (is_concrete q) (λ cq. same_both p q base length cq cp s zs.0 qp hp hq) in
    reaches_some _ length (has_reach q base length cq hq) none)))
    (λ b. none_from_has p q zs.0 zs.1 (λ base length hp hq.
    both_ways _ b (eq-eqb (base_of p) (base_of q) (has_base p base length hp ∙ sym (has_base q base length hq)))))))))
