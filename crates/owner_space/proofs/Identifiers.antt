-- Identifiers inside lead back outside, and no two owners have one.
use Rattle.std.proofs.Common.{Bool, arith, cond, eq-eqb, eqb-true, false, inl, inr, refl, subst, sym, true, ℕ, ◌%◌, ◌*◌, ◌+◌, ◌<◌, ◌==◌, ◌^◌, ◌∙◌, ◌≡◌, ◌≢◌, ◌≤◌, nat_lt}
use Rattle.owner_space.proofs.Common.{inside, inside_created, is_own_volatile, nat_tests, no_identifier, outside}
use Rattle.owner_space.specs.Owners.{NamesAreApart, NamesComeBack}
use Rattle.owner_space.proofs.{Owned.CanName, Owned.IsOwned, Owned.apart, Owned.inside_named, Owned.own_volatile}

low_back : (inner id : ℕ) → inner < 2 ^ 30 → inner % 2 ^ 26 ≡ id → (b : Bool) → nat_lt inner (2 ^ 30) ≡ b → cond b (inner % 2 ^ 26) inner ≡ id
low_back inner id low e true t = e
low_back inner id low e false t = grind (arith, nat_tests)

high_back : (id : ℕ) → 2 ^ 30 ≤ id → (b : Bool) → nat_lt id (2 ^ 30) ≡ b → cond b (id % 2 ^ 26) id ≡ id
high_back id high true t = grind (arith, nat_tests)
high_back id high false t = refl

created_back : (owner id : ℕ) → owner < 16 → (b c : Bool) → (id == 0) ≡ b → nat_lt id (2 ^ 26) ≡ c → cond b 0 (cond c (owner * 2 ^ 26 + id) no_identifier) ≢ no_identifier →
    outside (cond b 0 (cond c (owner * 2 ^ 26 + id) no_identifier)) ≡ id
created_back owner id few true c t u some = sym (eqb-true id 0 t)
created_back owner id few false true t u some =
    let under : id < 2 ^ 26 = grind (arith, nat_tests) in
    low_back (owner * 2 ^ 26 + id) id (omega arith) (omega arith) (nat_lt (owner * 2 ^ 26 + id) (2 ^ 30)) refl
created_back owner id few false false t u some = absurd (some refl)

pub names_come_back : NamesComeBack
names_come_back owners owner id few = of (is_own_volatile owners owner id) refl
  where
    of : (b : Bool) → is_own_volatile owners owner id ≡ b → cond b id (inside_created owner id) ≢ no_identifier → outside (cond b id (inside_created owner id)) ≡ id
    of true t some = let first = (own_volatile owners owner id t).0 in high_back id (omega arith) (nat_lt id (2 ^ 30)) refl
    of false t some = created_back owner id few (id == 0) (nat_lt id (2 ^ 26)) refl refl some

pub names_are_apart : NamesAreApart
names_are_apart owners owner other id other_id few few_too same some keyed = of (owner == other) refl
  where
    owned : (o k : ℕ) → CanName owners o k → k ≢ 0 → k ≢ no_identifier → IsOwned owners o k
    owned o k (inl (inl none)) some keyed = absurd (some none)
    owned o k (inl (inr none)) some keyed = absurd (keyed none)
    owned o k (inr own) some keyed = own

    of : (b : Bool) → (owner == other) ≡ b → owner ≡ other
    of true t = eqb-true owner other t
    of false t =
        let named = subst (CanName owners other) (sym same) (inside_named owners other few_too other_id) in
        let key : ℕ = inside owners owner id in
        absurd (apart owners owner other key (λ e. let clash = sym t ∙ eq-eqb owner other e in cc) (owned owner key (inside_named owners owner few id) some keyed) (owned other key named some keyed))
