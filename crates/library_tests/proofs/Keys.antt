-- The keys of a driver that takes one after another.
use Rattle.std.proofs.{Common.Err, Common.None, Common.Ok, Common.Option, Common.Result, Common.Some, Common.ap, Common.arith, Common.cond, Common.false, Common.inl, Common.inr, Common.unwrap_or, Common.ℕ, Common.◌+◌, Common.◌==◌, Common.◌∙◌, Common.◌≡◌, Common.◌≤◌, lemmas.Bool.Decides.nat_tests}
use Rattle.std.specs.Ordering.{nat_cmp}
use Rattle.std.specs.FinMap as finite
use Rattle.driver_dispatch.specs.{Held.HeldKey, Held.HeldKeys, Held.held_key, Held.no_keys, Held.with_held_key, Calls.Changes}
use Rattle.soft_driver.proofs.Maps.{put}

pub none_yet : (m : HeldKeys) (handle : ℕ) → m ≡ no_keys → held_key m handle ≡ None
none_yet m handle e = ap (λ m. held_key m handle) e ∙ finite.get-empty nat_cmp handle

same : (a b : HeldKeys) → ◌≡◌ {A = Option HeldKeys} (Some a) (Some b) → a ≡ b
same a b e = ap (λ o. unwrap_or o no_keys) e

pub others_there : (old new : HeldKeys) (handle other : ℕ) (key : HeldKey) (o : Option HeldKey) → (other == handle) ≡ false →
    ◌≡◌ {A = Option HeldKeys} (Some new) (Some (with_held_key handle key old)) → held_key old other ≡ o → held_key new other ≡ o
others_there old new handle other key o differ e was =
    ap (λ m. held_key m other) (same new _ e) ∙ put old handle key other ∙ ap (λ b. cond b (Some key) (held_key old other)) differ ∙ was

abbrev pub AreNewFrom : HeldKeys → ℕ → Type 0
AreNewFrom m handle = (q : ℕ) → handle ≤ q → held_key m q ≡ None

-- the handles past one that a call was to bring are as new as before
pub new_after : {E : Type 0} (old new : HeldKeys) (handle : ℕ) (key : HeldKey) (r : Result (Unit {0}) E) → Changes (with_held_key handle key) (Some old) (Some new) r →
    AreNewFrom old handle → AreNewFrom new (handle + 1)
new_after old new handle key (Ok x) e h q le = others_there old new handle q key None (grind (arith, nat_tests)) e (h q (omega (arith, le)))
new_after old new handle key (Err x) (inl e) h q le = ap (λ m. held_key m q) (same new old e) ∙ h q (omega (arith, le))
new_after old new handle key (Err x) (inr e) h q le = others_there old new handle q key None (grind (arith, nat_tests)) e (h q (omega (arith, le)))
