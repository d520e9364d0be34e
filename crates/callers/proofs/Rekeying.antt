-- What becomes of an operation doesn't depend on the identifier of its key.
use Rattle.callers.proofs.Common.{Active, After, Authenticating, Bool, Ciphering, Deriving, HandleCall, HandleOperation, HasNumber, Hashing, InError, Inactive, IsSoundOperation, Key, KeyCreation, List, None, OnAead, OnCipher, OnDerivation, OnHash, OnMac, Operation, Option, Reading, Sealing, Some, Store, Work, aead_part, ap, arith, cipher_part, derivation_part, false, hash_part, inl, inr, is_alive, key_of_operation, mac_part, nat_tests, on_part, option_map_or, part_of, refl, rekeyed, stepped_by, subst, sym, true, ℕ, ◌==◌, ◌∙◌, ◌≡◌, ◌⊎◌}
use Rattle.std.specs.FinMap as map
use Rattle.store_model.specs.Sound.{IsSoundUse}

pub part_rekeyed : {W : Type 0} (part : Work → Operation W) (key : Option KeyCreation) (o : HandleOperation) → part_of part (rekeyed key o) ≡ part_of part o
part_rekeyed part key Inactive = refl
part_rekeyed part key InError = refl
part_rekeyed part key (Active held) = refl

on_rekeyed : {W : Type 0} (key : Option KeyCreation) (o : HandleOperation) (embed : W → Work) (own : Operation W) (alive : Bool) (f : W → After W) → (on_part (rekeyed key o) embed own alive f).reply ≡ (on_part o embed own alive f).reply
on_rekeyed key o embed Inactive alive f = refl
on_rekeyed key o embed InError alive f = refl
on_rekeyed key o embed (Active w) alive f = refl

pub part_replies : {W : Type 0} (key : Option KeyCreation) (o : HandleOperation) (embed : W → Work) (part : Work → Operation W) (alive : Bool) (f : W → After W) →
    (on_part (rekeyed key o) embed (part_of part (rekeyed key o)) alive f).reply ≡ (on_part o embed (part_of part o) alive f).reply
part_replies key o embed part alive f = on_rekeyed key o embed (part_of part (rekeyed key o)) alive f ∙ ap (λ own. (on_part o embed own alive f).reply) (part_rekeyed part key o)

pub rekeyed_steps : (key : Option KeyCreation) (alive : Bool) (random : List ℕ) (o : HandleOperation) (call : HandleCall) → (stepped_by alive random (rekeyed key o) call).reply ≡ (stepped_by alive random o call).reply
rekeyed_steps key alive random o (OnHash step) = part_replies key o Hashing hash_part alive _
rekeyed_steps key alive random o (OnMac step) = part_replies key o Authenticating mac_part alive _
rekeyed_steps key alive random o (OnCipher step) = part_replies key o Ciphering cipher_part alive _
rekeyed_steps key alive random o (OnAead step) = part_replies key o Sealing aead_part alive _
rekeyed_steps key alive random o (OnDerivation step) = part_replies key o Deriving derivation_part alive _
rekeyed_steps key alive random o _ = refl

-- THE KEY OF A LEASE

-- the operation's key is there exactly where some key has the lease's number
pub record LivesBy (m : Store) (lease : Reading) (key : Option KeyCreation) : Type 0 where
  pub has : is_alive m key ≡ true → HasNumber m lease.creation
  pub lives : HasNumber m lease.creation → is_alive m key ≡ true

pub no_test : (b : Bool) → (b ≡ true → ⊥) → b ≡ false
no_test true n = absurd (n refl)
no_test false n = refl

lives_there : (m : Store) (creation : KeyCreation) → is_alive m (Some creation) ≡ true → HasNumber m creation.number
lives_there m creation alive = by (map.get m.keys creation.id) refl alive
  where
    by : (found : Option Key) → map.get m.keys creation.id ≡ found → option_map_or (λ key. key.number == creation.number) found false ≡ true → HasNumber m creation.number
    by None at is = cc
    by (Some key) at is = (creation.id, key, at, grind (arith, nat_tests))

same_number : (key : Key) (n : ℕ) → key.number ≡ n → (key.number == n) ≡ true
same_number key n same = grind (arith, nat_tests)

-- an operation whose key is of the lease's number may have it under the identifier that a store has for it, if any: it has no other
-- where the store could be that of its key
pub chosen : (m : Store) (o : HandleOperation) (lease : Reading) (creation : KeyCreation) → key_of_operation o ≡ Some creation → creation.number ≡ lease.creation → (HasNumber m lease.creation) ⊎ (HasNumber m lease.creation → ⊥) →
    (key : Option KeyCreation) × (IsSoundOperation m o → rekeyed key o ≡ o) × LivesBy m lease (key_of_operation (rekeyed key o))
chosen m Inactive lease creation of number either = cc
chosen m InError lease creation of number either = cc
chosen m (Active held) lease creation of number (inl has) = (
  Some (record { id = has.0; number = lease.creation }),
  (λ sound.
      let own : has.0 ≡ creation.id = (subst (IsSoundUse m) of sound.key).identifier has.0 has.1 has.2 (has.3 ∙ sym number) in
      (λ i. Active (record held { key = Some (record { id = own i; number = sym number i }) })) ∙ ap (λ k. Active (record held { key = k })) (sym of)),
  record {
    has = λ alive. has;
    lives = λ again. ap (λ found. option_map_or (λ (key : Key). key.number == lease.creation) found false) has.2 ∙ same_number has.1 lease.creation has.3;
  },
)
chosen m (Active held) lease creation of number (inr none) = (
  Some creation,
  (λ sound. ap (λ k. Active (record held { key = k })) (sym of)),
  record { has = λ alive. subst (HasNumber m) number (lives_there m creation alive); lives = λ has. absurd (none has) },
)
