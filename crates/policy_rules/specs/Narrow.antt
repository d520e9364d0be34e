-- What an admission rule makes of the attributes of a new key.
use Rattle.std.specs.Prelude.{ℕ, Bool, not, ◌&&◌, ◌||◌, ◌==◌, if◌then◌else◌, bit_and, List, [], ◌∷◌, Result, Ok, Err}
use Rattle.psa_status.specs.{declared.Status.Status, declared.Status.TheVariants.NotPermitted}
use Rattle.key_attributes.specs.{declared.Attributes.Attributes, declared.Policy.Policy}
use Rattle.policy_rules.specs.{Policy.IsWithin, declared.narrowing.Label.Label, declared.narrowing.Label.TheVariants.NoExport, declared.narrowing.Label.TheVariants.NoCopy, declared.narrowing.Label.TheVariants.NoEcb, declared.narrowing.Label.TheVariants.Aes256, declared.narrowing.Verdict.Verdict, declared.narrowing.Verdict.TheVariants.Keep, declared.narrowing.Verdict.TheVariants.Refuse}

-- the attributes with these flags alone
abbrev pub only_usage : Attributes → ℕ → Attributes
only_usage a flags = record a { policy = record (a.policy) { usage = record { 0 = bit_and a.policy.usage.0 flags } } }

-- whether one of a policy's numbers is that of ECB without padding
abbrev pub names_ecb : Policy → Bool
names_ecb policy = policy.alg.0 == 0x04404400 || policy.alg2.0 == 0x04404400

-- the usage without EXPORT (1) or COPY (2); no ECB without padding; AES keys (2400) of 256 bits alone
abbrev pub narrowed : Label → Attributes → Verdict
narrowed NoExport a = Keep (only_usage a 0xfffffffe)
narrowed NoCopy a = Keep (only_usage a 0xfffffffd)
narrowed NoEcb a = if names_ecb a.policy then Refuse else Keep a
narrowed Aes256 a = if a.key_type.0 == 0x2400 && not (a.bits == 256) then Refuse else Keep a

abbrev pub after_verdict : Verdict → (Attributes → Result Attributes Status) → Result Attributes Status
after_verdict (Keep kept) next = next kept
after_verdict Refuse next = Err NotPermitted

-- each rule in turn narrows what the one before it kept, and the first that refuses ends it
abbrev pub after_rules : List Label → Attributes → Result Attributes Status
after_rules [] attributes = Ok attributes
after_rules (label ∷ labels) attributes = after_verdict (narrowed label attributes) (after_rules labels)

-- the policy that is kept has no flag and allows no algorithm that the one before doesn't
abbrev pub KeepsWithin : Attributes → Verdict → Type 0
KeepsWithin a (Keep kept) = IsWithin kept.policy a.policy
KeepsWithin a Refuse = Unit {0}
