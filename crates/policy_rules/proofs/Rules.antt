-- A rule keeps no flag and no algorithm that a key didn't have.
use Rattle.policy_rules.proofs.{Common.Aes256, Common.Attributes, Common.Bool, Common.NoCopy, Common.NoEcb, Common.NoExport, Common.cond, Common.eq-eqb, Common.eqb, Common.false, Common.not, Common.true, Common.◌&&◌, Usages.includes-and_l, Copies.IsWithin-refl}
use Rattle.policy_rules.specs.{declared.narrowing.Label.Label, declared.narrowing.Verdict.TheVariants.Keep, declared.narrowing.Verdict.TheVariants.Refuse, Narrow.names_ecb, Narrow.narrowed, Narrow.KeepsWithin}

kept_or_refused : (t : Bool) (a : Attributes) → KeepsWithin a (cond t Refuse (Keep a))
kept_or_refused true a = tt
kept_or_refused false a = IsWithin-refl a.policy

pub narrowed-within : (label : Label) (a : Attributes) → KeepsWithin a (narrowed label a)
narrowed-within NoExport a = record { flags = eq-eqb _ _ (includes-and_l a.policy.usage.0 0xfffffffe); algorithms = λ alg calg h. h }
narrowed-within NoCopy a = record { flags = eq-eqb _ _ (includes-and_l a.policy.usage.0 0xfffffffd); algorithms = λ alg calg h. h }
narrowed-within NoEcb a = kept_or_refused (names_ecb a.policy) a
narrowed-within Aes256 a = kept_or_refused (eqb a.key_type.0 0x2400 && not (eqb a.bits 256)) a
