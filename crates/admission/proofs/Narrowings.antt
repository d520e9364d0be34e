-- What rules leave, one after another.
use Rattle.admission.proofs.Common.{Bool, Err, IfOk, Label, List, Narrows, Ok, Result, [], after_rules, ap, cond, eqb, false, not, refl, true, ◌&&◌, ◌∙◌, ◌∷◌, ◌≡◌}
use Rattle.key_attributes.specs.declared.Attributes.{Attributes}
use Rattle.psa_status.specs.declared.Status.{Status}
use Rattle.policy_rules.specs.{declared.narrowing.Label.TheVariants.NoExport, declared.narrowing.Label.TheVariants.NoCopy, declared.narrowing.Label.TheVariants.NoEcb, declared.narrowing.Label.TheVariants.Aes256, declared.narrowing.Verdict.Verdict, declared.narrowing.Verdict.TheVariants.Keep, declared.narrowing.Verdict.TheVariants.Refuse}
use Rattle.policy_rules.specs.Narrow.{names_ecb, narrowed, after_verdict, KeepsWithin}
use Rattle.policy_rules.proofs.{Rules.narrowed-within, Copies.IsWithin-refl, Copies.IsWithin-trans}

-- a verdict leaves all but the policy
abbrev KeepsRest : Attributes → Verdict → Type 0
KeepsRest a (Keep kept) = kept ≡ record a { policy = kept.policy }
KeepsRest a Refuse = Unit {0}

kept_or_refused : (b : Bool) (a : Attributes) → KeepsRest a (cond b Refuse (Keep a))
kept_or_refused true a = tt
kept_or_refused false a = refl

narrowed-rest : (label : Label) (a : Attributes) → KeepsRest a (narrowed label a)
narrowed-rest NoExport a = refl
narrowed-rest NoCopy a = refl
narrowed-rest NoEcb a = kept_or_refused (names_ecb a.policy) a
narrowed-rest Aes256 a = kept_or_refused (eqb a.key_type.0 0x2400 && not (eqb a.bits 256)) a

narrows_none : (a : Attributes) → Narrows a a
narrows_none a = record { policy = IsWithin-refl a.policy; rest = refl }

then_narrows : (a b c : Attributes) → Narrows a b → Narrows b c → Narrows a c
then_narrows a b c ab bc = record {
  policy = IsWithin-trans a.policy b.policy c.policy bc.policy ab.policy;
  rest = bc.rest ∙ ap (λ (x : Attributes). record x { policy = c.policy }) ab.rest;
}

later : (a kept : Attributes) (r : Result Attributes Status) → Narrows a kept → IfOk r (Narrows kept) → IfOk r (Narrows a)
later a kept (Ok last) first h = then_narrows a kept last first h
later a kept (Err status) first h = tt

step : (a : Attributes) (v : Verdict) (next : Attributes → Result Attributes Status) → ((kept : Attributes) → IfOk (next kept) (Narrows kept)) →
    KeepsWithin a v → KeepsRest a v → IfOk (after_verdict v next) (Narrows a)
step a (Keep kept) next h within rest = later a kept (next kept) (record { policy = within; rest = rest }) (h kept)
step a Refuse next h within rest = tt

-- each rule narrows
pub narrows : (labels : List Label) (a : Attributes) → IfOk (after_rules labels a) (Narrows a)
narrows [] a = narrows_none a
narrows (label ∷ labels) a = step a (narrowed label a) (after_rules labels) (narrows labels) (narrowed-within label a) (narrowed-rest label a)
