-- The refusals of what a key is looked for.
use Rattle.std.proofs.{Common.Bool, Common.None, Common.Option, Common.Some, Common.[], Common.cond, Common.false, Common.refl, Common.sym, Common.take, Common.true, Common.ℕ, Common.◌∙◌, Common.◌∷◌, Common.◌≡◌, Math.Bool.and-true, lemmas.Bool.cond_both}
use Rattle.key_policy.proofs.Common.{InvalidArgument, InvalidHandle, Key, NotPermitted, NotSupported, Status, derivation_key_rows, export_rows, first_row, is_concrete, is_opaque, pattern_refusal, use_rows}
use Rattle.store_model.proofs.Tables.{none_holds, refused_by}
use Rattle.key_policy.specs.{declared.key_use.KeyUse.KeyUse, declared.key_use.KeyUse.TheVariants.Export, declared.key_use.KeyUse.TheVariants.Algorithm, declared.key_use.KeyUse.TheVariants.Derivation, Uses.use_refusal}

-- a key that isn't there
pub missing : (wanted : KeyUse) → use_refusal wanted None ≡ Some InvalidHandle
missing Export = refl
missing (Algorithm class usage alg) = refl
missing (Derivation step alg) = cond_both (is_concrete alg.0) _ _ (λ o. o ≡ Some InvalidHandle) (λ e. refl) (λ e. refl)

-- a key that isn't refused is local
pub local : (wanted : KeyUse) (key : Key) → use_refusal wanted (Some key) ≡ None → is_opaque key.attributes ≡ false
local Export key is = none_holds (take 2 (export_rows (Some key) 0)) 1 is
local (Algorithm class usage alg) key is = sym (and-true (is_opaque key.attributes)) ∙ none_holds (use_rows false class usage.0 alg.0 (Some key)) 4 is
local (Derivation step alg) key is =
    cond_both (is_concrete alg.0) _ _ (λ o. o ≡ None → is_opaque key.attributes ≡ false) (λ e. none_holds (derivation_key_rows (Some key) step alg.0) 2) (λ e f. cc) is

-- what holds of four statuses holds of each refusal
module _ (P : Status → Type 0) (handle : P InvalidHandle) (argument : P InvalidArgument) (permitted : P NotPermitted) (supported : P NotSupported) where
  of_derivation : (b : Bool) (found : Option Key) (step alg : ℕ) (status : Status) → cond b (first_row (derivation_key_rows found step alg)) (Some (pattern_refusal found)) ≡ Some status → P status
  of_derivation true None step alg = refused_by P (derivation_key_rows None step alg) (λ on. handle, tt)
  of_derivation true (Some key) step alg = refused_by P (derivation_key_rows (Some key) step alg) (λ on. permitted, (λ on. argument, (λ on. supported, tt)))
  of_derivation false None step alg = refused_by P ((true, InvalidHandle) ∷ []) (λ on. handle, tt)
  of_derivation false (Some key) step alg = refused_by P ((true, NotPermitted) ∷ []) (λ on. permitted, tt)

  pub refused_so : (wanted : KeyUse) (found : Option Key) (status : Status) → use_refusal wanted found ≡ Some status → P status
  refused_so Export None = refused_by P (take 2 (export_rows None 0)) (λ on. handle, tt)
  refused_so Export (Some key) = refused_by P (take 2 (export_rows (Some key) 0)) (λ on. permitted, (λ on. supported, tt))
  refused_so (Algorithm class usage alg) None = refused_by P (use_rows false class usage.0 alg.0 None) (λ on. handle, tt)
  refused_so (Algorithm class usage alg) (Some key) =
      refused_by P (use_rows false class usage.0 alg.0 (Some key)) (λ on. supported, (λ on. argument, (λ on. permitted, (λ on. argument, (λ on. supported, tt)))))
  refused_so (Derivation step alg) found = of_derivation (is_concrete alg.0) found step alg.0
