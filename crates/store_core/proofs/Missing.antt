-- What a call answers where there is no key, and only there.
use Rattle.store_core.proofs.Common.{Bool, cond, Corrupt, derivation_key_rows, Disk, Err, export_rows, false, first_row, InvalidArgument, InvalidHandle, IsErrOf, Key, KeyUse, Missing, NotPermitted, NotSupported, refl, refused_by, Some, Status, status_of, subst, take, true, Unread, use_refusal, use_rows, ℕ, ◌≡◌}
use Rattle.alg_encoding.specs.Encoding.{is_concrete}
use Rattle.key_policy.specs.declared.key_use.KeyUse.TheVariants.{Export, Algorithm, Derivation}

-- a search that is answered so found no key
pub is_missing_why : (why : Unread) → status_of why ≡ InvalidHandle → IsErrOf {T = ℕ} {E = Unread} (Err why) Missing
is_missing_why Missing is = refl
is_missing_why Disk is = cc
is_missing_why Corrupt is = cc

abbrev IsOther : Status → Type 0
IsOther status = status ≡ InvalidHandle → ⊥

argument : IsOther InvalidArgument
argument is = cc

permitted : IsOther NotPermitted
permitted is = cc

supported : IsOther NotSupported
supported is = cc

by_step : (b : Bool) (key : Key) (step alg : ℕ) (status : Status) → cond b (first_row (derivation_key_rows (Some key) step alg)) (Some NotPermitted) ≡ Some status → IsOther status
by_step true key step alg status is = refused_by IsOther (derivation_key_rows (Some key) step alg) (λ on. permitted, (λ on. argument, (λ on. supported, tt))) status is
by_step false key step alg status is = let same : NotPermitted ≡ status = cc in subst IsOther same permitted

-- no use of a key that is there is refused so
pub is_other : (wanted : KeyUse) (key : Key) (status : Status) → use_refusal wanted (Some key) ≡ Some status → status ≡ InvalidHandle → ⊥
is_other Export key = refused_by IsOther (take 2 (export_rows (Some key) 0)) (λ on. permitted, (λ on. supported, tt))
is_other (Algorithm class usage alg) key =
    refused_by IsOther (use_rows false class usage.0 alg.0 (Some key)) (λ on. supported, (λ on. argument, (λ on. permitted, (λ on. argument, (λ on. supported, tt)))))
is_other (Derivation step alg) key = by_step (is_concrete alg.0) key step alg.0
