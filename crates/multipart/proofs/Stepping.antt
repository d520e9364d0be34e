-- Where the step of an active operation leads.
use Rattle.std.proofs.Common.{Err, None, Ok, OnOk, Option, Result, Some, if◌then◌else◌, subst, sym, ◌≡◌}
use Rattle.std.specs.Result.{is_ok, result_err}
use Rattle.psa_status.specs.declared.Status.{Status}
use Rattle.store_model.specs.Prelude.{Reply, Active, After, ends, unless_failed}
use Rattle.multipart.specs.{Phases.LeadsTo, declared.Phase.Phase}
use Rattle.multipart.specs.declared.Phase.TheVariants as phase

-- one after which the operation goes on with this work
pub going_on : {S T : Type 0} (holds : S → Type 0) (result : Result T Status) (refused : Option Status) (work : S) (after : After S) (p : Phase) → after.operation ≡ Active work →
    p ≡ (if is_ok result then phase.Active else phase.InError) → result_err result ≡ refused → OnOk result (holds work) → LeadsTo p holds (unless_failed refused after).operation
going_on holds (Ok t) None work after phase.Active a e f h = subst (LeadsTo phase.Active holds) (sym a) h
going_on holds (Err status) (Some refused) work after phase.InError a e f h = tt
going_on holds result refused work after p a e f h = cc

-- one that ends the operation
pub ending : {S T : Type 0} (holds : S → Type 0) (result : Result T Status) (refused : Option Status) (reply : Reply) (p : Phase) → p ≡ (if is_ok result then phase.Inactive else phase.InError) →
    result_err result ≡ refused → LeadsTo p holds (unless_failed refused (ends {W = S} reply)).operation
ending holds (Ok t) None reply phase.Inactive e f = tt
ending holds (Err status) (Some refused) reply phase.InError e f = tt
ending holds result refused reply p e f = cc
