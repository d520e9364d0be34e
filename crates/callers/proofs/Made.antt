-- What the one-thread service makes of a call that creates a key.
use Rattle.callers.proofs.Common.{Attributes, Err, IsMade, IsRefused, IsUncopied, IsUnmade, KeyId, List, None, NotCopied, NotMade, Ok, Option, Plain, Reply, Request, Result, Service, Some, Status, Store, ap, created_unless, mark_of, mark_uncopied, mark_unmade, plain_step, refl, serve, spoiled, status_of, status_uncopied, status_unmade, subst, sym, there_rows, ℕ, ◌∙◌, ◌≡◌}
use Rattle.std.specs.FinMap as map
use Rattle.psa_status.specs.declared.Status.TheVariants as status
use Rattle.service_calls.specs.declared.output.Output.TheVariants as output
use Rattle.store_model.specs.Call as model
use Rattle.store_core.specs.declared.copying.NotCopied.TheVariants as uncopied
use Rattle.store_core.specs.declared.creating.NotMade.TheVariants as unmade
use Rattle.store_core.specs.declared.creating.Unkept.TheVariants as unkept
use Rattle.store_core.specs.declared.reading.Unread.{Unread}
use Rattle.store_core.specs.declared.reading.Unread.TheVariants as unread
use Rattle.callers.proofs.KeyReplies.{Gives, refusal_gives}

pub undrawn : (store : Store) (caller : ℕ) (recorded : Result Attributes Status) (bytes : List ℕ) → (created_unless store caller recorded bytes).drawn ≡ 0
undrawn store caller (Ok kept) bytes = refl
undrawn store caller (Err status) bytes = refl

needs_none : (store : Store) (caller : ℕ) (recorded : Result Attributes Status) (bytes : List ℕ) → (created_unless store caller recorded bytes).reply.needed ≡ 0
needs_none store caller (Ok kept) bytes = refl
needs_none store caller (Err status) bytes = refl

-- a request that replies as a creation does
module _ (service : Service) (caller : ℕ) (request : Request) (records : Store → Result Attributes Status → Type 0) (bytes : List ℕ)
    (answers : (recorded : Result Attributes Status) → records service.store recorded → (plain_step service caller request).reply ≡ (created_unless service.store caller recorded bytes).reply) where
  pub made_gives : (id : KeyId) → IsMade records caller id.0 service.store → Gives (Ok (output.Identifier id)) (serve service caller request Plain).reply
  made_gives id made = subst (Gives (Ok (output.Identifier id))) (sym (answers (Ok made.0) made.1)) (record {
    answers = ap (λ n. record { status = status.Success; output = model.Identifier n; needed = 0 }) (sym made.2);
    unwritten = λ buffer. refl;
  })

  -- a device's failure leaves no zeros
  spoils_none : (recorded : Result Attributes Status) → records service.store recorded → Gives (Err status.HardwareFailure) (spoiled status.HardwareFailure (plain_step service caller request).reply.needed)
  spoils_none recorded is =
      subst (λ n. Gives (Err status.HardwareFailure) (spoiled status.HardwareFailure n)) (sym (ap (λ (r : Reply). r.needed) (answers recorded is) ∙ needs_none service.store caller recorded bytes))
      (record { answers = (refl, refl); unwritten = λ buffer. refl })

  pub unmade_gives : (why : NotMade) → IsUnmade records why service.store → Gives (Err (status_unmade why)) (serve service caller request (mark_unmade why)).reply
  unmade_gives (unmade.Refused s) is = subst (Gives (Err s)) (sym (answers (Err s) is)) (refusal_gives s)
  unmade_gives (unmade.Failed (unkept.Unwritten closed_first)) is = refusal_gives status.StorageFailure
  unmade_gives (unmade.Failed unkept.Hardware) is = spoils_none (Ok is.0) is.1

-- a copy whose source could not be read
module _ (service : Service) (caller source : ℕ) (request : Request) (records : Store → Result Attributes Status → Type 0) (bytes : List ℕ)
    (answers : (recorded : Result Attributes Status) → records service.store recorded → (plain_step service caller request).reply ≡ (created_unless service.store caller recorded bytes).reply)
    (missing : map.get service.store.keys source ≡ None → records service.store (Err status.InvalidHandle)) where
  unread_gives : (why : Unread) → IsRefused there_rows source (status_of why) service.store → Gives (Err (status_of why)) (serve service caller request (mark_of (status_of why))).reply
  unread_gives unread.Missing is = subst (Gives (Err status.InvalidHandle)) (sym (answers (Err status.InvalidHandle) (missing (gone (map.get service.store.keys source) is)))) (refusal_gives status.InvalidHandle)
    where
      gone : (found : Option _) → there_rows found ≡ Some status.InvalidHandle → found ≡ None
      gone None e = refl
      gone (Some key) e = cc
  unread_gives unread.Disk is = refusal_gives status.StorageFailure
  unread_gives unread.Corrupt is = refusal_gives status.DataCorrupt

  pub uncopied_gives : (why : NotCopied) → IsUncopied records source why service.store → Gives (Err (status_uncopied why)) (serve service caller request (mark_uncopied why)).reply
  uncopied_gives (uncopied.Unread why) is = unread_gives why is
  uncopied_gives (uncopied.NotMade why) is = unmade_gives service caller request records bytes answers why is
