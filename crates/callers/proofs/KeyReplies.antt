-- What is answered by calls on a key that neither read its bytes nor make one.
use Rattle.callers.proofs.Common.{AnswersReply, Attributes, Destroy, Err, GetAttributes, HasAttributes, IsRefused, IsUndestroyed, Key, List, None, NotDestroyed, Ok, OnStore, Option, Output, Plain, Purge, Reply, Result, Service, Some, Status, Store, ap, attributes_reply, buffer_after, counted, decided, destroy_rows, destroyed, done, first_row, mark_of, mark_undestroyed, purge_reply, refl, refusal, serve, spoiled, status_undestroyed, subst, sym, there_rows, ℕ, ◌≡◌}
use Rattle.std.specs.FinMap as map
use Rattle.psa_status.specs.declared.Status.TheVariants as status
use Rattle.service_calls.specs.declared.output.Output.TheVariants as output
use Rattle.store_core.specs.declared.destroying.NotDestroyed.TheVariants as undestroyed

-- an answer is that of a reply that leaves each buffer
pub record Gives (result : Result Output Status) (reply : Reply) : Type 0 where
  pub answers : AnswersReply result reply
  pub unwritten : (buffer : List ℕ) → buffer ≡ buffer_after buffer reply

done_gives : Gives (Ok output.Done) done
done_gives = record { answers = refl; unwritten = λ buffer. refl }

pub refusal_gives : (s : Status) → Gives (Err s) (refusal s)
refusal_gives s = record { answers = (refl, refl); unwritten = λ buffer. refl }

-- DESTROY

pub destroy_draws : (store : Store) (id : ℕ) → (decided store (first_row (destroy_rows (map.get store.keys id) id)) (destroyed store id)).drawn ≡ 0
destroy_draws store id = by (first_row (destroy_rows (map.get store.keys id) id))
  where
    by : (o : Option Status) → (decided store o (destroyed store id)).drawn ≡ 0
    by None = refl
    by (Some s) = refl

destroy_unneeded : (store : Store) (id : ℕ) (o : Option Status) → (decided store o (destroyed store id)).reply.needed ≡ 0
destroy_unneeded store id None = refl
destroy_unneeded store id (Some s) = refl

pub destroyed_gives : (service : Service) (caller id : ℕ) → first_row (destroy_rows (map.get service.store.keys id) id) ≡ None → Gives (Ok output.Done) (serve service caller (OnStore (Destroy id)) Plain).reply
destroyed_gives service caller id none = subst (Gives (Ok output.Done)) (sym (ap (λ o. (decided service.store o (destroyed service.store id)).reply) none)) done_gives

pub undestroyed_gives : (service : Service) (caller id : ℕ) (why : NotDestroyed) → IsUndestroyed id why service.store → Gives (Err (status_undestroyed why)) (serve service caller (OnStore (Destroy id)) (mark_undestroyed why)).reply
undestroyed_gives service caller id undestroyed.Missing row = subst (Gives (Err status.InvalidHandle)) (sym (ap (λ o. (decided service.store o (destroyed service.store id)).reply) row)) (refusal_gives status.InvalidHandle)
undestroyed_gives service caller id (undestroyed.Disk closed_first) row = refusal_gives status.StorageFailure
undestroyed_gives service caller id undestroyed.Hardware row =
    subst (λ n. Gives (Err status.HardwareFailure) (spoiled status.HardwareFailure n)) (sym (destroy_unneeded service.store id (first_row (destroy_rows (map.get service.store.keys id) id)))) (record { answers = (refl, refl); unwritten = λ buffer. refl })

-- PURGE

pub purged_gives : (service : Service) (caller id : ℕ) → there_rows (map.get service.store.keys id) ≡ None → Gives (Ok output.Done) (serve service caller (OnStore (Purge id)) Plain).reply
purged_gives service caller id none = by (map.get service.store.keys id) none
  where
    by : (found : Option Key) → there_rows found ≡ None → Gives (Ok output.Done) (purge_reply found)
    by None e = cc
    by (Some key) e = done_gives

pub unpurged_gives : (service : Service) (caller id : ℕ) (s : Status) → s ≡ status.InvalidHandle → there_rows (map.get service.store.keys id) ≡ Some s → Gives (Err s) (serve service caller (OnStore (Purge id)) Plain).reply
unpurged_gives service caller id s is row = by (map.get service.store.keys id) row
  where
    by : (found : Option Key) → there_rows found ≡ Some s → Gives (Err s) (purge_reply found)
    by None e = subst (λ t. Gives (Err s) (refusal t)) is (refusal_gives s)
    by (Some key) e = cc

-- ATTRIBUTES

pub known_gives : (service : Service) (caller id : ℕ) (a : Attributes) → HasAttributes id a service.store → Gives (Ok (output.Description a)) (serve service caller (OnStore (GetAttributes id)) Plain).reply
known_gives service caller id a has =
    subst (λ found. Gives (Ok (output.Description a)) (attributes_reply found)) (sym has.1)
    (subst (λ b. Gives (Ok (output.Description a)) (attributes_reply (Some (record has.0 { attributes = b })))) (sym has.2) (record { answers = refl; unwritten = λ buffer. refl }))

pub unknown_gives : (service : Service) (caller id : ℕ) (s : Status) → IsRefused there_rows id s (counted service.store) → Gives (Err s) (serve service caller (OnStore (GetAttributes id)) (mark_of s)).reply
unknown_gives service caller id status.StorageFailure refused = refusal_gives status.StorageFailure
unknown_gives service caller id status.DataCorrupt refused = refusal_gives status.DataCorrupt
unknown_gives service caller id s refused = by (map.get service.store.keys id) refused
  where
    by : (found : Option Key) → there_rows found ≡ Some s → Gives (Err s) (attributes_reply found)
    by None e = let is : status.InvalidHandle ≡ s = cc in subst (λ t. Gives (Err t) (refusal status.InvalidHandle)) is (refusal_gives status.InvalidHandle)
    by (Some key) e = cc
