-- What an owner's callers are answered is what its own keys and calls alone are.
use Rattle.std.proofs.Common.{Bool, List, [], ap, cond, eq-eqb, eqb-true, false, refl, subst, subst₂, sym, true, ℕ, ◌==◌, ◌∙◌, ◌∷◌, ◌≡◌}
use Rattle.owner_space.proofs.Common.{IsSound, OnHandle, OnStore, Owners, Plain, Request, Served, Service, Settings, leaves_settings, request_inside, serve}
use Rattle.owner_space.specs.Isolation.{Answered, IsOwnersCall, OwnersAreIsolated, TellsNoFault, answered_from, answered_to, calls_of}
use Rattle.std.specs.List.{AllByRecursion}
use Rattle.store_model.proofs.SoundService.{stays}
use Rattle.store_model.specs.{Faults.Corrupt, Faults.FaultMark, Faults.Hardware, Faults.Storage, Faults.is_of_fault, Replay.Entry, Replay.outcome_of}
use Rattle.owner_space.proofs.{Alike.AreAlike, Alike.AreTwins, Alike.IsOwnersCaller, HandleCalls.handle_call_alike, OtherOwners.others_leave, Start.start_twins, StoreCalls.AreServedAlike, StoreCalls.store_call_alike}

-- where a reply tells of no failed device, none failed
plain_mark : (service : Service) (caller : ℕ) (request : Request) (mark : FaultMark) → is_of_fault (serve service caller request mark).reply.status ≡ false → mark ≡ Plain
plain_mark service caller request Plain e = refl
plain_mark service caller request (Storage access) e = cc
plain_mark service caller request Hardware e = cc
plain_mark service caller request Corrupt e = cc

-- a call of a caller, of two services that are alike to its owner
served_alike : (owners : Owners) (caller : ℕ) → IsOwnersCaller owners caller → (whole alone : Service) → AreTwins owners (owners caller) whole alone → (request : Request) →
    let inner = request_inside owners caller request in AreServedAlike owners (owners caller) (serve whole caller inner Plain) (serve alone caller inner Plain)
served_alike owners caller is whole alone twins (OnStore call) = store_call_alike owners caller is whole alone twins call
served_alike owners caller is whole alone twins (OnHandle handle call) = handle_call_alike owners caller is whole alone twins handle call

module _ (owners : Owners) (owner : ℕ) where
  -- ONE ENTRY

  module _ (e : Entry) (is : IsOwnersCall owners e) (plain : e.mark ≡ Plain) (whole alone : Service) (twins : AreTwins owners owner whole alone) where
    by : IsOwnersCaller owners e.caller
    by = record { first = is.caller.0; last = is.caller.1; few = is.owner }

    as_inside : (service : Service) → serve service e.caller (request_inside owners e.caller is.named) Plain ≡ outcome_of service e
    as_inside service = let call = is.inner in λ i. serve service e.caller (sym call i) (sym plain i)

    sound_after : (service : Service) → IsSound service → IsSound (outcome_of service e).service
    sound_after service sound = stays service e.caller e.call e.mark is.caller.0 is.caller.1 sound

    -- the services are twins, where they are alike
    twins_after : (next : Service) → IsSound next → AreAlike owners owner (outcome_of whole e).service next → AreTwins owners owner (outcome_of whole e).service next
    twins_after next sound alike = record {
      alike = alike;
      sound = sound_after whole twins.sound;
      sound_alone = sound;
      per_range = ap (λ (s : Settings). s.limits) (leaves_settings whole e.caller e.call e.mark).0 ∙ twins.per_range;
    }

    own_entry : owners e.caller ≡ owner → AreTwins owners owner (outcome_of whole e).service (outcome_of alone e).service × ((outcome_of whole e).reply ≡ (outcome_of alone e).reply)
    own_entry own =
        let both = served_alike owners e.caller by whole alone (subst (λ o. AreTwins owners o whole alone) (sym own) twins) is.named in
        let same = subst (λ o. AreServedAlike owners o (outcome_of whole e) (outcome_of alone e)) own (subst₂ (AreServedAlike owners (owners e.caller)) (as_inside whole) (as_inside alone) both) in
        (twins_after (outcome_of alone e).service (sound_after alone twins.sound_alone) same.alike, same.reply)

    other_entry : (owners e.caller ≡ owner → ⊥) → AreTwins owners owner (outcome_of whole e).service alone
    other_entry other =
        twins_after alone twins.sound_alone (subst (λ (x : Served). AreAlike owners owner x.service alone) (as_inside whole) (others_leave owners e.caller by owner other whole twins.sound alone twins is.named))

  -- A HISTORY

  abbrev AreSame : (whole alone : Service) → List Entry → Type 0
  AreSame whole alone es = answered_to owners owner (answered_from whole es) ≡ answered_from alone (calls_of owners owner es)

  isolated : (whole alone : Service) → AreTwins owners owner whole alone → (es : List Entry) → AllByRecursion (IsOwnersCall owners) es → AllByRecursion TellsNoFault (answered_from whole es) → AreSame whole alone es
  isolated whole alone twins [] calls told = refl
  isolated whole alone twins (e ∷ es) calls told = of (owners e.caller == owner) refl (λ next_alone both. isolated (outcome_of whole e).service next_alone both es calls.1 told.1)
    where
      plain : e.mark ≡ Plain
      plain = plain_mark whole e.caller e.call e.mark told.0

      of : (b : Bool) → (owners e.caller == owner) ≡ b → ((next_alone : Service) → AreTwins owners owner (outcome_of whole e).service next_alone → AreSame (outcome_of whole e).service next_alone es) →
          let rest : List Answered = answered_to owners owner (answered_from (outcome_of whole e).service es) in
          cond b (record { entry = e; reply = (outcome_of whole e).reply } ∷ rest) rest ≡ answered_from alone (cond b (e ∷ calls_of owners owner es) (calls_of owners owner es))
      of true t go =
          let both = own_entry e calls.0 plain whole alone twins (eqb-true (owners e.caller) owner t) in
          let reply = both.1 in
          let later = go (outcome_of alone e).service both.0 in
          λ i. record { entry = e; reply = reply i } ∷ later i
      of false t go = go alone (other_entry e calls.0 plain whole alone twins (λ same. let clash = sym t ∙ eq-eqb (owners e.caller) owner same in cc))

pub owners_isolated : OwnersAreIsolated
owners_isolated settings found owners owner h per sound calls told = isolated owners owner _ _ (start_twins settings found owners owner sound per) h calls told
