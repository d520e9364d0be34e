-- What is known of a one-thread service before an entry.
use Rattle.std.proofs.Common.{List, [], inl, refl, subst, ◌++◌, ◌∷◌}
use Rattle.store_model.specs.Prelude.{Entry, Reply, Service, outcome_of, replay}
use Rattle.callers.specs.Called.{KnowsBefore, KnowsReply}
use Rattle.locked_store.specs.Prelude.{IsStartOf, ToldBy, World}

-- P holds of the replay's service, as far as the history with the entry is told
abbrev pub KnowsTold : {D A C : Type 0} (w : World D A C) → (Service → Type 0) → List Entry → Entry → Type 0
KnowsTold w P before e = (start : Service) → IsStartOf w start → ToldBy w start (before ++ e ∷ []) → P (replay start before)

-- and with it whatever follows
pub known_more : {D A C : Type 0} {w : World D A C} {P Q : Service → Type 0} {before : List Entry} {e : Entry} → ((service : Service) → P service → Q service) → KnowsBefore w P before e → KnowsBefore w Q before e
known_more more known start is = let k = known start is in record { service = k.service; settings = k.settings; sound = k.sound; allowed = k.allowed; replayed = k.replayed; holds = more k.service k.holds }

-- it replies as the service does
pub own_reply : {D A C : Type 0} (w : World D A C) (P : Reply → Type 0) {before : List Entry} {e : Entry} → KnowsBefore w (λ service. P (outcome_of service e).reply) before e → KnowsReply w P before e
own_reply w P {e = e} known = known_more (λ service is. ((outcome_of service e).reply, inl refl, is)) known

-- as far as the history with the entry is told, it is known of the replay's
pub known_told : {D A C : Type 0} {w : World D A C} {P : Service → Type 0} {before : List Entry} {e : Entry} → KnowsBefore w P before e → KnowsTold w P before e
known_told {P = P} known start is tells = let k = known start is in subst P (k.replayed tells) k.holds
