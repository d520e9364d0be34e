-- What refusals leave of an output buffer.

-- a reply which, where it refuses, leaves the buffer but for zeros
use Rattle.std.proofs.Common.{Bool, List, ap, arith, cond, drop, false, refl, replicate, sym, true, ℕ, ◌++◌, ◌-◌, ◌∙◌, ◌≡◌}
use Rattle.store_model.proofs.Common.{Reply, Status, Success, buffer_after, refusal, spoiled, spoils}

abbrev pub LeavesBuffer : Reply → Type 0
LeavesBuffer reply = (reply.status ≡ Success → ⊥) → (old : List ℕ) → buffer_after old reply ≡ cond (spoils reply.status) (replicate reply.needed 0 ++ drop reply.needed old) old

either_way : (b : Bool) (old : List ℕ) → old ≡ cond b old old
either_way true old = refl
either_way false old = refl

pub refusal_leaves : (status : Status) → LeavesBuffer (refusal status)
refusal_leaves status refuses old = either_way (spoils status) old

all_of : (needed : ℕ) → needed - 0 ≡ needed
all_of needed = omega arith

pub spoiled_leaves : (status : Status) (needed : ℕ) → spoils status ≡ true → LeavesBuffer (spoiled status needed)
spoiled_leaves status needed spoils_it refuses old =
    ap (λ (n : ℕ). replicate n 0 ++ drop needed old) (all_of needed) ∙ ap (λ (b : Bool). cond b (replicate needed 0 ++ drop needed old) old) (sym spoils_it)
