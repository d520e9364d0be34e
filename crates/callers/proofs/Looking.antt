-- A caller has what a turn asks that looks for a key.
use Rattle.callers.proofs.Common.{All, All-pop, All-push, Buffer, Caller, HasRoomForLease, IsClear, IsReady, List, None, OperationHandle, Option, Reading, Some, World, [], ap, arith, count_by-le-length, leases_of, length, length-append, nat_lt, option_to_list, pairs_of, refl, subst, sym, vec_capacity, vec_len, ℕ, ◌++◌, ◌+◌, ◌<◌, ◌∙◌, ◌∷◌, ◌≡◌, ◌≤◌}
use Rattle.std.specs.Global.{Vec}

few_leases : (cells : List OperationHandle) → length (leases_of cells) ≤ length cells
few_leases [] = omega arith
few_leases (c ∷ cs) = let r = few_leases cs in let s = length-append (pairs_of c.lease) (leases_of cs) in let o = one c.lease in omega arith
  where
    one : (lease : Option Reading) → length (pairs_of lease) ≤ 1
    one None = omega arith
    one (Some l) = omega arith

-- spares are clear, and so many fewer than they were
pub record AreSpares (fewer : ℕ) (old new : Vec Buffer) : Type 0 where
  pub clear : All IsClear new.items
  pub many : length new.items + fewer ≡ length old.items
  pub room : vec_capacity new ≡ vec_capacity old

pub same_spares : {old new : Vec Buffer} → All IsClear old.items → new ≡ old → AreSpares 0 old new
same_spares {old = old} clear same = subst (AreSpares 0 old) (sym same) (record { clear = clear; many = omega arith; room = refl })

-- one was taken
pub popped : (old new : Vec Buffer) {result : Option Buffer} {spare : Buffer} → result ≡ Some spare → old.items ≡ new.items ++ option_to_list result → vec_capacity new ≡ vec_capacity old → All IsClear old.items → AreSpares 1 old new
popped old new {result = result} {spare = spare} is parts room clear =
    let whole : old.items ≡ new.items ++ spare ∷ [] = parts ∙ ap (λ o. new.items ++ option_to_list o) is in record {
      clear = (All-pop IsClear old.items new.items result parts clear).0;
      many = let a = ap length whole in let b = length-append new.items (spare ∷ []) in omega arith;
      room = room;
    }

-- and came back
pub put_back : (old mid new : Vec Buffer) {spare : Buffer} → AreSpares 1 old mid → IsClear spare → new.items ≡ mid.items ++ spare ∷ [] → vec_capacity new ≡ vec_capacity mid → AreSpares 0 old new
put_back old mid new {spare = spare} taken clear items room = record {
  clear = subst (All IsClear) (sym {A = List Buffer} items) (All-push IsClear mid.items spare taken.clear clear);
  many = let a = ap length items in let b = length-append mid.items (spare ∷ []) in let m = taken.many in omega arith;
  room = room ∙ taken.room;
}

module _ {D A C : Type 0} (w : World D A C) (n : ℕ) (old : Caller D A C) (r : IsReady w n old) where
  pub has_spare : 0 < vec_len old.spares
  has_spare = let a = few_leases old.handles.list.items in let b = r.stand.cells_are in let c = r.five in omega arith

  pub has_room_for_lease : HasRoomForLease old.pass.me.0.holding
  has_room_for_lease =
      let a = few_leases old.handles.list.items in let b = r.stand.cells_are in let c = r.leases (λ p. nat_lt 0 p.1) in let d = count_by-le-length (λ p. nat_lt 0 p.1) (leases_of old.handles.list.items) in omega arith
