use Rattle.caller_service.proofs.Common.{All, All-pop, AreNew, IfSome, IsAllotment, List, Option, Some, [], ap, append_assoc, arith, get_or, length, length-append, new_pass, option_to_list, subst, sym, world, ℕ, ◌++◌, ◌+◌, ◌<◌, ◌∙◌, ◌∷◌, ◌≡◌, ◌≤◌}
use Rattle.atomic_table.specs.{Seated.TableId, declared.shared.Seat.Seat}
use Rattle.turn_history.specs.declared.pass.View.{View}
use Rattle.caller_service.specs.declared.allotments.Allotment.{Allotment}
use Rattle.std.proofs.Math.Seq.{get_or-append_seam}
use Rattle.caller_service.proofs.Ended.{new_each}
use Rattle.caller_service.proofs.service.seat.Goals as goal

-- the next of a new lock's passes
is_new : {V E B : Type 0} (lock : TableId) (b : B) (passes before rest : List (Seat (Option V) (View E B))) (p : Seat (Option V) (View E B)) (n : ℕ) →
    AreNew lock b 16 passes → passes ≡ before ++ p ∷ rest → n ≡ length before → (p.table_id ≡ lock) × (p.me ≡ (new_pass b (n + 1), [])) × (n + 1 ≤ 16)
is_new lock b passes before rest p n new is at =
    let short : length before < length passes = (let a = ap length is in let c = length-append before (p ∷ rest) in omega arith) in
    let there = ap (λ l. get_or l (length before) p) is ∙ get_or-append_seam before p rest p in
    let e = new.each (length before) p short in (
      ap (λ q. q.table_id) (sym there) ∙ e.0,
      subst (λ (k : ℕ). p.me ≡ (new_pass b (k + 1), [])) (sym at) (ap (λ q. q.me) (sym there) ∙ e.1),
      (let c = new.counted in omega arith),
    )

-- the room that was popped
is_room : (allotments less : List Allotment) (o : Option Allotment) (r : Allotment) → allotments ≡ less ++ option_to_list o → o ≡ Some r → All IsAllotment allotments → IsAllotment r
is_room allotments less o r parts is all = subst (λ o. IfSome o IsAllotment) is (All-pop IsAllotment allotments less o parts all).1

pub new-requires-clause-table : goal.new-requires-clause-table
new-requires-clause-table g c κs within = (is_new (world c.args.shared.now).lock (world c.args.shared.now).opened c.args.passes.items c.loop-pass.yielded c.next.new.self.rest.items c.in-Some.pass c.loop-pass.number c.requires.passes (c.loop-pass.invariant.passes ∙ ap (λ l. c.loop-pass.yielded ++ l) c.in-Some.ensures.steps.0) c.loop-pass.invariant.number).0

pub new-requires-clause-fresh : goal.new-requires-clause-fresh
new-requires-clause-fresh g c κs within = (is_new (world c.args.shared.now).lock (world c.args.shared.now).opened c.args.passes.items c.loop-pass.yielded c.next.new.self.rest.items c.in-Some.pass c.loop-pass.number c.requires.passes (c.loop-pass.invariant.passes ∙ ap (λ l. c.loop-pass.yielded ++ l) c.in-Some.ensures.steps.0) c.loop-pass.invariant.number).1

pub new-requires-clause-last : goal.new-requires-clause-last
new-requires-clause-last g c κs within = (is_new (world c.args.shared.now).lock (world c.args.shared.now).opened c.args.passes.items c.loop-pass.yielded c.next.new.self.rest.items c.in-Some.pass c.loop-pass.number c.requires.passes (c.loop-pass.invariant.passes ∙ ap (λ l. c.loop-pass.yielded ++ l) c.in-Some.ensures.steps.0) c.loop-pass.invariant.number).2

pub new-requires-clause-five : goal.new-requires-clause-five
new-requires-clause-five g c κs within = (is_room c.loop-pass.allotments.items c.pop.new.self.items c.pop.result c.unwrap-spares.result c.pop.ensures.items c.unwrap-spares.ensures c.loop-pass.invariant.are).five

pub new-requires-clause-clear : goal.new-requires-clause-clear
new-requires-clause-clear g c κs within = (is_room c.loop-pass.allotments.items c.pop.new.self.items c.pop.result c.unwrap-spares.result c.pop.ensures.items c.unwrap-spares.ensures c.loop-pass.invariant.are).clear

pub new-requires-clause-four : goal.new-requires-clause-four
new-requires-clause-four g c κs within = (is_room c.loop-pass.allotments.items c.pop.new.self.items c.pop.result c.unwrap-spares.result c.pop.ensures.items c.unwrap-spares.ensures c.loop-pass.invariant.are).four

pub new-requires-clause-inactive : goal.new-requires-clause-inactive
new-requires-clause-inactive g c κs within = (is_room c.loop-pass.allotments.items c.pop.new.self.items c.pop.result c.unwrap-spares.result c.pop.ensures.items c.unwrap-spares.ensures c.loop-pass.invariant.are).idle

pub loop-pass-preserved : goal.loop-pass-preserved
loop-pass-preserved g c =
    let i = c.loop-pass.invariant in
    let parts = c.pop.ensures.items ∙ ap (λ o. c.pop.new.self.items ++ option_to_list o) c.unwrap-spares.ensures in
    let yielded = length-append c.loop-pass.yielded (c.in-Some.pass ∷ []) in
    let pushed = c.push_reserved.ensures.items in
    let passes = i.passes ∙ ap (λ l. c.loop-pass.yielded ++ l) c.in-Some.ensures.steps.0 in
    let w = world c.args.shared.now in
    let fresh = (is_new w.lock w.opened c.args.passes.items c.loop-pass.yielded c.next.new.self.rest.items c.in-Some.pass c.loop-pass.number c.requires.passes passes i.number).1 in
    record {
      allotments = let a = i.allotments in let b = ap length parts in let d = length-append c.pop.new.self.items (c.unwrap-spares.result ∷ []) in let e = yielded in omega arith;
      are = (All-pop IsAllotment c.loop-pass.allotments.items c.pop.new.self.items c.pop.result c.pop.ensures.items i.are).0;
      number = let a = i.number in let e = yielded in omega arith;
      passes = passes ∙ sym (append_assoc c.loop-pass.yielded (c.in-Some.pass ∷ []) c.next.new.self.rest.items);
      callers = let a = i.callers in let b = ap length pushed in let d = length-append c.loop-pass.callers.items (c.new.result ∷ []) in let e = yielded in omega arith;
      each = new_each w c.loop-pass.callers.items c.push_reserved.new.self.items c.new.result pushed i.each (record {
        ready = c.new.ensures.ready;
        number_is = c.new.ensures.number ∙ (let a = i.number in let b = i.callers in omega arith);
        spent = c.new.ensures.spent;
        unseen = ap (λ p. p.me.0.seen) c.new.ensures.pass ∙ ap (λ m. m.0.seen) fresh;
        uncalled = ap (λ p. p.me.0.calls) c.new.ensures.pass ∙ ap (λ m. m.0.calls) fresh;
      });
      space = let a = i.space in let b = c.push_reserved.ensures.capacity in omega arith;
    }
