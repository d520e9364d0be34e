use Rattle.key_cells.proofs.Common.{SoundBy, Spares, ap, arith, cell_state, length, length-set, on_ok_weaker, refl, settled_state, settled_states, sym, within_more, within_none, ◌∙◌}
use Rattle.key_cells.proofs.{CellsRead.synced_still, Images.settled_set, Clearing.all_settled, Clearing.clear_sure, Clearing.each_settled, Clearing.goes_on, Clearing.settled_more, Clearing.settled_twice, Clearing.still_free, Clearing.sure_settled, Clearing.sure_sound, Moves.on_ok}
use Rattle.key_cells.proofs.cells.Cells.clear_leftovers.Goals as goal

pub returns-then-is_sure-clause-ok : goal.returns-then-is_sure-clause-ok
returns-then-is_sure-clause-ok g c = sym (c.if-is_sure.ensures.0 refl)

pub returns-then-is_sure-clause-sure : goal.returns-then-is_sure-clause-sure
returns-then-is_sure-clause-sure g c = λ frame contents s image left.
    let states = c.args.self.now.states in
    sure_sound frame states contents image (sure_settled states (c.if-is_sure.ensures.0 refl)) (s.each image left)

pub returns-then-is_sure-clause-within : goal.returns-then-is_sure-clause-within
returns-then-is_sure-clause-within g c = λ frame contents s.
    let self = c.args.self.now in
    within_none (g.D.Disk.moment self.disk) (g.D.Disk.left_since self.disk) (SoundBy frame Spares self.states contents)

pub loop-cell-init : goal.loop-cell-init
loop-cell-init g c =
    let d = g.D.Disk in
    let self = c.args.self.now in
    record {
      size = refl;
      count = c.requires.states;
      settled = λ cell lt. absurd (omega (arith, lt));
      free = c.requires.beyond;
      same = refl;
      clears = λ frame contents s. record { goes_on = s; within = within_none (d.moment self.disk) (d.left_since self.disk) (SoundBy frame Spares self.states contents) };
      tells = refl;
      cause = omega arith;
    }

pub loop-cell-preserved : goal.loop-cell-preserved
loop-cell-preserved g c =
    let i = c.loop-cell.invariant in
    let e = c.clear_leftover.ensures in
    let first = c.args.self.now in
    let old = c.loop-cell.self in
    let states = old.states in
    let cell = c.loop-cell.cell in
    let is = c.in_ok-clear_leftover.ensures.ok in
    record {
      size = e.size ∙ i.size;
      count = ap length is ∙ length-set states cell (settled_state (cell_state states cell)) ∙ i.count;
      settled = rw is (settled_more states cell (omega (arith, i.count)) i.settled);
      free = rw is (still_free states c.args.cells cell (settled_state (cell_state states cell)) (omega arith) i.free);
      same = ap settled_states is ∙ (settled_set states cell (settled_state (cell_state states cell)) (omega (arith, i.count)) (sym (settled_twice (cell_state states cell))) ∙ i.same);
      clears = λ frame contents s. goes_on g.D.Disk first.disk old.disk c.clear_leftover.new.self.disk frame first.states states c.clear_leftover.new.self.states contents (i.clears frame contents s) (e.clears frame first.states contents);
      tells = e.tells ∙ i.tells;
      cause = omega (arith, i.cause, e.cause.later);
    }

pub returns-in_err-clear_leftover-clause-spares : goal.returns-in_err-clear_leftover-clause-spares
returns-in_err-clear_leftover-clause-spares g c = λ frame contents s image left.
    (c.clear_leftover.ensures.clears frame c.args.self.now.states contents (c.loop-cell.invariant.clears frame contents s).goes_on).goes_on.each image left

pub returns-in_err-clear_leftover-clause-within : goal.returns-in_err-clear_leftover-clause-within
returns-in_err-clear_leftover-clause-within g c = λ frame contents s.
    let first = c.args.self.now in
    let old = c.loop-cell.self in
    (goes_on g.D.Disk first.disk old.disk c.clear_leftover.new.self.disk frame first.states old.states c.clear_leftover.new.self.states contents (c.loop-cell.invariant.clears frame contents s) (c.clear_leftover.ensures.clears frame first.states contents)).within

pub returns-clause-ok : goal.returns-clause-ok
returns-clause-ok g c =
    let i = c.loop-cell.invariant in
    let states = c.loop-cell.self.states in
    on_ok c.sync.result (sym (all_settled states (each_settled states c.args.cells (λ cell lt. i.settled cell (omega (arith, lt))) i.free)) ∙ i.same)

pub returns-clause-sure : goal.returns-clause-sure
returns-clause-sure g c =
    let first = c.args.self.now.states in
    let old = c.loop-cell.self in
    let i = c.loop-cell.invariant in
    on_ok_weaker c.sync.result
    (λ durable frame contents s. clear_sure g.D.Disk old.disk c.sync.new.self frame first old.states contents (each_settled old.states c.args.cells (λ cell lt. i.settled cell (omega (arith, lt))) i.free) (i.clears frame contents s).goes_on durable)
    c.sync.ensures.durable

pub returns-clause-durable : goal.returns-clause-durable
returns-clause-durable g c = on_ok_weaker c.sync.result (λ durable before. synced_still _ _ _ c.sync.ensures.same durable) c.sync.ensures.durable

pub returns-clause-spares : goal.returns-clause-spares
returns-clause-spares g c = λ frame contents s image left. (c.loop-cell.invariant.clears frame contents s).goes_on.each image (c.sync.ensures.crash image left)

pub returns-clause-within : goal.returns-clause-within
returns-clause-within g c = λ frame contents s.
    let d = g.D.Disk in
    let first = c.args.self.now in
    let old = c.loop-cell.self in
    let new = c.sync.new.self in
    let so_far = c.loop-cell.invariant.clears frame contents s in
    within_more (d.moment first.disk) (d.moment old.disk) (d.moment new) (d.left_since first.disk) (d.left_since old.disk) (d.left_since new) (SoundBy frame Spares first.states contents) (d.may_leave new)
    so_far.within c.sync.ensures.time (λ image left. so_far.goes_on.each image (c.sync.ensures.crash image left))
