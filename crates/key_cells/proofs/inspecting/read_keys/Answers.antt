use Rattle.key_cells.proofs.{Common.Some, Common.ap, Common.arith, Common.length, Common.length-set, Common.part, Common.sym, Common.◌<◌, Common.◌∙◌, Finding.first_damaged, Finding.new_is_unread, Finding.not_damaged, Finding.one_more, Finding.reads_more, Finding.unread_more, Inspection.first_keys_more, Inspection.no_keys}
use Rattle.key_cells.proofs.inspecting.read_keys.Goals as goal

pub loop-cell-init : goal.loop-cell-init
loop-cell-init c = record {
  count = ap length c.in_ok-states.ensures;
  unread = λ cell after. rw c.in_ok-states.ensures (new_is_unread cell);
  read = λ cell lt. absurd (omega (arith, lt));
  one = λ id cell other lt. absurd (omega (arith, lt));
  keys = no_keys c.args.image.now c.new-keys.result.items c.new-keys.ensures.items;
}

pub returns-in_default-clause-fault : goal.returns-in_default-clause-fault
returns-in_default-clause-fault c =
    let i = c.loop-cell.invariant in
    first_damaged (Some c.args.image.now) c.args.cells c.loop-cell.cell c.loop-cell.states c.cell_at-room.result.now (omega arith) (c.requires.store, sym c.requires.cells) i.read i.one i.unread
    (c.cell_at-room.ensures ∙ ap (λ n. part n 1088 c.args.image.now) c.place.ensures) c.in_default.ensures

pub loop-cell-preserved : goal.loop-cell-preserved
loop-cell-preserved c =
    let i = c.loop-cell.invariant in
    let states = c.loop-cell.states in
    let cell = c.loop-cell.cell in
    let state = c.in-Some.read.state in
    let read = c.in-Some.ensures in
    let lt : cell < length states = omega (arith, i.count) in
    rw c.note.ensures (record {
      count = length-set states cell state ∙ i.count;
      read = reads_more (Some c.args.image.now) cell states state c.cell_at-room.result.now lt i.read (c.cell_at-room.ensures ∙ ap (λ n. part n 1088 c.args.image.now) c.place.ensures) read.0.reads;
      unread = unread_more cell states state i.unread;
      one = one_more cell states state lt i.one read.0.new;
      keys = first_keys_more cell c.args.image.now c.cell_at-room.result.now c.loop-cell.keys.items c.keep_key.new.keys.items (c.cell_at-room.ensures ∙ ap (λ n. part n 1088 c.args.image.now) c.place.ensures) i.keys c.in-Some.read.key read.1 c.in_ok-keep_key.ensures;
    })

pub returns-clause-opens : goal.returns-clause-opens
returns-clause-opens c =
    let i = c.loop-cell.invariant in
    record {
      store = c.requires.store;
      sound = λ cell lt damaged. not_damaged c.loop-cell.cell c.loop-cell.states c.args.image.now i.read i.one cell (omega (arith, lt, c.requires.cells)) damaged;
    }
