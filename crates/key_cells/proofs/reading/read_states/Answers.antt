use Rattle.key_cells.proofs.Common.{ap, AreFreeFrom, arith, CellState, count_by, Free, HasOneEach, IfSome, is_open, IsNamed, IsNumbered, length, length-set, List, ReadsBelow, refl, replicate, subst, take, ◌+◌, ◌<◌, ◌∙◌, ◌≡◌}
use Rattle.key_cells.proofs.{CellsRead.for_told, CellsRead.of_blank, CellsRead.of_cell, CellsRead.reads_blank, CellsRead.same_block, Finding.new_is_unread, Finding.reads_more, Finding.stays_free, Finding.one_more, Finding.unread_more, Finding.numbered_more, Finding.named_more, Finding.keys_more, Finding.named_all, Finding.numbered_all, Finding.one_all, Finding.first_damaged, Opened.calm_both, Opened.calm_none}
use Rattle.key_cells.proofs.reading.read_states.Goals as goal

pub returns-in_default-clause-cause : goal.returns-in_default-clause-cause
returns-in_default-clause-cause g c =
    let i = c.loop-cell.invariant in
    let told = g.D.Disk.contents c.args.disk.now in
    let cell = c.loop-cell.cell in
    first_damaged told c.args.cells cell c.loop-cell.states c.cell_at-bytes.result.now (omega arith) c.requires.store i.read i.one i.unread
    (of_cell told cell c.read_block.new.block c.cell_at-bytes.result.now (rw i.calm.same at c.in-Ok.ensures.bytes) c.cell_at-bytes.ensures) c.in_default.ensures

pub returns-clause-one : goal.returns-clause-one
returns-clause-one g c = one_all c.loop-cell.cell c.loop-cell.states c.loop-cell.invariant.one c.loop-cell.invariant.unread

pub returns-clause-numbered : goal.returns-clause-numbered
returns-clause-numbered g c = numbered_all c.loop-cell.cell c.loop-cell.states c.loop-cell.invariant.numbered c.loop-cell.invariant.unread

pub returns-clause-named : goal.returns-clause-named
returns-clause-named g c = named_all c.loop-cell.cell c.loop-cell.states c.loop-cell.invariant.named c.loop-cell.invariant.unread

pub loop-cell-init : goal.loop-cell-init
loop-cell-init g c =
    let d = g.D.Disk in
    let disk = c.args.disk.now in
    record {
      size = refl;
      room = c.requires.room;
      block = λ differs. absurd (differs refl);
      zeros = λ differs. absurd (differs refl);
      count = ap length c.requires.states;
      read = for_told (d.contents disk) _ (λ image is cell lt. absurd (omega (arith, lt)));
      unread = λ cell after. rw c.requires.states (new_is_unread cell);
      one = λ id cell other lt. absurd (omega (arith, lt));
      numbered = λ cell lt. absurd (omega (arith, lt));
      named = λ id cell lt. absurd (omega (arith, lt));
      keys = refl;
      calm = calm_none d disk;
    }

pub loop-cell-preserved : goal.loop-cell-preserved
loop-cell-preserved g c =
    let d = g.D.Disk in
    let i = c.loop-cell.invariant in
    let e = c.read_block.ensures in
    let states = c.loop-cell.states in
    let cell = c.loop-cell.cell in
    let told = d.contents c.args.disk.now in
    let state = c.in-Some.read.state in
    let lt : cell < length states = omega (arith, i.count) in
    let block = rw i.calm.same at c.in-Ok.ensures.bytes in
    rw c.note.ensures (record {
      size = e.size ∙ i.size;
      room = e.room;
      block = same_block told cell c.read_block.new.block block;
      zeros = λ _ is. c.in-Ok.ensures.zeros is;
      count = length-set states cell state ∙ i.count;
      read = reads_more told cell states state c.cell_at-bytes.result.now lt i.read (of_cell told cell c.read_block.new.block c.cell_at-bytes.result.now block c.cell_at-bytes.ensures) c.in-Some.ensures.0.reads;
      unread = unread_more cell states state i.unread;
      one = one_more cell states state lt i.one c.in-Some.ensures.0.new;
      numbered = numbered_more cell c.loop-cell.found states state lt i.numbered i.keys c.in-Some.ensures.0.numbered;
      named = named_more cell states state lt i.named c.in-Some.ensures.0.named;
      keys = keys_more cell c.loop-cell.found c.counted-found.result states state lt i.keys c.counted-found.ensures;
      calm = calm_both d c.args.disk.now c.loop-cell.disk c.read_block.new.disk i.calm e.calm;
    })

pub loop-cell-preserved-then-blank : goal.loop-cell-preserved-then-blank
loop-cell-preserved-then-blank g c =
    let d = g.D.Disk in
    let i = c.loop-cell.invariant in
    let e = c.read_block.ensures in
    let states = c.loop-cell.states in
    let cell = c.loop-cell.cell in
    let told = d.contents c.args.disk.now in
    let lt : cell < length states = omega (arith, i.count) in
    let block = rw i.calm.same at c.in-Ok.ensures.bytes in
    let blank = c.in-Ok.ensures.zeros c.if-blank.true in
    let same = stays_free cell states (i.unread cell (omega arith)) in
    record {
      size = e.size ∙ i.size;
      room = e.room;
      block = same_block told cell c.read_block.new.block block;
      zeros = λ _ is. blank;
      count = i.count;
      read = subst (λ (s : List CellState). IfSome told (λ image. ReadsBelow (cell + 1) s image)) same
          (reads_more told cell states Free (replicate 1088 0) lt i.read (of_blank told cell c.read_block.new.block block e.room blank) reads_blank);
      unread = subst (AreFreeFrom (cell + 1)) same (unread_more cell states Free i.unread);
      one = subst (HasOneEach (cell + 1)) same (one_more cell states Free lt i.one (λ id has. cc));
      numbered = subst (IsNumbered (cell + 1)) same (numbered_more cell c.loop-cell.found states Free lt i.numbered i.keys (λ is. cc));
      named = subst (IsNamed (cell + 1)) same (named_more cell states Free lt i.named (λ id has. cc));
      keys = subst (λ (s : List CellState). c.loop-cell.found ≡ count_by is_open (take (cell + 1) s)) same (keys_more cell c.loop-cell.found c.loop-cell.found states Free lt i.keys (omega arith));
      calm = calm_both d c.args.disk.now c.loop-cell.disk c.read_block.new.disk i.calm e.calm;
    }
