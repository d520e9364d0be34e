use Rattle.key_cells.proofs.Common.{AreFreeFrom, Calm, count_by, GivesBlock, HasOneEach, IfSome, is_open, IsBlank, IsNamed, IsNumbered, length, ReadsBelow, take, ◌≡◌, ◌≢◌, cell_count}
use Rattle.std.specs.Prelude.{IsTrue, ◌%◌}
use Rattle.key_cells.proofs.reading.read_states.Given as goal

abbrev pub invariant-loop-cell : goal.invariant-loop-cell
invariant-loop-cell g l =
    let d = g.D.Disk in
    record {
      size : d.size l.disk ≡ d.size l.fn.disk;
      room : length l.block ≡ 278528;
      block : l.cell % 256 ≢ 0 → GivesBlock (d.contents l.fn.disk) l.cell l.block;
      zeros : l.cell % 256 ≢ 0 → IsTrue l.blank → IsBlank l.block;
      count : length l.states ≡ cell_count;
      read : IfSome (d.contents l.fn.disk) (λ image. ReadsBelow l.cell l.states image);
      unread : AreFreeFrom l.cell l.states;
      one : HasOneEach l.cell l.states;
      numbered : IsNumbered l.cell l.states;
      named : IsNamed l.cell l.states;
      keys : l.found ≡ count_by is_open (take l.cell l.states);
      calm : Calm d l.fn.disk l.disk;
    }
