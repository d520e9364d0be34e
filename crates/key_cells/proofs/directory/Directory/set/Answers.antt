use Rattle.key_cells.proofs.{Common.HasNoKey, Common.arith, Common.get_or_read, Common.Free, Common.has_id, Common.true, Common.ℕ, Common.◌≡◌, Directories.kept_alone, Directories.kept_few, Directories.kept_missing, Directories.kept_room, Directories.kept_set, Directories.kept_some}
use Rattle.key_cells.proofs.directory.Directory.set.Goals as goal

pub take_out-left-requires-clause-alone : goal.take_out-left-requires-clause-alone
take_out-left-requires-clause-alone c =
    let is = get_or_read c.self.inside.states.items c.args.cell c.index.result.now (omega (arith, c.self.invariant.sized, c.requires.within)) c.index.ensures Free in
    rw (c.deref_mut.ensures.value, is) (kept_alone _ _ _ _ _ c.self.invariant c.requires.within)

pub take_out-left-requires-clause-some : goal.take_out-left-requires-clause-some
take_out-left-requires-clause-some c =
    let is = get_or_read c.self.inside.states.items c.args.cell c.index.result.now (omega (arith, c.self.invariant.sized, c.requires.within)) c.index.ensures Free in
    rw is (kept_some _ _ _ _ _ c.self.invariant c.requires.within)

pub put_in-self-inside-requires-clause-room : goal.put_in-self-inside-requires-clause-room
put_in-self-inside-requires-clause-room c =
    let is = get_or_read c.self.inside.states.items c.args.cell c.index.result.now (omega (arith, c.self.invariant.sized, c.requires.within)) c.index.ensures Free in
    let out = rw (c.deref_mut.ensures.value, is) at c.take_out-left.ensures in
    λ _. rw c.deref_mut-2.ensures.value (kept_room _ _ _ _ _ _ _ c.self.invariant c.requires.within out)

pub put_in-self-inside-requires-clause-few : goal.put_in-self-inside-requires-clause-few
put_in-self-inside-requires-clause-few c =
    let is = get_or_read c.self.inside.states.items c.args.cell c.index.result.now (omega (arith, c.self.invariant.sized, c.requires.within)) c.index.ensures Free in
    let out = rw (c.deref_mut.ensures.value, is) at c.take_out-left.ensures in
    kept_few _ _ _ _ _ _ _ c.self.invariant c.requires.within out

pub put_in-self-inside-requires-clause-missing : goal.put_in-self-inside-requires-clause-missing
put_in-self-inside-requires-clause-missing c = λ id i has.
    let is = get_or_read c.self.inside.states.items c.args.cell c.index.result.now (omega (arith, c.self.invariant.sized, c.requires.within)) c.index.ensures Free in
    let out = rw (c.deref_mut.ensures.value, is) at c.take_out-left.ensures in
    let none : HasNoKey c.self.inside.states.items id = rw c.self.view_is (c.requires.new id has) in
    rw c.deref_mut-2.ensures.value (kept_missing _ _ _ _ _ _ _ c.self.invariant c.requires.within out id i none)

pub invariant_of-self : goal.invariant_of-self
invariant_of-self c =
    let is = get_or_read c.self.inside.states.items c.args.cell c.index.result.now (omega (arith, c.self.invariant.sized, c.requires.within)) c.index.ensures Free in
    let out = rw (c.deref_mut.ensures.value, is) at c.take_out-left.ensures in
    let new : (id : ℕ) → has_id id c.args.state ≡ true → HasNoKey c.self.inside.states.items id = rw c.self.view_is c.requires.new in
    kept_set _ _ _ _ _ _ _ c.self.invariant c.requires.within out _ _ _ _ new (rw c.deref_mut-2.ensures.value at c.put_in-self-inside.ensures)
    (rw c.deref.ensures.value at c.fills.ensures)
