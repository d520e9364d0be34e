use Rattle.persistent_keys.proofs.{Common.cell_state, Common.has_id_open, Common.open_not_free, Common.stays_free_both, Common.stays_free_set, Common.StaysFree, Common.subst, Common.sym, Common.Unsure, Filing.still_has, Directory.missing_unsure, Leading.destroyed_leads, Leading.undestroyed_leads, Leading.unreached_leads}
use Rattle.persistent_keys.proofs.file.KeyFile.destroy.Goals as goal

pub give_up-requires-clause-open : goal.give_up-requires-clause-open
give_up-requires-clause-open g c = has_id_open c.args.id (cell_state c.settle.new.self.states c.args.cell) (still_has c.args.self.now.cells.states c.settle.new.self.states c.args.id c.args.cell c.requires.states c.requires.within c.settle.ensures.states c.requires.key)

pub destroy-requires-clause-open : goal.destroy-requires-clause-open
destroy-requires-clause-open g c = has_id_open c.args.id (cell_state c.settle.new.self.states c.args.cell) (still_has c.args.self.now.cells.states c.settle.new.self.states c.args.id c.args.cell c.requires.states c.requires.within c.settle.ensures.states c.requires.key)

pub returns-in-Err-clause-failed : goal.returns-in-Err-clause-failed
returns-in-Err-clause-failed g c = λ keys keys' doubt key s there put. let d = g.D.Disk in let e = c.give_up.ensures in
    unreached_leads d _ _ _ _ _ _ keys keys' doubt c.args.cell c.args.id key c.requires.within c.requires.key c.settle.ensures.states e.disk e.states put there c.settle.ensures.keeps e.doubts s

pub returns-in-Ok-destroy-clause-destroyed : goal.returns-in-Ok-destroy-clause-destroyed
returns-in-Ok-destroy-clause-destroyed g c = λ keys keys' doubt s put. let d = g.D.Disk in let e = c.in-Ok-destroy.ensures in
    destroyed_leads d _ _ _ _ keys doubt s c.in-Ok.ensures.ok c.in-Ok.ensures.keeps c.in-Ok.ensures.free _ _ keys' c.args.cell c.args.id c.requires.within c.requires.key e.ok put e.destroyed

pub returns-in-Err-destroy-clause-failed : goal.returns-in-Err-destroy-clause-failed
returns-in-Err-destroy-clause-failed g c = λ keys keys' doubt key s there put. let d = g.D.Disk in let e = c.in-Err-destroy.ensures in
    undestroyed_leads d _ _ _ _ keys doubt s c.in-Ok.ensures.ok c.in-Ok.ensures.keeps c.in-Ok.ensures.free _ _ keys' c.args.cell c.args.id key c.requires.within c.requires.key e.states put there e.failed

pub returns-in-Err-clause-missing : goal.returns-in-Err-clause-missing
returns-in-Err-clause-missing g c = missing_unsure c.args.self.now.cells.states c.settle.new.self.states c.give_up.new.self.states c.args.cell c.settle.ensures.states c.give_up.ensures.states

pub returns-in-Err-clause-free : goal.returns-in-Err-clause-free
returns-in-Err-clause-free g c =
    let old = c.args.self.now.cells.states in
    let mid = c.settle.new.self.states in
    let cell = c.args.cell in
    subst (StaysFree old) (sym c.give_up.ensures.states) (stays_free_both old mid _ c.settle.ensures.free (stays_free_set mid cell Unsure
    (open_not_free (cell_state mid cell) (has_id_open c.args.id (cell_state mid cell) (still_has old mid c.args.id cell c.requires.states c.requires.within c.settle.ensures.states c.requires.key)))))
