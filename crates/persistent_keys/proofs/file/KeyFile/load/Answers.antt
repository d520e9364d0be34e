use Rattle.persistent_keys.proofs.{Common.ap, Common.cell_state, Common.settled_states, Directory.same_id, Leading.keeps_leads, Leading.loaded_key}
use Rattle.std.proofs.lemmas.Result.{IfOk-weaker}
use Rattle.secret_bytes.specs.Buffer.{bytes_of}
use Rattle.persistent_keys.proofs.file.KeyFile.load.Goals as goal

pub returns-clause-keeps : goal.returns-clause-keeps
returns-clause-keeps g c = λ keys doubt s.
    let d = g.D.Disk in
    keeps_leads d _ _ _ _ keys doubt (ap settled_states c.load.ensures.states) (rw c.load.ensures.states c.load.ensures.keeps) s

pub returns-clause-loaded : goal.returns-clause-loaded
returns-clause-loaded g c =
    let d = g.D.Disk in
    let self = c.args.self.now.cells in
    IfOk-weaker c.load.result _ _
    (λ a loaded keys doubt s. loaded_key d self.disk self.states keys doubt c.args.id c.args.cell a (bytes_of c.load.new.out) c.requires.within c.requires.key s loaded)
    c.load.ensures.loaded

pub returns-clause-named : goal.returns-clause-named
returns-clause-named g c = IfOk-weaker c.load.result _ _
    (λ a named. same_id (cell_state c.args.self.now.cells.states c.args.cell) c.args.id a.id.0 c.requires.key named)
    c.load.ensures.named
