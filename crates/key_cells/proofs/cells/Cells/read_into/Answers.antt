use Rattle.key_cells.proofs.{Common.HoldsKey, Common.IsKeyOf, Common.List, Common.ap, Common.drop, Common.has_id, Common.subst, Common.sym, Common.take, Common.ℕ, Common.◌-◌, Common.◌∙◌, Loading.read_gives, Loading.filled_with, Loading.of_no_key, Loading.of_other_key}
use Rattle.key_cells.proofs.cells.Cells.read_into.Goals as goal

pub returns-in_default-clause-corrupt : goal.returns-in_default-clause-corrupt
returns-in_default-clause-corrupt g c = λ is contents body id present stands has holds.
    let d = g.D.Disk in
    let self = c.args.self.now in
    let read = read_gives d self.disk c.read_cell.new.disk c.args.cell self.states contents body c.read_cell.new.bytes c.requires.within present stands (g.met.D.Disk.read_is_image self.disk) c.in-Ok.ensures.bytes in
    of_no_key id c.read_cell.new.bytes body read c.in_default.ensures holds

pub returns-then-not-has-clause-corrupt : goal.returns-then-not-has-clause-corrupt
returns-then-not-has-clause-corrupt g c = λ is contents body id present stands has holds.
    let d = g.D.Disk in
    let self = c.args.self.now in
    let read = read_gives d self.disk c.read_cell.new.disk c.args.cell self.states contents body c.read_cell.new.bytes c.requires.within present stands (g.met.D.Disk.read_is_image self.disk) c.in-Ok.ensures.bytes in
    of_other_key id c.in-Some.end c.in-Some.attributes c.state.result c.read_cell.new.bytes body read c.in-Some.ensures (sym c.if-not-has.ensures) (ap (has_id id) c.state.ensures ∙ has) holds

pub returns-clause-loaded : goal.returns-clause-loaded
returns-clause-loaded g c = λ contents body present stands.
    let d = g.D.Disk in
    let self = c.args.self.now in
    let a = c.in-Some.attributes in
    let read = read_gives d self.disk c.read_cell.new.disk c.args.cell self.states contents body c.read_cell.new.bytes c.requires.within present stands (g.met.D.Disk.read_is_image self.disk) c.in-Ok.ensures.bytes in
    let key : List ℕ = take (c.in-Some.end - 52) (drop 52 c.read_cell.new.bytes) in
    subst (λ (k : List ℕ). HoldsKey a k body) (sym (filled_with key c.fill_from.new.self c.fill_from.ensures)) (subst (λ (b : List ℕ). HoldsKey a key b) read c.in-Some.ensures.holds)

pub returns-clause-key : goal.returns-clause-key
returns-clause-key g c =
    let a = c.in-Some.attributes in
    let key : List ℕ = take (c.in-Some.end - 52) (drop 52 c.read_cell.new.bytes) in
    subst (λ (k : List ℕ). IsKeyOf a k) (sym (filled_with key c.fill_from.new.self c.fill_from.ensures)) c.in-Some.ensures.holds.is_key
