use Rattle.key_index.proofs.{Common.IsPermutation-remove, Common.arith, Common.eq-eqb, Common.get_or_default, Common.refl, Common.sym, Common.◌∙◌, Entries.sorted-remove, Entries.found_is_alone, Entries.gap_has_none}
use Rattle.key_index.proofs.index.KeyIndex.remove.Goals as goal

pub invariant_of-self : goal.invariant_of-self
invariant_of-self g c =
    let within = (rw (c.as_slice.ensures.value) at c.in-Ok.ensures.found.0) in
    rw (c.remove.ensures.items) (sorted-remove _ c.in-Ok.position c.self.invariant within)

pub returns-in-Ok : goal.returns-in-Ok
returns-in-Ok g c =
    let found = (rw (c.as_slice.ensures.value, c.self.view_is) at c.in-Ok.ensures.found) in
    let is = found_is_alone _ _ _ _ c.requires found.0 found.1 in
    rw (c.remove.ensures.items, c.self.view_is) (IsPermutation-remove _ c.in-Ok.position _ found.0 (sym is ∙ get_or_default _ _ _ _ found.0))

pub returns-in_default : goal.returns-in_default
returns-in_default g c =
    let gap = (rw (c.as_slice.ensures.value, c.self.view_is) at c.in_default.ensures.missing) in
    let none = gap_has_none _ _ c.args._place _ gap in
    absurd (omega (arith, none, rw (eq-eqb c.args._place c.args._place refl) at (c.requires c.args._place)))
