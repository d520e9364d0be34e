-- A creation, of what its steps do: the cells in doubt are closed, and then the first that has no key is filled.
use Rattle.key_cells.proofs.Common.{Absent, ap, arith, cases_eq, cell_state, Cells, cell_count, CellState, Content, content_at, Doubtful, Free, get_or-map, get_or-set_same, IfSome, inl, inr, IsFirstWithoutKey, KeepsContents, length, List, Moves, Present, refl, set, settled, settled_state, settled_states, Shut, StandsForContents, StaysFree, StaysFreeBut, subst, sym, ℕ, ⊎_elim, ◌<◌, ◌∙◌, ◌≡◌, ◌≢◌}
use Rattle.disk_face.specs.declared.Disk as Disk
use Rattle.key_cells.specs.Calls.{ChangesCell}
use Rattle.key_cells.proofs.{Free.FreeToo, Free.free_set, Free.free_set_after, Free.not_free_as, Moves.fill_begins, Moves.fill_done, Moves.fill_failed, Moves.free_absent, Moves.moves_both, Moves.moves_after_settled, Moves.moves_settled, Moves.settled_free}

-- A free cell is filled: its body is written, and then its gate is opened.
module _ {D : Type 0} (disks : Disk.Ghosts D) (cell : ℕ) (old mid : Cells D) (bytes : List ℕ) (lt : cell < cell_count) (count : length old.states ≡ cell_count) (free : cell_state old.states cell ≡ Free)
    (keeps : (contents : List Content) → content_at contents cell ≡ Doubtful bytes → StandsForContents disks old.disk (set old.states cell Shut) contents → Moves disks old.disk mid.disk (set old.states cell Shut) mid.states contents contents)
    (contents : List Content) (absent : content_at contents cell ≡ Absent) (stands : StandsForContents disks old.disk old.states contents) where
  abbrev shut : List CellState
  shut = set old.states cell Shut

  abbrev doubt : List Content
  doubt = set contents cell (Doubtful bytes)

  here : content_at doubt cell ≡ Doubtful bytes
  here = get_or-set_same contents cell (Doubtful bytes) Absent (omega (arith, stands.count))

  writing : Moves disks old.disk mid.disk shut mid.states doubt doubt
  writing = keeps doubt here (fill_begins disks cell old.disk old.states contents bytes lt count free absent stands)

  too : (last : List CellState) → (cell_state last cell ≡ Free → ⊥) → FreeToo shut last old.states last
  too last taken = free_set shut last old.states cell Shut refl (λ before after. taken after)

  pub body_failed : (cell_state mid.states cell ≡ Free → ⊥) → Moves disks old.disk mid.disk old.states mid.states contents doubt
  body_failed taken = fill_failed disks cell old.disk mid.disk shut mid.states old.states contents bytes (too mid.states taken) writing

  pub gate_failed : (new : Cells D) → (cell_state new.states cell ≡ Free → ⊥) → new.states ≡ mid.states → KeepsContents disks mid.disk new.disk mid.states new.states → Moves disks old.disk new.disk old.states new.states contents doubt
  gate_failed new taken same opening =
      fill_failed disks cell old.disk new.disk shut new.states old.states contents bytes (too new.states taken)
      (moves_both disks old.disk mid.disk new.disk shut mid.states new.states doubt doubt doubt (λ other less before after. ap (λ (l : List CellState). cell_state l other) (sym same) ∙ after)
      writing (opening doubt writing.stands) (λ image f. inl f))

  pub opened : (new : Cells D) (state : CellState) → (state ≡ Free → ⊥) → length mid.states ≡ cell_count → new.states ≡ set mid.states cell state → ChangesCell disks mid new cell (Doubtful bytes) (Present bytes)
      → Moves disks old.disk new.disk old.states new.states contents (set contents cell (Present bytes))
  opened new state differs mid_count is opens =
      let now : cell_state new.states cell ≡ state = ap (λ (l : List CellState). cell_state l cell) is ∙ get_or-set_same mid.states cell state Free (omega (arith, mid_count)) in
      let taken : cell_state new.states cell ≡ Free → ⊥ = not_free_as new.states cell state now differs in
      fill_done disks cell old.disk mid.disk new.disk shut mid.states new.states old.states contents bytes lt stands.count absent
      (λ other less before after. (free_set_after shut mid.states new.states cell state is taken other less before after).1) (too new.states taken) writing (opens doubt here writing.stands)

-- the first cell without a key is filled
module _ {D : Type 0} (disks : Disk.Ghosts D) (cell : ℕ) (old mid new : Cells D) (count : length old.states ≡ cell_count) (first : IsFirstWithoutKey old.states cell)
    (free : StaysFree old.states mid.states) (is : mid.states ≡ settled_states old.states) (keeps : KeepsContents disks old.disk mid.disk old.states mid.states) (image : IfSome (disks.contents mid.disk) (disks.may_leave mid.disk)) where
  pub filled : (content : Content) → ChangesCell disks mid new cell Absent content → (contents : List Content) → StandsForContents disks old.disk old.states contents
      → Moves disks old.disk new.disk old.states new.states contents (set (settled contents) cell content)
  filled content fills contents stands =
      let settling = moves_settled disks old.disk mid.disk old.states mid.states contents count is (keeps contents stands) in
      let now : cell_state mid.states cell ≡ Free =
      ap (λ (l : List CellState). cell_state l cell) is ∙ (get_or-map settled_state old.states cell Free Free first.within ∙ settled_free (cell_state old.states cell) first.here) in
      let absent = free_absent disks cell mid.disk mid.states contents (omega (arith, first.within, count)) stands.count now settling.stands image in
      moves_after_settled disks old.disk mid.disk new.disk old.states mid.states new.states contents (set (settled contents) cell content) stands.count free settling (fills (settled contents) absent settling.stands)

  -- free cells stay free but for the one that is taken
  pub but_first : ((other : ℕ) → other ≢ cell → cell_state new.states other ≡ cell_state mid.states other) → StaysFreeBut old.states new.states
  but_first others other lt free_now =
      ⊎_elim
      (λ same. inr (subst (λ (k : ℕ). IsFirstWithoutKey old.states k) (sym same) first))
      (λ differs. inl (others other differs ∙ free other lt free_now))
      (cases_eq other cell)
