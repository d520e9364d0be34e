-- A destruction, of what its steps do: the cells in doubt are closed, and then the key's own.
use Rattle.key_cells.proofs.Common.{Absent, ap, arith, cell_state, Cells, cell_count, CellState, Content, content_at, Doubtful, Free, get_or-map, get_or-set_same, is_open, KeepsContents, length, List, Moves, Present, refl, set, set-set, settled, settled_content, settled_state, settled_states, StandsForContents, StaysFree, true, Unsure, ℕ, ◌<◌, ◌∙◌, ◌≡◌}
use Rattle.disk_face.specs.declared.Disk as Disk
use Rattle.key_cells.proofs.{Counts.count_same, Moves.close_begins, Moves.close_done, Moves.doubt_after, Moves.fill_failed, Moves.moves_after_settled, Moves.moves_settled, Moves.still_open, Free.FreeToo, Free.free_set, Free.free_set_after, Free.not_free_as, Free.open_not_free, Free.stays_free_both, Free.stays_free_set}

module _ {D : Type 0} (disks : Disk.Ghosts D) (cell : ℕ) (old mid : Cells D) (lt : cell < cell_count) (count : length old.states ≡ cell_count) (was : is_open (cell_state old.states cell) ≡ true)
    (free : StaysFree old.states mid.states) (alike : settled_states mid.states ≡ settled_states old.states) where
  abbrev states : List CellState
  states = mid.states

  count_now : length states ≡ cell_count
  count_now = count_same old.states states cell_count alike count

  open_now : is_open (cell_state states cell) ≡ true
  open_now = still_open old.states states cell (omega (arith, count)) alike was

  -- free cells stay free
  pub still_free : (last : List CellState) → StaysFree (set states cell Unsure) last → StaysFree old.states last
  still_free last stays = stays_free_both old.states states last free (stays_free_both states (set states cell Unsure) last (stays_free_set states cell Unsure (open_not_free (cell_state states cell) open_now)) stays)

  module _ (keeps : KeepsContents disks old.disk mid.disk old.states states) where
    -- not all of those in doubt were closed
    pub not_reached : (contents : List Content) (bytes : List ℕ) → content_at contents cell ≡ Present bytes → StandsForContents disks old.disk old.states contents
        → Moves disks old.disk mid.disk old.states (set states cell Unsure) contents (set contents cell (Doubtful bytes))
    not_reached contents bytes present stands =
        let m = keeps contents stands in
        let unsure : cell_state (set states cell Unsure) cell ≡ Unsure = get_or-set_same states cell Unsure Free (omega (arith, count_now)) in
        doubt_after disks old.disk mid.disk old.states states (set states cell Unsure) contents (set contents cell (Doubtful bytes))
        (free_set_after old.states states (set states cell Unsure) cell Unsure refl (not_free_as (set states cell Unsure) cell Unsure unsure (λ e. cc)))
        m (close_begins disks cell mid.disk states contents bytes lt count_now open_now present m.stands)

    -- they were, and then the cell was closed, or it is in doubt
    module _ (is : states ≡ settled_states old.states) (new : Cells D) (closes : KeepsContents disks mid.disk new.disk (set states cell Unsure) new.states) (contents : List Content) (bytes : List ℕ) (present : content_at contents cell ≡ Present bytes) (stands : StandsForContents disks old.disk old.states contents) where
      settling : Moves disks old.disk mid.disk old.states states contents (settled contents)
      settling = moves_settled disks old.disk mid.disk old.states states contents count is (keeps contents stands)

      there : content_at (settled contents) cell ≡ Present bytes
      there = get_or-map settled_content contents cell Absent Absent (omega (arith, stands.count)) ∙ ap settled_content present

      closing : Moves disks mid.disk new.disk (set states cell Unsure) new.states (set (settled contents) cell (Doubtful bytes)) (set (settled contents) cell (Doubtful bytes))
      closing = closes (set (settled contents) cell (Doubtful bytes)) (close_begins disks cell mid.disk states (settled contents) bytes lt count_now open_now there settling.stands)

      after : (to : List Content) → Moves disks mid.disk new.disk states new.states (settled contents) to → Moves disks old.disk new.disk old.states new.states contents to
      after to = moves_after_settled disks old.disk mid.disk new.disk old.states states new.states contents to stands.count free settling

      too : FreeToo (set states cell Unsure) new.states states new.states
      too = free_set (set states cell Unsure) new.states states cell Unsure refl (λ before after. open_not_free (cell_state states cell) open_now before)

      pub in_doubt : Moves disks old.disk new.disk old.states new.states contents (set (settled contents) cell (Doubtful bytes))
      in_doubt = after (set (settled contents) cell (Doubtful bytes)) (fill_failed disks cell mid.disk new.disk (set states cell Unsure) new.states states (settled contents) bytes too closing)

      pub gone : new.states ≡ set states cell Free → Moves disks old.disk new.disk old.states new.states contents (set (settled contents) cell Absent)
      gone is_free =
          let shut : cell_state new.states cell ≡ Free = ap (λ (l : List CellState). cell_state l cell) is_free ∙ get_or-set_same states cell Free Free (omega (arith, count_now)) in
          after (set (settled contents) cell Absent) (close_done disks cell mid.disk new.disk (set states cell Unsure) new.states states (settled contents) bytes lt settling.stands.count there shut too closing)

-- the state of a cell that was unsure and is closed
pub now_free : (states : List CellState) (cell : ℕ) → length states ≡ cell_count → cell < cell_count → set (set states cell Unsure) cell (settled_state (cell_state (set states cell Unsure) cell)) ≡ set states cell Free
now_free states cell count lt =
    ap (λ (x : CellState). set (set states cell Unsure) cell (settled_state x)) (get_or-set_same states cell Unsure Free (omega (arith, count))) ∙ set-set states cell Unsure Free
