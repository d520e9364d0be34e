-- Cells that stay zeros over the calls of a turn.
use Rattle.store_core.proofs.Common.{[], AdmissionGhosts, ap, arith, cell_state, CellState, cond, DevicesGhosts, DiskGhosts, eqb-true, false≢true, FileStaysZeros, Free, get_or-set_same, has_id, HasZeros, IsDirectory, KeyFile, Keys, last_store, LeavesZeros, length, length-map, List, map_get, Model, None, none-some, Open, Option, set, settled_state, settled_states, StaysFree, Store, Stored, subst, sym, true, Within, within_both, within_none, ℕ, ⊎_elim, ◌<◌, ◌==◌, ◌∙◌, ◌∷◌, ◌≡◌, cell_count}
use Rattle.persistent_keys.specs.Calls.{KeepsFile}

-- keys with another at one identifier
abbrev pub keys_put : Keys → ℕ → Option Stored → Keys
keys_put keys id key = λ other. cond (other == id) key (keys other)

module _ {D : Type 0} (disks : DiskGhosts D) where
  -- a file that was read, and then changed
  pub read_first : (old mid new : KeyFile D) → mid.cells.states ≡ old.cells.states →
      KeepsFile disks old mid →
      FileStaysZeros disks mid new → FileStaysZeros disks old new
  read_first old mid new same keeps then = λ keys doubt s c lt free still.
      let read = keeps keys doubt s in
      let between : cell_state mid.cells.states c ≡ Free = ap (λ (d : _). cell_state d c) same ∙ free in
      within_both (disks.moment old.cells.disk) (disks.moment mid.cells.disk) (disks.moment new.cells.disk) (disks.left_since old.cells.disk) (disks.left_since mid.cells.disk) (disks.left_since new.cells.disk) (HasZeros c) (HasZeros c) (HasZeros c)
      (read.zeros c lt free between) (then keys doubt read.stands c lt between still) (λ image z. z) (λ image z. z)

-- a cell that has an identifier is open
open_of : (id : ℕ) (slot : CellState) → has_id id slot ≡ true → (number : ℕ) × (slot ≡ Open id number)
open_of id (Open own number) has = (number, ap (λ (n : ℕ). Open n number) (eqb-true own id has))
open_of id slot has = absurd (false≢true has)

-- the cells that have a destroyed key's identifier are free
pub freed : (slots slots' : List CellState) (m : Model) (id at : ℕ) → IsDirectory slots m → at < cell_count → has_id id (cell_state slots at) ≡ true → slots' ≡ set (settled_states slots) at Free →
    (c : ℕ) → c < cell_count → has_id id (cell_state slots c) ≡ true → cell_state slots' c ≡ Free
freed slots slots' m id at d within has gone c lt had =
    let a = open_of id (cell_state slots at) has in
    let o = open_of id (cell_state slots c) had in
    let same : c ≡ at = d.one c at id o.0 a.0 lt within o.1 a.1 in
    let long : at < length (settled_states slots) = subst (λ n. at < n) (sym (length-map slots settled_state ∙ d.sized)) within in
    ap (λ ss. cell_state ss c) gone ∙ (ap (cell_state (set (settled_states slots) at Free)) same ∙ get_or-set_same (settled_states slots) at Free Free long)

-- and no cell has an identifier that the model lacks
pub lacks_cell : (slots : List CellState) (m : Model) (id : ℕ) → IsDirectory slots m → map_get m.keys id ≡ None → (c : ℕ) → c < cell_count → has_id id (cell_state slots c) ≡ true → ⊥
lacks_cell slots m id d none c lt has =
    let o = open_of id (cell_state slots c) has in
    let k = d.only c id o.0 lt o.1 in
    none-some k.0 (sym none ∙ k.1)

-- a file that stays as it is
pub untouched : {D : Type 0} (disks : DiskGhosts D) (old new : KeyFile D) → new ≡ old → LeavesZeros disks old new
untouched disks old new same = subst (LeavesZeros disks old) (sym same) (λ c lt free still. within_none (disks.moment old.cells.disk) (disks.left_since old.cells.disk) (HasZeros c))

-- over many turns
module _ {D A C : Type 0} (disks : DiskGhosts D) (elements : DevicesGhosts A) (admits : AdmissionGhosts C) (cell : ℕ) (within : cell < cell_count) where
  abbrev disk_of : Store D A C → D
  disk_of store = store.file.cells.disk

  abbrev IsWithin : (first last : Store D A C) → Type 0
  IsWithin first last = Within (disks.moment (disk_of first)) (disks.moment (disk_of last)) (disks.left_since (disk_of first)) (disks.left_since (disk_of last)) (HasZeros cell)

  pub stays_zeros : (store : Store D A C) (turns : List (Store D A C)) → cell_state store.file.cells.states cell ≡ Free →
      StaysFree disks elements admits cell store turns → IsWithin store (last_store store turns)
  stays_zeros store [] free turns = within_none (disks.moment (disk_of store)) (disks.left_since (disk_of store)) (HasZeros cell)
  stays_zeros store (next ∷ rest) free turns =
      let turn = turns.0 in
      let at = turn.stands in
      let last = disk_of (last_store next rest) in
      within_both (disks.moment (disk_of store)) (disks.moment (disk_of next)) (disks.moment last) (disks.left_since (disk_of store)) (disks.left_since (disk_of next)) (disks.left_since last) (HasZeros cell) (HasZeros cell) (HasZeros cell)
      (turn.zeros at.0 at.1 at.2 at.3 at.4 turn.tells cell within free turn.free) (stays_zeros next rest turn.free turns.1) (λ image z. z) (λ image z. z)

  -- a crash since the first of them has left zeros, as one at that moment would have
  pub left_zeros : (first last : Store D A C) → ((image : List ℕ) → disks.left_since (disk_of first) (disks.moment (disk_of first)) image → HasZeros cell image) → IsWithin first last →
      (image : List ℕ) → disks.left_since (disk_of last) (disks.moment (disk_of first)) image → HasZeros cell image
  left_zeros first last here turns image left = ⊎_elim (here image) (λ z. z) (turns.each (disks.moment (disk_of first)) image (omega arith) left)
