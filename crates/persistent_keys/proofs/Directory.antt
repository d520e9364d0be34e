-- What calls make of the directory.
use Rattle.persistent_keys.proofs.Common.{[], ap, arith, cell_state, CellState, eqb-true, false, Free, get_or-map, has_id, inl, inr, is_open, IsFirstWithoutKey, IsFull, IsSure, length, length-map, List, map-set, Open, refl, set, settled_open, settled_state, settled_states, StaysFree, StaysFreeBut, suc, sym, true, Unsure, ℕ, ⊎_elim, ◌<◌, ◌∙◌, ◌∷◌, ◌≡◌}
use Rattle.persistent_keys.proofs.Filing.{settled_twice}

-- where each cell has a key, none is in doubt
pub full_is_sure : (states : List CellState) → IsFull states → IsSure states
full_is_sure [] full = refl
full_is_sure (Open id creation ∷ states) full = ap (λ (l : List CellState). Open id creation ∷ l) (full_is_sure states (λ cell lt. full (suc cell) (omega (arith, lt))))
full_is_sure (state ∷ states) full = let z : false ≡ true = full 0 (omega arith) in cc

open_settled : (states : List CellState) (cell : ℕ) → cell < length states → is_open (cell_state (settled_states states) cell) ≡ is_open (cell_state states cell)
open_settled states cell lt = ap is_open (get_or-map settled_state states cell Free Free lt) ∙ settled_open (cell_state states cell)

-- the first cell without a key is the same once nothing is in doubt
pub first_of_settled : (states states' : List CellState) (cell : ℕ) → states' ≡ settled_states states → IsFirstWithoutKey states' cell → IsFirstWithoutKey states cell
first_of_settled states states' cell is first =
    let size : length states' ≡ length states = ap length is ∙ length-map states settled_state in
    let within : cell < length states = omega (arith, size, first.within) in
    record {
      within = within;
      here = sym (open_settled states cell within) ∙ (ap (λ (l : List CellState). is_open (cell_state l cell)) (sym is) ∙ first.here);
      before = λ other lt. sym (open_settled states other (omega (arith, lt, within))) ∙ (ap (λ (l : List CellState). is_open (cell_state l other)) (sym is) ∙ first.before other lt);
    }

-- a free cell stays free but for that one, where free cells stay free until nothing is in doubt
pub free_but_first : (states states' last : List CellState) → states' ≡ settled_states states → StaysFree states states' → StaysFreeBut states' last → StaysFreeBut states last
free_but_first states states' last is free but cell lt before = ⊎_elim (λ still. inl still) (λ first. inr (first_of_settled states states' cell is first)) (but cell lt (free cell lt before))

-- each cell has a key where each has one once nothing is in doubt
pub full_of_settled : (states states' : List CellState) → states' ≡ settled_states states → IsFull states' → IsFull states
full_of_settled states states' is full cell lt =
    let size : length states' ≡ length states = ap length is ∙ length-map states settled_state in
    sym (open_settled states cell lt) ∙ (ap (λ (l : List CellState). is_open (cell_state l cell)) (sym is) ∙ full cell (omega (arith, size, lt)))

-- a key is placed after the cells in doubt were closed
pub placed_after : (states states' last : List CellState) (cell : ℕ) (state : CellState) → states' ≡ settled_states states → last ≡ set (settled_states states') cell state → last ≡ set (settled_states states) cell state
placed_after states states' last cell state is placed = placed ∙ ap (λ (l : List CellState). set l cell state) (ap settled_states is ∙ settled_twice states)

-- and where a cell was put in doubt
pub missing_unsure : (states states' last : List CellState) (cell : ℕ) → settled_states states' ≡ settled_states states → last ≡ set states' cell Unsure → settled_states last ≡ set (settled_states states) cell Free
missing_unsure states states' last cell same is = ap settled_states is ∙ (map-set settled_state states' cell Unsure ∙ ap (λ (l : List CellState). set l cell Free) same)

-- a state has one identifier
pub same_id : (state : CellState) (id other : ℕ) → has_id id state ≡ true → has_id other state ≡ true → other ≡ id
same_id (Open own creation) id other is is' = sym (eqb-true own other is') ∙ eqb-true own id is
same_id state id other is is' = cc
