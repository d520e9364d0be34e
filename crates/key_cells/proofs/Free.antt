use Rattle.key_cells.proofs.Common.{Free, IsSure, List, CellState, StaysFree, ap, arith, cases_eq, cell_state, cell_count, get_or-map, get_or-set_other, is_open, length, set, settled_state, subst, sym, true, ℕ, ⊎_elim, ◌<◌, ◌∙◌, ◌≡◌}

-- Which cells are free before calls, between them and after them.

-- states that are free before two calls and after them are so between them
abbrev pub FreeBetween : List CellState → List CellState → List CellState → Type 0
FreeBetween states states' states'' = (cell : ℕ) → cell < cell_count → cell_state states cell ≡ Free → cell_state states'' cell ≡ Free → cell_state states' cell ≡ Free

-- states that are free before and after are so too where a call is told of others
abbrev pub FreeToo : List CellState → List CellState → List CellState → List CellState → Type 0
FreeToo states states' others others' = (cell : ℕ) → cell < cell_count → cell_state others cell ≡ Free → cell_state others' cell ≡ Free → (cell_state states cell ≡ Free) × (cell_state states' cell ≡ Free)

pub free_same : (states states' : List CellState) → FreeToo states states' states states'
free_same states states' cell lt before after = (before, after)

-- a state that was told otherwise in one cell, which isn't free
pub free_set : (states states' others : List CellState) (cell : ℕ) (state : CellState) → states ≡ set others cell state → (cell_state others cell ≡ Free → cell_state states' cell ≡ Free → ⊥) → FreeToo states states' others states'
free_set states states' others cell state is not_free other lt before after =
    ⊎_elim
    (λ same. absurd (not_free (subst (λ (k : ℕ). cell_state others k ≡ Free) same before) (subst (λ (k : ℕ). cell_state states' k ≡ Free) same after)))
    (λ differs. (ap (λ (l : List CellState). cell_state l other) is ∙ (get_or-set_other others cell other state Free differs ∙ before), after))
    (cases_eq other cell)

-- a state that is told otherwise afterwards, and then isn't free
pub free_set_after : (states states' states'' : List CellState) (cell : ℕ) (state : CellState) → states'' ≡ set states' cell state → (cell_state states'' cell ≡ Free → ⊥) → FreeToo states states' states states''
free_set_after states states' states'' cell state is not_free other lt before after =
    ⊎_elim
    (λ same. absurd (not_free (subst (λ (k : ℕ). cell_state states'' k ≡ Free) same after)))
    (λ differs. (before, sym (get_or-set_other states' cell other state Free differs) ∙ (sym (ap (λ (l : List CellState). cell_state l other) is) ∙ after)))
    (cases_eq other cell)

-- free cells stay free where another cell's state is told otherwise
pub stays_free_set : (states : List CellState) (cell : ℕ) (state : CellState) → (cell_state states cell ≡ Free → ⊥) → StaysFree states (set states cell state)
stays_free_set states cell state not_free other lt free =
    ⊎_elim
    (λ same. absurd (not_free (subst (λ (k : ℕ). cell_state states k ≡ Free) same free)))
    (λ differs. get_or-set_other states cell other state Free differs ∙ free)
    (cases_eq other cell)

pub stays_free_both : (states states' states'' : List CellState) → StaysFree states states' → StaysFree states' states'' → StaysFree states states''
stays_free_both states states' states'' first second other lt free = second other lt (first other lt free)

pub not_free_as : (states : List CellState) (cell : ℕ) (state : CellState) → cell_state states cell ≡ state → (state ≡ Free → ⊥) → cell_state states cell ≡ Free → ⊥
not_free_as states cell state is not_free free = not_free (sym is ∙ free)

pub open_not_free : (state : CellState) → is_open state ≡ true → state ≡ Free → ⊥
open_not_free Free is free = cc
open_not_free state is free = cc

-- where no cell is in doubt, neither is one of a directory that is the same
pub sure_still : (states now : List CellState) (cell : ℕ) → length states ≡ cell_count → cell < cell_count → now ≡ states → IsSure states → settled_state (cell_state now cell) ≡ cell_state now cell
sure_still states now cell sized lt same sure =
    rw same (sym (get_or-map settled_state states cell Free Free (omega (arith, sized, lt))) ∙ ap (λ (l : List CellState). cell_state l cell) sure)
