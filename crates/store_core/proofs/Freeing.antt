-- How the cells that a history has freed go on with a call.
use Rattle.store_core.proofs.Common.{[], arith, Bool, cases_lt, cell_state, CellState, ChangesFreed, cond, DiskGhosts, Entry, eq-eqb, false, false≢true, FaultMark, Free, FreedCell, FreedCellsAreZeros, HasFreed, HasZeros, HaveFreed, inl, inr, is_destruction, is_persistent_key, IsFirstWithoutKey, IsFreeSince, IsZerosSince, key_changed, List, outcome_of, Plain, refl, replay, Service, subst, sym, true, Within, without_cell, ℕ, ⊎_elim, ◌++◌, ◌<◌, ◌==◌, ◌∙◌, ◌∷◌, ◌≡◌, ◌≢◌, ◌⊎◌, cell_count}
use Rattle.std.specs.List.{AllByRecursion}
use Rattle.key_cells.specs.Contents as contents

-- one call more
pub freed_push : (service : Service) (h : List Entry) (e : Entry) (before mid after : List FreedCell) → HasFreed service h before mid →
    ChangesFreed (is_persistent_key (key_changed (replay service h) e.caller e.call)) (is_destruction e.call) e.mark e.done mid after → HasFreed service (h ++ e ∷ []) before after
freed_push service [] e before mid after is step =
    (after, subst (λ (l : List FreedCell). ChangesFreed (is_persistent_key (key_changed service e.caller e.call)) (is_destruction e.call) e.mark e.done l after) is step, refl)
freed_push service (first ∷ h) e before mid after was step = (was.0, was.1, freed_push (outcome_of service first).service h e was.0 mid after was.2 step)

-- what a call makes of the free cells of a directory
abbrev pub MovesFree : (persistent destroys : Bool) → FaultMark → (slots slots' : List CellState) → Type 0
MovesFree false destroys mark slots slots' = contents.StaysFree slots slots'
MovesFree true false mark slots slots' = contents.StaysFreeBut slots slots'
MovesFree true true Plain slots slots' = contents.StaysFree slots slots' × (cell : ℕ) × (cell < cell_count) × (cell_state slots cell ≢ Free) × (cell_state slots' cell ≡ Free)
MovesFree true true mark slots slots' = contents.StaysFree slots slots'

-- where it leaves the directory, it destroys no persistent key
pub unmoved : (persistent destroys : Bool) (mark : FaultMark) (slots : List CellState) → (persistent ≡ false) ⊎ (destroys ≡ false) → MovesFree persistent destroys mark slots slots
unmoved false destroys mark slots either = λ cell lt free. free
unmoved true false mark slots either = λ cell lt free. inl free
unmoved true true mark slots (inl is) = absurd (false≢true (sym is))
unmoved true true mark slots (inr is) = absurd (false≢true (sym is))

-- what holds of each holds of each but those of a cell
all_without : (P Q : FreedCell → Type 0) (cell : ℕ) (freed : List FreedCell) → ((f : FreedCell) → P f → f.cell ≢ cell → Q f) → AllByRecursion P freed → AllByRecursion Q (without_cell cell freed)
all_without P Q cell [] each all = tt
all_without P Q cell (f ∷ fs) each all = go (f.cell == cell) refl (all_without P Q cell fs each all.1) where
  go : (b : Bool) → (f.cell == cell) ≡ b → AllByRecursion Q (without_cell cell fs) → AllByRecursion Q (cond b (without_cell cell fs) (f ∷ without_cell cell fs))
  go true is others = others
  go false is others = (each f all.0 (λ same. false≢true (sym is ∙ eq-eqb f.cell cell same)), others)

all_map : (P Q : FreedCell → Type 0) (freed : List FreedCell) → ((f : FreedCell) → P f → Q f) → AllByRecursion P freed → AllByRecursion Q freed
all_map P Q [] each all = tt
all_map P Q (f ∷ fs) each all = (each f all.0, all_map P Q fs each all.1)

-- so the cells that a history has freed are zeros
pub freed_zeros : {D : Type 0} (disks : DiskGhosts D) (disk : D) (slots : List CellState) (start : Service) (h : List Entry) → HaveFreed (IsFreeSince disks disk slots) start h → FreedCellsAreZeros (disks.left_since disk) start h
freed_zeros disks disk slots start h f = (f.0, f.1, all_map (IsFreeSince disks disk slots) (IsZerosSince (disks.left_since disk)) f.0 (λ freed was. was.zeros) f.2)

-- there is one first cell without a key
one_first : (slots : List CellState) (cell other : ℕ) → IsFirstWithoutKey slots cell → IsFirstWithoutKey slots other → cell ≡ other
one_first slots cell other first second =
    ⊎_elim
    (λ less. absurd (false≢true (sym first.here ∙ second.before cell less)))
    (λ most. ⊎_elim (λ more. absurd (false≢true (sym second.here ∙ first.before other more))) (λ least. omega (arith, most, least)) (cases_lt other cell))
    (cases_lt cell other)

module _ {D : Type 0} (disks : DiskGhosts D) (old new : D) (slots slots' : List CellState) where
  abbrev Was : FreedCell → Type 0
  Was = IsFreeSince disks old slots

  abbrev Is : FreedCell → Type 0
  Is = IsFreeSince disks new slots'

  abbrev IsWithin : ℕ → Type 0
  IsWithin cell = Within (disks.moment old) (disks.moment new) (disks.left_since old) (disks.left_since new) (HasZeros cell)

  module _ (within : (cell : ℕ) → cell < cell_count → cell_state slots cell ≡ Free → cell_state slots' cell ≡ Free → IsWithin cell) where
    still : (f : FreedCell) → Was f → cell_state slots' f.cell ≡ Free → Is f
    still f was free =
        let calls = within f.cell was.zeros.0 was.free free in
        record {
          free = free;
          past = omega (arith, was.past, calls.later);
          zeros = (was.zeros.0, λ image left. ⊎_elim (was.zeros.1 image) (λ z. z) (calls.each f.since image was.past left));
        }

    -- a directory in which free cells stay free
    pub all_still : contents.StaysFree slots slots' → (freed : List FreedCell) → AllByRecursion Was freed → AllByRecursion Is freed
    all_still stays freed all = all_map Was Is freed (λ f was. still f was (stays f.cell was.zeros.0 was.free)) all

    -- or all but the first without a key, which may be one of these
    but_first : contents.StaysFreeBut slots slots' → (freed : List FreedCell) → AllByRecursion Was freed → AllByRecursion Is freed ⊎ ((cell : ℕ) × IsFirstWithoutKey slots cell)
    but_first but [] all = inl tt
    but_first but (f ∷ fs) all = ⊎_elim
        (λ free. ⊎_elim (λ others. inl (still f all.0 free, others)) (λ first. inr first) (but_first but fs all.1))
        (λ first. inr (f.cell, first))
        (but f.cell all.0.zeros.0 all.0.free)

    -- what a call makes of them
    pub frees : ((cell : ℕ) → cell < cell_count → cell_state slots' cell ≡ Free → (image : List ℕ) → disks.left_since new (disks.moment new) image → HasZeros cell image) →
        (persistent destroys : Bool) (mark : FaultMark) → MovesFree persistent destroys mark slots slots' → (freed : List FreedCell) → AllByRecursion Was freed →
        (after : List FreedCell) × ChangesFreed persistent destroys mark (disks.moment new) freed after × AllByRecursion Is after
    frees here false destroys mark moves freed all = (freed, refl, all_still moves freed all)
    frees here true false mark moves freed all = ⊎_elim
        (λ each. (freed, inl refl, each))
        (λ first. (
          without_cell first.0 freed,
          inr (first.0, refl),
          all_without Was Is first.0 freed (λ f was differs. still f was (⊎_elim (λ free. free) (λ own. absurd (differs (one_first slots f.cell first.0 own first.1))) (moves f.cell was.zeros.0 was.free))) all,
        ))
        (but_first moves freed all)
    frees here true true Plain moves freed all =
        let cell = moves.1 in (
          record { cell = cell; since = disks.moment new } ∷ freed,
          (cell, all_map Was (λ f. f.cell ≢ cell) freed (λ f was same. moves.3 (subst (λ (c : ℕ). cell_state slots c ≡ Free) same was.free)) all, refl),
          (record { free = moves.4; past = omega arith; zeros = (moves.2, here cell moves.2 moves.4) }, all_still moves.0 freed all),
        )
    frees here true true mark moves freed all = (freed, refl, all_still moves freed all)
