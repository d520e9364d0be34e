-- Directories without a cell in doubt, and what is in the cells of their files.
use Rattle.store_core.proofs.Common.{[], Absent, ap, arith, body, cell_state, CellState, closed, Content, content_at, DiskGhosts, Doubt, Doubtful, false≢true, Finds, Free, gate, get_or-map, get_or-replicate, HasKeyOrIsClosed, HasKeyOrZeros, HoldsKey, IfSome, inl, inr, is_some, IsDoubtedIn, IsFoundIn, IsSure, Keys, length, length-map, List, map-set, None, Open, opened_gate, Option, Present, refl, set, settled_state, settled_states, Shows, Shut, Some, StandsForKeys, Stored, stored, subst, sym, TellsCell, true, Unsure, zeros, ℕ, ⊎_elim, ◌<◌, ◌∙◌, ◌∷◌, ◌≡◌, ◌⊎◌, cell_count}
use Rattle.key_cells.specs.Layout.{cells_of}
use Rattle.std.proofs.{lemmas.Bool.cases_lt, lemmas.List.ext_get_or}
use Rattle.persistent_keys.proofs.Filing.{settled_twice}
use Rattle.store_core.proofs.Wiped.{shows_free}

-- a slot is set in a directory in which no other is in doubt
pub set_sure : (slots slots' : List CellState) (c : ℕ) (slot : CellState) → settled_state slot ≡ slot → slots' ≡ set (settled_states slots) c slot → IsSure slots'
set_sure slots slots' c slot sure is = subst IsSure (sym is)
    (map-set settled_state (settled_states slots) c slot ∙ (ap (λ (l : List CellState). set l c (settled_state slot)) (settled_twice slots) ∙ ap (set (settled_states slots) c) sure))

-- an opening leaves none in doubt
found_cell : (slot : CellState) (g b : List ℕ) → Finds slot g b → slot ≡ settled_state slot
found_cell Free g b is = refl
found_cell (Open id number) g b is = refl
found_cell Shut g b is = absurd is
found_cell Unsure g b is = absurd is

all_settled : (slots : List CellState) → ((c : ℕ) → c < length slots → cell_state slots c ≡ settled_state (cell_state slots c)) → settled_states slots ≡ slots
all_settled slots settled = sym (ext_get_or Free slots (settled_states slots) (sym (length-map slots settled_state)) (λ c lt. settled c lt ∙ sym (get_or-map settled_state slots c Free Free lt)))

found_sure : (image : List ℕ) (slots : List CellState) → length slots ≡ cell_count → IsFoundIn image slots → IsSure slots
found_sure [] slots sized is = all_settled slots (λ c lt. let free = ap (λ (l : List CellState). cell_state l c) is ∙ get_or-replicate cell_count c Free Free (omega (arith, sized, lt)) in free ∙ sym (ap settled_state free))
found_sure (byte ∷ rest) slots sized is = all_settled slots (λ c lt. ⊎_elim
    (λ within. found_cell (cell_state slots c) (gate c (byte ∷ rest)) (body c (byte ∷ rest)) (is.each c within))
    (λ past. let free = is.beyond c past in free ∙ sym (ap settled_state free))
    (cases_lt c (cells_of (byte ∷ rest))))

pub opened_sure : (told : Option (List ℕ)) (slots : List CellState) → length slots ≡ cell_count → IfSome told (λ image. IsFoundIn image slots) → is_some told ≡ true → IsSure slots
opened_sure None slots sized found tells = absurd (false≢true tells)
opened_sure (Some image) slots sized found tells = found_sure image slots sized found

-- each cell of an image that a crash leaves has a key, or is all zeros
abbrev HasKeyOrNothing : Keys → List ℕ → List ℕ → Type 0
HasKeyOrNothing keys g b = ((id : ℕ) × (key : Stored) × (keys id ≡ Some key) × (g ≡ opened_gate) × HoldsKey key.attributes key.bytes b) ⊎ ((g ≡ closed) × (b ≡ zeros))

sure_cell : (keys : Keys) (doubt : Doubt) (slot : CellState) (content : Content) (g b : List ℕ) → settled_state slot ≡ slot → Shows slot content g b → TellsCell keys doubt slot content → HasKeyOrNothing keys g b
sure_cell keys doubt Free content g b sure shows tells = inr (shows_free Free content g b refl shows)
sure_cell keys doubt (Open id number) Absent g b sure shows tells = absurd shows
sure_cell keys doubt (Open id number) (Present bytes) g b sure shows tells =
    inl (id, stored number tells.0 tells.1, tells.4, shows.0, subst (HoldsKey tells.0 tells.1) (sym shows.1) tells.2)
sure_cell keys doubt (Open id number) (Doubtful bytes) g b sure shows tells = absurd shows
sure_cell keys doubt Shut content g b sure shows tells = cc
sure_cell keys doubt Unsure content g b sure shows tells = cc

pub sure_cells : {D : Type 0} (disks : DiskGhosts D) (disk : D) (slots : List CellState) (keys : Keys) (doubt : Doubt) → StandsForKeys disks disk slots keys doubt → IsSure slots →
    (image : List ℕ) → disks.may_leave disk image → (cell : ℕ) → cell < cell_count → HasKeyOrZeros keys cell image
sure_cells disks disk slots keys doubt s sure image left cell lt =
    let sized = s.filed.sized in
    let settled : settled_state (cell_state slots cell) ≡ cell_state slots cell = sym (get_or-map settled_state slots cell Free Free (omega arith)) ∙ ap (λ (l : List CellState). cell_state l cell) sure in
    sure_cell keys doubt (cell_state slots cell) (content_at s.contents cell) (gate cell image) (body cell image) settled ((s.stands.each image left).each cell lt) (s.filed.each cell lt)

-- where keys are in doubt, it has a key, or the body of one of these, or is closed
any_cell : (keys : Keys) (doubt : Doubt) (slot : CellState) (content : Content) (g b : List ℕ) → Shows slot content g b → TellsCell keys doubt slot content →
    HasKeyOrNothing keys g b ⊎ (IsDoubtedIn doubt b ⊎ (g ≡ closed))
any_cell keys doubt Free content g b shows tells = inl (sure_cell keys doubt Free content g b refl shows tells)
any_cell keys doubt (Open id number) content g b shows tells = inl (sure_cell keys doubt (Open id number) content g b refl shows tells)
any_cell keys doubt Shut Absent g b shows tells = inr (inr shows)
any_cell keys doubt Shut (Doubtful bytes) g b shows tells = inr (inr shows)
any_cell keys doubt Unsure (Doubtful bytes) g b shows tells = inr (inl (subst (IsDoubtedIn doubt) (sym shows) tells))
any_cell keys doubt slot content g b shows tells = absurd shows

pub left_cells : {D : Type 0} (disks : DiskGhosts D) (disk : D) (slots : List CellState) (keys : Keys) (doubt : Doubt) → StandsForKeys disks disk slots keys doubt → (doubt ≡ [] → IsSure slots) →
    (image : List ℕ) → disks.may_leave disk image → (cell : ℕ) → cell < cell_count → HasKeyOrIsClosed keys doubt cell image
left_cells disks disk slots keys [] s sure image left cell lt = inl (sure_cells disks disk slots keys [] s (sure refl) image left cell lt)
left_cells disks disk slots keys (key ∷ doubt) s sure image left cell lt = ⊎_elim
    (λ has. inl has)
    (λ other. inr ((λ none. let clash : key ∷ doubt ≡ [] = none in cc), other))
    (any_cell keys (key ∷ doubt) (cell_state slots cell) (content_at s.contents cell) (gate cell image) (body cell image) ((s.stands.each image left).each cell lt) (s.filed.each cell lt))
