-- What the states are that an opening reads, one cell after the other.
use Rattle.key_cells.proofs.Common.{[], ap, AreFreeFrom, arith, body, Bool, cases_eq, cases_lt, cell_state, cells_of, CellState, closed, cond, count_by, count_by_more_no, count_by_more_yes, creation_of_state, DamagedCell, drop, eq-eqb, eqb-true, false, Free, gate, get_or, get_or-replicate, get_or-set_other, get_or-set_same, GivesPart, has_id, HasNoKey, HasOneEach, HoldsId, HoldsNoKey, identifier_in, IfSome, inl, inr, is_open, IsBadCell, IsDamaged, IsNamed, IsNumbered, IsOpen, IsOpenFaultOf, IsPersistent, IsStoreFile, length, length-set, List, None, Open, opened_gate, Option, Reads, ReadsBelow, refl, replicate, set, set-get_or, Shut, Some, subst, sym, take, take-set-le, true, Unsure, ℕ, ⊎_elim, ◌*◌, ◌+◌, ◌<◌, ◌∙◌, ◌∷◌, ◌≡◌, ◌≢◌, cell_count}
use Rattle.key_cells.proofs.{Bodies.parts_of, CellsRead.gate_read, CellsRead.body_read}
use Rattle.std.proofs.lemmas.List.{get_or_past}

pub gate_closed : (bytes : List ℕ) → length bytes ≡ 1088 → get_or bytes 0 0 ≡ 0 → take 1 bytes ≡ closed
gate_closed [] size first = absurd (omega arith)
gate_closed (x ∷ xs) size first = ap (λ (y : ℕ). y ∷ []) first

-- a new directory
pub new_is_unread : (cell : ℕ) → cell_state (replicate cell_count Free) cell ≡ Free
new_is_unread cell = ⊎_elim (λ within. get_or-replicate cell_count cell Free Free within) (λ past. get_or_past (replicate cell_count Free) cell Free past) (cases_lt cell cell_count)

-- one cell more is read
pub reads_more : (told : Option (List ℕ)) (count : ℕ) (states : List CellState) (state : CellState) (bytes : List ℕ) → count < length states → IfSome told (λ image. ReadsBelow count states image)
    → GivesPart told (64 + 1088 * count) 1088 bytes → Reads state (take 1 bytes) (drop 1 bytes) → IfSome told (λ image. ReadsBelow (count + 1) (set states count state) image)
reads_more None count states state bytes lt below gives reads = tt
reads_more (Some image) count states state bytes lt below gives reads = λ cell less.
    ⊎_elim
    (λ is. subst (λ (k : ℕ). Reads (cell_state (set states count state) k) (gate k image) (body k image)) (sym is)
    (rw (get_or-set_same states count state Free lt) here))
    (λ differs. rw (get_or-set_other states count cell state Free differs) (below cell (omega arith)))
    (cases_eq cell count)
  where
    here : Reads state (gate count image) (body count image)
    here = subst (λ (b : List ℕ). Reads state (gate count image) b) (ap (drop 1) gives ∙ body_read count image) (subst (λ (g : List ℕ). Reads state g (drop 1 bytes)) (ap (take 1) gives ∙ gate_read count image) reads)

-- a cell that is free stays so
pub stays_free : (cell : ℕ) (states : List CellState) → cell_state states cell ≡ Free → set states cell Free ≡ states
stays_free cell states free = ap (set states cell) (sym free) ∙ set-get_or states cell Free

-- the cells that aren't read yet are as in a new directory

pub was_read : (count : ℕ) (states : List CellState) (id cell : ℕ) → AreFreeFrom count states → has_id id (cell_state states cell) ≡ true → cell < count
was_read count states id cell unread has = ⊎_elim (λ before. before) (λ after. let none : false ≡ true = ap (has_id id) (sym (unread cell after)) ∙ has in cc) (cases_lt cell count)

pub unread_more : (count : ℕ) (states : List CellState) (state : CellState) → AreFreeFrom count states → AreFreeFrom (count + 1) (set states count state)
unread_more count states state unread cell after = get_or-set_other states count cell state Free (λ same. omega (arith, after, same)) ∙ unread cell (omega (arith, after))

-- what holds of the cells that were read holds of all
pub one_all : (count : ℕ) (states : List CellState) → HasOneEach count states → AreFreeFrom count states → HasOneEach cell_count states
one_all count states one free id cell other lt lt' has has' = one id cell other (was_read count states id cell free has) (was_read count states id other free has') has has'

pub numbered_all : (count : ℕ) (states : List CellState) → IsNumbered count states → AreFreeFrom count states → IsNumbered cell_count states
numbered_all count states numbered free cell lt open_now = ⊎_elim
    (λ before. numbered cell before open_now)
    (λ after. let none : false ≡ true = ap is_open (sym (free cell after)) ∙ open_now in cc)
    (cases_lt cell count)

pub named_all : (count : ℕ) (states : List CellState) → IsNamed count states → AreFreeFrom count states → IsNamed cell_count states
named_all count states named free id cell lt has = named id cell (was_read count states id cell free has) has

pub one_more : (count : ℕ) (states : List CellState) (state : CellState) → count < length states → HasOneEach count states → ((id : ℕ) → has_id id state ≡ true → HasNoKey states id) → HasOneEach (count + 1) (set states count state)
one_more count states state lt one new id cell other cell_lt other_lt has has' =
    ⊎_elim
    (λ cell_is. ⊎_elim (λ other_is. cell_is ∙ sym other_is) (λ differs. absurd (clash other (omega arith) (at_new cell cell_is has) (at_old other differs has'))) (cases_eq other count))
    (λ cell_differs. ⊎_elim
    (λ other_is. absurd (clash cell (omega arith) (at_new other other_is has') (at_old cell cell_differs has)))
    (λ differs. one id cell other (omega arith) (omega arith) (at_old cell cell_differs has) (at_old other differs has'))
    (cases_eq other count))
    (cases_eq cell count)
  where
    at_new : (k : ℕ) → k ≡ count → has_id id (cell_state (set states count state) k) ≡ true → has_id id state ≡ true
    at_new k is h = ap (has_id id) (sym (get_or-set_same states count state Free lt)) ∙ subst (λ (j : ℕ). has_id id (cell_state (set states count state) j) ≡ true) is h

    at_old : (k : ℕ) → k ≢ count → has_id id (cell_state (set states count state) k) ≡ true → has_id id (cell_state states k) ≡ true
    at_old k differs h = ap (has_id id) (sym (get_or-set_other states count k state Free differs)) ∙ h

    clash : (k : ℕ) → k < count → has_id id state ≡ true → has_id id (cell_state states k) ≡ true → ⊥
    clash k less here there = let e : false ≡ true = sym (new id here k (omega arith)) ∙ there in cc

pub keys_more : (count found found' : ℕ) (states : List CellState) (state : CellState) → count < length states → found ≡ count_by is_open (take count states) → found' ≡ found + cond (is_open state) 1 0
    → found' ≡ count_by is_open (take (count + 1) (set states count state))
keys_more count found found' states state lt is now = by (is_open state) refl now
  where
    same : count_by is_open (take count (set states count state)) ≡ found
    same = ap (count_by is_open) (take-set-le count states count state (omega arith)) ∙ sym is

    long : count < length (set states count state)
    long = omega (arith, length-set states count state)

    by : (b : Bool) → is_open state ≡ b → found' ≡ found + cond b 1 0 → found' ≡ count_by is_open (take (count + 1) (set states count state))
    by true open_now now = now ∙ sym (count_by_more_yes is_open (set states count state) count Free long (ap is_open (get_or-set_same states count state Free lt) ∙ open_now) ∙ ap (λ (n : ℕ). n + 1) same)
    by false shut_now now = now ∙ omega (arith, count_by_more_no is_open (set states count state) count Free long (ap is_open (get_or-set_same states count state Free lt) ∙ shut_now), same)

pub numbered_more : (count found : ℕ) (states : List CellState) (state : CellState) → count < length states → IsNumbered count states → found ≡ count_by is_open (take count states) → (is_open state ≡ true → creation_of_state state ≡ found)
    → IsNumbered (count + 1) (set states count state)
numbered_more count found states state lt numbered is new cell less open_now =
    ⊎_elim
    (λ here. subst (λ (k : ℕ). creation_of_state (cell_state (set states count state) k) ≡ count_by is_open (take k (set states count state))) (sym here)
    (ap creation_of_state state_is ∙ (new (ap is_open (sym state_is) ∙ subst (λ (k : ℕ). is_open (cell_state (set states count state) k) ≡ true) here open_now) ∙ (is ∙ sym (ap (count_by is_open) (take-set-le count states count state (omega arith)))))))
    (λ differs.
    let same : cell_state (set states count state) cell ≡ cell_state states cell = get_or-set_other states count cell state Free differs in
    ap creation_of_state same ∙ (numbered cell (omega arith) (ap is_open (sym same) ∙ open_now) ∙ sym (ap (count_by is_open) (take-set-le cell states count state (omega arith)))))
    (cases_eq cell count)
  where
    state_is : cell_state (set states count state) count ≡ state
    state_is = get_or-set_same states count state Free lt

pub named_more : (count : ℕ) (states : List CellState) (state : CellState) → count < length states → IsNamed count states → ((id : ℕ) → has_id id state ≡ true → IsPersistent id) → IsNamed (count + 1) (set states count state)
named_more count states state lt named new id cell less has =
    ⊎_elim
    (λ is. new id (ap (has_id id) (sym (get_or-set_same states count state Free lt)) ∙ subst (λ (k : ℕ). has_id id (cell_state (set states count state) k) ≡ true) is has))
    (λ differs. named id cell (omega arith) (ap (has_id id) (sym (get_or-set_other states count cell state Free differs)) ∙ has))
    (cases_eq cell count)

-- the identifier of a body
pub id_of : (id : ℕ) (body : List ℕ) → HoldsId id body → identifier_in body ≡ id
unfolding identifier_in
id_of id body h = (parts_of h.0 h.1 body h.2).id ∙ h.3

-- an open cell was read as one with a key
open_read : (state : CellState) (gate body : List ℕ) → Reads state gate body → gate ≡ opened_gate → (id : ℕ) × HoldsId id body × (has_id id state ≡ true)
open_read Free gate body r is = absurd (let e : closed ≡ opened_gate = sym r.0 ∙ is in cc)
open_read (Open id creation) gate body r is = (id, r.1, eq-eqb id id refl)
open_read Shut gate body r is = absurd (let e : closed ≡ opened_gate = sym r.0 ∙ is in cc)
open_read Unsure gate body r is = absurd (r.0 is)

-- what was read isn't damaged
pub not_damaged : (count : ℕ) (states : List CellState) (image : List ℕ) → ReadsBelow count states image → HasOneEach count states → (cell : ℕ) → cell < count → IsDamaged image cell → ⊥
not_damaged count states image reads one cell lt damaged =
    let here = open_read (cell_state states cell) (gate cell image) (body cell image) (reads cell lt) damaged.0 in
    ⊎_elim
    (λ none. none here.1.0 here.1.1 here.1.2)
    (λ twice.
    let there = open_read (cell_state states twice.0) (gate twice.0 image) (body twice.0 image) (reads twice.0 (omega (arith, twice.1))) twice.2 in
    let same : there.0 ≡ here.0 = sym (id_of there.0 (body twice.0 image) there.1) ∙ (twice.3 ∙ id_of here.0 (body cell image) here.1) in
    let is : twice.0 ≡ cell = one here.0 twice.0 cell (omega (arith, twice.1)) lt (subst (λ (n : ℕ). has_id n (cell_state states twice.0) ≡ true) same there.2) here.2 in
    absurd (omega (arith, twice.1, is)))
    damaged.1

-- the first damaged cell
pub first_damaged : (told : Option (List ℕ)) (cells count : ℕ) (states : List CellState) (bytes : List ℕ) → count < cells → IfSome told (λ image. IsStoreFile image × (cells_of image ≡ cells)) → IfSome told (λ image. ReadsBelow count states image)
    → HasOneEach count states → AreFreeFrom count states → GivesPart told (64 + 1088 * count) 1088 bytes → IsBadCell bytes states → IfSome told (λ image. IsOpenFaultOf (DamagedCell count) image)
first_damaged None cells count states bytes lt store reads one unread gives bad = tt
first_damaged (Some image) cells count states bytes lt store reads one unread gives bad =
    let gate_is : take 1 bytes ≡ gate count image = ap (take 1) gives ∙ gate_read count image in
    let body_is : drop 1 bytes ≡ body count image = ap (drop 1) gives ∙ body_read count image in
    record {
      store = store.0;
      within = omega (arith, lt, store.1);
      here = (
        sym gate_is ∙ bad.0,
        ⊎_elim
            (λ none. inl (subst (λ (b : List ℕ). HoldsNoKey b) body_is none))
            (λ twice. inr (is_twice twice.0 twice.2.0 (subst (λ (b : List ℕ). HoldsId twice.0 b) body_is twice.1) twice.2.2))
            bad.1,
      );
      before = λ other less damaged. not_damaged count states image reads one other less damaged;
    }
  where
    holder : (state : CellState) (id : ℕ) (gate body : List ℕ) → Reads state gate body → has_id id state ≡ true → (gate ≡ opened_gate) × HoldsId id body
    holder Free id gate body r has = cc
    holder (Open own creation) id gate body r has = (r.0, subst (λ (n : ℕ). HoldsId n body) (eqb-true own id has) r.1)
    holder Shut id gate body r has = cc
    holder Unsure id gate body r has = cc

    -- an earlier open cell has the identifier of a body
    is_twice : (id earlier : ℕ) → HoldsId id (body count image) → has_id id (cell_state states earlier) ≡ true → (other : ℕ) × (other < count) × IsOpen other image × (identifier_in (body other image) ≡ identifier_in (body count image))
    is_twice id earlier here has =
        let less = was_read count states id earlier unread has in
        let there = holder (cell_state states earlier) id (gate earlier image) (body earlier image) (reads earlier less) has in
        (earlier, less, there.0, id_of id (body earlier image) there.1 ∙ sym (id_of id (body count image) here))
