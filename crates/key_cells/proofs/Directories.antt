-- What keeps a directory: its row of open cells, and its counts.
use Rattle.key_cells.proofs.Common.{[], ap, arith, Bool, cases_eq, cases_lt, cell_count, cell_state, CellState, cond, count_by, drop, eq-eqb, false, Free, get_or, get_or-replicate, get_or-set_other, get_or-set_same, has_id, HasNoKey, HasOneEach, is_open, length, length-replicate, length-set, List, Open, refl, replicate, set, settled_state, settled_states, Shut, subst, suc, sum_by-cons, sym, true, Unsure, zero, ℕ, ⊎_elim, ◌*◌, ◌+◌, ◌-◌, ◌<◌, ◌==◌, ◌^◌, ◌∙◌, ◌∷◌, ◌≡◌, ◌≢◌, ◌≤◌}
use Rattle.std.proofs.{lemmas.Bool.ne_eqb, lemmas.List.get_or_past, lemmas.List.Recursion.is_count_by, lemmas.List.Sorted.IsPermutation-sym, lemmas.List.Sorted.length_permutation, lemmas.List.Sorted.sum_by-IsPermutation, lemmas.List.Sums.count_by-le-length, lemmas.List.Sums.get_or-le-sum_by, lemmas.List.Sums.sum_by-set, lemmas.Bool.Decides.nat_tests}
use Rattle.std.specs.{List.sum_by, Prelude.◌/◌}
use Rattle.key_index.specs.{Index.is_between, Index.IsAlone, Index.IsIndexOf, Index.entries_of, declared.index.Entry.Entry}
use Rattle.key_index.proofs.Changes.{index_gains, index_loses, index_same}
use Rattle.key_cells.specs.{Directory.AreIndexed, Directory.HasBeside, Directory.IsFullGroup, Directory.has_id_by, Directory.is_in_doubt, Directory.is_of_range}

-- a state has no identifier beside that of its key
pub no_id_shut : (id : ℕ) (state : CellState) → is_open state ≡ false → has_id id state ≡ false
no_id_shut id Free shut = refl
no_id_shut id (Open own creation) shut = cc
no_id_shut id Shut shut = refl
no_id_shut id Unsure shut = refl

-- how many states pass a test, once one has changed
abbrev one_by : (CellState → Bool) → CellState → ℕ
one_by p state = cond (p state) 1 0

counted_by : (p : CellState → Bool) (states : List CellState) → sum_by (one_by p) states ≡ count_by p states
counted_by p = is_count_by (sum_by (one_by p)) p refl (λ state rest. sum_by-cons (one_by p) state rest ∙ by_test (p state) (sum_by (one_by p) rest))
  where
    by_test : (b : Bool) (n : ℕ) → cond b 1 0 + n ≡ cond b (1 + n) n
    by_test true n = refl
    by_test false n = omega arith

count_set : (p : CellState → Bool) (states : List CellState) (cell : ℕ) (state : CellState) → cell < length states → count_by p (set states cell state) + cond (p (cell_state states cell)) 1 0 ≡ count_by p states + cond (p state) 1 0
count_set p states cell state within = rw (← counted_by p states, ← counted_by p (set states cell state)) (sum_by-set (one_by p) states cell state Free within)

at_most : (p : CellState → Bool) (states : List CellState) (cell : ℕ) → cell < length states → cond (p (cell_state states cell)) 1 0 ≤ count_by p states
at_most p states cell within = rw (← counted_by p states) (get_or-le-sum_by (one_by p) states cell Free within)

-- what a row and a count have beside others
beside_length : (state : CellState) (cell : ℕ) (more fewer : List Entry) (left less : ℕ) → HasBeside state cell more fewer left less → length more ≡ length fewer + cond (is_open state) 1 0
beside_length Free cell more fewer left less beside = omega (arith, ap length beside.0)
beside_length (Open id creation) cell more fewer left less beside = omega (arith, length_permutation _ _ beside.0)
beside_length Shut cell more fewer left less beside = omega (arith, ap length beside.0)
beside_length Unsure cell more fewer left less beside = omega (arith, ap length beside.0)

-- and how many of it pass a test
counts : (passes : ℕ → Bool) (e : Entry) (entries : List Entry) → count_by (λ (x : Entry). passes x.id) (e ∷ entries) ≡ cond (passes e.id) 1 0 + count_by (λ (x : Entry). passes x.id) entries
counts passes e entries = sum_by-cons (λ (x : Entry). cond (passes x.id) 1 0) e entries

beside_passing : (passes : ℕ → Bool) (state : CellState) (cell : ℕ) (more fewer : List Entry) (left less : ℕ) → HasBeside state cell more fewer left less
    → count_by (λ (x : Entry). passes x.id) more ≡ count_by (λ (x : Entry). passes x.id) fewer + cond (has_id_by passes state) 1 0
beside_passing passes Free cell more fewer left less beside = omega (arith, ap (count_by (λ (x : Entry). passes x.id)) beside.0)
beside_passing passes (Open id creation) cell more fewer left less beside =
    omega (arith, counts passes (record { id = id; place = cell }) fewer, sum_by-IsPermutation (λ (x : Entry). cond (passes x.id) 1 0) (record { id = id; place = cell } ∷ fewer) more beside.0)
beside_passing passes Shut cell more fewer left less beside = omega (arith, ap (count_by (λ (x : Entry). passes x.id)) beside.0)
beside_passing passes Unsure cell more fewer left less beside = omega (arith, ap (count_by (λ (x : Entry). passes x.id)) beside.0)

beside_left : (state : CellState) (cell : ℕ) (more fewer : List Entry) (left less : ℕ) → HasBeside state cell more fewer left less → left ≡ less + cond (is_in_doubt state) 1 0
beside_left Free cell more fewer left less beside = beside.1
beside_left (Open id creation) cell more fewer left less beside = omega (arith, beside.1)
beside_left Shut cell more fewer left less beside = beside.1
beside_left Unsure cell more fewer left less beside = beside.1

-- which cell has a key, but for one cell
abbrev but : (ℕ → ℕ → Bool) → ℕ → ℕ → ℕ → Bool
but has cell id k = cond (k == cell) false (has id k)

but_here : (has : ℕ → ℕ → Bool) (cell id : ℕ) → but has cell id cell ≡ false
but_here has cell id = ap (λ b. cond b false (has id cell)) (eq-eqb cell cell refl)

but_other : (has : ℕ → ℕ → Bool) (cell id k : ℕ) → k ≢ cell → but has cell id k ≡ has id k
but_other has cell id k other = ap (λ b. cond b false (has id k)) (ne_eqb k cell other)

-- an index of all cells and one of all but this
index_but : (has : ℕ → ℕ → Bool) (state : CellState) (cell : ℕ) (more fewer : List Entry) (left less : ℕ) → ((id : ℕ) → has id cell ≡ has_id id state) → HasBeside state cell more fewer left less
    → (IsIndexOf has more → IsIndexOf (but has cell) fewer) × (IsIndexOf (but has cell) fewer → IsIndexOf has more)
index_but has state cell more fewer left less here beside = by_state state here beside
  where
    shut : (state : CellState) → ((id : ℕ) → has id cell ≡ has_id id state) → is_open state ≡ false → (id k : ℕ) → but has cell id k ≡ has id k
    shut state here is id k = ⊎_elim
        (λ same. rw same (but_here has cell id ∙ sym (here id ∙ no_id_shut id state is)))
        (λ other. but_other has cell id k other)
        (cases_eq k cell)

    without : (state : CellState) → ((id : ℕ) → has id cell ≡ has_id id state) → is_open state ≡ false → more ≡ fewer → (IsIndexOf has more → IsIndexOf (but has cell) fewer) × (IsIndexOf (but has cell) fewer → IsIndexOf has more)
    without state here is same = (
      λ index. index_same has (but has cell) fewer (shut state here is) (subst (IsIndexOf has) same index),
      λ index. index_same (but has cell) has more (λ id k. sym (shut state here is id k)) (subst (IsIndexOf (but has cell)) (sym same) index),
    )

    by_state : (state : CellState) → ((id : ℕ) → has id cell ≡ has_id id state) → HasBeside state cell more fewer left less → (IsIndexOf has more → IsIndexOf (but has cell) fewer) × (IsIndexOf (but has cell) fewer → IsIndexOf has more)
    by_state Free here beside = without Free here refl beside.0
    by_state (Open own creation) here beside =
        let e : Entry = record { id = own; place = cell } in (
          index_loses has (but has cell) e more fewer here (but_here has cell) (but_other has cell) (IsPermutation-sym (e ∷ fewer) more beside.0),
          index_gains (but has cell) has e fewer more (but_here has cell) here (λ id k other. sym (but_other has cell id k other)) beside.0,
        )
    by_state Shut here beside = without Shut here refl beside.0
    by_state Unsure here beside = without Unsure here refl beside.0

-- no cell past the last has a key
has_within : (states : List CellState) (id cell : ℕ) → length states ≡ cell_count → has_id id (cell_state states cell) ≡ true → cell < cell_count
has_within states id cell sized has =
    ⊎_elim (λ within. within) (λ past. let none : false ≡ true = ap (has_id id) (sym (get_or_past states cell Free (omega (arith, sized, past)))) ∙ has in cc) (cases_lt cell cell_count)

has_none : (states : List CellState) (id cell : ℕ) → HasNoKey states id → has_id id (cell_state states cell) ≡ false
has_none states id cell none = ⊎_elim (λ within. none cell within) (λ past. ap (has_id id) (get_or_past states cell Free past)) (cases_lt cell (length states))

-- the key of a cell stands in the row once
pub kept_alone : (states : List CellState) (entries : List Entry) (full : List Bool) (left cell : ℕ) → AreIndexed states entries full left → cell < cell_count → (id : ℕ) → has_id id (cell_state states cell) ≡ true → IsAlone id cell entries
kept_alone states entries full left cell kept within id has i = kept.index id i ∙ ap (λ b. cond b 1 0) (⊎_elim
    (λ same. rw same (has ∙ sym (eq-eqb cell cell refl)))
    (λ other. by_test (has_id id (cell_state states i)) refl other ∙ sym (ne_eqb i cell other))
    (cases_eq i cell))
  where
    by_test : (b : Bool) → has_id id (cell_state states i) ≡ b → i ≢ cell → b ≡ false
    by_test true has_i other = absurd (other (kept.once id i cell (has_within states id i kept.sized has_i) within has_i has))
    by_test false has_i other = refl

pub kept_some : (states : List CellState) (entries : List Entry) (full : List Bool) (left cell : ℕ) → AreIndexed states entries full left → cell < cell_count → is_in_doubt (cell_state states cell) ≡ true → 0 < left
kept_some states entries full left cell kept within is =
    let one : cond {A = ℕ} (is_in_doubt (cell_state states cell)) 1 0 ≡ 1 = ap (λ b. cond b 1 0) is in
    omega (arith, at_most is_in_doubt states cell (omega (arith, kept.sized, within)), one, kept.in_doubt)

-- the group of a cell
pub group_of : (cell group : ℕ) → 32 * group ≤ cell → cell < 32 * group + 32 → group ≡ cell / 32
group_of cell group low high = grind (arith, nat_tests, low, high)

-- what is left of a row and a count once a cell was taken out of them
module _ (states : List CellState) (entries middle : List Entry) (groups : List Bool) (left less cell : ℕ) (kept : AreIndexed states entries groups left) (within : cell < cell_count) (out : HasBeside (cell_state states cell) cell entries middle left less) where
  there : cell < length states
  there = omega (arith, kept.sized, within)

  full : (state : CellState) → length (set states cell state) ≡ cell_count
  full state = length-set states cell state ∙ kept.sized

  pub kept_room : length middle < cell_count
  kept_room =
      let all = count_by-le-length is_open (set states cell (Open 0 0)) in
      omega (arith, all, full (Open 0 0), count_set is_open states cell (Open 0 0) there, beside_length (cell_state states cell) cell entries middle left less out, kept.counted)

  pub kept_few : less < cell_count
  kept_few =
      let all = count_by-le-length is_in_doubt (set states cell Unsure) in
      omega (arith, all, full Unsure, count_set is_in_doubt states cell Unsure there, beside_left (cell_state states cell) cell entries middle left less out, kept.in_doubt)

  middle_index : IsIndexOf (but (λ id k. has_id id (cell_state states k)) cell) middle
  middle_index = (index_but (λ id k. has_id id (cell_state states k)) (cell_state states cell) cell entries middle left less (λ id. refl) out).0 kept.index

  pub kept_missing : (id i : ℕ) → HasNoKey states id → entries_of id i middle ≡ 0
  kept_missing id i none = middle_index id i ∙ ap (λ b. cond {A = ℕ} b 1 0) (by_test (i == cell)) where
    by_test : (b : Bool) → cond b false (has_id id (cell_state states i)) ≡ false
    by_test true = refl
    by_test false = has_none states id i none

  module _ (state : CellState) (more : List Entry) (flag : Bool) (left' : ℕ) (new : (id : ℕ) → has_id id state ≡ true → HasNoKey states id) (put : HasBeside state cell more middle left' less)
      (whole : flag ≡ true → IsFullGroup (set states cell state) (cell / 32)) where
    here : cell_state (set states cell state) cell ≡ state
    here = get_or-set_same states cell state Free there

    elsewhere : (k : ℕ) → k ≢ cell → cell_state (set states cell state) k ≡ cell_state states k
    elsewhere k other = get_or-set_other states cell k state Free other

    set_index : IsIndexOf (λ id k. has_id id (cell_state (set states cell state) k)) more
    set_index =
        let has : ℕ → ℕ → Bool = λ id k. has_id id (cell_state (set states cell state) k) in
        (index_but has state cell more middle left' less (λ id. ap (has_id id) here) put).1
        (index_same (but (λ id k. has_id id (cell_state states k)) cell) (but has cell) middle (λ id k. ⊎_elim
        (λ same. rw same (but_here has cell id ∙ sym (but_here (λ i j. has_id i (cell_state states j)) cell id)))
        (λ other. but_other has cell id k other ∙ ap (has_id id) (elsewhere k other) ∙ sym (but_other (λ i j. has_id i (cell_state states j)) cell id k other))
        (cases_eq k cell)) middle_index)

    set_once : HasOneEach cell_count (set states cell state)
    set_once id one other one_within other_within has has' =
        ⊎_elim
        (λ one_is. ⊎_elim (λ other_is. one_is ∙ sym other_is) (λ differs. absurd (clash other differs (at_new one one_is has) has')) (cases_eq other cell))
        (λ one_differs. ⊎_elim
        (λ other_is. absurd (clash one one_differs (at_new other other_is has') has))
        (λ differs. kept.once id one other one_within other_within (at_old one one_differs has) (at_old other differs has'))
        (cases_eq other cell))
        (cases_eq one cell)
      where
        at_new : (k : ℕ) → k ≡ cell → has_id id (cell_state (set states cell state) k) ≡ true → has_id id state ≡ true
        at_new k is h = ap (has_id id) (sym here) ∙ subst (λ (j : ℕ). has_id id (cell_state (set states cell state) j) ≡ true) is h

        at_old : (k : ℕ) → k ≢ cell → has_id id (cell_state (set states cell state) k) ≡ true → has_id id (cell_state states k) ≡ true
        at_old k differs h = ap (has_id id) (sym (elsewhere k differs)) ∙ h

        clash : (k : ℕ) → k ≢ cell → has_id id state ≡ true → has_id id (cell_state (set states cell state) k) ≡ true → ⊥
        clash k differs at_cell there_too = let e : false ≡ true = sym (has_none states id k (new id at_cell)) ∙ at_old k differs there_too in cc

    set_groups : (group : ℕ) → get_or (set groups (cell / 32) flag) group false ≡ true → IsFullGroup (set states cell state) group
    set_groups group is = ⊎_elim
        (λ same. rw same (whole (told (rw same at is))))
        (λ differs k low high. ap is_open (elsewhere k (λ at. differs (group_of k group low high ∙ ap (λ (n : ℕ). n / 32) at)))
        ∙ kept.groups group (sym (get_or-set_other groups (cell / 32) group flag false differs) ∙ is) k low high)
        (cases_eq group (cell / 32))
      where
        told : get_or (set groups (cell / 32) flag) (cell / 32) false ≡ true → flag ≡ true
        told is = ⊎_elim
            (λ few. sym (get_or-set_same groups (cell / 32) flag false few) ∙ is)
            (λ past. let none : false ≡ true = sym (get_or_past (set groups (cell / 32) flag) (cell / 32) false (omega (arith, length-set groups (cell / 32) flag, past))) ∙ is in cc)
            (cases_lt (cell / 32) (length groups))

    pub kept_set : AreIndexed (set states cell state) more (set groups (cell / 32) flag) left'
    kept_set = record {
      sized = full state;
      index = set_index;
      once = set_once;
      counted = omega (arith, beside_length state cell more middle left' less put, beside_length (cell_state states cell) cell entries middle left less out, count_set is_open states cell state there, kept.counted);
      passing = λ passes. omega (arith, beside_passing passes state cell more middle left' less put, beside_passing passes (cell_state states cell) cell entries middle left less out, count_set (has_id_by passes) states cell state there, kept.passing passes);
      groups = set_groups;
      in_doubt = omega (arith, beside_left state cell more middle left' less put, beside_left (cell_state states cell) cell entries middle left less out, count_set is_in_doubt states cell state there, kept.in_doubt);
    }

pub kept_start : (n : ℕ) → n ≡ cell_count → AreIndexed (replicate n Free) [] (replicate 64 false) 0
kept_start n is = record {
  sized = length-replicate n Free ∙ is;
  index = λ id k. ap (λ b. cond b 1 0) (sym (ap (has_id id) (free_at k)));
  once = λ id one other one_within other_within has. absurd (let e : false ≡ true = ap (has_id id) (sym (free_at one)) ∙ has in cc);
  counted = sym (none_of is_open refl n);
  passing = λ passes. sym (none_of (has_id_by passes) refl n);
  groups = λ group full. absurd (let none : false ≡ true = sym (no_group group) ∙ full in cc);
  in_doubt = sym (none_of is_in_doubt refl n);
} where
  free_at : (k : ℕ) → cell_state (replicate n Free) k ≡ Free
  free_at k = ⊎_elim (λ within. get_or-replicate n k Free Free within) (λ past. get_or_past (replicate n Free) k Free (omega (arith, length-replicate n Free, past))) (cases_lt k n)

  no_group : (group : ℕ) → get_or (replicate 64 false) group false ≡ false
  no_group group = ⊎_elim (λ within. get_or-replicate 64 group false false within) (λ past. get_or_past (replicate 64 false) group false (omega (arith, length-replicate 64 false, past))) (cases_lt group 64)

  none_of : (p : CellState → Bool) → p Free ≡ false → (m : ℕ) → count_by p (replicate m Free) ≡ 0
  none_of p not_free zero = refl
  none_of p not_free (suc m) = sym (counted_by p (replicate (suc m) Free)) ∙ sum_by-cons (one_by p) Free (replicate m Free) ∙ omega (arith, ap (λ b. cond {A = ℕ} b 1 0) not_free, counted_by p (replicate m Free), none_of p not_free m)

-- identifiers of a range are those from its first to its last
of_range : (range id : ℕ) → is_between (range * 2 ^ 26) (range * 2 ^ 26 + (2 ^ 26 - 1)) id ≡ (id / 2 ^ 26 == range)
of_range range id = by (is_between (range * 2 ^ 26) (range * 2 ^ 26 + (2 ^ 26 - 1)) id) (id / 2 ^ 26 == range) refl refl
  where
    by : (a b : Bool) → is_between (range * 2 ^ 26) (range * 2 ^ 26 + (2 ^ 26 - 1)) id ≡ a → (id / 2 ^ 26 == range) ≡ b → a ≡ b
    by true true within is = refl
    by false false within is = refl
    by true false within is = grind (arith, nat_tests)
    by false true within is = grind (arith, nat_tests)

pub counts_range : (range : ℕ) (states : List CellState) → count_by (has_id_by (is_between (range * 2 ^ 26) (range * 2 ^ 26 + (2 ^ 26 - 1)))) states ≡ count_by (is_of_range range) states
counts_range range states = λ k. count_by (has_id_by (λ id. of_range range id k)) states

-- no cell is in doubt exactly where none is counted
pub none_in_doubt : (states : List CellState) → count_by is_in_doubt states ≡ 0 → settled_states states ≡ states
none_in_doubt [] none = refl
none_in_doubt (state ∷ rest) none =
    let both : cond {A = ℕ} (is_in_doubt state) 1 0 + sum_by (one_by is_in_doubt) rest ≡ 0 = sym (sum_by-cons (one_by is_in_doubt) state rest) ∙ counted_by is_in_doubt (state ∷ rest) ∙ none in
    let rest_none : count_by is_in_doubt rest ≡ 0 = omega (arith, counted_by is_in_doubt rest, both) in
    ap (λ s. s ∷ settled_states rest) (settled_is state (omega (arith, both))) ∙ ap (λ l. state ∷ l) (none_in_doubt rest rest_none)
  where
    settled_is : (s : CellState) → cond {A = ℕ} (is_in_doubt s) 1 0 ≡ 0 → settled_state s ≡ s
    settled_is Free is = refl
    settled_is (Open id creation) is = refl
    settled_is Shut is = absurd (omega (arith, is))
    settled_is Unsure is = absurd (omega (arith, is))

pub sure_has_none : (states : List CellState) → settled_states states ≡ states → count_by is_in_doubt states ≡ 0
sure_has_none [] sure = refl
sure_has_none (state ∷ rest) sure =
    let first : settled_state state ≡ state = ap (λ (l : List CellState). get_or l 0 Free) sure in
    let others : settled_states rest ≡ rest = ap (drop 1) sure in
    sym (counted_by is_in_doubt (state ∷ rest))
    ∙ sum_by-cons (one_by is_in_doubt) state rest
    ∙ omega (arith, one_none state first, counted_by is_in_doubt rest, sure_has_none rest others)
  where
    one_none : (s : CellState) → settled_state s ≡ s → cond {A = ℕ} (is_in_doubt s) 1 0 ≡ 0
    one_none Free same = refl
    one_none (Open id creation) same = refl
    one_none Shut same = cc
    one_none Unsure same = cc
