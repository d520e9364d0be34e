-- The open cells of a directory by their numbers, and the keys in them.
use Rattle.store_core.proofs.Common.{[], ap, AreOpened, arith, body, Bool, cases_eq, cell_state, CellState, cond, count_by, count_by_more_no, count_by_more_yes, creation_of_state, eq-eqb, false, false≢true, Free, has_id, HasOneEach, HoldsKey, IfSome, is_open, IsKeyOf, IsNumbered, length, List, Open, OpenedKey, Option, refl, slice_get, slice_get_within, Some, subst, suc, sum_by-cons, sym, take, true, zero, ℕ, ⊎_elim, ◌++◌, ◌+◌, ◌<◌, ◌∙◌, ◌∷◌, ◌≡◌, ◌≤◌, cell_count}
use Rattle.std.proofs.lemmas.List.{take_all, length-append}
use Rattle.store_core.proofs.FoundMap.{HasEachOnce, AreKept, id_of}

-- THE CELL OF A NUMBER

pub record IsCellOf (slots : List CellState) (n : ℕ) : Type 0 where
  pub at : ℕ
  pub within : at < length slots
  pub opened : is_open (cell_state slots at) ≡ true
  pub counted : count_by is_open (take at slots) ≡ n

counts_cons : (s : CellState) (ss : List CellState) → count_by is_open (s ∷ ss) ≡ cond (is_open s) 1 0 + count_by is_open ss
counts_cons s ss = sum_by-cons (λ x. cond (is_open x) 1 0) s ss

pub cell_of : (slots : List CellState) (n : ℕ) → n < count_by is_open slots → IsCellOf slots n
cell_of [] n lt = absurd (omega arith)
cell_of (s ∷ ss) n lt = of (cell_of ss) (is_open s) refl n (let c = counts_cons s ss in omega arith)
  where
    later : (b : Bool) → is_open s ≡ b → (m : ℕ) → IsCellOf ss m → IsCellOf (s ∷ ss) (cond b 1 0 + m)
    later b is m c = record { at = suc c.at; within = omega (arith, c.within); opened = c.opened; counted = counts_cons s (take c.at ss) ∙ (ap (λ (x : Bool). cond x 1 0 + count_by is_open (take c.at ss)) is ∙ ap (λ (x : ℕ). cond b 1 0 + x) c.counted) }

    of : ((m : ℕ) → m < count_by is_open ss → IsCellOf ss m) → (b : Bool) → is_open s ≡ b → (n : ℕ) → n < cond b 1 0 + count_by is_open ss → IsCellOf (s ∷ ss) n
    of rest true is zero lt = record { at = 0; within = omega arith; opened = is; counted = refl }
    of rest true is (suc m) lt = subst (λ (x : ℕ). IsCellOf (s ∷ ss) x) (omega arith) (later true is m (rest m (omega arith)))
    of rest false is n lt = subst (λ (x : ℕ). IsCellOf (s ∷ ss) x) (omega arith) (later false is n (rest n (omega arith)))

-- an open slot has an identifier and a number
pub record IsOpenSlot (slot : CellState) : Type 0 where
  pub id : ℕ
  pub number : ℕ
  pub is : slot ≡ Open id number

pub open_slot : (slot : CellState) → is_open slot ≡ true → IsOpenSlot slot
open_slot (Open id number) o = record { id = id; number = number; is = refl }
open_slot slot o = absurd (false≢true o)

pub has_own : (slot : CellState) (id number : ℕ) → slot ≡ Open id number → has_id id slot ≡ true
has_own slot id number is = ap (has_id id) is ∙ eq-eqb id id refl

-- a number is that of an open cell
pub number_counts : (slots : List CellState) → IsNumbered cell_count slots → (c id number : ℕ) → c < cell_count → cell_state slots c ≡ Open id number → number ≡ count_by is_open (take c slots)
number_counts slots numbered c id number lt is = sym (ap creation_of_state is) ∙ numbered c lt (ap is_open is)

-- THE KEYS IN THEM

-- a found key has a cell, under its number
pub record IsPlaced (told : Option (List ℕ)) (slots : List CellState) (n : ℕ) (key : OpenedKey) : Type 0 where
  pub at : ℕ
  pub within : at < cell_count
  pub slot : cell_state slots at ≡ Open (id_of key) n
  pub kept : IsKeyOf key.attributes key.bytes
  pub holds : IfSome told (λ image. HoldsKey key.attributes key.bytes (body at image))

module _ (told : Option (List ℕ)) (slots : List CellState) (found : List OpenedKey) (sized : length slots ≡ cell_count) (are : AreOpened told slots found) where
  pub placed : (n : ℕ) (key : OpenedKey) → slice_get found n ≡ Some key → IsPlaced told slots n key
  placed n key e =
      let within : n < length found = slice_get_within found n key e in
      let here = cell_of slots n (let count = are.count in omega arith) in
      let lt : here.at < cell_count = omega (arith, here.within) in
      let o = open_slot (cell_state slots here.at) here.opened in
      let number : o.number ≡ n = are.order here.at o.id o.number lt o.is ∙ here.counted in
      let k = are.each here.at o.id o.number lt o.is in
      let there : slice_get found n ≡ Some k.0 = ap (slice_get found) (sym number) ∙ k.1 in
      let same : k.0 ≡ key = (let both : Some k.0 ≡ Some key = sym there ∙ e in cc) in
      let slot : cell_state slots here.at ≡ Open (id_of k.0) n = o.is ∙ ap (λ (x : ℕ). Open x o.number) (sym k.2) ∙ ap (λ (x : ℕ). Open (id_of k.0) x) number in
      subst (λ (x : OpenedKey). IsPlaced told slots n x) same (record { at = here.at; within = lt; slot = slot; kept = k.3; holds = k.4 })

  pub are_kept : AreKept found
  are_kept = record { each = λ i key e. (placed i key e).kept }

  pub each_once : HasEachOnce found
  each_once = record {
    one = λ i j key other e f same.
        let p = placed i key e in
        let q = placed j other f in
        let here : p.at ≡ q.at = are.one p.at q.at (id_of key) i j p.within q.within p.slot (q.slot ∙ ap (λ (id : ℕ). Open id j) (sym same)) in
        are.order p.at (id_of key) i p.within p.slot ∙ (ap (λ (c : ℕ). count_by is_open (take c slots)) here ∙ sym (are.order q.at (id_of other) j q.within q.slot));
  }

-- KEYS FOR THEM

-- the key of a cell
pub record IsCellKey (told : Option (List ℕ)) (c id : ℕ) (key : OpenedKey) : Type 0 where
  pub named : id_of key ≡ id
  pub kept : IsKeyOf key.attributes key.bytes
  pub holds : IfSome told (λ image. HoldsKey key.attributes key.bytes (body c image))

pub record HasCellKey (told : Option (List ℕ)) (c id : ℕ) : Type 0 where
  pub key : OpenedKey
  pub is : IsCellKey told c id key

-- the keys of the first so many cells
record FoundBelow (told : Option (List ℕ)) (slots : List CellState) (count : ℕ) : Type 0 where
  found : List OpenedKey
  counts : length found ≡ count_by is_open (take count slots)
  each : (c id number : ℕ) → c < count → cell_state slots c ≡ Open id number → (key : OpenedKey) × (slice_get found number ≡ Some key) × IsCellKey told c id key

in_front : (xs ys : List OpenedKey) (i : ℕ) (key : OpenedKey) → slice_get xs i ≡ Some key → slice_get (xs ++ ys) i ≡ Some key
in_front [] ys i key e = absurd (cc)
in_front (x ∷ xs) ys zero key e = e
in_front (x ∷ xs) ys (suc i) key e = in_front xs ys i key e

at_end : (xs : List OpenedKey) (key : OpenedKey) → slice_get (xs ++ key ∷ []) (length xs) ≡ Some key
at_end [] key = refl
at_end (x ∷ xs) key = at_end xs key

module _ (told : Option (List ℕ)) (slots : List CellState) (sized : length slots ≡ cell_count) (numbered : IsNumbered cell_count slots) (one : HasOneEach cell_count slots) (there : (c id number : ℕ) → c < cell_count → cell_state slots c ≡ Open id number → HasCellKey told c id) where
  next : (count : ℕ) → count < cell_count → FoundBelow told slots count → (b : Bool) → is_open (cell_state slots count) ≡ b → FoundBelow told slots (count + 1)
  next count lt below true is =
      let o = open_slot (cell_state slots count) is in
      let has = there count o.id o.number lt o.is in
      let number : o.number ≡ length below.found = number_counts slots numbered count o.id o.number lt o.is ∙ sym below.counts in
      record {
        found = below.found ++ has.key ∷ [];
        counts = length-append below.found (has.key ∷ []) ∙ (ap (λ (x : ℕ). x + 1) below.counts ∙ sym (count_by_more_yes is_open slots count Free (omega arith) is));
        each = λ c id n less e. ⊎_elim
            (λ same.
            let here : Open o.id o.number ≡ Open id n = sym o.is ∙ (ap (cell_state slots) (sym same) ∙ e) in
            let ids : o.id ≡ id = cc in
            let numbers : o.number ≡ n = cc in (
              has.key,
              ap (slice_get (below.found ++ has.key ∷ [])) (sym numbers ∙ number) ∙ at_end below.found has.key,
              subst (λ (x : ℕ). IsCellKey told x id has.key) (sym same) (subst (λ (x : ℕ). IsCellKey told count x has.key) ids has.is),
            ))
            (λ differs. let k = below.each c id n (omega (arith, less, differs)) e in (k.0, in_front below.found (has.key ∷ []) n k.0 k.1, k.2))
            (cases_eq c count);
      }
  next count lt below false is = record {
    found = below.found;
    counts = below.counts ∙ sym (count_by_more_no is_open slots count Free (omega arith) is);
    each = λ c id n less e. ⊎_elim
        (λ same. absurd (false≢true (sym is ∙ (ap (λ (x : ℕ). is_open (cell_state slots x)) (sym same) ∙ ap is_open e))))
        (λ differs. below.each c id n (omega (arith, less, differs)) e)
        (cases_eq c count);
  }

  found_below : (count : ℕ) → count ≤ cell_count → FoundBelow told slots count
  found_below zero le = record { found = []; counts = refl; each = λ c id n lt e. absurd (omega arith) }
  found_below (suc count) le =
      subst (λ (x : ℕ). FoundBelow told slots x) (omega arith) (next count (omega arith) (found_below count (omega arith)) (is_open (cell_state slots count)) refl)

  -- there are keys that were opened
  pub some_opened : (found : List OpenedKey) × AreOpened told slots found
  some_opened =
      let all = found_below cell_count (omega arith) in (
        all.found,
        record {
          count = all.counts ∙ ap (count_by is_open) (take_all cell_count slots (omega arith));
          order = number_counts slots numbered;
          one = λ c other id number another lt less is also. one id c other lt less (has_own (cell_state slots c) id number is) (has_own (cell_state slots other) id another also);
          each = λ c id n lt e. let k = all.each c id n lt e in (k.0, k.1, k.2.named, k.2.kept, k.2.holds);
        },
      )
