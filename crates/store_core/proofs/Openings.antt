-- What an opening finds, as keys of the one-thread store.
use Rattle.store_core.proofs.Common.{[], ap, AreFound, AreOpened, arith, Attributes, body, cell_state, CellState, cond, content_at, content_of, content_there, creation_of_state, drop, durable_keys, eqb-true, false≢true, Finds, found_in, Free, gate, get_or-replicate, has_id, HasKey, HoldsId, HoldsKey, IfSome, is_some, IsFoundIn, IsKeyOf, IsNamed, IsPersistent, kept, Key, length, length-drop, length-take, List, map_get, None, Open, opened_gate, OpenedKey, Option, place, Present, refl, Settings, Shows, Shut, slice_get, Some, Sound, start_of, Stored, stored, subst, suc, sym, take, true, Unsure, ℕ, ⊎_elim, ◌+◌, ◌<◌, ◌∙◌, ◌∷◌, ◌≡◌, ◌≤◌, cell_count}
use Rattle.key_cells.specs.{Opening.IsImageDirectory, Layout.cells_of}
use Rattle.std.proofs.lemmas.Bool.{cases_lt}
use Rattle.key_cells.proofs.{Bodies.of_one_key, CellsRead.content_within, Keeping.cells_most}
use Rattle.store_core.proofs.{FoundMap.HasEachOnce, FoundMap.id_of, FoundMap.found_at, FoundMap.at_found, Kept.lasting, OpenCells.IsPlaced, OpenCells.HasCellKey, OpenCells.placed, OpenCells.has_own}

-- THE CELLS OF THE IMAGE THAT WAS OPENED, AND OF WHAT IS READ AFTERWARDS

pub record AreTold (slots : List CellState) (image now : List ℕ) : Type 0 where
  pub found : IsFoundIn image slots
  pub sound : Sound slots (found_in image) now

-- what a disk told before an opening and tells after it
pub told_twice : (slots : List CellState) (L : List ℕ → Type 0) (before now : Option (List ℕ)) → is_some now ≡ is_some before → IfSome before (λ image. IsFoundIn image slots) →
    IfSome before (λ image. (read : List ℕ) → L read → Sound slots (found_in image) read) → IfSome now L →
    (P : Option (List ℕ) → Option (List ℕ) → Type 0) → P None None → ((image read : List ℕ) → AreTold slots image read → P (Some image) (Some read)) → P before now
told_twice slots L None None tells found sound left P none some = none
told_twice slots L None (Some read) tells found sound left P none some = absurd (false≢true (sym tells))
told_twice slots L (Some image) None tells found sound left P none some = absurd (false≢true tells)
told_twice slots L (Some image) (Some read) tells found sound left P none some = some image read (record { found = found; sound = sound read left })

pub record IsCellIn (image now : List ℕ) (c id : ℕ) : Type 0 where
  pub within : c < cells_of image
  pub opened : gate c image ≡ opened_gate
  pub holds : HoldsId id (body c image)
  pub same : body c now ≡ body c image

-- an open cell is one that the image has
has_cell : (slots : List CellState) (image : List ℕ) (c id number : ℕ) → IsImageDirectory slots image → cell_state slots c ≡ Open id number → c < cells_of image
has_cell slots image c id number found is = ⊎_elim (λ lt. lt) (λ past. let clash : Free ≡ Open id number = sym (found.beyond c past) ∙ is in absurd (cc)) (cases_lt c (cells_of image))

pub cell_in : (slots : List CellState) (image now : List ℕ) → AreTold slots image now → (c id number : ℕ) → c < cell_count → cell_state slots c ≡ Open id number → IsCellIn image now c id
cell_in slots [] now are c id number lt is =
    let free : cell_state slots c ≡ Free = ap (λ (l : List CellState). cell_state l c) are.found ∙ get_or-replicate cell_count c Free Free lt in
    absurd (cc)
cell_in slots (byte ∷ rest) now are c id number lt is =
    let image : List ℕ = byte ∷ rest in
    let within : c < cells_of image = has_cell slots image c id number are.found is in
    let f : Finds (Open id number) (gate c image) (body c image) = subst (λ (s : CellState). Finds s (gate c image) (body c image)) is (are.found.each c within) in
    let there : content_at (found_in image) c ≡ Present (body c image) = content_there c image lt ∙ content_within c image within ∙ ap (λ (g : List ℕ). content_of g (body c image)) f.0 in
    let shown : Shows (Open id number) (Present (body c image)) (gate c now) (body c now) =
    subst (λ x. Shows (Open id number) x (gate c now) (body c now)) there (subst (λ (s : CellState). Shows s (content_at (found_in image) c) (gate c now) (body c now)) is (are.sound.each c lt)) in
    record { within = within; opened = f.0; holds = f.1; same = shown.1 }

-- some key of an identifier, for a disk that doesn't tell
any_key : ℕ → OpenedKey
any_key id = record {
  attributes = record { lifetime = record { 0 = 1 }; id = record { 0 = id }; key_type = record { 0 = 0x1001 }; bits = 8; policy = record { usage = record { 0 = 0 }; alg = record { 0 = 0 }; alg2 = record { 0 = 0 } } };
  bytes = 0 ∷ [];
}

any_of_id : (c id : ℕ) → IsPersistent id → HasCellKey None c id
unfolding any_key
any_of_id c id named = record {
  key = any_key id;
  is = record {
    named = refl;
    kept = record { kept = record { lifetime = refl; size = refl; some = omega arith; short = omega arith; usage = refl; fits = record { key_type = omega arith; usage = omega arith; alg = omega arith; alg2 = omega arith } }; named = named };
    holds = tt;
  };
}

pub cell_key : (slots : List CellState) (before now : Option (List ℕ)) (L : List ℕ → Type 0) → IsNamed cell_count slots → is_some now ≡ is_some before → IfSome before (λ image. IsFoundIn image slots) →
    IfSome before (λ image. (read : List ℕ) → L read → Sound slots (found_in image) read) → IfSome now L →
    (c id number : ℕ) → c < cell_count → cell_state slots c ≡ Open id number → HasCellKey now c id
cell_key slots before now L named tells found sound left c id number lt is =
    told_twice slots L before now tells found sound left (λ x y. HasCellKey y c id)
    (any_of_id c id (named id c lt (has_own (cell_state slots c) id number is)))
    (λ image read are.
    let here = cell_in slots image read are c id number lt is in
    let a = here.holds.0 in
    let bytes = here.holds.1 in
    let holds : HoldsKey a bytes (body c image) = here.holds.2 in
    record {
      key = record { attributes = a; bytes = bytes };
      is = record { named = here.holds.3; kept = holds.is_key; holds = subst (λ (b : List ℕ). HoldsKey a bytes b) (sym here.same) holds };
    })

-- EXACTLY THE KEYS OF THE IMAGE

nothing_there : (c : ℕ) → gate c [] ≡ opened_gate → ⊥
nothing_there c is =
    let n : length (gate c []) ≡ 1 = ap length is in
    let rest : List ℕ = drop (place c) [] in
    let short : length rest ≤ 0 = omega (arith, length-drop {A = ℕ} (place c) []) in
    let few : length (take 1 rest) ≤ length rest = omega (arith, length-take {A = ℕ} 1 rest) in
    omega arith

-- an open cell of the image is one of the directory
pub record IsListed (slots : List CellState) (c : ℕ) : Type 0 where
  pub within : c < cell_count
  pub id : ℕ
  pub number : ℕ
  pub is : cell_state slots c ≡ Open id number

listed : (slots : List CellState) (image now : List ℕ) → AreTold slots image now → (c : ℕ) → c < cells_of image → gate c image ≡ opened_gate → IsListed slots c
listed slots [] now are c lt opened = absurd (nothing_there c opened)
listed slots (byte ∷ rest) now are c lt opened = of (cell_state slots c) refl (are.found.each c lt)
  where
    of : (s : CellState) → cell_state slots c ≡ s → Finds s (gate c (byte ∷ rest)) (body c (byte ∷ rest)) → IsListed slots c
    of Free is f = absurd (f opened)
    of (Open id number) is f = record { within = omega (arith, lt, cells_most (byte ∷ rest)); id = id; number = number; is = is }
    of Shut is f = absurd f
    of Unsure is f = absurd f

abbrev opened_key : Attributes → List ℕ → OpenedKey
opened_key a bytes = record { attributes = a; bytes = bytes }

same_key : (a b : Attributes) (bytes other : List ℕ) → (a ≡ b) × (bytes ≡ other) → opened_key a bytes ≡ opened_key b other
same_key a b bytes other same = ap (λ (x : Attributes). opened_key x bytes) same.0 ∙ ap (opened_key b) same.1

module _ (slots : List CellState) (image now : List ℕ) (are : AreTold slots image now) (sized : length slots ≡ cell_count) (found : List OpenedKey) (keys : AreOpened (Some now) slots found) where
  pub key_found : (a : Attributes) (bytes : List ℕ) → HasKey a bytes image → (number : ℕ) × (slice_get found number ≡ Some (opened_key a bytes))
  key_found a bytes has =
      let c = has.0 in
      let l = listed slots image now are c has.1 has.2 in
      let k = keys.each c l.id l.number l.within l.is in
      let holds : HoldsKey k.0.attributes k.0.bytes (body c image) = subst (λ (b : List ℕ). HoldsKey k.0.attributes k.0.bytes b) (cell_in slots image now are c l.id l.number l.within l.is).same k.4 in
      (l.number, k.1 ∙ ap (λ (x : OpenedKey). Some x) (same_key k.0.attributes a k.0.bytes bytes (of_one_key k.0.attributes a k.0.bytes bytes (body c image) holds has.3)))

  in_image : (n : ℕ) (key : OpenedKey) → (p : IsPlaced (Some now) slots n key) → HoldsKey key.attributes key.bytes (body p.at image)
  in_image n key p = subst (λ (b : List ℕ). HoldsKey key.attributes key.bytes b) (cell_in slots image now are p.at (id_of key) n p.within p.slot).same p.holds

  pub found_key : (a : Attributes) (bytes : List ℕ) → (number : ℕ) × (slice_get found number ≡ Some (opened_key a bytes)) → HasKey a bytes image
  found_key a bytes at =
      let p = placed (Some now) slots found sized keys at.0 (opened_key a bytes) at.1 in
      let here = cell_in slots image now are p.at (id_of (opened_key a bytes)) at.0 p.within p.slot in
      (p.at, here.within, here.opened, in_image at.0 (opened_key a bytes) p)

  -- THE DURABLE KEYS OF A START

  module _ (settings : Settings) (once : HasEachOnce found) where
    durable : (n : ℕ) (key : OpenedKey) → slice_get found n ≡ Some key → IsKeyOf key.attributes key.bytes → durable_keys (start_of settings found) (id_of key) ≡ Some (stored n key.attributes key.bytes)
    durable n key e is =
        ap kept (at_found 0 found once n key e)
        ∙ ap (λ b. cond b None (Some (stored (0 + n) key.attributes key.bytes))) (lasting key.attributes key.bytes is)
        ∙ ap (λ (m : ℕ). Some (stored m key.attributes key.bytes)) (omega arith)

    abbrev IsInCell : (id : ℕ) (key : Stored) → Type 0
    IsInCell id key = (c : ℕ) × (c < cell_count) × (has_id id (cell_state slots c) ≡ true) × HoldsKey key.attributes key.bytes (body c image) × (key.creation ≡ creation_of_state (cell_state slots c))

    in_cell : (id : ℕ) (key : Stored) → durable_keys (start_of settings found) id ≡ Some key → IsInCell id key
    in_cell id key e = of (map_get (start_of settings found).keys id) refl e
      where
        of : (o : Option Key) → map_get (start_of settings found).keys id ≡ o → kept o ≡ Some key → IsInCell id key
        of None at e = absurd (cc)
        of (Some k) at e =
            let f = found_at 0 found id k at in
            let p = placed (Some now) slots found sized keys f.place f.from f.there in
            let is : Some (stored f.place f.from.attributes f.from.bytes) ≡ Some key = sym (durable f.place f.from f.there p.kept) ∙ (ap (durable_keys (start_of settings found)) f.named ∙ (ap kept at ∙ e)) in
            let same : stored f.place f.from.attributes f.from.bytes ≡ key = cc in
            subst (IsInCell id) same
            (p.at, p.within, subst (λ (x : ℕ). has_id x (cell_state slots p.at) ≡ true) f.named (has_own (cell_state slots p.at) (id_of f.from) f.place p.slot), in_image f.place f.from p, sym (ap creation_of_state p.slot))

    pub durable_found : AreFound image slots (durable_keys (start_of settings found))
    durable_found = record {
      there = in_cell;
      all = λ id c lt has. of id c lt (cell_state slots c) refl has;
    }
      where
        of : (id c : ℕ) → c < cell_count → (s : CellState) → cell_state slots c ≡ s → has_id id s ≡ true → (key : Stored) × (durable_keys (start_of settings found) id ≡ Some key)
        of id c lt (Open own number) is has =
            let k = keys.each c own number lt is in
            (stored number k.0.attributes k.0.bytes, ap (durable_keys (start_of settings found)) (sym (k.2 ∙ eqb-true own id has)) ∙ durable number k.0 k.1 k.3)
        of id c lt slot is has = absurd (false≢true has)

-- TWO STARTS

same_places : (xs ys : List OpenedKey) → length xs ≡ length ys → ((i : ℕ) (x y : OpenedKey) → slice_get xs i ≡ Some x → slice_get ys i ≡ Some y → x ≡ y) → xs ≡ ys
same_places [] [] same each = refl
same_places [] (y ∷ ys) same each = absurd (omega arith)
same_places (x ∷ xs) [] same each = absurd (omega arith)
same_places (x ∷ xs) (y ∷ ys) same each =
    ap (λ (k : OpenedKey). k ∷ xs) (each 0 x y refl refl) ∙ ap (λ (l : List OpenedKey). y ∷ l) (same_places xs ys (omega arith) (λ i k l e f. each (suc i) k l e f))

pub one_start : (image : List ℕ) (slots : List CellState) (found other : List OpenedKey) → length slots ≡ cell_count → AreOpened (Some image) slots found → AreOpened (Some image) slots other → found ≡ other
one_start image slots found other sized are are' =
    same_places found other (are.count ∙ sym are'.count) (λ i x y e f.
    let p = placed (Some image) slots found sized are i x e in
    let k = are'.each p.at (id_of x) i p.within p.slot in
    let same : Some k.0 ≡ Some y = sym k.1 ∙ f in
    let is : k.0 ≡ y = cc in
    same_key x.attributes k.0.attributes x.bytes k.0.bytes (of_one_key x.attributes k.0.attributes x.bytes k.0.bytes (body p.at image) p.holds k.4) ∙ is)
