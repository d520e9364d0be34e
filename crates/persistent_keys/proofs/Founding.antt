-- What a file stands for that was opened.
use Rattle.persistent_keys.proofs.Common.{Absent, AreFound, Content, Finds, Free, HasOneEach, HoldsId, HoldsKey, IfSome, IsFiled, IsFoundIn, IsOf, IsOpened, Keys, List, None, Open, Option, Present, CellState, Some, StandsForKeys, Stored, TellsCell, [], ap, arith, body, cases_eq, cell_state, cells_of, cond, content_at, content_of, creation_of_state, false, found_in, gate, get_or-replicate, has_id, length, ne_eqb, refl, stored, subst, suc, sym, true, zero, ℕ, ⊎_elim, ◌+◌, ◌<◌, ◌==◌, ◌∙◌, ◌∷◌, ◌≡◌, ◌≢◌, ◌≤◌, cell_count}
use Rattle.disk_face.specs.declared.Disk as Disk
use Rattle.std.proofs.{lemmas.Bool.eqb-true, lemmas.Bool.eq-eqb, lemmas.Bool.cases_lt}
use Rattle.key_cells.specs.Contents as cells
use Rattle.key_cells.specs.Opening.{IsImageDirectory}
use Rattle.key_cells.proofs.{CellsRead.content_beyond, CellsRead.content_there, CellsRead.content_within, Opened.not_opened}
use Rattle.persistent_keys.proofs.Filing.{one_id}

false_true : false ≡ true → ⊥
false_true e = cc

-- the content of a cell, as an opening found it
pub FoundIn : CellState → Content → List ℕ → Type 0
FoundIn Free Absent body = Unit {0}
FoundIn (Open id creation) (Present bytes) body = (bytes ≡ body) × HoldsId id body
FoundIn state content body = ⊥

found_cell : (state : CellState) (g b : List ℕ) → Finds state g b → FoundIn state (content_of g b) b
unfolding FoundIn
found_cell Free g b f = subst (λ (c : Content). FoundIn Free c b) (sym (not_opened g b f)) tt
found_cell (Open id creation) g b f = subst (λ (x : List ℕ). FoundIn (Open id creation) (content_of x b) b) (sym f.0) (refl, f.1)
found_cell state g b f = absurd f

module _ (states : List CellState) (contents : List Content) (image : List ℕ) (sized : length states ≡ cell_count) (one_each : HasOneEach cell_count states) (found : (cell : ℕ) → cell < cell_count → FoundIn (cell_state states cell) (content_at contents cell) (body cell image)) (keys : Keys) (are : AreFound image states keys) where
  tells : (cell : ℕ) → cell < cell_count → (state : CellState) (content : Content) → cell_state states cell ≡ state → FoundIn state content (body cell image) → TellsCell keys [] state content
  unfolding FoundIn
  tells cell lt Free Absent is f = tt
  tells cell lt (Open id creation) (Present bytes) is f =
      let has : has_id id (cell_state states cell) ≡ true = ap (has_id id) is ∙ eq-eqb id id refl in
      let k = are.all id cell lt has in
      let t = are.there id k.0 k.1 in
      let same : t.0 ≡ cell = one_each id t.0 cell t.1 lt t.2 has in
      let holds : HoldsKey k.0.attributes k.0.bytes (body cell image) = subst (λ (j : ℕ). HoldsKey k.0.attributes k.0.bytes (body j image)) same t.3 in
      let number : k.0.creation ≡ creation = t.4 ∙ (ap (λ (j : ℕ). creation_of_state (cell_state states j)) same ∙ ap creation_of_state is) in
      let id_is : k.0.attributes.id.0 ≡ id = one_id k.0.attributes.id.0 id (body cell image) (k.0.attributes, k.0.bytes, holds, refl) f.1 in
      (k.0.attributes, k.0.bytes, subst (λ (b : List ℕ). HoldsKey k.0.attributes k.0.bytes b) (sym f.0) holds, id_is, k.1 ∙ ap (λ (n : ℕ). Some (stored n k.0.attributes k.0.bytes)) number)
  tells cell lt state content is f = absurd f

  of_open : (id : ℕ) (state : CellState) (content : Content) (b : List ℕ) → FoundIn state content b → IsOf id content → has_id id state ≡ true
  unfolding FoundIn
  of_open id Free Absent b f is = absurd is
  of_open id (Open own creation) (Present bytes) b f is = eq-eqb own id (one_id own id b f.1 (subst (λ (x : List ℕ). HoldsId id x) f.0 is))
  of_open id state content b f is = absurd f

  found_filed : IsFiled keys [] states contents
  found_filed = record {
    sized = sized;
    each = λ cell lt. tells cell lt (cell_state states cell) (content_at contents cell) refl (found cell lt);
    found = λ id key is. let t = are.there id key is in (t.0, t.1, t.2);
    apart = λ id cell other lt lt' is is'. one_each id cell other lt lt'
        (of_open id (cell_state states cell) (content_at contents cell) (body cell image) (found cell lt) is)
        (of_open id (cell_state states other) (content_at contents other) (body other image) (found other lt') is');
  }

found_each : (image : List ℕ) (states : List CellState) → IsFoundIn image states → (cell : ℕ) → cell < cell_count → FoundIn (cell_state states cell) (content_at (found_in image) cell) (body cell image)
unfolding FoundIn
found_each [] states is cell lt = rw (ap (λ (l : List CellState). cell_state l cell) is ∙ get_or-replicate cell_count cell Free Free lt, get_or-replicate cell_count cell Absent Absent lt) tt
found_each (byte ∷ rest) states is cell lt =
    let image : List ℕ = byte ∷ rest in
    ⊎_elim
    (λ within. rw (content_there cell image lt ∙ content_within cell image within) (found_cell (cell_state states cell) (gate cell image) (body cell image) (is.each cell within)))
    (λ past. rw (is.beyond cell past, content_there cell image lt ∙ content_beyond cell image past) tt)
    (cases_lt cell (cells_of image))

module _ {D : Type 0} (disks : Disk.Ghosts D) where
  pub found_stands : (old new : D) (states : List CellState) → IsOpened disks old new states
      → IfSome (disks.contents old) (λ image. (keys : Keys) → AreFound image states keys → StandsForKeys disks new states keys [])
  found_stands old new states o = by (disks.contents old) o.found o.stands
    where
      by : (x : Option (List ℕ)) → IfSome x (λ image. IsFoundIn image states) → IfSome x (λ image. cells.StandsForContents disks new states (found_in image))
          → IfSome x (λ image. (keys : Keys) → AreFound image states keys → StandsForKeys disks new states keys [])
      by None found stands = tt
      by (Some image) found stands = λ keys are. record {
        contents = found_in image;
        stands = stands;
        filed = found_filed states (found_in image) image o.sized o.one (found_each image states found) keys are;
      }

-- keys that stand in the first so many cells, each under its number
record KeysBelow (image : List ℕ) (states : List CellState) (count : ℕ) : Type 0 where
  keys : Keys
  there : (id : ℕ) (key : Stored) → keys id ≡ Some key →
      (cell : ℕ) × (cell < count) × (has_id id (cell_state states cell) ≡ true) × HoldsKey key.attributes key.bytes (body cell image) × (key.creation ≡ creation_of_state (cell_state states cell))
  all : (id cell : ℕ) → cell < count → has_id id (cell_state states cell) ≡ true → (key : Stored) × (keys id ≡ Some key)

-- what an opening found in a cell: nothing, or the body of its key
abbrev HasBody : CellState → List ℕ → Type 0
HasBody Free body = Unit {0}
HasBody (Open id creation) body = HoldsId id body
HasBody _ body = ⊥

found_body : (state : CellState) (g b : List ℕ) → Finds state g b → HasBody state b
found_body Free g b f = tt
found_body (Open id creation) g b f = f.1
found_body state g b f = absurd f

each_body : (image : List ℕ) (states : List CellState) → IsImageDirectory states image → (cell : ℕ) → cell < cell_count → HasBody (cell_state states cell) (body cell image)
each_body image states is cell lt = ⊎_elim
    (λ within. found_body (cell_state states cell) (gate cell image) (body cell image) (is.each cell within))
    (λ past. rw (is.beyond cell past) tt)
    (cases_lt cell (cells_of image))

-- one cell more
keys_next : (image : List ℕ) (states : List CellState) (count : ℕ) → KeysBelow image states count → (state : CellState) → cell_state states count ≡ state → HasBody state (body count image) → KeysBelow image states (count + 1)
keys_next image states count below Free is f = record {
  keys = below.keys;
  there = λ id key e. let t = below.there id key e in (t.0, omega (arith, t.1), t.2, t.3, t.4);
  all = λ id cell lt has. ⊎_elim
      (λ same. let z : false ≡ true = sym (ap (has_id id) (ap (cell_state states) same ∙ is)) ∙ has in absurd (false_true z))
      (λ differs. below.all id cell (omega (arith, lt, differs)) has)
      (cases_eq cell count);
}
keys_next image states count below (Open own creation) is f =
    let a = f.0 in
    let key : Stored = stored creation a f.1 in
    record {
      keys = λ id. cond (id == own) (Some key) (below.keys id);
      there = λ id k e. ⊎_elim
          (λ same. let z : Some key ≡ Some k = ap (λ t. cond t (Some key) (below.keys id)) (sym (eq-eqb id own same)) ∙ e in
          let k_is : key ≡ k = cc in
          (count, omega arith, ap (has_id id) is ∙ eq-eqb own id (sym same), subst (λ (x : Stored). HoldsKey x.attributes x.bytes (body count image)) k_is f.2, ap (λ (x : Stored). x.creation) (sym k_is) ∙ sym (ap creation_of_state is)))
          (λ differs. let t = below.there id k (ap (λ t. cond t (Some key) (below.keys id)) (sym (ne_eqb id own differs)) ∙ e) in (t.0, omega (arith, t.1), t.2, t.3, t.4))
          (cases_eq id own);
      all = λ id cell lt has. ⊎_elim
          (λ same. (key, ap (λ t. cond t (Some key) (below.keys id)) (eq-eqb id own same)))
          (λ differs.
          let earlier = below.all id cell (omega (arith, lt, not_last id cell differs has)) has in
          (earlier.0, ap (λ t. cond t (Some key) (below.keys id)) (ne_eqb id own differs) ∙ earlier.1))
          (cases_eq id own);
    }
  where
    not_last : (id cell : ℕ) → id ≢ own → has_id id (cell_state states cell) ≡ true → cell ≢ count
    not_last id cell differs has same = differs (sym (eqb-true own id (sym (ap (has_id id) (ap (cell_state states) same ∙ is)) ∙ has)))
keys_next image states count below state is f = absurd f

keys_below : (image : List ℕ) (states : List CellState) → ((cell : ℕ) → cell < cell_count → HasBody (cell_state states cell) (body cell image)) → (count : ℕ) → count ≤ cell_count → KeysBelow image states count
keys_below image states each zero le = record {
  keys = λ id. None;
  there = λ id key e. cc;
  all = λ id cell lt has. absurd (omega (arith, lt));
}
keys_below image states each (suc count) le =
    subst (λ (n : ℕ). KeysBelow image states n) (omega arith) (keys_next image states count (keys_below image states each count (omega (arith, le))) (cell_state states count) refl (each count (omega (arith, le))))

-- an opening found keys
pub found_keys : (image : List ℕ) (states : List CellState) → IsFoundIn image states → (keys : Keys) × AreFound image states keys
found_keys [] states is = (
  λ id. None,
  record {
    there = λ id key e. cc;
    all = λ id cell lt has. let z : false ≡ true = sym (ap (λ (l : List CellState). has_id id (cell_state l cell)) is ∙ ap (has_id id) (get_or-replicate cell_count cell Free Free lt)) ∙ has in absurd (false_true z);
  },
)
found_keys (byte ∷ rest) states is =
    let below = keys_below (byte ∷ rest) states (each_body (byte ∷ rest) states is) cell_count (omega arith) in
    (below.keys, record { there = below.there; all = below.all })

pub some_found : (told : Option (List ℕ)) (states : List CellState) → IfSome told (λ image. IsFoundIn image states) → IfSome told (λ image. (keys : Keys) × AreFound image states keys)
some_found None states found = tt
some_found (Some image) states found = found_keys image states found
