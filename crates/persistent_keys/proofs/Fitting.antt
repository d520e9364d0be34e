-- An image that fits the contents of a filed store has its keys, and maybe some that are in doubt.
use Rattle.persistent_keys.proofs.Common.{Absent, ap, arith, Attributes, body, cell_state, cells_by, cells_of, CellState, Content, content_at, Doubt, Doubtful, eqb-true, Fits, FitsCell, FitsKeys, gate, has_id, HasKey, HoldsKey, inl, inr, IsDamaged, IsDoubted, IsFiled, IsOf, Keys, length, List, of_one_key, Open, opened_gate, Present, refl, Some, Stored, stored, subst, sym, TellsCell, true, ℕ, ⊎_elim, ◌<◌, ◌∙◌, ◌≡◌, ◌⊎◌, cell_count}
use Rattle.key_cells.proofs.{Finding.id_of, Layouts.header_layout, Layouts.header_store}

-- what is told of an open cell
pub tells_open : (keys : Keys) (doubt : Doubt) (state : CellState) (content : Content) (id : ℕ) → has_id id state ≡ true → TellsCell keys doubt state content
    → (creation : ℕ) × (body : List ℕ) × (a : Attributes) × (bytes : List ℕ) × (state ≡ Open id creation) × (content ≡ Present body) × HoldsKey a bytes body × (a.id.0 ≡ id) × (keys id ≡ Some (stored creation a bytes))
tells_open keys doubt (Open own creation) (Present body) id has t =
    let same : own ≡ id = eqb-true own id has in
    (creation, body, t.0, t.1, ap (λ i. Open i creation) same, refl, t.2, t.3 ∙ same, ap keys (sym same) ∙ t.4)
tells_open keys doubt (Open own creation) content id has t = absurd t
tells_open keys doubt state content id has t = cc

-- a cell that may be open has a key that is there, or one that is in doubt
Tells : Keys → Doubt → Attributes → List ℕ → Type 0
Tells keys doubt a bytes = ((creation : ℕ) × (keys a.id.0 ≡ Some (stored creation a bytes))) ⊎ IsDoubted doubt a bytes

open_tells : (keys : Keys) (doubt : Doubt) (state : CellState) (content : Content) (g b : List ℕ) → TellsCell keys doubt state content → FitsCell content g b → g ≡ opened_gate
    → (a : Attributes) × (bytes : List ℕ) × HoldsKey a bytes b × IsOf a.id.0 content × Tells keys doubt a bytes
unfolding Tells
open_tells keys doubt state Absent g b t fits is = absurd (fits is)
open_tells keys doubt state (Present body) g b t fits is = present state t
  where
    present : (state : CellState) → TellsCell keys doubt state (Present body) → (a : Attributes) × (bytes : List ℕ) × HoldsKey a bytes b × IsOf a.id.0 (Present body) × Tells keys doubt a bytes
    present (Open id creation) t = (t.0, t.1, subst (λ (x : List ℕ). HoldsKey t.0 t.1 x) (sym fits.1) t.2, (t.0, t.1, t.2, refl), inl (creation, ap keys t.3 ∙ t.4))
    present state t = absurd t
open_tells keys doubt state (Doubtful body) g b t fits is = doubtful state t
  where
    doubtful : (state : CellState) → TellsCell keys doubt state (Doubtful body) → (a : Attributes) × (bytes : List ℕ) × HoldsKey a bytes b × IsOf a.id.0 (Doubtful body) × Tells keys doubt a bytes
    doubtful (Open id creation) t = absurd t
    doubtful state t = (t.0, t.1, subst (λ (x : List ℕ). HoldsKey t.0 t.1 x) (sym (fits is)) t.2, (t.0, t.1, t.2, refl), inr t.3)

module _ (keys : Keys) (doubt : Doubt) (states : List CellState) (contents : List Content) (count : length contents ≡ cell_count) (f : IsFiled keys doubt states contents) (image : List ℕ) (fits : Fits contents image) where
  all_cells : cells_of image ≡ cell_count
  all_cells = ap cells_by (header_layout image fits.header)

  at : (cell : ℕ) → cell < cell_count → gate cell image ≡ opened_gate → (a : Attributes) × (bytes : List ℕ) × HoldsKey a bytes (body cell image) × IsOf a.id.0 (content_at contents cell) × Tells keys doubt a bytes
  at cell lt is = open_tells keys doubt (cell_state states cell) (content_at contents cell) (gate cell image) (body cell image) (f.each cell lt) (fits.each cell lt) is

  undamaged : (cell : ℕ) → cell < cell_count → IsDamaged image cell → ⊥
  undamaged cell lt damaged =
      let here = at cell lt damaged.0 in
      ⊎_elim
      (λ none. none here.0 here.1 here.2)
      (λ twice.
      let there = at twice.0 (omega (arith, twice.1)) twice.2 in
      let same : there.0.id.0 ≡ here.0.id.0 =
      sym (id_of there.0.id.0 (body twice.0 image) (there.0, there.1, there.2, refl)) ∙ (twice.3 ∙ id_of here.0.id.0 (body cell image) (here.0, here.1, here.2, refl)) in
      let is : twice.0 ≡ cell = f.apart here.0.id.0 twice.0 cell (omega (arith, twice.1)) lt (subst (λ (n : ℕ). IsOf n (content_at contents twice.0)) same there.3) here.3 in
      absurd (omega (arith, twice.1, is)))
      damaged.1

  has_key : (id : ℕ) (key : Stored) → keys id ≡ Some key → HasKey key.attributes key.bytes image
  has_key id key is =
      let c = f.found id key is in
      let o = tells_open keys doubt (cell_state states c.0) (content_at contents c.0) id c.2 (f.each c.0 c.1) in
      let same : key ≡ stored o.0 o.2 o.3 = let e : Some key ≡ Some (stored o.0 o.2 o.3) = sym is ∙ o.8 in cc in
      let shown : FitsCell (Present o.1) (gate c.0 image) (body c.0 image) = subst (λ (x : Content). FitsCell x (gate c.0 image) (body c.0 image)) o.5 (fits.each c.0 c.1) in
      subst (λ (k : Stored). HasKey k.attributes k.bytes image) (sym same) (c.0, omega (arith, c.1, all_cells), shown.0, subst (λ (x : List ℕ). HoldsKey o.2 o.3 x) (sym shown.1) o.6)

  only_these : (a : Attributes) (bytes : List ℕ) → HasKey a bytes image → ((creation : ℕ) × (keys a.id.0 ≡ Some (stored creation a bytes))) ⊎ IsDoubted doubt a bytes
  unfolding Tells
  only_these a bytes has =
      let here = at has.0 (omega (arith, has.1, all_cells)) has.2 in
      let same = of_one_key here.0 a here.1 bytes (body has.0 image) here.2 has.3 in
      subst (λ (b : List ℕ). Tells keys doubt a b) same.1 (subst (λ (x : Attributes). Tells keys doubt x here.1) same.0 here.4)

  pub filed_fits : FitsKeys keys doubt image
  filed_fits = record {
    opens = record { store = header_store image fits.size fits.header; sound = λ cell lt damaged. undamaged cell (omega (arith, lt, all_cells)) damaged };
    there = has_key;
    only = only_these;
  }
