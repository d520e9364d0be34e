-- That an opening leaves a whole store.
use Rattle.key_cells.proofs.Common.{[], Absent, CellState, Content, Finds, Free, HasNoOpenCell, HasZeros, IfSome, IsFoundIn, List, None, Open, Option, Present, Shows, Some, Sound, StandsForContents, ap, arith, body, cases_lt, cell_count, cell_state, cells_of, closed, drop-replicate, found_in, gate, get_or-replicate, inl, inr, length, opened_gate, part, place, refl, replicate, store_size, subst, sym, take, zeros, ℕ, ⊎_elim, ◌-◌, ◌<◌, ◌∙◌, ◌∷◌, ◌≡◌}
use Rattle.std.proofs.{Common.suc, Common.zero}
use Rattle.disk_face.specs.declared.Disk as Disk
unfoldable use Rattle.key_cells.specs.Layout.{header}
use Rattle.key_cells.specs.{declared.layout.Layout.TheVariants.Current, Contents.content_at, Image.IsOpenable, Image.IsStoreOf, Image.IsWhole, Opening.content_of}
use Rattle.key_cells.proofs.{CellsRead.content_there, CellsRead.content_within, Keeping.cells_most, Layouts.is_store}

pub no_open_zeros : (n : ℕ) → HasNoOpenCell (replicate n 0)
no_open_zeros n cell lt is = by (n - place cell) (ap (take 1) (sym (drop-replicate (place cell) n 0)) ∙ is)
  where
    by : (m : ℕ) → take 1 (replicate m 0) ≡ opened_gate → ⊥
    by zero e = cc
    by (suc m) e = cc

current_store : (other : List ℕ) → length other ≡ store_size → part 0 64 other ≡ header → IsStoreOf Current other
unfolding header
current_store other long is = is_store header other store_size (is, long) Current refl (refl, refl) refl

-- a cell of the image, as the directory has it, and as another image shows it
open_shown : (state : CellState) (content : Content) (g b g' b' : List ℕ) → Finds state g b → content ≡ content_of g b → g ≡ opened_gate → Shows state content g' b' → (g' ≡ opened_gate) × (b' ≡ b)
open_shown Free content g b g' b' f are is shows = absurd (f is)
open_shown (Open id creation) content g b g' b' f are is shows =
    subst (λ (c : Content). Shows (Open id creation) c g' b') (are ∙ ap (λ (x : List ℕ). content_of x b) is) shows
open_shown state content g b g' b' f are is shows = absurd f

free_shown : (content : Content) (g' b' : List ℕ) → Shows Free content g' b' → (g' ≡ closed) × (b' ≡ zeros)
free_shown Absent g' b' shows = shows
free_shown (Present bytes) g' b' shows = absurd shows
free_shown content g' b' shows = shows

shut_shown : (state : CellState) (content : Content) (g b g' b' : List ℕ) → Finds state g b → (g ≡ opened_gate → ⊥) → Shows state content g' b' → (g' ≡ closed) × (b' ≡ zeros)
shut_shown Free content g b g' b' f shut shows = free_shown content g' b' shows
shut_shown (Open id creation) content g b g' b' f shut shows = absurd (shut f.0)
shut_shown state content g b g' b' f shut shows = absurd f

free_zeros : (states : List CellState) (contents : List Content) (cell : ℕ) (other : List ℕ) → cell_state states cell ≡ Free → Shows (cell_state states cell) (content_at contents cell) (gate cell other) (body cell other) → HasZeros cell other
free_zeros states contents cell other free shows =
    free_shown (content_at contents cell) (gate cell other) (body cell other) (subst (λ (s : CellState). Shows s (content_at contents cell) (gate cell other) (body cell other)) free shows)

pub whole_of : (image : List ℕ) (states : List CellState) → IsFoundIn image states → (other : List ℕ) → Sound states (found_in image) other → IsWhole image other
whole_of [] states are other s = record {
  store = current_store other s.size s.header;
  open_cells = λ cell lt is. absurd (no_open_zeros 0 cell (omega (arith, lt)) is);
  zeros = λ cell lt shut. free_zeros states (found_in []) cell other (ap (λ (l : List CellState). cell_state l cell) are ∙ get_or-replicate cell_count cell Free Free lt) (s.each cell lt);
}
whole_of (byte ∷ rest) states d other s = record {
  store = current_store other s.size s.header;
  open_cells = λ cell lt is. open_shown (cell_state states cell) (content_at (found_in image) cell) (gate cell image) (body cell image) (gate cell other) (body cell other) (d.each cell lt) (content_there cell image (few cell lt) ∙ content_within cell image lt) is (s.each cell (few cell lt));
  zeros = λ cell lt shut. ⊎_elim
      (λ within. shut_shown (cell_state states cell) (content_at (found_in image) cell) (gate cell image) (body cell image) (gate cell other) (body cell other) (d.each cell within) (shut within) (s.each cell lt))
      (λ past. free_zeros states (found_in image) cell other (d.beyond cell past) (s.each cell lt))
      (cases_lt cell (cells_of image));
}
  where
    image : List ℕ
    image = byte ∷ rest

    few : (cell : ℕ) → cell < cells_of image → cell < cell_count
    few cell lt = omega (arith, lt, cells_most image)

openable_of : (image : List ℕ) (states : List CellState) → IsFoundIn image states → IsOpenable image
openable_of [] states are = inl refl
openable_of (byte ∷ rest) states d = inr d.opens

-- what was found, and what stands, where the disk tells its bytes
pub openable : (told : Option (List ℕ)) (states : List CellState) → IfSome told (λ image. IsFoundIn image states) → IfSome told IsOpenable
openable None states found = tt
openable (Some image) states found = openable_of image states found

pub whole : {D : Type 0} (disks : Disk.Ghosts D) (new : D) (states : List CellState) (told : Option (List ℕ)) → IfSome told (λ image. IsFoundIn image states) → IfSome told (λ image. StandsForContents disks new states (found_in image))
    → IfSome told (λ image. (other : List ℕ) → disks.may_leave new other → IsWhole image other)
whole disks new states None found stands = tt
whole disks new states (Some image) found stands = λ other left. whole_of image states found other (stands.each other left)
