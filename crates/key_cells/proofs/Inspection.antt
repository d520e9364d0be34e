-- What an inspection of an image keeps, one cell after the other.
use Rattle.key_cells.proofs.Common.{[], ap, AreFirstKeys, arith, Attributes, body, bytes_of, cases_eq, cases_lt, cond, drop, Err, gate, get_or_append_left, get_or_push, HasKeyOf, HoldsKey, IfErr, inl, inr, is_opened, IsFirstDamaged, IsInspectFaultOf, IsOpen, KeepsKey, length, length-append, List, None, Ok, OnOk, opened_gate, Opens, Option, part, ReadsKey, refl, Result, Some, subst, sum_by-map-range_with_len_more, sym, take, ℕ, ⊎_elim, ◌*◌, ◌++◌, ◌+◌, ◌-◌, ◌<◌, ◌∙◌, ◌∷◌, ◌≡◌, ◌≢◌, ◌⊎◌}
use Rattle.std.proofs.lemmas.Option.{get_or_from_slice_get, slice_get_read, slice_get_within}
unfoldable use Rattle.key_cells.specs.Inspected.{open_cells}
use Rattle.key_cells.specs.{declared.inspecting.FoundKey.FoundKey, declared.inspecting.InspectFault.InspectFault, declared.inspecting.InspectFault.TheVariants.DamagedCell, declared.inspecting.InspectFault.TheVariants.Memory, declared.inspecting.InspectFault.TheVariants.NotAStore}
use Rattle.key_cells.proofs.{CellsRead.body_read, CellsRead.gate_read, Opened.no_opened_gate}

open_more : (count : ℕ) (image : List ℕ) → open_cells (count + 1) image ≡ open_cells count image + cond (is_opened (gate count image)) 1 0
unfolding open_cells
open_more count image = sum_by-map-range_with_len_more (λ (g : List ℕ). cond (is_opened g) 1 0) (λ (cell : ℕ). gate cell image) 0 count count (omega arith)

-- a key that stands among others stays where it is
stays : (keys : List FoundKey) (key : FoundKey) (place : ℕ) (bytes : List ℕ) → HasKeyOf keys place bytes → HasKeyOf (keys ++ key ∷ []) place bytes
stays keys key place bytes h =
    let within : place < length keys = slice_get_within keys place h.0 h.1 in
    (h.0, slice_get_read (keys ++ key ∷ []) (length (keys ++ key ∷ [])) place h.0 refl (omega (arith, within, length-append keys (key ∷ []))) (sym (get_or_append_left keys (key ∷ []) h.0 place within ∙ get_or_from_slice_get keys place h.0 h.0 h.1)), h.2)

module _ (count : ℕ) (image room : List ℕ) (old new : List FoundKey) (is : room ≡ part (64 + 1088 * count) 1088 image) (are : AreFirstKeys count old image) where
  gate_is : take 1 room ≡ gate count image
  gate_is = ap (take 1) is ∙ gate_read count image

  -- one cell more was read, and its key kept
  pub first_keys_more : (key : Option (Attributes × ℕ)) → ReadsKey key room → KeepsKey key room old new → AreFirstKeys (count + 1) new image
  first_keys_more None read kept =
      let shut : gate count image ≢ opened_gate = λ e. read (gate_is ∙ e) in
      record {
        no_others = ap length kept ∙ (are.no_others ∙ omega (arith, open_more count image ∙ ap (λ b. open_cells count image + cond b 1 0) (no_opened_gate (gate count image) shut)));
        each = λ cell lt open_now. subst (λ (keys : List FoundKey). HasKeyOf keys (open_cells cell image) (body cell image)) (sym kept)
            (⊎_elim (λ here. absurd (shut (subst (λ (k : ℕ). IsOpen k image) here open_now))) (λ differs. are.each cell (omega arith) open_now) (cases_eq cell count));
      }
  first_keys_more (Some key) read kept =
      let open_here : gate count image ≡ opened_gate = sym gate_is ∙ read.0 in
      let found : FoundKey = kept.0 in
      let body_is : drop 1 room ≡ body count image = ap (drop 1) is ∙ body_read count image in
      let holds : HoldsKey found.attributes (bytes_of found.bytes) (body count image) = rw (kept.2, kept.3) (subst (λ (b : List ℕ). HoldsKey key.0 (take (key.1 - 52) (drop 52 room)) b) body_is read.1.holds) in
      record {
        no_others = ap length kept.1 ∙ omega (arith, length-append old (found ∷ []), are.no_others, open_more count image ∙ ap (λ g. open_cells count image + cond (is_opened g) 1 0) open_here);
        each = λ cell lt open_now. subst (λ (keys : List FoundKey). HasKeyOf keys (open_cells cell image) (body cell image)) (sym kept.1)
            (⊎_elim
            (λ here. subst (λ (k : ℕ). HasKeyOf (old ++ found ∷ []) (open_cells k image) (body k image)) (sym here)
            (found, slice_get_read (old ++ found ∷ []) (length (old ++ found ∷ [])) (open_cells count image) found refl (omega (arith, length-append old (found ∷ []), are.no_others)) (sym (get_or_push old found found (open_cells count image) are.no_others)), holds))
            (λ differs. stays old found (open_cells cell image) (body cell image) (are.each cell (omega arith) open_now))
            (cases_eq cell count));
      }

-- an image that can be opened is refused for memory alone
pub opens_or_memory : (image : List ℕ) → Opens image → (fault : InspectFault) → IsInspectFaultOf fault image → fault ≡ Memory
opens_or_memory image o NotAStore h = absurd (h o.store)
opens_or_memory image o (DamagedCell cell) h = absurd (o.sound cell h.within h.here)
opens_or_memory image o Memory h = refl

-- there is one first damaged cell
one_damaged : (image : List ℕ) (cell other : ℕ) → IsFirstDamaged image cell → IsFirstDamaged image other → cell ≡ other
one_damaged image cell other h k =
    ⊎_elim (λ is. is) (λ differs. ⊎_elim (λ less. absurd (k.before cell less h.here)) (λ not_less. absurd (h.before other (omega arith) k.here)) (cases_lt cell other)) (cases_eq cell other)

pub damaged_or_memory : {A : Type 0} (image : List ℕ) (cell : ℕ) → IsFirstDamaged image cell → (r : Result A InspectFault) → OnOk r (Opens image) → IfErr r (λ fault. IsInspectFaultOf fault image) → (r ≡ Err (DamagedCell cell)) ⊎ (r ≡ Err Memory)
damaged_or_memory image cell first (Ok keys) opens fault = absurd (opens.sound cell first.within first.here)
damaged_or_memory image cell first (Err NotAStore) opens fault = absurd (fault first.store)
damaged_or_memory image cell first (Err (DamagedCell other)) opens fault = inl (ap (λ (k : ℕ). Err (DamagedCell k)) (one_damaged image other cell fault first))
damaged_or_memory image cell first (Err Memory) opens fault = inr refl

pub no_keys : (image : List ℕ) (keys : List FoundKey) → keys ≡ [] → AreFirstKeys 0 keys image
unfolding open_cells
no_keys image keys none = record { no_others = ap length none; each = λ cell lt. absurd (omega (arith, lt)) }
