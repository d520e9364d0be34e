-- A row turned to a place: what stands from there on, and then what stands before. The register of w bytes at a place
-- comes first of the row turned to it, and last of the row turned past it.
use Rattle.key_wrap.proofs.Common.{List, ap, append_assoc, ap₂, arith, drop, drop_at, length, length-take, sym, take, take-append-drop, take_at, ℕ, ◌++◌, ◌+◌, ◌∙◌, ◌≡◌, ◌≤◌}
use Rattle.std.proofs.Math.Seq.{take-add}
use Rattle.std.proofs.lemmas.List.{drop-drop}
use Rattle.std.proofs.lemmas.Slice.{drop-put_mid, take-put_mid_below}
use borrow.Rule.Slice.PartMut.{put_mid}

abbrev pub turned : ℕ → List ℕ → List ℕ
turned place row = drop place row ++ take place row

-- the others
abbrev pub others : ℕ → ℕ → List ℕ → List ℕ
others place w row = drop (place + w) row ++ take place row

pub comes_first : (place w : ℕ) (row : List ℕ) → turned place row ≡ take w (drop place row) ++ others place w row
comes_first place w row =
    let rest : List ℕ = drop place row in
    ap (λ (l : List ℕ). l ++ take place row) (sym (take-append-drop w rest) ∙ ap (λ (l : List ℕ). take w rest ++ l) (drop-drop w place row))
    ∙ append_assoc (take w rest) (drop (place + w) row) (take place row)

pub comes_last : (place w : ℕ) (row : List ℕ) → turned (place + w) row ≡ others place w row ++ take w (drop place row)
comes_last place w row =
    ap (λ (l : List ℕ). drop (place + w) row ++ l) (take-add place w row)
    ∙ sym (append_assoc (drop (place + w) row) (take place row) (take w (drop place row)))

-- written over, it leaves the others as they are
module _ (place w : ℕ) (row new : List ℕ) (within : place + w ≤ length row) (long : length new ≡ w) where
  others_stay : others place w (put_mid place w row new) ≡ others place w row
  others_stay =
      ap₂ (λ (l m : List ℕ). l ++ m) (drop-put_mid place w row new (place + w) (omega arith) (omega arith) long) (take-put_mid_below place w row new place (omega arith) (omega arith))

  written : take w (drop place (put_mid place w row new)) ≡ new
  written =
      let rest : List ℕ = drop w (drop place row) in
      ap (take w) (drop_at (take place row) (new ++ rest) place (omega (arith, length-take place row))) ∙ take_at new rest w long

  pub written_first : turned place (put_mid place w row new) ≡ new ++ others place w row
  written_first = comes_first place w (put_mid place w row new) ∙ ap₂ (λ (l m : List ℕ). l ++ m) written others_stay

  pub written_last : turned (place + w) (put_mid place w row new) ≡ others place w row ++ new
  written_last = comes_last place w (put_mid place w row new) ∙ ap₂ (λ (l m : List ℕ). l ++ m) others_stay written
