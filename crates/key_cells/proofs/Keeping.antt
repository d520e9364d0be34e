-- What images have while the file of an older store grows.
use Rattle.key_cells.proofs.Common.{ap, arith, cells_by, cells_of, drop, drop-drop, drop-replicate, drop-take, HasSize, layout_by, layout_of, length, List, older_size, part, place, replicate, store_size, subst, sym, take, take-replicate, take-take, ℕ, ◌+◌, ◌-◌, ◌<◌, ◌∙◌, ◌≡◌, ◌≤◌, cell_count}
use Rattle.key_cells.specs.{declared.layout.Layout.Layout, declared.layout.Layout.TheVariants.Older, declared.layout.Layout.TheVariants.Current, Growth.GrowsFrom, Growth.HasOlderCells, Growth.zeros_of}
use Rattle.key_cells.proofs.{Stages.IsTail, Steps.zeros_are}

-- a part of what is the same is the same
pub part_same : (o p n : ℕ) (a b : List ℕ) → p + n ≤ o → take o a ≡ take o b → part p n a ≡ part p n b
part_same o p n a b le same =
    sym (drop-take p n a)
    ∙ ap (drop p) (sym (take-take (p + n) o a le) ∙ ap (take (p + n)) same ∙ take-take (p + n) o b le)
    ∙ drop-take p n b

part_from : (o p n : ℕ) (a : List ℕ) → o ≤ p → part p n a ≡ part (p - o) n (drop o a)
part_from o p n a le =
    let e : o + (p - o) ≡ p = omega (arith, le) in
    ap (λ (i : ℕ). take n (drop i a)) (sym e) ∙ ap (take n) (sym (drop-drop (p - o) o a))

pub front_grows : (old image : List ℕ) → layout_of old ≡ Older → HasOlderCells old image → GrowsFrom old image
front_grows old image older f = record {
  store = λ s. record {
    name = part_same older_size 0 8 image old (omega arith) f.front ∙ s.name;
    rest = part_same older_size 9 55 image old (omega arith) f.front ∙ s.rest;
    size = subst (λ (l : Layout). HasSize l (length image)) (sym still) (f.low, f.high);
  };
  gates = λ cell lt. part_same older_size (place cell) 1 image old (omega (arith, lt)) f.front;
  bodies = λ cell lt. part_same older_size (place cell + 1) 1087 image old (omega (arith, lt)) f.front;
  beyond = λ cell ge lt. absurd (omega (arith, ge, lt, ap cells_by still));
}
  where
    still : layout_of image ≡ Older
    still = ap layout_by (part_same older_size 8 1 image old (omega arith) f.front) ∙ older

part_zeros : (p n most : ℕ) → p + n ≤ most → part p n (zeros_of most) ≡ replicate n 0
unfolding zeros_of
part_zeros p n most le = ap (take n) (drop-replicate p most 0) ∙ take-replicate n (most - p) 0 (omega (arith, le))

has_size : (l : Layout) (n : ℕ) → n ≡ store_size → HasSize l n
has_size Older n is = (omega (arith, is), omega (arith, is))
has_size Current n is = is

pub cells_most : (image : List ℕ) → cells_of image ≤ cell_count
cells_most image = by (layout_of image)
  where
    by : (l : Layout) → cells_by l ≤ cell_count
    by Older = omega arith
    by Current = omega arith

pub tail_grows : (old image : List ℕ) → IsTail older_size store_size old image → GrowsFrom old image
tail_grows old image t = record {
  store = λ s. record { name = t.name ∙ s.name; rest = low 9 55 (omega arith) (omega arith) ∙ s.rest; size = has_size (layout_of image) (length image) t.long };
  gates = λ cell lt. low (place cell) 1 (omega arith) (omega (arith, lt));
  bodies = λ cell lt. low (place cell + 1) 1087 (omega arith) (omega (arith, lt));
  beyond = λ cell ge lt.
      let most : cell < cell_count = omega (arith, lt, cells_most image) in
      (behind (place cell) 1 (omega (arith, ge)) (omega (arith, most)), behind (place cell + 1) 1087 (omega (arith, ge)) (omega (arith, most)) ∙ zeros_are);
}
  where
    low : (p n : ℕ) → 9 ≤ p → p + n ≤ older_size → part p n image ≡ part p n old
    low p n ge le =
        part_from 9 p n image ge
        ∙ part_same (older_size - 9) (p - 9) n (drop 9 image) (drop 9 old) (omega (arith, ge, le)) t.cells
        ∙ sym (part_from 9 p n old ge)

    behind : (p n : ℕ) → older_size ≤ p → p + n ≤ store_size → part p n image ≡ replicate n 0
    behind p n ge le =
        part_from older_size p n image ge ∙ ap (part (p - older_size) n) t.tail ∙ part_zeros (p - older_size) n (store_size - older_size) (omega (arith, ge, le))
