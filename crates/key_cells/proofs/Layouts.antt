-- How a header tells the layout of a file.
use Rattle.key_cells.proofs.Common.{GivesPart, HasHeader, HasSize, IfSome, IsOpenFaultOf, IsStoreFile, IsStoreOf, List, None, NotAStore, Option, Some, [], ap, arith, cell_count, cells_by, cells_of, drop, drop-take, get_or, header, layout_by, layout_of, length, no_more, older_size, part, place, refl, store_name, store_size, subst, sym, take, take-take, ℕ, ◌+◌, ◌<◌, ◌∙◌, ◌∷◌, ◌≡◌, ◌≤◌}
use Rattle.std.proofs.Common.{suc, zero}
use Rattle.std.specs.Prelude.{◌%◌}
use Rattle.key_cells.specs.{declared.layout.Layout.Layout, declared.layout.Layout.TheVariants.Older, declared.layout.Layout.TheVariants.Current}

pub byte_at : (xs : List ℕ) (i : ℕ) → i < length xs → take 1 (drop i xs) ≡ get_or xs i 0 ∷ []
byte_at [] i lt = absurd (omega (arith, lt))
byte_at (x ∷ xs) zero lt = refl
byte_at (x ∷ xs) (suc i) lt = byte_at xs i (omega (arith, lt))

pub cells_whole : (l : Layout) → cells_by l % 256 ≡ 0
cells_whole Older = refl
cells_whole Current = refl

pub cells_few : (l : Layout) → cells_by l ≤ cell_count
cells_few Older = omega arith
cells_few Current = omega arith

pub cells_fit : (l : Layout) (size : ℕ) → HasSize l size → place (cells_by l) ≤ size
cells_fit Older size has = has.0
cells_fit Current size has = omega (arith, has)

-- a part of an image's header
head_part : (p n : ℕ) (image head : List ℕ) → p + n ≤ 64 → part 0 64 image ≡ head → part p n image ≡ take n (drop p head)
head_part p n image head le is =
    sym (drop-take p n image) ∙ ap (drop p) (sym (take-take (p + n) 64 image le)) ∙ drop-take p n (take 64 image) ∙ ap (λ (x : List ℕ). take n (drop p x)) is

-- an image of a store that was opened is a store's, of today's layout
pub header_layout : (image : List ℕ) → part 0 64 image ≡ header → layout_of image ≡ Current
unfolding header
header_layout image is = ap layout_by (head_part 8 1 image header (omega arith) is)

pub header_store : (image : List ℕ) → length image ≡ store_size → part 0 64 image ≡ header → IsStoreFile image
unfolding header
header_store image long is = record {
  name = head_part 0 8 image header (omega arith) is;
  rest = head_part 9 55 image header (omega arith) is;
  size = subst (λ (l : Layout). HasSize l (length image)) (sym (header_layout image is)) long;
}

-- a file of another header or length is no store's
pub not_store : (told : Option (List ℕ)) (head : List ℕ) (size : ℕ) → older_size ≤ size → IfSome told (λ image. length image ≡ size) → GivesPart told 0 64 head
    → ((image : List ℕ) → HasHeader head size image → IsStoreFile image → ⊥) → IfSome told (λ image. IsOpenFaultOf NotAStore image)
not_store None head size enough measured gives none = tt
not_store (Some image) head size enough measured gives none = record { some = λ empty. omega (arith, enough, measured, empty); other = none image (sym gives, measured) }

pub store_told : (told : Option (List ℕ)) (head : List ℕ) (size : ℕ) (l : Layout) → IfSome told (λ image. length image ≡ size) → GivesPart told 0 64 head
    → ((image : List ℕ) → HasHeader head size image → IsStoreOf l image) → IfSome told (IsStoreOf l)
store_told None head size l measured gives is = tt
store_told (Some image) head size l measured gives is = is image (sym gives, measured)

-- with so many cells
pub store_cells : (told : Option (List ℕ)) (l : Layout) (cells : ℕ) → cells ≡ cells_by l → IfSome told (IsStoreOf l) → IfSome told (λ image. IsStoreFile image × (cells_of image ≡ cells))
store_cells None l cells are store = tt
store_cells (Some image) l cells are store = (store.0, ap cells_by store.1 ∙ sym are)

module _ (head image : List ℕ) (size : ℕ) (has_header : HasHeader head size image) where
  is : part 0 64 image ≡ head
  is = has_header.0

  long : length image ≡ size
  long = has_header.1

  pub is_store : (l : Layout) → l ≡ layout_by (take 1 (drop 8 head)) → (take 8 head ≡ store_name) × (take 55 (drop 9 head) ≡ no_more) → HasSize l size → IsStoreOf l image
  is_store l tells named has =
      let layout : layout_of image ≡ l = ap layout_by (head_part 8 1 image head (omega arith) is) ∙ sym tells in (
        record {
          name = head_part 0 8 image head (omega arith) is ∙ named.0;
          rest = head_part 9 55 image head (omega arith) is ∙ named.1;
          size = subst (λ (k : Layout). HasSize k (length image)) (sym layout) (subst (HasSize l) (sym long) has);
        },
        layout,
      )

  pub store_tells : (l : Layout) → l ≡ layout_by (take 1 (drop 8 head)) → IsStoreFile image → ((take 8 head ≡ store_name) × (take 55 (drop 9 head) ≡ no_more)) × HasSize l size
  store_tells l tells store =
      let layout : layout_of image ≡ l = ap layout_by (head_part 8 1 image head (omega arith) is) ∙ sym tells in (
        (sym (head_part 0 8 image head (omega arith) is) ∙ store.name, sym (head_part 9 55 image head (omega arith) is) ∙ store.rest),
        subst (HasSize l) long (subst (λ (k : Layout). HasSize k (length image)) layout store.size),
      )
