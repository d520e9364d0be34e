-- The layout of today is written: the cells stay, within the call and after it.
use Rattle.std.proofs.Common.{◌≡◌, inl, inr, refl, ⊎_elim, ℕ, ◌-◌, ◌≤◌, List, [], ◌∷◌, ◌++◌, length, take, Option, None, Some, IfSome, Result, Ok, Err, OnOk, ◌∙◌, ap, subst, arith}
use Rattle.std.proofs.lemmas.List.{length-append, length-take}
use Rattle.disk_face.specs.{Disk.Follows, Disk.Torn, Disk.LeavesWhatIsRead, Moments.AfterStep, Moments.Within, Moments.LeavesWritten, Moments.written}
use Rattle.disk_face.proofs.Moments.{within_both}
use Rattle.key_cells.specs.{declared.layout.Layout.TheVariants.Older, declared.layout.Layout.TheVariants.Current, Layout.layout_by, Layout.layout_of, Layout.older_size, Layout.store_size, Growth.zeros_of, Growth.Each, Growth.GrowsFrom, Growth.HasOlderCells, Growth.ReadsFilled}
use Rattle.key_cells.proofs.{Keeping.front_grows, Keeping.tail_grows, Parts.part_written, Stages.marked}

-- what is told of an older file
abbrev pub IsOlder : Option (List ℕ) → Type 0
IsOlder told = IfSome told (λ bytes. layout_of bytes ≡ Older)

pub front_each : (told : Option (List ℕ)) (may : List ℕ → Type 0) → IsOlder told → IfSome told (λ bytes. Each may (HasOlderCells bytes)) → IfSome told (λ bytes. Each may (GrowsFrom bytes))
front_each None may old each = tt
front_each (Some bytes) may old each = λ image left. front_grows bytes image old (each image left)

module _ (a b : ℕ) (sa sb : ℕ → List ℕ → Type 0) where
  pub within_then : (P Q : List ℕ → Type 0) → Within a b sa sb P → ((image : List ℕ) → P image → Q image) → Within a b sa sb Q
  within_then P Q within then = record {
    later = within.later;
    each = λ moment image le left. ⊎_elim (λ past. inl past) (λ is. inr (then image is)) (within.each moment image le left);
  }

  pub front_within : (told : Option (List ℕ)) → IsOlder told → IfSome told (λ bytes. Within a b sa sb (HasOlderCells bytes)) → IfSome told (λ bytes. Within a b sa sb (GrowsFrom bytes))
  front_within None old within = tt
  front_within (Some bytes) old within = within_then (HasOlderCells bytes) (GrowsFrom bytes) within (λ image f. front_grows bytes image old f)

-- the file that is read before the layout is written
read_filled : (bytes : List ℕ) (mid : Option (List ℕ)) (may : List ℕ → Type 0) → ReadsFilled (Some bytes) mid → LeavesWhatIsRead mid may
    → (image : List ℕ) → may image → image ≡ take older_size bytes ++ zeros_of (store_size - older_size)
read_filled bytes mid may is durable = subst (λ (x : Option (List ℕ)). LeavesWhatIsRead x may) is durable

marked_grows : (bytes before image : List ℕ) → older_size ≤ length bytes → before ≡ take older_size bytes ++ zeros_of (store_size - older_size) → Torn 8 1 before image → GrowsFrom bytes image
marked_grows bytes before image low is torn = tail_grows bytes image (marked older_size store_size bytes before image (omega arith) low (omega arith) is torn)

pub marked_each : (told mid : Option (List ℕ)) (may may' : List ℕ → Type 0) → IfSome told (λ bytes. older_size ≤ length bytes) → ReadsFilled told mid → LeavesWhatIsRead mid may
    → Follows (Torn 8 1) may may' → IfSome told (λ bytes. Each may' (GrowsFrom bytes))
marked_each None mid may may' low is durable follows = tt
marked_each (Some bytes) mid may may' low is durable follows = λ image left.
    let was = follows image left in
    marked_grows bytes was.0 image low (read_filled bytes mid may is durable was.0 was.1) was.2

pub marked_within : (told mid : Option (List ℕ)) (may : List ℕ → Type 0) (a b c : ℕ) (sa sb sc : ℕ → List ℕ → Type 0) → IsOlder told → IfSome told (λ bytes. older_size ≤ length bytes) → ReadsFilled told mid → LeavesWhatIsRead mid may
    → IfSome told (λ bytes. Within a b sa sb (HasOlderCells bytes)) → Within b c sb sc (AfterStep (Torn 8 1) may) → IfSome told (λ bytes. Within a c sa sc (GrowsFrom bytes))
marked_within None mid may a b c sa sb sc old low is durable first second = tt
marked_within (Some bytes) mid may a b c sa sb sc old low is durable first second =
    within_both a b c sa sb sc (HasOlderCells bytes) (AfterStep (Torn 8 1) may) (GrowsFrom bytes) first second
    (λ image f. front_grows bytes image old f)
    (λ image was. marked_grows bytes was.0 image low (read_filled bytes mid may is durable was.0 was.1) was.2)

-- a file in which the layout was written has it
layout_written : (before : List ℕ) → 9 ≤ length before → layout_of (written before 8 (2 ∷ [])) ≡ Current
layout_written before long = ap layout_by (part_written before (2 ∷ []) 8 1 refl long)

long_filled : (bytes : List ℕ) → older_size ≤ length bytes → 9 ≤ length (take older_size bytes ++ zeros_of (store_size - older_size))
long_filled bytes low = omega (arith, length-append (take older_size bytes) (zeros_of (store_size - older_size)), length-take older_size bytes, low)

pub marked_current : {T E : Type 0} (told mid : Option (List ℕ)) (may' : List ℕ → Type 0) (result : Result T E) → IfSome told (λ bytes. older_size ≤ length bytes) → ReadsFilled told mid
    → OnOk result (LeavesWritten mid 8 (2 ∷ []) may') → OnOk result (IfSome told (λ bytes. Each may' (λ image. layout_of image ≡ Current)))
marked_current told mid may' (Err e) low is leaves = tt
marked_current None mid may' (Ok x) low is leaves = tt
marked_current (Some bytes) mid may' (Ok x) low is leaves =
    let before : List ℕ = take older_size bytes ++ zeros_of (store_size - older_size) in
    let from : LeavesWritten (Some before) 8 (2 ∷ []) may' = subst (λ (o : Option (List ℕ)). LeavesWritten o 8 (2 ∷ []) may') is leaves in
    λ image left. ap layout_of (from image left) ∙ layout_written before (long_filled bytes low)

pub long_enough : (told : Option (List ℕ)) (size old : ℕ) → IfSome told (λ bytes. length bytes ≡ size) → size ≡ old → older_size ≤ old → IfSome told (λ bytes. older_size ≤ length bytes)
long_enough None size old measured is low = tt
long_enough (Some bytes) size old measured is low = omega (arith, measured, is, low)
