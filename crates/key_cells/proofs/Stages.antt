-- What each call of the disk leaves while an older file grows.
use Rattle.std.proofs.Common.{◌≡◌, ℕ, ◌+◌, ◌-◌, ◌≤◌, List, ◌++◌, length, take, drop, replicate, Option, None, Some, IfSome, refl, sym, ◌∙◌, ap, subst, arith, append_assoc}
use Rattle.std.proofs.lemmas.List.{drop-take, take-take, drop_at, take-append-le, drop-append-le, drop-drop, length-take, length-drop, length-append, length-replicate, replicate-append-replicate}
use Rattle.disk_face.specs.{Disk.Follows, Disk.Torn, Disk.Grown, Disk.LeavesWhatIsRead, Moments.written}
use Rattle.key_cells.specs.Growth.{zeros_of, Each, HasFront}

-- an image has the name and the cells of an older file, any layout, and zeros behind the cells
pub record IsTail (size most : ℕ) (old image : List ℕ) : Type 0 where
  pub name : take 8 image ≡ take 8 old
  pub cells : take (size - 9) (drop 9 image) ≡ take (size - 9) (drop 9 old)
  pub long : length image ≡ most
  pub tail : drop size image ≡ zeros_of (most - size)

module _ (size most : ℕ) (old : List ℕ) where
  -- an extension of the old file
  grown_front : (image : List ℕ) → size ≤ length old → length old ≤ most → Grown most old image → HasFront size most old image
  grown_front image low high g =
      let long : length (take (length old) image) ≡ length old = ap length g.front in
      record {
        front = sym (take-take size (length old) image low) ∙ ap (take size) g.front;
        low = omega (arith, long, length-take (length old) image, low);
        high = omega (arith, g.no_longer, high);
      }

  -- a write behind the old cells
  torn_front : (place count : ℕ) (before image : List ℕ) → size ≤ place → Torn place count before image → HasFront size most old before → HasFront size most old image
  torn_front place count before image le torn f = record {
    front = sym (take-take size place image le) ∙ ap (take size) torn.front ∙ take-take size place before le ∙ f.front;
    low = omega (arith, torn.same_length, f.low);
    high = omega (arith, torn.same_length, f.high);
  }

  pub each_torn : (place count : ℕ) (may may' : List ℕ → Type 0) → size ≤ place → Follows (Torn place count) may may' → Each may (HasFront size most old) → Each may' (HasFront size most old)
  each_torn place count may may' le follows each image left =
      let was = follows image left in
      torn_front place count was.0 image le was.2 (each was.0 was.1)

pub each_grown : (size most : ℕ) (told : Option (List ℕ)) (may may' : List ℕ → Type 0)
    → IfSome told (λ old. (size ≤ length old) × (length old ≤ most)) → LeavesWhatIsRead told may → Follows (Grown most) may may'
    → IfSome told (λ old. Each may' (HasFront size most old))
each_grown size most None may may' sized durable follows = tt
each_grown size most (Some old) may may' sized durable follows = λ image left.
    let was = follows image left in
    grown_front size most old image sized.0 sized.1 (subst (λ (x : List ℕ). Grown most x image) (durable was.0 was.1) was.2)

pub length_zeros : (n : ℕ) → length (zeros_of n) ≡ n
unfolding zeros_of
length_zeros n = length-replicate n 0

pub zeros_made : (n : ℕ) → replicate n 0 ≡ zeros_of n
unfolding zeros_of
zeros_made n = refl

-- what is read once the bytes behind the older cells are zeros
pub filled : (size most old : ℕ) (bytes zeros : List ℕ) → size ≤ old → old ≤ most → length bytes ≡ old → zeros ≡ zeros_of (old - size)
    → written (bytes ++ zeros_of (most - old)) size zeros ≡ take size bytes ++ zeros_of (most - size)
unfolding zeros_of
filled size most old bytes zeros low high long are =
    let more : List ℕ = replicate (most - old) 0 in
    let count : length zeros ≡ old - size = ap length are ∙ length-replicate (old - size) 0 in
    let at : size + length zeros ≡ old = omega (arith, count, low) in
    let front : take size (bytes ++ more) ≡ take size bytes = take-append-le size bytes more (omega (arith, long, low)) in
    let back : drop (size + length zeros) (bytes ++ more) ≡ more = ap (λ (i : ℕ). drop i (bytes ++ more)) at ∙ drop_at bytes more old long in
    let sum : (old - size) + (most - old) ≡ most - size = omega (arith, low, high) in
    ap (λ (x : List ℕ). x ++ zeros ++ drop (size + length zeros) (bytes ++ more)) front
    ∙ ap (λ (x : List ℕ). take size bytes ++ zeros ++ x) back
    ∙ ap (λ (x : List ℕ). take size bytes ++ x ++ more) are
    ∙ append_assoc (take size bytes) (replicate (old - size) 0) more
    ∙ ap (λ (x : List ℕ). take size bytes ++ x) (replicate-append-replicate (old - size) (most - old) 0 ∙ ap (λ (n : ℕ). replicate n 0) sum)

-- a torn write of the layout, where what was read is the old cells and zeros
pub marked : (size most : ℕ) (old before image : List ℕ) → 9 ≤ size → size ≤ length old → size ≤ most → before ≡ take size old ++ zeros_of (most - size) → Torn 8 1 before image → IsTail size most old image
unfolding zeros_of
marked size most old before image small low high is torn =
    let tail : List ℕ = replicate (most - size) 0 in
    let front : length (take size old) ≡ size = omega (arith, length-take size old, low) in
    let back : drop 9 image ≡ drop 9 before = torn.back in
    record {
      name =
          torn.front ∙ ap (take 8) is ∙ take-append-le 8 (take size old) tail (omega (arith, front, small)) ∙ take-take 8 size old (omega (arith, small));
      cells =
          ap (take (size - 9)) (back ∙ ap (drop 9) is ∙ drop-append-le 9 (take size old) tail (omega (arith, front, small)))
          ∙ take-append-le (size - 9) (drop 9 (take size old)) tail (omega (arith, length-drop 9 (take size old), front))
          ∙ cut size old small;
      long = torn.same_length ∙ ap length is ∙ length-append (take size old) tail ∙ omega (arith, front, high, length-replicate {A = ℕ} (most - size) 0);
      tail =
          let e : 9 + (size - 9) ≡ size = omega (arith, small) in
          ap (λ (i : ℕ). drop i image) (sym e) ∙ sym (drop-drop (size - 9) 9 image) ∙ ap (drop (size - 9)) back ∙ drop-drop (size - 9) 9 before
          ∙ ap (λ (i : ℕ). drop i before) e ∙ ap (drop size) is ∙ drop_at (take size old) tail size front;
    }
  where
    cut : (size : ℕ) (old : List ℕ) → 9 ≤ size → take (size - 9) (drop 9 (take size old)) ≡ take (size - 9) (drop 9 old)
    cut size old small = cut_at (size - 9) size old (omega (arith, small))
      where
        cut_at : (n size : ℕ) (old : List ℕ) → 9 + n ≡ size → take n (drop 9 (take size old)) ≡ take n (drop 9 old)
        cut_at n size old e =
            ap (λ (i : ℕ). take n (drop 9 (take i old))) (sym e) ∙ ap (take n) (drop-take 9 n old) ∙ take-take n n (drop 9 old) (omega arith)
