-- The bytes of a derivation, block by block.
use Rattle.std.proofs.{Common.List, Common.[], Common.add-one, Common.ap, Common.ap₂, Common.arith, Common.drop, Common.inl, Common.inr, Common.length, Common.refl, Common.suc, Common.sym, Common.take, Common.zero, Common.ℕ, Common.◌*◌, Common.◌++◌, Common.◌+◌, Common.◌-◌, Common.◌/◌, Common.◌∙◌, Common.◌≡◌, Common.◌≤◌, lemmas.Nat.le-div}
use Rattle.derivation_states.proofs.Common.{block_at, bytes_or_empty, cases_Bool, cond-false, cond-true, DerivationWork, derived, div-mul-le_self, drop-append-le, expand, expand_blocks, hash_length, is_hkdf, length-drop, length-take, mul-suc, next_derived, number_or_zero, pbkdf2, pbkdf2_blocks, take-append-drop, without, work_block_length, work_hash}
use Rattle.multipart.specs.Dues.{DueGrows}
use Rattle.derivation_states.proofs.{Joined.joined, Joined.joined_is, Joined.front_begins, Joined.length-joined, Joined.front, Joined.piece, Blocks.HasBlocks, Blocks.block_of_hkdf, Blocks.block_of_pbkdf2, Blocks.by_hkdf, Blocks.by_pbkdf2, Blocks.length-block_at, Blocks.prk_of}

-- the least number of blocks that have n bytes
abbrev block_count : ℕ → ℕ → ℕ
block_count h n = (n + h - 1) / h

derived_blocks : (w : DerivationWork) (n : ℕ) → derived w n ≡ take n (joined (block_at w) (block_count (hash_length (work_hash w)) n))
unfolding expand expand_blocks pbkdf2 pbkdf2_blocks
derived_blocks w n =
    let count : ℕ = block_count (hash_length (work_hash w)) n in
    let expanded : ℕ → List ℕ = expand_blocks (work_hash w) (work_block_length w) (prk_of w) (bytes_or_empty w.info) in
    let stretched : ℕ → List ℕ = pbkdf2_blocks (work_hash w) (work_block_length w) (bytes_or_empty w.secret) (bytes_or_empty w.salt) (number_or_zero w.cost) in
    elim (cases_Bool (is_hkdf w.alg)) [
      | inl e ↦
          cond-true (is_hkdf w.alg) _ _ e
          ∙ ap (take n) (joined_is (block_at w) expanded refl (λ i. ap (λ (b : List ℕ). expanded i ++ b) (ap (by_hkdf w) (add-one i) ∙ sym (block_of_hkdf w e (suc i)))) count)
      | inr e ↦
          cond-false (is_hkdf w.alg) _ _ e
          ∙ ap (take n) (joined_is (block_at w) stretched refl (λ i. ap (λ (b : List ℕ). stretched i ++ b) (ap (by_pbkdf2 w) (add-one i) ∙ sym (block_of_pbkdf2 w e i))) count)
    ]

derived_joined : (w : DerivationWork) (h : ℕ) → HasBlocks w h → (n : ℕ) → derived w n ≡ take n (joined (block_at w) (block_count h n))
derived_joined w h blocks n = derived_blocks w n ∙ ap (λ (k : ℕ). take n (joined (block_at w) (block_count k n))) (blocks.digest [])

-- more bytes have no fewer blocks
more_blocks : (h n m : ℕ) → block_count h n ≤ block_count h (n + m)
more_blocks zero n m = omega arith
more_blocks (suc h) n m =
    le-div (block_count (suc h) n) (n + m + suc h - 1) (suc h) (omega arith) (omega (arith, div-mul-le_self (n + suc h - 1) (suc h)))

-- more bytes begin with fewer ones, be the blocks of any length
pub due_grows : (w : DerivationWork) → DueGrows (derived w) (λ n more. n + more)
due_grows w n m =
    let h : ℕ = hash_length (work_hash w) in
    let i : ℕ = block_count h n in
    let j : ℕ = block_count h (n + m) in
    let fewer : i ≤ j = more_blocks h n m in
    let e : j ≡ i + (j - i) = omega arith in
    ap₂ (λ (xs ys : List ℕ). take (length xs) ys) (derived_blocks w n)
    (derived_blocks w (n + m) ∙ ap (λ (k : ℕ). take (n + m) (joined (block_at w) k)) e)
    ∙ front_begins (block_at w) n m i (j - i) ∙ sym (derived_blocks w n)

module _ (w : DerivationWork) (h : ℕ) (blocks : HasBlocks w h) where
  enough : (n : ℕ) → n ≤ h * block_count h n
  enough n = let some : 1 ≤ h = blocks.some in omega arith

  -- it is the front of any number of blocks that have so many bytes
  derived_front : (n m : ℕ) → n ≤ h * m → derived w n ≡ take n (joined (block_at w) m)
  derived_front n m l = derived_joined w h blocks n ∙ front (block_at w) h (length-block_at w h blocks) n (block_count h n) m (enough n) l

  length-derived : (n : ℕ) → length (derived w n) ≡ n
  length-derived n =
      omega (arith, ap length (derived_joined w h blocks n), length-take n (joined (block_at w) (block_count h n)), length-joined (block_at w) h (length-block_at w h blocks) (block_count h n), enough n)

  pub length-next_derived : (n : ℕ) → length (next_derived w n) ≡ n
  length-next_derived n = omega (arith, length-drop w.taken (derived w (w.taken + n)), length-derived (w.taken + n))

  -- some bytes, and then some more
  pub next_derived_add : (n k : ℕ) → next_derived w (n + k) ≡ next_derived w n ++ next_derived (without w n) k
  next_derived_add n k =
      let t : ℕ = w.taken in
      let place : t + (n + k) ≡ t + n + k = omega arith in
      let all : List ℕ = derived w (t + n + k) in
      let less : take (t + n) all ≡ derived w (t + n) = ap (λ (j : ℕ). take j all) (sym (length-derived (t + n))) ∙ due_grows w (t + n) k in
      let parts : all ≡ derived w (t + n) ++ drop (t + n) all =
      sym (take-append-drop (t + n) all) ∙ ap (λ (l : List ℕ). l ++ drop (t + n) all) less in
      ap (λ (j : ℕ). drop t (derived w j)) place ∙ ap (drop t) parts
      ∙ drop-append-le t (derived w (t + n)) (drop (t + n) all) (omega (arith, length-derived (t + n)))

  -- the next bytes are of the current block
  pub next_piece : (i used n : ℕ) → w.taken ≡ h * i + used → used + n ≤ h → next_derived w n ≡ take n (drop used (block_at w (suc i)))
  next_piece i used n place l =
      ap (drop w.taken) (derived_front (w.taken + n) (suc i) (omega (arith, mul-suc h i))) ∙ piece (block_at w) h (length-block_at w h blocks) w.taken i used n place
